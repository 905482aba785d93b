use Rattle.std.proofs.Common.{ℕ, ◌+◌, List, length, ap, ◌∙◌}
use Rattle.std.proofs.lemmas.List.{length_push}
use Rattle.std.specs.declared.vec.Vec.{Vec}
use Rattle.std.specs.declared.alloc.Global.{Global}
use Rattle.ordering.specs.declared.ordering.Waiter.{Waiter}
use Rattle.ordering.specs.Rows.{row_at}
use Rattle.ordering.proofs.RowLemmas.{row_at-push}
use Rattle.ordering.proofs.ordering.empty_lists.Goals as goal

pub loop-preserved : goal.loop-preserved
loop-preserved c = record {
  count = ap length c.in_ok-push.ensures.items ∙ length_push c.loop.lists.items c.new.result ∙ ap (λ (n : ℕ). n + 1) c.loop.invariant.count;
  empty = λ input. ap (λ (rows : List (Vec Waiter Global)). row_at rows input) c.in_ok-push.ensures.items
      ∙ row_at-push c.loop.lists.items c.new.result input c.new.ensures.items c.loop.invariant.empty;
}
