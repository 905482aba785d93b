use Rattle.std.proofs.Common.{◌∙◌, ◌+◌, List, drop, subst, arith}
use Rattle.std.proofs.lemmas.List.{drop_more, drop_all}
use Rattle.ordering.specs.declared.ordering.Waiter.{Waiter}
use Rattle.ordering.specs.Sorting.{IsSorting}
use Rattle.ordering.proofs.ordering.Sorting.look_all.Goals as goal

pub loop-waiter-preserved : goal.loop-waiter-preserved
loop-waiter-preserved c = record {
  shape = c.in_ok-look.ensures.shape;
  placed = c.in_ok-look.ensures.placed ∙ c.loop-waiter.invariant.placed;
  sorting = λ vertices h. c.in_ok-look.ensures.sorting vertices (drop (c.loop-waiter.waiter-index + 1) c.args.waiters.now)
      (subst (λ (todo : List Waiter). IsSorting vertices c.args.rows.now c.loop-waiter.self todo)
      (drop_more c.args.waiters.now c.loop-waiter.waiter-index _ c.loop-waiter-test.true)
      (c.loop-waiter.invariant.sorting vertices h));
}

pub returns-clause-sorting : goal.returns-clause-sorting
returns-clause-sorting c = λ vertices h.
    subst (λ (todo : List Waiter). IsSorting vertices c.args.rows.now c.loop-waiter.self todo)
    (drop_all c.loop-waiter.waiter-index c.args.waiters.now (omega arith))
    (c.loop-waiter.invariant.sorting vertices h)
