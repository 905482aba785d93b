use Rattle.std.proofs.Common.{◌+◌, ℕ, List, drop, ap, sym, ◌∙◌}
use Rattle.std.proofs.lemmas.List.{drop_more}
use Rattle.farm_base.specs.declared.lease.NodeLife.{NodeLife}
use Rattle.holdings.specs.Lives.{life_at}
use Rattle.saverecord.specs.Logs.{with_lives}
use Rattle.saverecord.proofs.folding.with_lives.Goals as goal

pub loop-seen-preserved : goal.loop-seen-preserved
loop-seen-preserved c =
    ap (λ (f : ℕ → ℕ). with_lives (drop (c.loop-seen.seen-index + 1) c.args.began.now) f) (rw c.reserve.ensures.seen at c.set.ensures)
    ∙ ap (λ (xs : List NodeLife). with_lives xs (life_at c.loop-seen.lives.seen)) (sym (drop_more c.args.began.now c.loop-seen.seen-index _ c.loop-seen-test.true)) ∙ c.loop-seen.invariant
