use Rattle.std.proofs.Common.{ℕ, ◌≤◌, Bool, inl, inr, ap, sym, subst, ◌∙◌}
use Rattle.nodeasks.specs.Rows.{endings_after}
use Rattle.protocol.specs.World.{Node}
use Rattle.nodefilter.proofs.carrying.answered.Goals as goal

pub returns-clause-late : goal.returns-clause-late
returns-clause-late c = λ a lost. elim (c.forget_endings.ensures.late a lost) [
  | inl was ↦ inl (ap (λ (f : ℕ → Bool). f a) (sym c.answer-answer.ensures.told) ∙ was)
  | inr many ↦ inr (subst (λ (x : Node). 1024 ≤ endings_after a x.asks) (sym c.forget_endings.ensures.shown) many)
]
