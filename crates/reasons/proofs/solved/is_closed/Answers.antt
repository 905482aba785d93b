use Rattle.std.proofs.Common.{◌≡◌, ℕ, inl, inr, subst, arith}
use Rattle.std.proofs.lemmas.Bool.{cases_lt}
use Rattle.reasons.specs.Solved.{IsClosedAt}
use Rattle.keytable.proofs.ReachLemmas.{flag_within}
use Rattle.reasons.proofs.solved.is_closed.Goals as goal

pub loop-number-preserved : goal.loop-number-preserved
loop-number-preserved c = λ number below. elim (cases_lt number c.loop-number.number) [
  | inl less ↦ c.loop-number.invariant number less
  | inr past ↦ (let here : c.loop-number.number ≡ number = omega arith in subst (λ (n : ℕ). IsClosedAt c.args.graph.now c.args.flags.now n) here (c.is_closed_at.ensures c.if-not-is_closed_at.false))
]

pub returns : goal.returns
returns c = λ whole number flag. c.loop-number.invariant number (let within = flag_within c.args.flags.now number flag in omega arith) flag
