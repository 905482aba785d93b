use Rattle.std.proofs.Common.{◌≡◌, ℕ, true, sym, ap, subst, ◌∙◌}
use Rattle.ordering.specs.Flags.{flag_at}
use Rattle.reasons.proofs.SolvedLemmas.{flag_down}
use Rattle.reasons.proofs.solved.covers.Goals as goal

pub returns-then-is_flagged : goal.returns-then-is_flagged
returns-then-is_flagged c = λ closed number (n, walk).
    let g = c.args.graph.now in
    let flags = c.args.flags.now in
    let first : flag_at flags g.result.0 ≡ true =
    subst (λ (n : ℕ). flag_at flags n ≡ true) (ap (λ (p : ℕ × ℕ). p.0) c.result-number.ensures.value) (sym c.is_flagged.ensures ∙ c.if-is_flagged.true) in
    flag_down g flags (c.is_closed.ensures closed) n g.result.0 number first walk
