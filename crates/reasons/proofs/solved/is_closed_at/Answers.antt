use Rattle.std.proofs.Common.{◌≡◌, ℕ, true, List, sym, subst}
use Rattle.std.specs.List.{All}
use Rattle.ordering.specs.Flags.{flag_at}
use Rattle.vertices.proofs.GraphLemmas.{list_at-get}
use Rattle.reasons.proofs.solved.is_closed_at.Goals as goal

pub returns-else-not-is_flagged : goal.returns-else-not-is_flagged
returns-else-not-is_flagged c = λ closed flag.
    let at = list_at-get c.args.graph.now.edges c.args.number c.inputs_of.result.now c.inputs_of.ensures in
    subst (λ (es : List (ℕ × ℕ)). All (λ (edge : ℕ × ℕ). flag_at c.args.flags.now edge.0 ≡ true) es) (sym at) (c.are_flagged.ensures closed)
