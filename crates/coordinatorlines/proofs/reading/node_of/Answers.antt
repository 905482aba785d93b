use Rattle.std.proofs.Common.{◌≡◌, sym, ◌∙◌, arith}
use Rattle.std.proofs.lemmas.Fmt.{decimal_injective}
use Rattle.coordinatorlines.proofs.reading.node_of.Goals as goal

pub returns-else-value-ge1-clause-only : goal.returns-else-value-ge1-clause-only
returns-else-value-ge1-clause-only c = λ node fits e.
    let found = c.in_ok-value.ensures in
    let same : c.in_ok-value.value ≡ node.0 = decimal_injective c.in_ok-value.value node.0 found.range (omega arith) (sym found.found ∙ e) in
    omega arith
