use Rattle.std.proofs.Common.{◌≡◌, sym, ◌∙◌, arith}
use Rattle.std.proofs.lemmas.Fmt.{decimal_injective}
use Rattle.names.proofs.name.instance_of.Goals as goal

pub returns-else-instance-ge1-clause-only : goal.returns-else-instance-ge1-clause-only
returns-else-instance-ge1-clause-only c = λ n h e.
    let found = c.in_ok-instance.ensures in
    let same : c.in_ok-instance.instance ≡ n = decimal_injective c.in_ok-instance.instance n found.range (omega arith) (sym found.found ∙ e) in
    omega arith
