use Rattle.std.proofs.Common.{◌≡◌, sym, ◌∙◌, arith}
use Rattle.std.proofs.lemmas.Fmt.{decimal_injective}
use Rattle.farmwire.proofs.word.counted.Goals as goal

pub returns-else-value-ge1-clause-only : goal.returns-else-value-ge1-clause-only
returns-else-value-ge1-clause-only c = λ value fits e.
    let found = c.in_ok-value.ensures in
    let same : c.in_ok-value.value ≡ value = decimal_injective c.in_ok-value.value value found.range fits.1 (sym found.found ∙ e) in
    omega arith
