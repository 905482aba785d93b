use Rattle.std.proofs.Common.{◌≡◌, ◌<◌, ◌^◌, sym, ◌∙◌, arith}
use Rattle.std.proofs.lemmas.Fmt.{decimal_injective}
use Rattle.farmwire.proofs.word.life_of.Goals as goal

pub returns-else-value-lt18446744073709551615-clause-only :
    goal.returns-else-value-lt18446744073709551615-clause-only
returns-else-value-lt18446744073709551615-clause-only c = λ life fits e.
    let found = c.in_ok-value.ensures in
    let low = fits.1 in
    let range : life.0 < 2 ^ 64 = omega (arith, low) in
    let same : c.in_ok-value.value ≡ life.0 = decimal_injective c.in_ok-value.value life.0 found.fits.1 range (sym found.found ∙ e) in
    omega arith
