use Rattle.std.proofs.Common.{arith}
use Rattle.std.proofs.lemmas.Option.{slice_get_within}
use Rattle.lists.proofs.Places.{at_Contains}
use Rattle.keytable.proofs.blaming.first_lacking.Goals as goal

pub returns-clause-none : goal.returns-clause-none
returns-clause-none c = λ input has.
    let place = at_Contains c.args.inputs.now input has in
    let within = slice_get_within c.args.inputs.now place.0 input place.1 in
    c.loop-input.invariant place.0 input (omega (arith, within)) place.1
