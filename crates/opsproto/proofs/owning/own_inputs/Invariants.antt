use Rattle.std.proofs.Common.{◌≡◌, take}
use Rattle.opsproto.proofs.owning.own_inputs.Given as goal

abbrev pub invariant-loop-input : goal.invariant-loop-input
invariant-loop-input l = l.own.items ≡ take l.input-index l.lent
