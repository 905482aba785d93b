use Rattle.std.proofs.Common.{◌≡◌, take}
use Rattle.opsproto.proofs.owning.own_texts.Given as goal

abbrev pub invariant-loop-text : goal.invariant-loop-text
invariant-loop-text l = l.own.items ≡ take l.text-index l.lent
