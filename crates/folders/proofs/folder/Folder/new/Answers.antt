use Rattle.std.proofs.Common.{[], None, refl, arith}
use Rattle.folders.proofs.Rising.{sorted_from_rise}
use Rattle.folders.proofs.folder.Folder.new.Goals as goal

pub invariant_of-result : goal.invariant_of-result
invariant_of-result c = rw c.new.ensures.items (record { rise = sorted_from_rise None [] tt; utf8 = tt; small = omega arith }, refl)
