use Rattle.std.proofs.Common.{◌≡◌, drop}
use Rattle.recordlists.specs.Relations.{no_two, is_same_private}
use Rattle.recordlists.proofs.relation.are_of_own_folders.Given as goal

abbrev pub invariant-loop-i : goal.invariant-loop-i
invariant-loop-i l = no_two is_same_private (drop l.i l.slots) ≡ no_two is_same_private l.slots
