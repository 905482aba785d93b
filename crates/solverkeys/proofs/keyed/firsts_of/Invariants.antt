use Rattle.std.specs.HashMap.{get}
use Rattle.solverkeys.specs.Keyed.{key_eq, AreFirsts}
use Rattle.solverkeys.proofs.keyed.firsts_of.Given as goal

-- the keys so far have their first places
abbrev pub invariant-loop-place : goal.invariant-loop-place
invariant-loop-place l = AreFirsts l.keys l.place (get key_eq l.firsts)
