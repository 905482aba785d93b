use Rattle.std.proofs.Common.{take}
use Rattle.sha2.specs.Hashers.{Holds256}
use Rattle.std.proofs.Common.{◌∷◌, ◌++◌}
use Rattle.std.specs.List.{flat_map}
use Rattle.solverkeys.specs.Keys.{input_bytes}
use Rattle.solverkeys.proofs.key.key_from.Given as goal

-- the hasher holds the message with the inputs so far
abbrev pub invariant-loop-key : goal.invariant-loop-key
invariant-loop-key l = Holds256 l.hasher (1 ∷ l.stripped.0 ++ flat_map input_bytes (take l.key-index l.inputs))
