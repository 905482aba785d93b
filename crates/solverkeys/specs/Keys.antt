-- The solver key of a vertex, from the keys of its inputs.
use Rattle.std.specs.Prelude.{ℕ, List, ◌∷◌, ◌++◌}
use Rattle.std.specs.List.{flat_map}
use Rattle.std.specs.Int.{w64, to_be_bytes}
use Rattle.sha2.specs.Sha256.{sha256}
use Rattle.names.specs.declared.digest.Key.{Key}

-- an input's key, and its output index as eight bytes, high first (this project's own)
abbrev pub input_bytes : Key × ℕ → List ℕ
input_bytes input = input.0.0.0 ++ to_be_bytes w64 input.1

-- the byte 1, the SHA-256 of the stripped bytes, then each input (this project's own)
abbrev pub key_message : List ℕ → List (Key × ℕ) → List ℕ
key_message stripped inputs = 1 ∷ sha256 stripped ++ flat_map input_bytes inputs

-- the SHA-256 of that message (FIPS 180-4)
abbrev pub solver_key : List ℕ → List (Key × ℕ) → Key
solver_key stripped inputs = record { 0 = record { 0 = sha256 (key_message stripped inputs) } }
