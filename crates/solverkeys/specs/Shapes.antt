-- The shape of a vertex: the tree that its key stands for.
use Rattle.std.specs.Prelude.{◌≡◌, ◌≢◌, ℕ, ◌<◌, ◌^◌, ◌⊎◌, List, [], ◌∷◌}
use Rattle.sha2.specs.Sha256.{sha256}
use Rattle.names.specs.declared.digest.Key.{Key}
use Rattle.solverkeys.specs.Keys.{key_message, solver_key}

mutual
  -- an op's bytes without its inputs, and the shapes of the inputs (this project's own)
  pub data Shape : Type 0 where
    vertex : (stripped : List ℕ) → (inputs : Inputs) → Shape

  -- in order, the shape of each input and the index of the output that is taken
  pub data Inputs : Type 0 where
    no_inputs : Inputs
    input : (shape : Shape) → (index : ℕ) → (others : Inputs) → Inputs

unfoldable mutual
  -- the key of a shape: that of its stripped bytes and of the keys of its inputs (this project's own)
  pub shape_key : Shape → Key
  shape_key (vertex stripped inputs) = solver_key stripped (input_keys inputs)

  -- the key and the output index of each input
  pub input_keys : Inputs → List (Key × ℕ)
  input_keys no_inputs = []
  input_keys (input shape index others) = (shape_key shape, index) ∷ input_keys others

unfoldable mutual
  -- each output index is a number of 64 bits
  pub HasIndexes : Shape → Type 0
  HasIndexes (vertex stripped inputs) = InputsHaveIndexes inputs

  -- the same of some inputs
  pub InputsHaveIndexes : Inputs → Type 0
  InputsHaveIndexes no_inputs = Unit {0}
  InputsHaveIndexes (input shape index others) = (index < 2 ^ 64) × HasIndexes shape × InputsHaveIndexes others

unfoldable mutual
  -- this byte string is hashed for the key of the shape
  pub Hashes : Shape → List ℕ → Type 0
  Hashes (vertex stripped inputs) bytes =
      (bytes ≡ stripped) ⊎ ((bytes ≡ key_message stripped (input_keys inputs)) ⊎ InputsHash inputs bytes)

  -- it is hashed for the key of one of the inputs
  pub InputsHash : Inputs → List ℕ → Type 0
  InputsHash no_inputs bytes = ⊥
  InputsHash (input shape index others) bytes = Hashes shape bytes ⊎ InputsHash others bytes

-- two different byte strings with one SHA-256, one of them hashed for the one shape and one for the other
pub record ShowCollision (one other : Shape) : Type 0 where
  pub first : List ℕ
  pub second : List ℕ
  pub first_hashed : Hashes one first
  pub second_hashed : Hashes other second
  pub different : first ≢ second
  pub same : sha256 first ≡ sha256 second
