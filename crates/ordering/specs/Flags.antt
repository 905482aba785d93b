-- Which places are placed, as flags (this project's own).
use Rattle.std.specs.Prelude.{◌≡◌, ℕ, ◌<◌, ◌≤◌, Bool, true, false, List, length, slice_index, slice_index_or}
use Rattle.std.specs.List.{Contains}

-- the flag of a place
abbrev pub flag_at : List Bool → ℕ → Bool
flag_at placed place = slice_index_or placed place false

-- the inputs from one index up to another are placed
abbrev pub ArePlaced : List ℕ → List Bool → ℕ → ℕ → Type 0
ArePlaced inputs placed from to = (k : ℕ) → from ≤ k → k < to → flag_at placed (slice_index inputs k) ≡ true

-- the input at this index is the first from `from` on that isn't placed
pub record IsFirstOpen (inputs : List ℕ) (placed : List Bool) (from next : ℕ) : Type 0 where
  pub within : next < length inputs
  pub before : ArePlaced inputs placed from next
  pub open_input : flag_at placed (slice_index inputs next) ≡ false

-- one of these places isn't placed
pub record HasOpen (places : List ℕ) (placed : List Bool) : Type 0 where
  pub place : ℕ
  pub is_one : Contains places place
  pub is_open : flag_at placed place ≡ false
