-- Places in numbers that rise.
use Rattle.std.specs.Prelude.{◌≡◌, ℕ, ◌<◌, ◌≤◌, List, length, slice_index}

-- the number stands at this place
pub record IsPlace (n : ℕ) (numbers : List ℕ) (k : ℕ) : Type 0 where
  pub inside : k < length numbers
  pub number : slice_index numbers k ≡ n

-- the number is not there, and would stand at this place
pub record IsGap (n : ℕ) (numbers : List ℕ) (k : ℕ) : Type 0 where
  pub inside : k ≤ length numbers
  pub below : (i : ℕ) → i < k → slice_index numbers i < n
  pub above : (i : ℕ) → k ≤ i → i < length numbers → n < slice_index numbers i
