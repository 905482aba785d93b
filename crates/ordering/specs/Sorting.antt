-- What holds while the vertices of a table are put into order (this project's own).
use Rattle.std.specs.Prelude.{◌≡◌, ℕ, ◌<◌, Bool, true, false, List, length, slice_index, cond}
use Rattle.std.specs.List.{Contains, count_by}
use Rattle.std.specs.declared.vec.Vec.{Vec}
use Rattle.std.specs.declared.alloc.Global.{Global}
use Rattle.ordering.specs.declared.ordering.Waiter.{Waiter}
use Rattle.ordering.specs.declared.ordering.Sorting.{Sorting}
use Rattle.ordering.specs.Orders.{IsReady, TakesLowest}
use Rattle.ordering.specs.Flags.{flag_at}
use Rattle.ordering.specs.Rows.{row_at, HasInput}

-- there is a flag and a list of waiters for each place, and each waiter is a place
pub record HasShape (rows : List (Vec ℕ Global)) (s : Sorting) : Type 0 where
  pub placed : length s.placed.items ≡ length rows
  pub waiting : length s.waiting.items ≡ length rows
  pub ready : (place : ℕ) → Contains s.ready.keys place → place < length rows
  pub waiters : (input : ℕ) (w : Waiter) → Contains (row_at s.waiting.items input) w → w.place < length rows

-- a vertex that isn't in the order, whose inputs before the index that it looks at are
pub record IsLooking (vertices : List ℕ) (rows : List (Vec ℕ Global)) (order : List ℕ) (w : Waiter) : Type 0 where
  pub vertex : Contains vertices w.place
  pub new : Contains order w.place → ⊥
  pub before : (k : ℕ) → k < w.next → k < length (row_at rows w.place) → Contains order (slice_index (row_at rows w.place) k)

-- it looks at this input
pub record IsWaiting (vertices : List ℕ) (rows : List (Vec ℕ Global)) (order : List ℕ) (input : ℕ) (w : Waiter) : Type 0 where
  pub looking : IsLooking vertices rows order w
  pub within : w.next < length (row_at rows w.place)
  pub input_is : slice_index (row_at rows w.place) w.next ≡ input

-- where a vertex is: in the order, ready, waiting for an input that isn't placed, or still to be looked at
pub data IsSomewhere (s : Sorting) (todo : List Waiter) (place : ℕ) : Type 0 where
  is_placed : Contains s.order.items place → IsSomewhere s todo place
  is_ready : Contains s.ready.keys place → IsSomewhere s todo place
  is_waiting : (input : ℕ) → (w : Waiter) → flag_at s.placed.items input ≡ false → Contains (row_at s.waiting.items input) w
      → w.place ≡ place → IsSomewhere s todo place
  is_todo : (w : Waiter) → Contains todo w → w.place ≡ place → IsSomewhere s todo place

-- the order so far is right, and each vertex is where it belongs
pub record IsSorting (vertices : List ℕ) (rows : List (Vec ℕ Global)) (s : Sorting) (todo : List Waiter) : Type 0 where
  pub lowest : TakesLowest (Contains vertices) (HasInput rows) s.order.items
  pub placed : (place : ℕ) → flag_at s.placed.items place ≡ true → Contains s.order.items place
  pub flagged : (place : ℕ) → Contains s.order.items place → flag_at s.placed.items place ≡ true
  pub ready : (place : ℕ) → Contains s.ready.keys place → IsReady (Contains vertices) (HasInput rows) s.order.items place
  pub waiting : (input : ℕ) (w : Waiter) → flag_at s.placed.items input ≡ false → Contains (row_at s.waiting.items input) w
      → IsWaiting vertices rows s.order.items input w
  pub todo_looking : (w : Waiter) → Contains todo w → IsLooking vertices rows s.order.items w
  pub somewhere : (place : ℕ) → Contains vertices place → IsSomewhere s todo place

-- how many places aren't placed
abbrev pub open_count : List Bool → ℕ
open_count placed = count_by (λ flag. cond flag false true) placed
