-- The rows that a node keeps of its asks.
use Rattle.std.specs.Prelude.{◌≡◌, ◌==◌, ⊤, ℕ, zero, suc, ◌+◌, Bool, true, false, not, ◌&&◌, List, [], ◌∷◌, if◌then◌else◌, is_some, slice_get, Some, drop}
use Rattle.std.specs.List.{list_any, position}
use Rattle.std.specs.Bool.{MatchBool}
use Rattle.protocol.specs.Lists.{nth}
use Rattle.events.specs.declared.ask.KeptAsk.{KeptAsk}
use Rattle.events.specs.declared.ask.KeptAsk.TheVariants.{Open, Holding, Running, Finished, Over}
use Rattle.nodeasks.specs.declared.ask_row.AskRow.{AskRow}

abbrev pub is_over : KeptAsk → Bool
is_over (Open wants tenure) = false
is_over (Holding wants g r) = false
is_over (Running wants g r) = false
is_over (Finished wants g news) = false
is_over (Over how) = true

-- the row of an ask
abbrev pub row : ℕ → KeptAsk → AskRow
row i s = record { place = i; kept = s }

-- the rows of asks that come after k others: each ask has its own, in order, but one that is over need not have one
abbrev pub HaveRows : List KeptAsk → ℕ → List AskRow → Type 0
HaveRows [] k [] = ⊤
HaveRows [] k (r ∷ rs) = ⊥
HaveRows (s ∷ ss) k [] = (is_over s ≡ true) × HaveRows ss (k + 1) []
HaveRows (s ∷ ss) k (r ∷ rs) =
    MatchBool (r.place == k) ((r.kept ≡ s) × HaveRows ss (k + 1) rs) ((is_over s ≡ true) × HaveRows ss (k + 1) (r ∷ rs))

-- the asks with one at the place, at the end where none is there yet
abbrev pub with_ask : List KeptAsk → ℕ → KeptAsk → List KeptAsk
with_ask [] i s = s ∷ []
with_ask (x ∷ xs) zero s = s ∷ xs
with_ask (x ∷ xs) (suc i) s = x ∷ with_ask xs i s

-- the asks with those of the rows at their places
abbrev pub noted : List AskRow → List KeptAsk → List KeptAsk
noted [] asks = asks
noted (r ∷ rs) asks = noted rs (with_ask asks r.place r.kept)

-- a row is that of the ask of this number
abbrev pub has_row : List AskRow → ℕ → Bool
has_row rows a = list_any (λ r. r.place + 1 == a) rows

-- the ask of this number was made, and has no row
abbrev pub is_lost : List KeptAsk → List AskRow → ℕ → Bool
is_lost asks rows a = is_some (nth asks a) && not (has_row rows a)

-- of no number
abbrev pub none_lost : ℕ → Bool
none_lost a = false

-- how many of the asks are over
abbrev pub endings : List KeptAsk → ℕ
endings [] = 0
endings (s ∷ ss) = if is_over s then endings ss + 1 else endings ss

-- how many of the asks are present: not over
abbrev pub present_asks : List KeptAsk → ℕ
present_asks [] = 0
present_asks (s ∷ ss) = if is_over s then present_asks ss else present_asks ss + 1

-- how many asks of greater numbers than this one are over
abbrev pub endings_after : ℕ → List KeptAsk → ℕ
endings_after a asks = endings (drop a asks)

-- how many of the rows are of asks that are over
abbrev pub row_endings : List AskRow → ℕ
row_endings [] = 0
row_endings (r ∷ rs) = if is_over r.kept then row_endings rs + 1 else row_endings rs

-- the row at this index is that of the ask at the place
pub record IsRowOf (rows : List AskRow) (place index : ℕ) : Type 0 where
  pub kept : KeptAsk
  pub get : slice_get rows index ≡ Some (row place kept)

-- the row at this index is that of the ask of this number
pub record IsRowOfAsk (rows : List AskRow) (a index : ℕ) : Type 0 where
  pub at : AskRow
  pub get : slice_get rows index ≡ Some at
  pub number : a ≡ at.place + 1

-- the row at this index is that of the first ask that the test picks
pub record IsFirstRow (test : KeptAsk → Bool) (asks : List KeptAsk) (rows : List AskRow) (index : ℕ) : Type 0 where
  pub at : AskRow
  pub get : slice_get rows index ≡ Some at
  pub first : position test asks ≡ Some at.place
