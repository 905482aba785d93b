-- Places in a list of what is over.
use Rattle.std.specs.Prelude.{◌<◌, ◌≤◌, ◌+◌, ℕ, if◌then◌else◌, Bool, false, List, [], ◌∷◌, nat_eq, length, slice_index_or}

-- the first of these places is this one
abbrev pub is_over_at : ℕ → List ℕ → Bool
is_over_at i [] = false
is_over_at i (o ∷ os) = nat_eq o i

-- the places behind this one
abbrev pub later_over : ℕ → List ℕ → List ℕ
later_over i [] = []
later_over i (o ∷ os) = if nat_eq o i then os else o ∷ os

-- the first of these places is this one, or behind it
abbrev pub Begins : ℕ → List ℕ → Type 0
Begins i [] = Unit {0}
Begins i (o ∷ os) = i ≤ o

-- of a list whose first has this place what is not at these places
abbrev pub still_at : {A : Type 0} → ℕ → List ℕ → List A → List A
still_at i over [] = []
still_at i over (x ∷ xs) =
    if is_over_at i over then still_at (i + 1) (later_over i over) xs else x ∷ still_at (i + 1) (later_over i over) xs

-- of a list what is not at these places
abbrev pub still_waiting : {A : Type 0} → List ℕ → List A → List A
still_waiting over xs = still_at 0 over xs

-- each place is greater than those before it
abbrev pub AreRising : List ℕ → Type 0
AreRising over = (i j : ℕ) → i < j → j < length over → slice_index_or over i 0 < slice_index_or over j 0
