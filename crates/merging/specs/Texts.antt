-- How a listing is spelled: a line for each path (this project's own).
use Rattle.std.specs.Prelude.{ℕ, ◌==◌, if◌then◌else◌, List, [], ◌∷◌, ◌++◌, map}
use Rattle.std.specs.List.{AllByRecursion, flat_map}
use Rattle.names.specs.Decimals.{Lacks}
use Rattle.names.specs.Digests.{IsBytes}
use Rattle.names.specs.Escapes.{id_text}
use Rattle.merging.specs.Listings.{Listing}

-- the byte 0 that parts names is written as `/`, and `/`, which no name has, as that byte's escape
abbrev pub swapped : ℕ → ℕ
swapped b = if b == 0 then 47 else (if b == 47 then 0 else b)

-- the names, with the escapes of an id, and `/` between them
abbrev pub path_text : List ℕ → List ℕ
path_text path = id_text (map swapped path)

-- PATH ENTRY
abbrev pub line_words : List ℕ × List ℕ → List ℕ
line_words line = path_text line.0 ++ 32 ∷ line.1

-- a line of a text
abbrev pub line_text : List ℕ × List ℕ → List ℕ
line_text line = line_words line ++ 10 ∷ []

abbrev pub listing_text : Listing → List ℕ
listing_text listing = flat_map line_text listing

-- bytes, of which the entry's are none that ends a line
pub record IsLine (line : List ℕ × List ℕ) : Type 0 where
  pub path : IsBytes line.0
  pub entry : Lacks 10 line.1

abbrev pub AreLines : Listing → Type 0
AreLines listing = AllByRecursion IsLine listing
