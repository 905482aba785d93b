-- The merge of three listings, path by path (this project's own).
use Rattle.std.specs.Prelude.{◌≡◌, ℕ, ◌&&◌, ◌++◌, Bool, true, false, List}
use Rattle.std.specs.List.{list_any}
use Rattle.std.specs.Map.{keys_of}
use Rattle.merging.specs.declared.rule.Rule.{Rule}
use Rattle.merging.specs.declared.side.Side.{Side}
use Rattle.merging.specs.Choices.{Three, of, other, chosen, settled, is_conflict}
use Rattle.merging.specs.Listings.{Listing, Place, entry_at, IsListing, stands, is_directory, is_below}

-- what stands at a path in the three
abbrev pub three_at : Listing → Listing → Listing → List ℕ → Three
three_at base mine theirs path = record { base = entry_at base path; mine = entry_at mine path; theirs = entry_at theirs path }

module _ (rule : Rule) (base mine theirs : Listing) where
  -- the side of a path, if no other path mattered
  abbrev pub chosen_at : List ℕ → Side
  chosen_at path = chosen rule (three_at base mine theirs path)

  -- the entry there, if no other path mattered
  abbrev pub flat_at : List ℕ → Place
  flat_at path = of (chosen_at path) (three_at base mine theirs path)

  -- whether an entry below the path is taken
  unfoldable pub stands_below : List ℕ → Bool
  stands_below dir = list_any (λ path. is_below dir path && stands (flat_at path)) (keys_of mine ++ keys_of theirs)

  -- the side that the path is taken from
  abbrev pub side_at : List ℕ → Side
  side_at path = settled (stands_below path) (chosen_at path) (three_at base mine theirs path)

  -- the entry after the merge
  abbrev pub merged_at : List ℕ → Place
  merged_at path = of (side_at path) (three_at base mine theirs path)

  -- a path that both sides changed differently, or a directory that stays although one side dropped or replaced it
  abbrev pub is_conflict_at : List ℕ → Bool
  is_conflict_at path = is_conflict (stands_below path) (chosen_at path) (three_at base mine theirs path)

  -- the listing of the merge
  pub record IsMerge (merged : Listing) : Type 0 where
    pub rise : IsListing merged
    pub each : (path : List ℕ) → entry_at merged path ≡ merged_at path

-- a directory of a side stays, as something below it stands, though the other side dropped or replaced it, which is a conflict
pub record Stays (kept : Side) (rule : Rule) (base mine theirs : Listing) (path : List ℕ) : Type 0 where
  pub merged : merged_at rule base mine theirs path ≡ of kept (three_at base mine theirs path)
  pub directory : is_directory (of kept (three_at base mine theirs path)) ≡ true
  pub dropped : is_directory (of (other kept) (three_at base mine theirs path)) ≡ false
  pub below : stands_below rule base mine theirs path ≡ true
  pub conflict : is_conflict_at rule base mine theirs path ≡ true
