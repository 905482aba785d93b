-- Reading folder bytes from the left: the files, or the first fault.
use Rattle.std.specs.Prelude.{◌≡◌, ◌⊎◌, ℕ, zero, suc, ◌<◌, ◌≤◌, nat_lt, if◌then◌else◌, Bool, true, List, [], ◌∷◌, ◌++◌, length, Option, Some, None, Result, Ok, Err}
use Rattle.std.specs.Int.{w32, from_be_bytes}
use Rattle.std.specs.Ordering.{is_lt}
use Rattle.std.specs.List.{AllByRecursion}
use Rattle.std.specs.List.Sorted.{IsStrictlySortedBy}
use Rattle.std.specs.Map.{keys_of}
use Rattle.std.specs.Str.{IsUtf8, is_utf8}
use Rattle.codec.specs.Steps.{◌>>=◌, GivesUnless, front_or}
use Rattle.folders.specs.declared.refusal.FolderRefusal.{FolderRefusal}
use Rattle.folders.specs.declared.refusal.FolderRefusal.TheVariants.{Truncated, PathOrder, NotUtf8, TooLarge, OutOfMemory}
use Rattle.folders.specs.Files.{Files, path_cmp, folder_bytes, most_bytes}

-- what was returned, with view applied to its value, is what reading gives, unless memory ran out
abbrev pub Gives : {X Y : Type 0} → (X → Y) → Result X FolderRefusal → Result Y FolderRefusal → Type 0
Gives view returned read = GivesUnless OutOfMemory view returned read

-- a number of four bytes, big endian, and what follows it
abbrev pub number_at : List ℕ → Result (ℕ × List ℕ) FolderRefusal
number_at text = do
  front ← front_or Truncated 4 text
  Ok (from_be_bytes w32 front.0, front.1)

-- a length and that many bytes, and what follows them
unfoldable pub sized_at : List ℕ → Result (List ℕ × List ℕ) FolderRefusal
sized_at text = do
  len ← number_at text
  front_or Truncated len.0 len.1

-- whether a path is above the one before it, if there is one
abbrev pub is_above : Option (List ℕ) → List ℕ → Bool
is_above None path = true
is_above (Some last) path = is_lt (path_cmp last path)

-- a path, behind the one before it, and what follows it
unfoldable pub path_at : Option (List ℕ) → List ℕ → Result (List ℕ × List ℕ) FolderRefusal
path_at last text = do
  path ← sized_at text
  if is_utf8 path.0 then (if is_above last path.0 then Ok path else Err PathOrder) else Err NotUtf8

-- a file, and what follows it
unfoldable pub file_at : Option (List ℕ) → List ℕ → Result ((List ℕ × List ℕ) × List ℕ) FolderRefusal
file_at last text = do
  path ← path_at last text
  content ← sized_at path.1
  Ok ((path.0, content.0), content.1)

-- the files of a text of at most limit bytes
unfoldable pub files_in : ℕ → Option (List ℕ) → List ℕ → Result Files FolderRefusal
files_in limit last [] = Ok []
files_in zero last (b ∷ bs) = Ok []
files_in (suc limit) last (b ∷ bs) = do
  first ← file_at last (b ∷ bs)
  others ← files_in limit (Some first.0.0) first.1
  Ok (first.0 ∷ others)

-- the folder that folder bytes spell, or their first fault: the size, then file by file from the left
unfoldable pub folder_of : List ℕ → Result Files FolderRefusal
folder_of text = if nat_lt most_bytes (length text) then Err TooLarge else files_in (length text) None text

-- the path of the last of these files, or else the path before them, if there is one
abbrev pub last_path : Option (List ℕ) → Files → Option (List ℕ)
last_path last [] = last
last_path last (file ∷ files) = last_path (Some file.0) files

-- the text begins with the bytes of some files, and what follows them has the fault
pub record FaultsBehind (text : List ℕ) (refusal : FolderRefusal) : Type 0 where
  pub before : Files
  pub rest : List ℕ
  pub rise : IsStrictlySortedBy path_cmp (keys_of before)
  pub utf8 : AllByRecursion IsUtf8 (keys_of before)
  pub parts : text ≡ folder_bytes before ++ rest
  pub fault : file_at (last_path None before) rest ≡ Err refusal

-- why bytes are refused
abbrev pub Faulted : List ℕ → FolderRefusal → Type 0
Faulted text refusal = ((refusal ≡ TooLarge) × (most_bytes < length text)) ⊎ ((length text ≤ most_bytes) × FaultsBehind text refusal)
