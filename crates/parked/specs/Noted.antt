-- Which of the asks that wait want each folder, and which are each node's.
use Rattle.std.specs.Prelude.{◌≡◌, ℕ, ◌≤◌, ◌<◌, Bool, true, false, List, Option, Some, None, length, slice_index_or}
use Rattle.std.specs.List.{list_any}
use Rattle.std.specs.Ordering.{nat_cmp}
use Rattle.std.specs.BTreeSet.{BTreeSet, contains}
use Rattle.indexmap.specs.IndexMap.{get}
use Rattle.names.specs.Folders.{folder_eq}
use Rattle.protocol.specs.Lists.{In}
use Rattle.protocol.specs.Names.{FolderName, NodeId, Slot, Want}
use Rattle.protocol.specs.Machine.{Parked}
use Rattle.holdings.specs.Lives.{node_eq}
use Rattle.parked.specs.declared.noted_asks.NotedAsks.{NotedAsks}

-- the number is among these, if there are some
abbrev pub has_number : Option (BTreeSet ℕ) → ℕ → Bool
has_number None n = false
has_number (Some s) n = contains nat_cmp s n

-- it says that the ask with this number wants the folder
abbrev pub notes_want : NotedAsks → FolderName → ℕ → Bool
notes_want x f n = has_number (get folder_eq x.by_folder f) n

-- it says that the ask with this number is the node's
abbrev pub notes_node : NotedAsks → NodeId → ℕ → Bool
notes_node x m n = has_number (get node_eq x.by_node m) n

-- it says so of each folder that the ask wants, and of its node
pub record IsIndexed (x : NotedAsks) (n : ℕ) (p : Parked) : Type 0 where
  pub wants : (w : Want) → In w p.wants → notes_want x w.folder n ≡ true
  pub node : notes_node x p.node n ≡ true

-- the second says all that the first says
pub record Keeps (x y : NotedAsks) : Type 0 where
  pub folders : (f : FolderName) (n : ℕ) → notes_want x f n ≡ true → notes_want y f n ≡ true
  pub nodes : (m : NodeId) (n : ℕ) → notes_node x m n ≡ true → notes_node y m n ≡ true

-- the second says all that the first says of these numbers
pub record KeepsOf (ns : List ℕ) (x y : NotedAsks) : Type 0 where
  pub folders : (f : FolderName) (n : ℕ) → In n ns → notes_want x f n ≡ true → notes_want y f n ≡ true
  pub nodes : (m : NodeId) (n : ℕ) → In n ns → notes_node x m n ≡ true → notes_node y m n ≡ true

-- it says so of each of the asks, which have these numbers
abbrev pub AreIndexed : NotedAsks → List Parked → List ℕ → Type 0
AreIndexed x ps ns = (length ns ≡ length ps)
    × ((k : ℕ) (d : Parked) → k < length ps → IsIndexed x (slice_index_or ns k 0) (slice_index_or ps k d))

-- there is a number, and it is at most this one
abbrev pub Reaches : Option ℕ → ℕ → Type 0
Reaches None n = ⊥
Reaches (Some m) n = m ≤ n

-- it says that the ask with this number wants the folder of one of the slots
abbrev pub notes_some : NotedAsks → List (Slot × Bool) → ℕ → Bool
notes_some x slots n = list_any (λ held. notes_want x held.0.folder n) slots

-- it says that the ask with this number wants one of the folders
abbrev pub notes_one : NotedAsks → List FolderName → ℕ → Bool
notes_one x folders n = list_any (λ f. notes_want x f n) folders

-- the ask wants no folder of these slots
abbrev pub WantsNone : List (Slot × Bool) → Parked → Type 0
WantsNone slots p = (w : Want) → In w p.wants → list_any (λ held. folder_eq held.0.folder w.folder) slots ≡ false

-- the folder is among these
abbrev pub is_noted : List FolderName → FolderName → Bool
is_noted noted f = list_any (λ g. folder_eq g f) noted

-- the ask wants none of these folders
abbrev pub WantsNoneOf : List FolderName → Parked → Type 0
WantsNoneOf folders p = (w : Want) → In w p.wants → is_noted folders w.folder ≡ false
