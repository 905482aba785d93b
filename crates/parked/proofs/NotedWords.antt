-- Which asks want each folder, and which are each node's, as it is noted.
use Rattle.std.proofs.Common.{◌≡◌, ℕ, zero, suc, ◌+◌, ◌^◌, ◌<◌, ◌≤◌, Bool, true, false, cond, List, [], ◌∷◌, ◌++◌, length, get_or, eqb, filter, not, Option, None, Result, Ok, Err, refl, sym, ◌∙◌, ap, subst, inl, inr, arith}
use Rattle.std.specs.Prelude.{All, nat_lt}
use Rattle.std.specs.List.{list_any}
use Rattle.std.specs.List.Sorted.{IsNonDecreasing}
use Rattle.std.specs.Ordering.{nat_cmp}
use Rattle.std.specs.BTreeSet.{BTreeSet, contains, btree_set_len}
use Rattle.std.specs.BTreeMap.{is_at}
use Rattle.std.specs.Result.{is_ok}
use Rattle.std.specs.List.Sorted.{IsBinarySearchResult}
use Rattle.std.proofs.lemmas.List.Sorted.{searched}
use Rattle.std.proofs.lemmas.List.{nil_from_length}
use Rattle.std.proofs.lemmas.Bool.{cases_Bool, cases_lt, eqb-true}
use Rattle.std.proofs.lemmas.List.Elements.{All-head, All-tail, All-cons, All-nil, All-append}
use Rattle.indexmap.specs.IndexMap.{get}
use Rattle.names.specs.Folders.{folder_eq}
use Rattle.names.proofs.NameLaws.{folder_exact}
use Rattle.protocol.specs.Lists.{In}
use Rattle.protocol.specs.Names.{FolderName, NodeId, Slot}
use Rattle.protocol.specs.Machine.{Parked}
use Rattle.protocol.proofs.Base.{any_in, from_any}
use Rattle.parked.specs.Over.{is_over_at, later_over, still_at}
use Rattle.parked.specs.Numbers.{number_after, numbers_from, number_behind}
use Rattle.holdings.specs.Lives.{node_eq}
use Rattle.parked.specs.Noted.{has_number, notes_want, notes_node, notes_some, notes_one, IsIndexed, AreIndexed, Keeps, KeepsOf, Reaches, WantsNone, is_noted, WantsNoneOf}
use Rattle.parked.specs.declared.noted_asks.NotedAsks.{NotedAsks}
use Rattle.parked.proofs.NewestWords.{all-still}

-- ---- numbers that rise

-- none of the numbers is less than one before it
abbrev pub GoUp : List ℕ → Type 0
GoUp [] = Unit {0}
GoUp (n ∷ ns) = All (λ m. n ≤ m) ns × GoUp ns

pub up-from : (ns : List ℕ) → IsNonDecreasing ns → GoUp ns
up-from [] h = tt
up-from (n ∷ ns) h = (λ j d inside. h 0 (suc j) d (omega arith) (omega arith), up-from ns (λ i j d le inside. h (suc i) (suc j) d (omega arith) (omega arith)))

pub up-to : (ns : List ℕ) → GoUp ns → IsNonDecreasing ns
up-to [] h i j d le inside = absurd (omega arith)
up-to (n ∷ ns) h zero zero d le inside = omega arith
up-to (n ∷ ns) h zero (suc j) d le inside = h.0 j d (omega arith)
up-to (n ∷ ns) h (suc i) zero d le inside = absurd (omega arith)
up-to (n ∷ ns) h (suc i) (suc j) d le inside = up-to ns h.1 i j d (omega arith) (omega arith)

up-still : (i : ℕ) (os ns : List ℕ) → GoUp ns → GoUp (still_at i os ns)
up-still i os [] h = tt
up-still i os (n ∷ ns) h = elim (cases_Bool (is_over_at i os)) [
  | inl e ↦ rw e (up-still (i + 1) (later_over i os) ns h.1)
  | inr e ↦ rw e (all-still (λ m. n ≤ m) (i + 1) (later_over i os) ns h.0, up-still (i + 1) (later_over i os) ns h.1)
]

all-le : (ns : List ℕ) (a b : ℕ) → a ≤ b → All (λ m. b ≤ m) ns → All (λ m. a ≤ m) ns
all-le ns a b le h j d inside = (let more = h j d inside in omega arith)

all-below : (ns : List ℕ) (a b : ℕ) → a ≤ b → All (λ m. m ≤ a) ns → All (λ m. m ≤ b) ns
all-below ns a b le h j d inside = (let less = h j d inside in omega arith)

up-append : (ms ns : List ℕ) (a : ℕ) → GoUp ms → All (λ m. m ≤ a) ms → GoUp ns → All (λ n. a ≤ n) ns → GoUp (ms ++ ns)
up-append [] ns a up below next above = next
up-append (m ∷ ms) ns a up below next above =
    let here : m ≤ a = All-head (λ m. m ≤ a) m ms below in
    (All-append (λ n. m ≤ n) ms ns up.0 (all-le ns m a here above), up-append ms ns a up.1 (All-tail (λ m. m ≤ a) m ms below) next above)

after-le : (n : ℕ) → n ≤ number_after n
after-le n = elim (cases_Bool (nat_lt (n + 1) (2 ^ 64))) [ inl e ↦ rw e (omega arith) | inr e ↦ rw e (omega arith) ]

from-above : (n a : ℕ) (ps : List Parked) → a ≤ n → All (λ m. a ≤ m) (numbers_from n ps)
from-above n a [] le = All-nil (λ m. a ≤ m)
from-above n a (p ∷ ps) le = (let more = after-le n in All-cons (λ m. a ≤ m) n (numbers_from (number_after n) ps) le (from-above (number_after n) a ps (omega arith)))

from-up : (n : ℕ) (ps : List Parked) → GoUp (numbers_from n ps)
from-up n [] = tt
from-up n (p ∷ ps) = (from-above (number_after n) n ps (after-le n), from-up (number_after n) ps)

pub behind-le : (n : ℕ) (ps : List Parked) → n ≤ number_behind n ps
behind-le n [] = omega arith
behind-le n (p ∷ ps) = (let more = after-le n in let rest = behind-le (number_after n) ps in omega arith)

from-below : (n : ℕ) (ps : List Parked) → All (λ m. m ≤ number_behind n ps) (numbers_from n ps)
from-below n [] = All-nil (λ m. m ≤ n)
from-below n (p ∷ ps) =
    let more = after-le n in
    let rest = behind-le (number_after n) ps in
    All-cons (λ m. m ≤ number_behind (number_after n) ps) n (numbers_from (number_after n) ps) (omega arith) (from-below (number_after n) ps)

-- the numbers without those of asks that are over, and with those of asks that came
pub changed-rise : (over ns : List ℕ) (n : ℕ) (ps : List Parked) → IsNonDecreasing ns → All (λ m. m ≤ n) ns → IsNonDecreasing (still_at 0 over ns ++ numbers_from n ps)
changed-rise over ns n ps up below =
    up-to (still_at 0 over ns ++ numbers_from n ps)
    (up-append (still_at 0 over ns) (numbers_from n ps) n (up-still 0 over ns (up-from ns up)) (all-still (λ m. m ≤ n) 0 over ns below) (from-up n ps) (from-above n n ps (omega arith)))

pub changed-below : (over ns : List ℕ) (n : ℕ) (ps : List Parked) → All (λ m. m ≤ n) ns → All (λ m. m ≤ number_behind n ps) (still_at 0 over ns ++ numbers_from n ps)
changed-below over ns n ps below =
    All-append (λ m. m ≤ number_behind n ps) (still_at 0 over ns) (numbers_from n ps)
    (all-still (λ m. m ≤ number_behind n ps) 0 over ns (all-below ns n (number_behind n ps) (behind-le n ps) below)) (from-below n ps)

-- ---- what is noted

pub indexed-nil : (x : NotedAsks) → AreIndexed x [] []
indexed-nil x = (refl, λ k d inside. absurd (omega arith))

pub indexed-head : (x : NotedAsks) (p : Parked) (ps : List Parked) (n : ℕ) (ns : List ℕ) → AreIndexed x (p ∷ ps) (n ∷ ns) → IsIndexed x n p
indexed-head x p ps n ns h = h.1 0 p (omega arith)

pub indexed-tail : (x : NotedAsks) (p : Parked) (ps : List Parked) (n : ℕ) (ns : List ℕ) → AreIndexed x (p ∷ ps) (n ∷ ns) → AreIndexed x ps ns
indexed-tail x p ps n ns h = (let len = h.0 in (omega arith, λ k d inside. h.1 (suc k) d (omega arith)))

pub indexed-cons : (x : NotedAsks) (p : Parked) (ps : List Parked) (n : ℕ) (ns : List ℕ) → IsIndexed x n p → AreIndexed x ps ns → AreIndexed x (p ∷ ps) (n ∷ ns)
indexed-cons x p ps n ns here rest = (let len = rest.0 in (omega arith, λ k d inside. by k d inside))
  where
    by : (k : ℕ) (d : Parked) → k < length (p ∷ ps) → IsIndexed x (get_or (n ∷ ns) k 0) (get_or (p ∷ ps) k d)
    by zero d inside = here
    by (suc k) d inside = rest.1 k d (omega arith)

no_number : {P : Type 0} (x : NotedAsks) (p : Parked) (ps : List Parked) → AreIndexed x (p ∷ ps) [] → P
no_number x p ps h = (let len = h.0 in absurd (omega arith))

no_ask : {P : Type 0} (x : NotedAsks) (n : ℕ) (ns : List ℕ) → AreIndexed x [] (n ∷ ns) → P
no_ask x n ns h = (let len = h.0 in absurd (omega arith))

pub keeps-same : (x : NotedAsks) → Keeps x x
keeps-same x = record { folders = λ f n h. h; nodes = λ m n h. h }

pub keeps-then : (x y z : NotedAsks) → Keeps x y → Keeps y z → Keeps x z
keeps-then x y z h i = record { folders = λ f n noted. i.folders f n (h.folders f n noted); nodes = λ m n noted. i.nodes m n (h.nodes m n noted) }

pub keeps_of-same : (ns : List ℕ) (x : NotedAsks) → KeepsOf ns x x
keeps_of-same ns x = record { folders = λ f n i h. h; nodes = λ m n i h. h }

pub keeps_of-then : (ns : List ℕ) (x y z : NotedAsks) → KeepsOf ns x y → KeepsOf ns y z → KeepsOf ns x z
keeps_of-then ns x y z h k = record { folders = λ f n i noted. k.folders f n i (h.folders f n i noted); nodes = λ m n i noted. k.nodes m n i (h.nodes m n i noted) }

pub indexed-later : (x y : NotedAsks) (n : ℕ) (p : Parked) → Keeps x y → IsIndexed x n p → IsIndexed y n p
indexed-later x y n p keeps h = record { wants = λ w i. keeps.folders w.folder n (h.wants w i); node = keeps.nodes p.node n h.node }

pub indexed-more : (x y : NotedAsks) (ps : List Parked) (ns : List ℕ) → Keeps x y → AreIndexed x ps ns → AreIndexed y ps ns
indexed-more x y ps ns keeps h = (h.0, λ k d inside. indexed-later x y (get_or ns k 0) (get_or ps k d) keeps (h.1 k d inside))

-- of these numbers nothing is dropped
pub indexed-kept : (x y : NotedAsks) (ps : List Parked) (ns : List ℕ) → KeepsOf ns x y → AreIndexed x ps ns → AreIndexed y ps ns
indexed-kept x y [] [] keeps h = indexed-nil y
indexed-kept x y [] (n ∷ ns) keeps h = no_ask x n ns h
indexed-kept x y (p ∷ ps) [] keeps h = no_number x p ps h
indexed-kept x y (p ∷ ps) (n ∷ ns) keeps h =
    let here = indexed-head x p ps n ns h in
    indexed-cons y p ps n ns (record { wants = λ w i. keeps.folders w.folder n (inl refl) (here.wants w i); node = keeps.nodes p.node n (inl refl) here.node })
    (indexed-kept x y ps ns (record { folders = λ f m i. keeps.folders f m (inr i); nodes = λ q m i. keeps.nodes q m (inr i) }) (indexed-tail x p ps n ns h))

pub indexed-still : (x : NotedAsks) (i : ℕ) (os : List ℕ) (ps : List Parked) (ns : List ℕ) → AreIndexed x ps ns → AreIndexed x (still_at i os ps) (still_at i os ns)
indexed-still x i os [] [] h = indexed-nil x
indexed-still x i os [] (n ∷ ns) h = no_ask x n ns h
indexed-still x i os (p ∷ ps) [] h = no_number x p ps h
indexed-still x i os (p ∷ ps) (n ∷ ns) h = elim (cases_Bool (is_over_at i os)) [
  | inl e ↦ rw e (indexed-still x (i + 1) (later_over i os) ps ns (indexed-tail x p ps n ns h))
  | inr e ↦ rw e (indexed-cons x p (still_at (i + 1) (later_over i os) ps) n (still_at (i + 1) (later_over i os) ns) (indexed-head x p ps n ns h) (indexed-still x (i + 1) (later_over i os) ps ns (indexed-tail x p ps n ns h)))
]

pub indexed-append : (x : NotedAsks) (ps qs : List Parked) (ns ms : List ℕ) → AreIndexed x ps ns → AreIndexed x qs ms → AreIndexed x (ps ++ qs) (ns ++ ms)
indexed-append x [] qs [] ms h i = i
indexed-append x [] qs (n ∷ ns) ms h i = no_ask x n ns h
indexed-append x (p ∷ ps) qs [] ms h i = no_number x p ps h
indexed-append x (p ∷ ps) qs (n ∷ ns) ms h i = indexed-cons x p (ps ++ qs) n (ns ++ ms) (indexed-head x p ps n ns h) (indexed-append x ps qs ns ms (indexed-tail x p ps n ns h) i)

-- an ask wants none of the folders of which it isn't noted that it wants them
wants-none-of : (x : NotedAsks) (folders : List FolderName) (n : ℕ) (p : Parked) → IsIndexed x n p → (notes_one x folders n ≡ true → ⊥) → WantsNoneOf folders p
wants-none-of x folders n p indexed none w i = elim (cases_Bool (is_noted folders w.folder)) [
  | inl t ↦ (
      let r = from_any (λ (f : FolderName). folder_eq f w.folder) folders t in
      let same : r.0 ≡ w.folder = folder_exact r.0 w.folder r.2 in
      absurd (none (any_in (λ (f : FolderName). notes_want x f n) r.0 folders r.1 (ap (λ (f : FolderName). notes_want x f n) same ∙ indexed.wants w i))))
  | inr f ↦ f
]

wants-none : (x : NotedAsks) (slots : List (Slot × Bool)) (n : ℕ) (p : Parked) → IsIndexed x n p → (notes_some x slots n ≡ true → ⊥) → WantsNone slots p
wants-none x slots n p indexed none w i = elim (cases_Bool (list_any (λ (held : Slot × Bool). folder_eq held.0.folder w.folder) slots)) [
  | inl t ↦ (
      let r = from_any (λ (held : Slot × Bool). folder_eq held.0.folder w.folder) slots t in
      let same : r.0.0.folder ≡ w.folder = folder_exact r.0.0.folder w.folder r.2 in
      absurd (none (any_in (λ (held : Slot × Bool). notes_want x held.0.folder n) r.0 slots r.1 (ap (λ (f : FolderName). notes_want x f n) same ∙ indexed.wants w i))))
  | inr f ↦ f
]

-- ---- one folder, and one node

noted-key : {K : Type 0} (eq : K → K → Bool) → ((a b : K) → eq a b ≡ true → a ≡ b) → (before after : K → Option (BTreeSet ℕ)) (key k : K) (n : ℕ)
    → (has_number (before key) n ≡ true → has_number (after key) n ≡ true) → (eq key k ≡ false → after k ≡ before k) → has_number (before k) n ≡ true → has_number (after k) n ≡ true
noted-key {K} eq exact before after key k n here others h = elim (cases_Bool (eq key k)) [
  | inl e ↦ (
      let same : key ≡ k = exact key k e in
      ap (λ (j : K). has_number (after j) n) (sym same) ∙ here (ap (λ (j : K). has_number (before j) n) same ∙ h)
      )
  | inr e ↦ ap (λ o. has_number o n) (others e) ∙ h
]

-- what is noted changes at one folder
pub keeps-folder : (x y : NotedAsks) (key : FolderName) → ((m : NodeId) → get node_eq y.by_node m ≡ get node_eq x.by_node m)
    → ((n : ℕ) → notes_want x key n ≡ true → notes_want y key n ≡ true) → ((f : FolderName) → folder_eq key f ≡ false → get folder_eq y.by_folder f ≡ get folder_eq x.by_folder f) → Keeps x y
keeps-folder x y key same here others = record {
  folders = λ f n h. noted-key folder_eq folder_exact (get folder_eq x.by_folder) (get folder_eq y.by_folder) key f n (here n) (others f) h;
  nodes = λ m n h. ap (λ o. has_number o n) (same m) ∙ h;
}

noted-node : (before after : NodeId → Option (BTreeSet ℕ)) (key m : NodeId) (n : ℕ)
    → (has_number (before key) n ≡ true → has_number (after key) n ≡ true) → (node_eq key m ≡ false → after m ≡ before m) → has_number (before m) n ≡ true → has_number (after m) n ≡ true
noted-node before after key m n here others h = noted-key node_eq (λ a b e. (let same : a.0 ≡ b.0 = eqb-true a.0 b.0 e in λ j. record { 0 = same j })) before after key m n here others h

-- at one node
pub keeps-node : (x y : NotedAsks) (key : NodeId) → ((f : FolderName) → get folder_eq y.by_folder f ≡ get folder_eq x.by_folder f)
    → ((n : ℕ) → notes_node x key n ≡ true → notes_node y key n ≡ true) → ((m : NodeId) → node_eq key m ≡ false → get node_eq y.by_node m ≡ get node_eq x.by_node m) → Keeps x y
keeps-node x y key same here others = record {
  folders = λ f n h. ap (λ o. has_number o n) (same f) ∙ h;
  nodes = λ m n h. noted-node (get node_eq x.by_node) (get node_eq y.by_node) key m n (here n) (others m) h;
}

-- the same of these numbers
pub keeps_of-folder : (ns : List ℕ) (x y : NotedAsks) (key : FolderName) → ((m : NodeId) → get node_eq y.by_node m ≡ get node_eq x.by_node m)
    → ((n : ℕ) → In n ns → notes_want x key n ≡ true → notes_want y key n ≡ true) → ((f : FolderName) → folder_eq key f ≡ false → get folder_eq y.by_folder f ≡ get folder_eq x.by_folder f) → KeepsOf ns x y
keeps_of-folder ns x y key same here others = record {
  folders = λ f n i h. noted-key folder_eq folder_exact (get folder_eq x.by_folder) (get folder_eq y.by_folder) key f n (here n i) (others f) h;
  nodes = λ m n i h. ap (λ o. has_number o n) (same m) ∙ h;
}

pub keeps_of-node : (ns : List ℕ) (x y : NotedAsks) (key : NodeId) → ((f : FolderName) → get folder_eq y.by_folder f ≡ get folder_eq x.by_folder f)
    → ((n : ℕ) → In n ns → notes_node x key n ≡ true → notes_node y key n ≡ true) → ((m : NodeId) → node_eq key m ≡ false → get node_eq y.by_node m ≡ get node_eq x.by_node m) → KeepsOf ns x y
keeps_of-node ns x y key same here others = record {
  folders = λ f n i h. ap (λ o. has_number o n) (same f) ∙ h;
  nodes = λ m n i h. noted-node (get node_eq x.by_node) (get node_eq y.by_node) key m n (here n i) (others m) h;
}

-- nothing was noted under a key
pub none-kept : {P : Type 0} (o : Option (BTreeSet ℕ)) (n : ℕ) → o ≡ None → has_number o n ≡ true → P
none-kept o n none h = (let bad : false ≡ true = sym (ap (λ q. has_number q n) none) ∙ h in absurd (cc bad))

-- where no number is noted of a node none of the asks is the node's
pub none-of-node : (x : NotedAsks) (m : NodeId) (ps : List Parked) (ns : List ℕ) → AreIndexed x ps ns → ((n : ℕ) → notes_node x m n ≡ true → ⊥) → All (λ p. eqb p.node.0 m.0 ≡ false) ps
none-of-node x m ps ns indexed none k d inside = elim (cases_Bool (eqb (get_or ps k d).node.0 m.0)) [
  | inl e ↦ (
      let p : Parked = get_or ps k d in
      let same : p.node.0 ≡ m.0 = eqb-true p.node.0 m.0 e in
      absurd (none (get_or ns k 0) (subst (λ (q : NodeId). notes_node x q (get_or ns k 0) ≡ true) (λ j. record { 0 = same j }) (indexed.1 k d inside).node))
      )
  | inr e ↦ e
]

-- where none passes a test all are kept
pub none-passes : {A : Type 0} (test : A → Bool) (xs : List A) → All (λ x. test x ≡ false) xs → filter (λ x. not (test x)) xs ≡ xs
none-passes test [] none = refl
none-passes test (x ∷ xs) none =
    let here : test x ≡ false = All-head (λ y. test y ≡ false) x xs none in
    rw here (ap (λ ys. x ∷ ys) (none-passes test xs (All-tail (λ y. test y ≡ false) x xs none)))

-- numbers that stay as they were, and with one more
pub set-same : (s t : BTreeSet ℕ) (n : ℕ) → t.keys ≡ s.keys → contains nat_cmp s n ≡ true → contains nat_cmp t n ≡ true
set-same s t n same h = ap (λ (ks : List ℕ). list_any (is_at (nat_cmp n)) ks) same ∙ h

pub set-more : (s t : BTreeSet ℕ) (k n : ℕ) → ((q : ℕ) → contains nat_cmp t q ≡ cond (is_at (nat_cmp k) q) true (contains nat_cmp s q)) → contains nat_cmp s n ≡ true → contains nat_cmp t n ≡ true
set-more s t k n set h = elim (cases_Bool (is_at (nat_cmp k) n)) [
  | inl e ↦ set n ∙ ap (λ (b : Bool). cond b true (contains nat_cmp s n)) e
  | inr e ↦ set n ∙ ap (λ (b : Bool). cond b true (contains nat_cmp s n)) e ∙ h
]

-- no number is in an empty set
pub set-empty : (s : BTreeSet ℕ) (n : ℕ) → btree_set_len s ≡ 0 → contains nat_cmp s n ≡ true → ⊥
set-empty s n none h = (let empty : s.keys ≡ [] = nil_from_length s.keys none in let bad : false ≡ true = sym (ap (λ (ks : List ℕ). list_any (is_at (nat_cmp n)) ks) empty) ∙ h in absurd (cc bad))

-- ---- elements by place

pub each_in : {A : Type 0} (P : A → Type 0) (xs : List A) → ((k : ℕ) (d : A) → k < length xs → P (get_or xs k d)) → (x : A) → In x xs → P x
each_in P [] h x i = absurd i
each_in P (y ∷ ys) h x (inl same) = subst P (sym same) (h 0 y (omega arith))
each_in P (y ∷ ys) h x (inr i) = each_in P ys (λ k d inside. h (suc k) d (omega arith)) x i

pub some_at : {A : Type 0} (test : A → Bool) (xs : List A) → list_any test xs ≡ true → (k : ℕ) × (d : A) × (k < length xs) × (test (get_or xs k d) ≡ true)
some_at test [] h = (let bad : false ≡ true = h in absurd (cc bad))
some_at test (x ∷ xs) h = elim (cases_Bool (test x)) [
  | inl e ↦ (0, x, omega arith, e)
  | inr e ↦ (let rest = some_at test xs (rw e at h) in (suc rest.0, rest.1, (let inside = rest.2 in omega arith), rest.3))
]

pub in_at : (xs : List ℕ) (x : ℕ) → In x xs → (k : ℕ) × (k < length xs) × (get_or xs k 0 ≡ x)
in_at [] x i = absurd i
in_at (y ∷ ys) x (inl same) = (0, omega arith, sym same)
in_at (y ∷ ys) x (inr i) = (let rest = in_at ys x i in (suc rest.0, (let inside = rest.1 in omega arith), rest.2))

-- what a binary search for a number that is there gives
pub among-found : (xs : List ℕ) (x : ℕ) (r : Result ℕ ℕ) → IsBinarySearchResult (λ y. nat_cmp y x) xs r → IsNonDecreasing xs → In x xs → is_ok r ≡ true
among-found xs x (Ok i) at up there = refl
among-found xs x (Err i) at up there =
    let parts = searched xs x (Err i) at (λ a b le inside. up a b 0 le inside) in
    let r = in_at xs x there in
    let same : get_or xs r.0 0 ≡ x = r.2 in
    let inside : r.0 < length xs = r.1 in
    elim (cases_lt r.0 i) [
      | inl lt ↦ (let low = parts.1 r.0 lt in absurd (omega arith))
      | inr ge ↦ (let high = parts.2 r.0 ge inside in absurd (omega arith))
    ]

-- of an ask behind the place from which none is noted before it, it isn't noted that it wants any of these
unnoted : (notes : ℕ → Bool) (ns : List ℕ) (place k : ℕ) (o : Option ℕ) → IsNonDecreasing ns → place ≤ k → k < length ns → ((n : ℕ) → get_or ns place 0 ≤ n → notes n ≡ true → Reaches o n)
    → (Reaches o (get_or ns k 0) → ⊥) → notes (get_or ns k 0) ≡ true → ⊥
unnoted notes ns place k o up le inside from none some = none (from (get_or ns k 0) (up place k 0 le inside) some)

-- so it wants no folder of these slots
pub passed-none : (x : NotedAsks) (ps : List Parked) (ns : List ℕ) (slots : List (Slot × Bool)) (place k : ℕ) (d : Parked) (o : Option ℕ) → AreIndexed x ps ns → IsNonDecreasing ns → place ≤ k → k < length ps
    → ((n : ℕ) → get_or ns place 0 ≤ n → notes_some x slots n ≡ true → Reaches o n) → (Reaches o (get_or ns k 0) → ⊥) → WantsNone slots (get_or ps k d)
passed-none x ps ns slots place k d o indexed up le inside from none =
    let len : length ns ≡ length ps = indexed.0 in
    wants-none x slots (get_or ns k 0) (get_or ps k d) (indexed.1 k d inside) (unnoted (notes_some x slots) ns place k o up le (omega arith) from none)

-- and none of these folders
pub passed-none-of : (x : NotedAsks) (ps : List Parked) (ns : List ℕ) (folders : List FolderName) (place k : ℕ) (d : Parked) (o : Option ℕ) → AreIndexed x ps ns → IsNonDecreasing ns → place ≤ k → k < length ps
    → ((n : ℕ) → get_or ns place 0 ≤ n → notes_one x folders n ≡ true → Reaches o n) → (Reaches o (get_or ns k 0) → ⊥) → WantsNoneOf folders (get_or ps k d)
passed-none-of x ps ns folders place k d o indexed up le inside from none =
    let len : length ns ≡ length ps = indexed.0 in
    wants-none-of x folders (get_or ns k 0) (get_or ps k d) (indexed.1 k d inside) (unnoted (notes_one x folders) ns place k o up le (omega arith) from none)
