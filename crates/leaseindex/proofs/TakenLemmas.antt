-- The instances of folders that leases have.
use Rattle.std.proofs.Common.{◌≡◌, ℕ, ◌+◌, ◌<◌, ◌≤◌, List, [], ◌∷◌, ◌++◌, Bool, true, false, not, ◌&&◌, ◌||◌, cond, eqb, length, get_or, drop, filter, Option, Some, None, refl, sym, ◌∙◌, ap, inl, inr, arith}
use Rattle.std.specs.Prelude.{All, AllPairs}
use Rattle.std.specs.List.{find, list_any}
use Rattle.std.proofs.Math.Bool.{or_comm}
use Rattle.std.proofs.Math.ListN.{drop_of_length-le}
use Rattle.std.proofs.lemmas.Bool.{cases_Bool, ne_eqb, eqb-true}
use Rattle.std.proofs.lemmas.List.Elements.{All-head, All-tail}
use Rattle.std.proofs.lemmas.List.Folds.{list_any-append, list_any_none}
use Rattle.indexmap.specs.IndexMap.{IndexMap, get}
use Rattle.names.specs.Folders.{folder_eq}
use Rattle.farm_base.specs.declared.lease.Lease.{Lease}
use Rattle.names.proofs.NameLaws.{folder_exact}
use Rattle.protocol.specs.Names.{Slot, FolderName, slot_eq}
use Rattle.protocol.specs.Ledger.{has_slot, some_lease}
use Rattle.leaseindex.specs.Instances.{has_of, instances_of, slot_instances, slot_names, lease_instances, AreTaken, AreRetired}
use Rattle.leaseindex.specs.declared.instances.Instances.{Instances}
use Rattle.holdings.specs.declared.ending.Ending.{Ending}
use Rattle.holdings.specs.Endings.{ends_lease, has_ended}
use Rattle.holdings.specs.Leases.{AreApart, among}
use Rattle.leaseindex.proofs.FindLemmas.{PassesOnce}
use Rattle.holdings.proofs.PlaceLemmas.{drop-item}
use Rattle.holdings.proofs.LeaseLemmas.{AllPairs-head, AllPairs-tail}

-- ---- an index that is set at one folder

added_if : (e a b c : Bool) → (e ≡ true → b ≡ c) → cond e (a || b) c ≡ ((e && a) || c)
added_if true a b c same = ap (λ (x : Bool). a || x) (same refl)
added_if false a b c same = refl

removed_if : (e a b c : Bool) → (e ≡ true → b ≡ c) → cond e (not a && b) c ≡ (not (e && a) && c)
removed_if true a b c same = ap (λ (x : Bool). not a && x) (same refl)
removed_if false a b c same = refl

same_folder : {S : Type 0} (m : IndexMap FolderName Instances S) (k f : FolderName) (i : ℕ) → folder_eq k f ≡ true → has_of (instances_of m k) i ≡ has_of (instances_of m f) i
same_folder m k f i e = ap (λ (g : FolderName). has_of (instances_of m g) i) (folder_exact k f e)

set_at : {S : Type 0} (m n : IndexMap FolderName Instances S) (k f : FolderName) (y : Option Instances) (i : ℕ) → ((q : FolderName) → get folder_eq n q ≡ cond (folder_eq k q) y (get folder_eq m q))
    → has_of (instances_of n f) i ≡ cond (folder_eq k f) (has_of y i) (has_of (instances_of m f) i)
set_at m n k f y i set = ap (λ (o : Option Instances). has_of o i) (set f) ∙ by (folder_eq k f)
  where
    by : (e : Bool) → has_of (cond e y (get folder_eq m f)) i ≡ cond e (has_of y i) (has_of (get folder_eq m f) i)
    by true = refl
    by false = refl

-- an instance is added
pub taken-add : {S : Type 0} (m n : IndexMap FolderName Instances S) (k f : FolderName) (y : Option Instances) (j i : ℕ) → ((q : FolderName) → get folder_eq n q ≡ cond (folder_eq k q) y (get folder_eq m q))
    → has_of y i ≡ (eqb j i || has_of (instances_of m k) i) → has_of (instances_of n f) i ≡ ((folder_eq k f && eqb j i) || has_of (instances_of m f) i)
taken-add m n k f y j i set is =
    set_at m n k f y i set ∙ ap (λ (b : Bool). cond (folder_eq k f) b (has_of (instances_of m f) i)) is
    ∙ added_if (folder_eq k f) (eqb j i) (has_of (instances_of m k) i) (has_of (instances_of m f) i) (same_folder m k f i)

-- an instance is taken out
pub taken-remove : {S : Type 0} (m n : IndexMap FolderName Instances S) (k f : FolderName) (y : Option Instances) (j i : ℕ) → ((q : FolderName) → get folder_eq n q ≡ cond (folder_eq k q) y (get folder_eq m q))
    → has_of y i ≡ (not (eqb j i) && has_of (instances_of m k) i) → has_of (instances_of n f) i ≡ (not (folder_eq k f && eqb j i) && has_of (instances_of m f) i)
taken-remove m n k f y j i set is =
    set_at m n k f y i set ∙ ap (λ (b : Bool). cond (folder_eq k f) b (has_of (instances_of m f) i)) is
    ∙ removed_if (folder_eq k f) (eqb j i) (has_of (instances_of m k) i) (has_of (instances_of m f) i) (same_folder m k f i)

not_there : (e a c : Bool) → (e ≡ true → c ≡ false) → c ≡ (not (e && a) && c)
not_there true true c none = none refl
not_there true false c none = refl
not_there false a c none = refl

-- nothing is taken out where the folder is not there
pub taken-missing : {S : Type 0} (m : IndexMap FolderName Instances S) (k f : FolderName) (j i : ℕ) → instances_of m k ≡ None → has_of (instances_of m f) i ≡ (not (folder_eq k f && eqb j i) && has_of (instances_of m f) i)
taken-missing m k f j i none =
    not_there (folder_eq k f) (eqb j i) (has_of (instances_of m f) i) (λ e. sym (same_folder m k f i e) ∙ ap (λ (o : Option Instances). has_of o i) none)

-- one more is added
pub any_push : {X : Type 0} (test : X → Bool) (xs : List X) (x : X) (b c : Bool) → c ≡ (list_any test xs || b) → (test x || c) ≡ (list_any test (xs ++ x ∷ []) || b)
any_push test xs x b c is =
    ap (λ (d : Bool). test x || d) is ∙ turn (test x) (list_any test xs) b ∙ ap (λ (d : Bool). d || b) (sym (list_any-append test xs (x ∷ [])))
  where
    turn : (a l b : Bool) → (a || (l || b)) ≡ ((l || (a || false)) || b)
    turn true true b = refl
    turn true false b = refl
    turn false true b = refl
    turn false false b = refl

-- ---- what an index is to have of leases

has_none : (e f b : Bool) → f ≡ false → b ≡ ((e && f) || b)
has_none true f b none = ap (λ (x : Bool). x || b) (sym none)
has_none false f b none = refl

-- an instance from 1 on is among those of slots exactly if its slot is
slots_any : (slots : List (Slot × Bool)) (f : FolderName) (i : ℕ) → 1 ≤ i → list_any (λ (e : FolderName × ℕ). folder_eq e.0 f && eqb e.1 i) (slot_instances slots) ≡ has_slot slots (record { folder = f; instance = i })
slots_any [] f i from = refl
slots_any (x ∷ xs) f i from = elim (cases_Bool (eqb x.0.instance 0)) [
  | inl e ↦
      let zero_is : x.0.instance ≡ 0 = eqb-true x.0.instance 0 e in
      let other : eqb x.0.instance i ≡ false = ne_eqb x.0.instance i (λ same. omega arith) in
      rw e (slots_any xs f i from ∙ has_none (folder_eq x.0.folder f) (eqb x.0.instance i) (has_slot xs (record { folder = f; instance = i })) other)
  | inr e ↦ rw e (ap (λ (b : Bool). (folder_eq x.0.folder f && eqb x.0.instance i) || b) (slots_any xs f i from))
]

-- the same for leases
pub leases_any : (leases : List Lease) (f : FolderName) (i : ℕ) → 1 ≤ i → list_any (λ (e : FolderName × ℕ). folder_eq e.0 f && eqb e.1 i) (lease_instances leases) ≡ some_lease leases (record { folder = f; instance = i })
leases_any [] f i from = refl
leases_any (g ∷ leases) f i from =
    list_any-append (λ (e : FolderName × ℕ). folder_eq e.0 f && eqb e.1 i) (slot_instances g.slots) (lease_instances leases)
    ∙ (λ j. slots_any g.slots f i from j || leases_any leases f i from j)

-- leases are added
pub taken-append : (before after : FolderName → ℕ → Bool) (live more : List Lease) → AreTaken before live
    → ((f : FolderName) (i : ℕ) → i ≤ 4096 → after f i ≡ (list_any (λ (e : FolderName × ℕ). folder_eq e.0 f && eqb e.1 i) (lease_instances more) || before f i)) → AreTaken after (live ++ more)
taken-append before after live more are adds f i from to =
    let s : Slot = record { folder = f; instance = i } in
    adds f i to ∙ (λ j. leases_any more f i from j || are f i from to j) ∙ or_comm (some_lease more s) (some_lease live s) ∙ sym (list_any-append (λ (g : Lease). has_slot g.slots s) live more)

-- ---- leases taken out

-- a lease passes the test and has the slot
abbrev pub any_with : (Lease → Bool) → List Lease → Slot → Bool
any_with p live s = list_any (λ g. p g && has_slot g.slots s) live

none_with : (p : Lease → Bool) (live : List Lease) (s : Slot) → some_lease live s ≡ false → any_with p live s ≡ false
none_with p [] s none = refl
none_with p (g ∷ live) s none = elim (cases_Bool (has_slot g.slots s)) [
  | inl e ↦ (let bad : true ≡ false = rw e at none in absurd (cc bad))
  | inr e ↦ rw e (let rest : some_lease live s ≡ false = rw e at none in both (p g) (none_with p live s rest))
]
  where
    both : (a : Bool) {b : Bool} → b ≡ false → ((a && false) || b) ≡ false
    both true h = h
    both false h = h

-- of leases that have no slot in common, one that fails a test has a slot exactly if one has it and none that passes
pub some_failing : (p : Lease → Bool) (s : Slot) (live : List Lease) → AllPairs AreApart live → some_lease (filter (λ g. not (p g)) live) s ≡ (not (any_with p live s) && some_lease live s)
some_failing p s [] apart = refl
some_failing p s (g ∷ live) apart =
    let rest = some_failing p s live (AllPairs-tail AreApart g live apart) in
    elim (cases_Bool (has_slot g.slots s)) [
      | inl e ↦
          let alone : some_lease live s ≡ false = list_any_none (λ (h : Lease). has_slot h.slots s) live (λ k d inside. AllPairs-head AreApart g live apart k d inside s e) in
          let none : any_with p live s ≡ false = none_with p live s alone in
          elim (cases_Bool (p g)) [
            | inl t ↦ rw (t, e) (rest ∙ alone_in (any_with p live s) alone)
            | inr t ↦ rw (t, e) (ap not (sym none) ∙ sym (with_true (any_with p live s)))
          ]
      | inr e ↦ elim (cases_Bool (p g)) [
        | inl t ↦ rw (t, e) rest
        | inr t ↦ rw (t, e) rest
      ]
    ]
  where
    alone_in : (b : Bool) {c : Bool} → c ≡ false → (not b && c) ≡ false
    alone_in true h = refl
    alone_in false h = h

    with_true : (b : Bool) → (not b && true) ≡ not b
    with_true true = refl
    with_true false = refl

pub taken-failing : (p : Lease → Bool) (before after : FolderName → ℕ → Bool) (live : List Lease) → AllPairs AreApart live → AreTaken before live
    → ((f : FolderName) (i : ℕ) → i ≤ 4096 → after f i ≡ (not (any_with p live (record { folder = f; instance = i })) && before f i)) → AreTaken after (filter (λ g. not (p g)) live)
taken-failing p before after live apart are removes f i from to =
    let s : Slot = record { folder = f; instance = i } in
    removes f i to ∙ ap (λ (b : Bool). not (any_with p live s) && b) (are f i from to) ∙ sym (some_failing p s live apart)

-- no lease passes
pub any_with-missing : (p : Lease → Bool) (live : List Lease) (s : Slot) → find p live ≡ None → any_with p live s ≡ false
any_with-missing p [] s none = refl
any_with-missing p (g ∷ live) s none = elim (cases_Bool (p g)) [
  | inl e ↦ (let bad : Some g ≡ None = rw e at none in absurd (cc bad))
  | inr e ↦ rw e (any_with-missing p live s (rw e at none))
]

fails_all : (p : Lease → Bool) (live : List Lease) (s : Slot) → All (λ g. p g ≡ false) live → any_with p live s ≡ false
fails_all p [] s none = refl
fails_all p (g ∷ live) s none =
    let here : p g ≡ false = All-head (λ h. p h ≡ false) g live none in
    rw here (fails_all p live s (All-tail (λ h. p h ≡ false) g live none))

or_none : (a b : Bool) → b ≡ false → (a || b) ≡ a
or_none true b none = refl
or_none false b none = none

-- one lease passes, at most
pub any_with-once : (p : Lease → Bool) (live : List Lease) (s : Slot) (g : Lease) → PassesOnce p live → find p live ≡ Some g → any_with p live s ≡ has_slot g.slots s
any_with-once p [] s g once found = absurd (cc found)
any_with-once p (h ∷ live) s g once found = elim (cases_Bool (p h)) [
  | inl e ↦
      let is : Some h ≡ Some g = rw e at found in
      let same : h ≡ g = cc is in
      let none : any_with p live s ≡ false = fails_all p live s (λ k d inside. AllPairs-head (λ a b. p a ≡ true → p b ≡ false) h live once k d inside e) in
      rw e (or_none (has_slot h.slots s) (any_with p live s) none ∙ ap (λ (l : Lease). has_slot l.slots s) same)
  | inr e ↦ rw e (any_with-once p live s g (AllPairs-tail (λ a b. p a ≡ true → p b ≡ false) h live once) (rw e at found))
]

-- a lease passes one of two tests
pub any_with-or : (p q r : Lease → Bool) (live : List Lease) (s : Slot) → ((g : Lease) → r g ≡ (p g || q g)) → any_with r live s ≡ (any_with p live s || any_with q live s)
any_with-or p q r [] s either = refl
any_with-or p q r (g ∷ live) s either =
    (λ j. (either g j && has_slot g.slots s) || any_with-or p q r live s either j) ∙ parts (p g) (q g) (has_slot g.slots s) (any_with p live s) (any_with q live s)
  where
    parts : (a b h x y : Bool) → (((a || b) && h) || (x || y)) ≡ (((a && h) || x) || ((b && h) || y))
    parts true true true x y = refl
    parts true true false x y = refl
    parts true false true x y = refl
    parts true false false x y = refl
    parts false true true true y = refl
    parts false true true false y = refl
    parts false true false x y = refl
    parts false false h x y = refl

-- ---- endings in turn

unmarked_more : (a b r m n w : Bool) → r ≡ (a || b) → n ≡ (not a && m) → (not r && m) ≡ w → (not b && n) ≡ w
unmarked_more true b r m n w either is h = ap (λ (x : Bool). not b && x) is ∙ nothing b ∙ ap (λ (x : Bool). not x && m) (sym either) ∙ h
  where
    nothing : (x : Bool) → (not x && false) ≡ false
    nothing true = refl
    nothing false = refl
unmarked_more false b r m n w either is h = ap (λ (x : Bool). not b && x) is ∙ ap (λ (x : Bool). not x && m) (sym either) ∙ h

-- after one of the endings
pub beside_next : (ended : List Ending) (k : ℕ) (e d : Ending) (live : List Lease) (s : Slot) (m n w : Bool) → k < length ended → e ≡ get_or ended k d → n ≡ (not (any_with (ends_lease e) live s) && m)
    → (not (any_with (has_ended (drop k ended)) live s) && m) ≡ w → (not (any_with (has_ended (drop (k + 1) ended)) live s) && n) ≡ w
beside_next ended k e d live s m n w inside is ends h =
    let first : drop k ended ≡ e ∷ drop (k + 1) ended = drop-item ended k d inside ∙ ap (λ (f : Ending). f ∷ drop (k + 1) ended) (sym is) in
    let either = any_with-or (ends_lease e) (has_ended (drop (k + 1) ended)) (has_ended (drop k ended)) live s (λ g. ap (λ (es : List Ending). has_ended es g) first) in
    unmarked_more (any_with (ends_lease e) live s) (any_with (has_ended (drop (k + 1) ended)) live s) (any_with (has_ended (drop k ended)) live s) m n w either ends h

none_ends : (live : List Lease) (s : Slot) → any_with (has_ended []) live s ≡ false
none_ends [] s = refl
none_ends (g ∷ live) s = none_ends live s

-- after all of them
pub beside_end : (ended : List Ending) (k : ℕ) (live : List Lease) (s : Slot) (m w : Bool) → length ended ≤ k → (not (any_with (has_ended (drop k ended)) live s) && m) ≡ w → m ≡ w
beside_end ended k live s m w past h =
    ap (λ (b : Bool). not b && m) (sym (none_ends live s)) ∙ ap (λ (es : List Ending). not (any_with (has_ended es) live s) && m) (sym (drop_of_length-le ended past)) ∙ h

-- ---- slots that are never granted again

-- an instance is among those of slots exactly if its slot is
names_any : (slots : List Slot) (f : FolderName) (i : ℕ) → list_any (λ (e : FolderName × ℕ). folder_eq e.0 f && eqb e.1 i) (slot_names slots) ≡ among slots (record { folder = f; instance = i })
names_any [] f i = refl
names_any (x ∷ xs) f i = ap (λ (b : Bool). (folder_eq x.folder f && eqb x.instance i) || b) (names_any xs f i)

-- slots are added
pub retired-append : (before after : FolderName → ℕ → Bool) (slots more : List Slot) → AreRetired before slots
    → ((f : FolderName) (i : ℕ) → i ≤ 4096 → after f i ≡ (list_any (λ (e : FolderName × ℕ). folder_eq e.0 f && eqb e.1 i) (slot_names more) || before f i)) → AreRetired after (slots ++ more)
retired-append before after slots more are adds f i to =
    let s : Slot = record { folder = f; instance = i } in
    adds f i to ∙ (λ j. names_any more f i j || are f i to j) ∙ or_comm (among more s) (among slots s) ∙ sym (list_any-append (λ (x : Slot). slot_eq x s) slots more)
