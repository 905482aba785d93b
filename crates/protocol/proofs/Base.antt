-- Members, places, fronts, functions changed at one place, and names.
use Rattle.std.proofs.Common.{◌≡◌, ◌≢◌, ℕ, suc, zero, ◌+◌, List, [], ◌∷◌, ◌++◌, ◌⊎◌, Bool, true, false, not, ◌&&◌, ◌≤◌, eqb, length, map, filter, Option, Some, None, slice_get, refl, sym, ◌∙◌, ap, subst, inl, inr, arith, append_assoc, append-nil}
use Rattle.std.proofs.lemmas.Bool.{ne_eqb, cases_eq, and_parts, eqb-true, cases_Bool}
use Rattle.std.proofs.lemmas.Bool.Decides.{nat_tests}
use Rattle.std.proofs.lemmas.Slice.Eq.{bytes_eq-Decides}
use Rattle.std.specs.Prelude.{All, nat_lt}
use Rattle.std.specs.List.{list_any}
pub use Rattle.lists.proofs.Places.{get_front}
use Rattle.std.specs.Option.{option_eq}
use Rattle.std.specs.Cmp.Lexicographic.{pointwise}
use Rattle.names.specs.Folders.{folder_eq, base_eq}
use Rattle.names.specs.Modes.{mode_index}
use Rattle.names.specs.declared.folder.Base.{Base}
use Rattle.names.proofs.NameLaws.{folder_exact}
use Rattle.lists.proofs.Places.{get_push_end, get-set_same, get-set_other}
use Rattle.protocol.specs.Lists.{In, IsFrontOf, put, nth, set_nth}
use Rattle.protocol.specs.Names.{Slot, slot_eq, digest_eq, Digest, FolderName, NodeId, Life, Ask, Ticket, Want}
use Rattle.farm_base.specs.declared.message.Request.TheVariants.{Acquire}

pub in_left : {A : Type 0} (x : A) (xs ys : List A) → In x xs → In x (xs ++ ys)
in_left x [] ys h = absurd h
in_left x (y ∷ xs) ys (inl e) = inl e
in_left x (y ∷ xs) ys (inr h) = inr (in_left x xs ys h)

pub in_right : {A : Type 0} (x : A) (xs ys : List A) → In x ys → In x (xs ++ ys)
in_right x [] ys h = h
in_right x (y ∷ xs) ys h = inr (in_right x xs ys h)

pub in_append : {A : Type 0} (x : A) (xs ys : List A) → In x (xs ++ ys) → In x xs ⊎ In x ys
in_append x [] ys h = inr h
in_append x (y ∷ xs) ys (inl e) = inl (inl e)
in_append x (y ∷ xs) ys (inr h) = elim (in_append x xs ys h) [ inl k ↦ inl (inr k) | inr k ↦ inr k ]

pub in_one : {A : Type 0} (x y : A) → In x (y ∷ []) → x ≡ y
in_one x y (inl e) = e
in_one x y (inr h) = absurd h

pub in_map : {A B : Type 0} (f : A → B) (x : A) (xs : List A) → In x xs → In (f x) (map f xs)
in_map f x [] h = absurd h
in_map f x (y ∷ xs) (inl e) = inl (ap f e)
in_map f x (y ∷ xs) (inr h) = inr (in_map f x xs h)

pub from_map : {A B : Type 0} (f : A → B) (z : B) (xs : List A) → In z (map f xs) → (x : A) × In x xs × (z ≡ f x)
from_map f z [] h = absurd h
from_map f z (y ∷ xs) (inl e) = (y, inl refl, e)
from_map f z (y ∷ xs) (inr h) = (let r = from_map f z xs h in (r.0, inr r.1, r.2))

pub cases_option : {A : Type 0} (o : Option A) → (o ≡ None) ⊎ ((x : A) × (o ≡ Some x))
cases_option None = inl refl
cases_option (Some x) = inr (x, refl)

pub some_is : {A : Type 0} (x y : A) → Some x ≡ Some y → x ≡ y
some_is x y e = cc

pub none_some : {A : Type 0} {P : Type 0} (x : A) → None ≡ Some x → P
none_some x e = cc

pub true_false : {P : Type 0} (b : Bool) → b ≡ true → b ≡ false → P
true_false b t f = let bad : true ≡ false = sym t ∙ f in cc

pub eqb_same : (a : ℕ) → eqb a a ≡ true
eqb_same a = grind (arith, nat_tests)

pub lt_not : (a b : ℕ) → nat_lt a b ≡ false → b ≤ a
lt_not a b h = grind (arith, nat_tests)

pub put_same : {A : Type 0} (k : ℕ) (x : A) (f : ℕ → A) → put k x f k ≡ x
put_same k x f = rw (eqb_same k)

pub put_other : {A : Type 0} (k : ℕ) (x : A) (f : ℕ → A) (j : ℕ) → j ≢ k → put k x f j ≡ f j
put_other k x f j h = rw (ne_eqb j k h)

-- what holds of x at k, and of f elsewhere, holds of `put k x f`
pub put_all : {A : Type 0} (P : ℕ → A → Type 0) (k : ℕ) (x : A) (f : ℕ → A) → P k x → ((j : ℕ) → j ≢ k → P j (f j)) → (j : ℕ) → P j (put k x f j)
put_all P k x f here there j =
    elim (cases_eq j k) [
      | inl e ↦ subst (λ i. P i (put k x f i)) (sym e) (subst (P k) (sym (put_same k x f)) here)
      | inr h ↦ subst (P j) (sym (put_other k x f j h)) (there j h)
    ]

-- ---- numbers by name

pub node_is : (a b : NodeId) → a.0 ≡ b.0 → a ≡ b
node_is a b e = λ i. record { 0 = e i }

pub life_is : (a b : Life) → a.0 ≡ b.0 → a ≡ b
life_is a b e = λ i. record { 0 = e i }

pub ask_is : (a b : Ask) → a.0 ≡ b.0 → a ≡ b
ask_is a b e = λ i. record { 0 = e i }

pub ticket_is : (a b : Ticket) → a.0 ≡ b.0 → a ≡ b
ticket_is a b e = λ i. record { 0 = e i }

pub digest_is : (a b : Digest) → a.0 ≡ b.0 → a ≡ b
digest_is a b e = λ i. record { 0 = e i }

bytes_same : (xs : List ℕ) → pointwise eqb xs xs ≡ true
bytes_same xs = (bytes_eq-Decides xs xs).1 refl

pub digest_eq_same : (d : Digest) → digest_eq d d ≡ true
digest_eq_same d = bytes_same d.0

base_same : (b : Base) → base_eq b b ≡ true
base_same b = (let p = bytes_same b.key.0.0 in let q = eqb_same b.index in rw (p, q) refl)

option_same : (o : Option Base) → option_eq base_eq o o ≡ true
option_same None = refl
option_same (Some b) = base_same b

pub folder_eq_same : (f : FolderName) → folder_eq f f ≡ true
folder_eq_same f = (let p = bytes_same f.id in let q = eqb_same (mode_index f.mode) in let r = option_same f.base in rw (p, q, r) refl)

pub slot_eq_same : (s : Slot) → slot_eq s s ≡ true
slot_eq_same s = (let p = folder_eq_same s.folder in let q = eqb_same s.instance in rw (p, q) refl)

pub slot_path : (a b : Slot) → a.folder ≡ b.folder → a.instance ≡ b.instance → a ≡ b
slot_path a b p q = λ i. record { folder = p i; instance = q i }

pub slot_eq_is : (a b : Slot) → slot_eq a b ≡ true → a ≡ b
slot_eq_is a b h =
    let both = and_parts (folder_eq a.folder b.folder) (eqb a.instance b.instance) h in
    slot_path a b (folder_exact a.folder b.folder both.0) (eqb-true a.instance b.instance both.1)

-- ---- places

-- an element of a list with one more at its end
pub get_push_cases : {A : Type 0} (xs : List A) (x : A) (j : ℕ) (v : A) → slice_get (xs ++ x ∷ []) j ≡ Some v → (slice_get xs j ≡ Some v) ⊎ ((j ≡ length xs) × (v ≡ x))
get_push_cases [] x zero v h = inr (refl, (cc))
get_push_cases [] x (suc j) v h = cc
get_push_cases (y ∷ xs) x zero v h = inl h
get_push_cases (y ∷ xs) x (suc j) v h = elim (get_push_cases xs x j v h) [ inl k ↦ inl k | inr k ↦ inr (ap suc k.0, k.1) ]

pub get_in : {A : Type 0} (xs : List A) (j : ℕ) (v : A) → slice_get xs j ≡ Some v → In v xs
get_in [] j v h = cc
get_in (x ∷ xs) zero v h = inl (let same : Some x ≡ Some v = h in cc)
get_in (x ∷ xs) (suc j) v h = inr (get_in xs j v h)

pub nth_in : {A : Type 0} (xs : List A) (k : ℕ) (v : A) → nth xs k ≡ Some v → In v xs
nth_in xs zero v h = none_some v h
nth_in xs (suc k) v h = get_in xs k v h

-- the place that was set, where there was one
pub nth-set_same : {A : Type 0} (xs : List A) (k : ℕ) (x v : A) → nth xs k ≡ Some v → nth (set_nth xs k x) k ≡ Some x
nth-set_same xs zero x v h = none_some v h
nth-set_same xs (suc k) x v h = get-set_same xs k x v h

-- any other place
pub nth-set_other : {A : Type 0} (xs : List A) (i k : ℕ) (x : A) → k ≢ i → nth (set_nth xs i x) k ≡ nth xs k
nth-set_other xs zero k x ne = refl
nth-set_other xs (suc i) zero x ne = refl
nth-set_other xs (suc i) (suc k) x ne = get-set_other xs i k x (λ e. ne (ap suc e))

-- an element of a list with one place set
pub nth_set_cases : {A : Type 0} (xs : List A) (i : ℕ) (x old : A) (k : ℕ) (v : A) → nth xs i ≡ Some old → nth (set_nth xs i x) k ≡ Some v
    → ((k ≡ i) × (v ≡ x)) ⊎ ((k ≢ i) × (nth xs k ≡ Some v))
nth_set_cases xs i x old k v was h = elim (cases_eq k i) [
  | inl e ↦ inl (e, some_is v x (sym h ∙ ap (nth (set_nth xs i x)) e ∙ nth-set_same xs i x old was))
  | inr ne ↦ inr (ne, sym (nth-set_other xs i k x ne) ∙ h)
]

pub nth-append : {A : Type 0} (xs ys : List A) (k : ℕ) (v : A) → nth xs k ≡ Some v → nth (xs ++ ys) k ≡ Some v
nth-append xs ys zero v h = none_some v h
nth-append xs ys (suc k) v h = get_front xs ys k v h

pub nth-push : {A : Type 0} (xs : List A) (x : A) → nth (xs ++ x ∷ []) (suc (length xs)) ≡ Some x
nth-push xs x = get_push_end xs x

pub nth_push_cases : {A : Type 0} (xs : List A) (x : A) (k : ℕ) (v : A) → nth (xs ++ x ∷ []) k ≡ Some v → (nth xs k ≡ Some v) ⊎ ((k ≡ length xs + 1) × (v ≡ x))
nth_push_cases xs x zero v h = none_some v h
nth_push_cases xs x (suc k) v h = elim (get_push_cases xs x k v h) [ inl e ↦ inl e | inr e ↦ (let at : k ≡ length xs = e.0 in inr (omega arith, e.1)) ]

pub front_refl : {A : Type 0} (xs : List A) → IsFrontOf xs xs
front_refl xs = ([], sym (append-nil xs))

pub front_trans : {A : Type 0} (xs ys zs : List A) → IsFrontOf xs ys → IsFrontOf ys zs → IsFrontOf xs zs
front_trans xs ys zs p q = (p.0 ++ q.0, q.1 ∙ ap (λ l. l ++ q.0) p.1 ∙ append_assoc xs p.0 q.0)

pub front_get : {A : Type 0} (xs ys : List A) (j : ℕ) (v : A) → IsFrontOf xs ys → slice_get xs j ≡ Some v → slice_get ys j ≡ Some v
front_get xs ys j v p h = rw p.1 (get_front xs p.0 j v h)

-- ---- tests of lists

pub any_in : {A : Type 0} (test : A → Bool) (x : A) (xs : List A) → In x xs → test x ≡ true → list_any test xs ≡ true
any_in test x [] i h = absurd i
any_in test x (y ∷ xs) (inl e) h = (let t : test y ≡ true = subst (λ z. test z ≡ true) e h in rw t refl)
any_in test x (y ∷ xs) (inr i) h = elim (cases_Bool (test y)) [ inl t ↦ rw t refl | inr t ↦ rw t (any_in test x xs i h) ]

pub from_any : {A : Type 0} (test : A → Bool) (xs : List A) → list_any test xs ≡ true → (x : A) × In x xs × (test x ≡ true)
from_any test [] h = (let bad : false ≡ true = h in cc)
from_any test (y ∷ xs) h = elim (cases_Bool (test y)) [
  | inl t ↦ (y, inl refl, t)
  | inr t ↦ (let r = from_any test xs (rw t at h) in (r.0, inr r.1, r.2))
]

pub any_none : {A : Type 0} (test : A → Bool) (x : A) (xs : List A) → list_any test xs ≡ false → In x xs → test x ≡ false
any_none test x xs h i = elim (cases_Bool (test x)) [ inl t ↦ true_false (list_any test xs) (any_in test x xs i t) h | inr f ↦ f ]

pub in_filter : {A : Type 0} (test : A → Bool) (x : A) (xs : List A) → In x xs → test x ≡ true → In x (filter test xs)
in_filter test x [] i h = absurd i
in_filter test x (y ∷ xs) (inl e) h = (let t : test y ≡ true = subst (λ z. test z ≡ true) e h in rw t (inl e))
in_filter test x (y ∷ xs) (inr i) h = elim (cases_Bool (test y)) [
  | inl t ↦ rw t (inr (in_filter test x xs i h))
  | inr t ↦ rw t (in_filter test x xs i h)
]

pub from_filter : {A : Type 0} (test : A → Bool) (x : A) (xs : List A) → In x (filter test xs) → In x xs × (test x ≡ true)
from_filter test x [] i = absurd i
from_filter test x (y ∷ xs) i = elim (cases_Bool (test y)) [
  | inl t ↦ elim (let j : In x (y ∷ filter test xs) = rw t at i in j) [
    | inl e ↦ (inl e, subst (λ z. test z ≡ true) (sym e) t)
    | inr j ↦ (let r = from_filter test x xs j in (inr r.0, r.1))
  ]
  | inr t ↦ (let r = from_filter test x xs (rw t at i) in (inr r.0, r.1))
]

-- what holds of all holds of each
pub all_in : {A : Type 0} (P : A → Type 0) (xs : List A) → All P xs → (x : A) → In x xs → P x
all_in P [] h x i = absurd i
all_in P (y ∷ ys) h x (inl e) = subst P (sym e) (h 0 y (omega arith))
all_in P (y ∷ ys) h x (inr i) = all_in P ys (λ k d inside. h (suc k) d (omega arith)) x i

pub names_same : (n n' : NodeId) (l l' : Life) (a a' : Ask) → n ≡ n' → l ≡ l' → a ≡ a' → ((eqb n.0 n'.0) && (eqb l.0 l'.0) && (eqb a.0 a'.0)) ≡ true
names_same n n' l l' a a' p q r =
    let x : eqb n.0 n'.0 ≡ true = subst (λ (z : NodeId). eqb n.0 z.0 ≡ true) p (eqb_same n.0) in
    let y : eqb l.0 l'.0 ≡ true = subst (λ (z : Life). eqb l.0 z.0 ≡ true) q (eqb_same l.0) in
    let w : eqb a.0 a'.0 ≡ true = subst (λ (z : Ask). eqb a.0 z.0 ≡ true) r (eqb_same a.0) in
    rw (x, y, w) refl

pub request_is : (a a' : Ask) (ws ws' : List Want) (t t' : Bool) → Acquire a ws t ≡ Acquire a' ws' t' → (a ≡ a') × (ws ≡ ws') × (t ≡ t')
request_is a a' ws ws' t t' e = (cc, cc, cc)

pub both_true : (a b : Bool) → a ≡ true → b ≡ true → (a && b) ≡ true
both_true a b p q = rw (p, q) refl

pub ge_from : (a b : ℕ) → not (nat_lt a b) ≡ true → b ≤ a
ge_from a b h = grind (arith, nat_tests)
