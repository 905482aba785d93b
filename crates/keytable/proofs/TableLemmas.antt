-- Entries by their keys.
use Rattle.std.proofs.Common.{◌≡◌, ℕ, zero, suc, ◌+◌, inl, inr, IfSome, IfNone, Bool, true, false, not, cond, List, [], ◌∷◌, map, Option, Some, None, is_some, slice_get, refl, ap, sym, ◌∙◌, subst, arith}
use Rattle.std.specs.List.{position, position_from, AllByRecursion, IsDistinct}
use Rattle.std.proofs.lemmas.Bool.{cases_Bool}
use Rattle.std.proofs.lemmas.Iterator.Adapters.{position_from-zero}
use Rattle.std.proofs.lemmas.Map.Keys.{IsDistinct-head, IsDistinct-tail}
use Rattle.names.specs.declared.digest.Key.{Key}
use Rattle.keytable.specs.declared.entry.Entry.{Entry}
use Rattle.keytable.specs.Tables.{key_eq, key_of}
pub use Rattle.solverkeys.proofs.KeyedLemmas.{key_same, key_eq_is}

-- the entry that a test of keys finds
pub record FoundAt (test : Key → Bool) (es : List Entry) (i n : ℕ) : Type 0 where
  pub number : ℕ
  pub entry : Entry
  pub at : slice_get es number ≡ Some entry
  pub place : n ≡ i + number
  pub passes : test entry.key ≡ true

found_from : (test : Key → Bool) (es : List Entry) (i n : ℕ) → position_from test i (map key_of es) ≡ Some n → FoundAt test es i n
found_from test [] i n h = absurd (cc)
found_from test (x ∷ es) i n h = elim (cases_Bool (test x.key)) [
  | inl met ↦ (let is : cond true (Some i) (position_from test (i + 1) (map key_of es)) ≡ Some n = ap (λ (b : Bool). cond b (Some i) (position_from test (i + 1) (map key_of es))) (sym met) ∙ h in
      let same : ◌≡◌ {A = Option ℕ} (Some i) (Some n) = is in
      record { number = 0; entry = x; at = refl; place = (let j : i ≡ n = cc in omega (arith, j)); passes = met })
  | inr unmet ↦ (let is : position_from test (i + 1) (map key_of es) ≡ Some n = ap (λ (b : Bool). cond b (Some i) (position_from test (i + 1) (map key_of es))) (sym unmet) ∙ h in
      let f = found_from test es (i + 1) n is in
      record { number = suc f.number; entry = f.entry; at = f.at; place = (let p = f.place in omega (arith, p)); passes = f.passes })
]

-- a test that finds nothing
cond_none : (b : Bool) (i : ℕ) (r : Option ℕ) → cond b (Some i) r ≡ None → (b ≡ false) × (r ≡ None)
cond_none true i r h = absurd (cc h)
cond_none false i r h = (refl, h)

missing_from : (test : Key → Bool) (es : List Entry) (i : ℕ) → position_from test i (map key_of es) ≡ None → (number : ℕ) (entry : Entry) → slice_get es number ≡ Some entry → test entry.key ≡ false
missing_from test [] i h number entry e = absurd (cc)
missing_from test (x ∷ es) i h zero entry e =
    let same : x ≡ entry = cc in
    subst (λ (z : Entry). test z.key ≡ false) same (cond_none (test x.key) i (position_from test (i + 1) (map key_of es)) h).0
missing_from test (x ∷ es) i h (suc number) entry e =
    missing_from test es (i + 1) (cond_none (test x.key) i (position_from test (i + 1) (map key_of es)) h).1 number entry e

-- the number of a key
pub found_number : (es : List Entry) (key : Key) (n : ℕ) → position (key_eq key) (map key_of es) ≡ Some n → (entry : Entry) × (slice_get es n ≡ Some entry) × (entry.key ≡ key)
found_number es key n h =
    let f = found_from (key_eq key) es 0 n (sym (position_from-zero (key_eq key) (map key_of es)) ∙ h) in
    let same : n ≡ f.number = (let p = f.place in omega (arith, p)) in
    (f.entry, ap (slice_get es) same ∙ f.at, sym (key_same key f.entry.key f.passes))

-- no number of a key
pub missing_number : (es : List Entry) (key : Key) → position (key_eq key) (map key_of es) ≡ None → (number : ℕ) (entry : Entry) → slice_get es number ≡ Some entry → entry.key ≡ key → ⊥
missing_number es key h number entry e same =
    let not_it = missing_from (key_eq key) es 0 (sym (position_from-zero (key_eq key) (map key_of es)) ∙ h) number entry e in
    let it = key_eq_is key entry.key (sym same) in
    cc (it, not_it)

differ : (es : List Entry) (key : Key) → AllByRecursion (λ (k : Key). key_eq key k ≡ false) (map key_of es) → (number : ℕ) (entry : Entry) → slice_get es number ≡ Some entry → entry.key ≡ key → ⊥
differ [] key h number entry e same = absurd (cc)
differ (x ∷ es) key h zero entry e same =
    let is : x ≡ entry = cc in
    let it = key_eq_is key x.key (sym (ap key_of is ∙ same)) in
    let not_it = h.0 in
    cc (it, not_it)
differ (x ∷ es) key h (suc number) entry e same = differ es key h.1 number entry e same

-- a key has one number
pub one_number : (es : List Entry) → IsDistinct key_eq (map key_of es) → (n m : ℕ) (e f : Entry) → slice_get es n ≡ Some e → slice_get es m ≡ Some f → e.key ≡ f.key → n ≡ m
one_number [] h n m e f p q same = absurd (cc)
one_number (x ∷ es) h zero zero e f p q same = refl
one_number (x ∷ es) h zero (suc m) e f p q same =
    let is : x ≡ e = cc in
    absurd (differ es x.key (IsDistinct-head key_eq x.key (map key_of es) h) m f q (sym (ap key_of is ∙ same)))
one_number (x ∷ es) h (suc n) zero e f p q same =
    let is : x ≡ f = cc in
    absurd (differ es x.key (IsDistinct-head key_eq x.key (map key_of es) h) n e p (same ∙ sym (ap key_of is)))
one_number (x ∷ es) h (suc n) (suc m) e f p q same = ap suc (one_number es (IsDistinct-tail key_eq x.key (map key_of es) h) n m e f p q same)

-- what a look-up by key answers
pub looked_up : (es : List Entry) (keys : List Key) (key : Key) (r : Option ℕ) → keys ≡ map key_of es → r ≡ position (key_eq key) keys → position (key_eq key) (map key_of es) ≡ r
looked_up es keys key r listed is = sym (is ∙ ap (position (key_eq key)) listed)

pub if_found : (es : List Entry) (key : Key) (r : Option ℕ) → position (key_eq key) (map key_of es) ≡ r → IfSome r (λ n. (entry : Entry) × (slice_get es n ≡ Some entry) × (entry.key ≡ key))
if_found es key None h = tt
if_found es key (Some n) h = found_number es key n h

pub if_missing : (es : List Entry) (key : Key) (r : Option ℕ) → position (key_eq key) (map key_of es) ≡ r → IfNone r ((number : ℕ) (entry : Entry) → slice_get es number ≡ Some entry → entry.key ≡ key → ⊥)
if_missing es key None h = missing_number es key h
if_missing es key (Some n) h = tt

-- what a test for none says
pub if_none : {A P : Type 0} (r : Option A) (b : Bool) → is_some r ≡ not b → b ≡ true → IfNone r P → P
if_none None b is met h = h
if_none (Some x) b is met h = absurd (cc (is, met))

pub if_some : {A : Type 0} {P : A → Type 0} (r : Option A) (b : Bool) → is_some r ≡ not b → b ≡ false → IfSome r P → (x : A) × P x
if_some None b is unmet h = absurd (cc (is, unmet))
if_some (Some x) b is unmet h = (x, h)
