-- The first ask that a test picks.
use Rattle.std.proofs.Common.{◌≡◌, ℕ, ◌+◌, ◌<◌, Bool, cond, List, [], ◌∷◌, refl, ap, subst, sym, ◌∙◌, Option, Some, None, is_some, length, get_or, add-one, arith}
use Rattle.std.proofs.lemmas.Iterator.Adapters.{position_from-zero}
use Rattle.std.specs.List.{position, position_from}
use Rattle.events.specs.declared.ask.KeptAsk.{KeptAsk}
use Rattle.protocol.specs.Nodes.{HeldGrant, first, first_of}
use Rattle.protocol.proofs.Base.{some_is}

-- whether the test gives something
abbrev pub picks : {A : Type 0} → (KeptAsk → Option A) → KeptAsk → Bool
picks test ask = is_some (test ask)

-- the ask at place j is the first that the test picks, after k others
pub record FirstAt {A : Type 0} (test : KeptAsk → Option A) (asks : List KeptAsk) (k j : ℕ) : Type 0 where
  pub inside : j < length asks
  pub what : A
  pub here : (d : KeptAsk) → test (get_or asks j d) ≡ Some what
  pub found : (a : ℕ) → a ≡ k + (j + 1) → first test asks k ≡ Some (a, what)

none_step : {A : Type 0} (o : Option A) (i a : ℕ) (r : Option ℕ) (s : Option (ℕ × A)) → (r ≡ None → s ≡ None) → cond (is_some o) (Some i) r ≡ None → first_of a o s ≡ None
none_step None i a r s ih h = ih h
none_step (Some x) i a r s ih h = absurd (cc)

none_from : {A : Type 0} (test : KeptAsk → Option A) (asks : List KeptAsk) (i k : ℕ) → position_from (picks test) i asks ≡ None → first test asks k ≡ None
none_from test [] i k h = refl
none_from test (x ∷ xs) i k h = none_step (test x) i (k + 1) (position_from (picks test) (i + 1) xs) (first test xs (k + 1)) (none_from test xs (i + 1) (k + 1)) h

some_step : {A : Type 0} (test : KeptAsk → Option A) (x : KeptAsk) (xs : List KeptAsk) (o : Option A) → test x ≡ o → (i n k : ℕ) → cond (is_some o) (Some i) (position_from (picks test) (i + 1) xs) ≡ Some n
    → (position_from (picks test) (i + 1) xs ≡ Some n → (j : ℕ) × (n ≡ (i + 1) + j) × FirstAt test xs (k + 1) j)
    → (j : ℕ) × (n ≡ i + j) × FirstAt test (x ∷ xs) k j
some_step test x xs None e i n k h ih =
    let (j, at, f) = ih h in (
      j + 1,
      omega (arith, at),
      record {
        inside = omega (arith, f.inside);
        what = f.what;
        here = λ d. rw add-one (f.here d);
        found = λ a is. ap (λ z. first_of (k + 1) z (first test xs (k + 1))) e ∙ f.found a (omega (arith, is));
      },
    )
some_step test x xs (Some w) e i n k h ih =
    let same : i ≡ n = cc in (
      0,
      omega (arith, same),
      record {
        inside = omega arith;
        what = w;
        here = λ d. e;
        found = λ a is. let num : k + 1 ≡ a = omega (arith, is) in ap (λ z. first_of (k + 1) z (first test xs (k + 1))) e ∙ ap (λ (b : ℕ). Some (b, w)) num;
      },
    )

some_from : {A : Type 0} (test : KeptAsk → Option A) (asks : List KeptAsk) (i n k : ℕ) → position_from (picks test) i asks ≡ Some n → (j : ℕ) × (n ≡ i + j) × FirstAt test asks k j
some_from test [] i n k h = absurd (cc)
some_from test (x ∷ xs) i n k h = some_step test x xs (test x) refl i n k h (some_from test xs (i + 1) n (k + 1))

-- no ask is picked
pub none_first : {A : Type 0} (test : KeptAsk → Option A) (asks : List KeptAsk) → position (picks test) asks ≡ None → first test asks 0 ≡ None
none_first test asks h = none_from test asks 0 0 (sym (position_from-zero (picks test) asks) ∙ h)

-- the ask at this place is picked
pub some_first : {A : Type 0} (test : KeptAsk → Option A) (asks : List KeptAsk) (i : ℕ) → position (picks test) asks ≡ Some i → FirstAt test asks 0 i
some_first test asks i h =
    let (j, at, f) = some_from test asks 0 i 0 (sym (position_from-zero (picks test) asks) ∙ h) in
    let same : j ≡ i = omega (arith, at) in
    subst (FirstAt test asks 0) same f

picked_by : {A : Type 0} (test : KeptAsk → Option A) (asks : List KeptAsk) (o : Option ℕ) → position (picks test) asks ≡ o → is_some o ≡ is_some (first test asks 0)
picked_by test asks None h = ap is_some (sym (none_first test asks h))
picked_by test asks (Some i) h = (let f = some_first test asks i h in ap is_some (sym (f.found (i + 1) (omega arith))))

-- an ask is picked exactly where there is a first one
pub picked : {A : Type 0} (test : KeptAsk → Option A) (asks : List KeptAsk) → is_some (position (picks test) asks) ≡ is_some (first test asks 0)
picked test asks = picked_by test asks (position (picks test) asks) refl

-- a test picks one ask first
pub first_is : (test : KeptAsk → Option HeldGrant) (asks : List KeptAsk) (a b : ℕ) (h k : HeldGrant) → first test asks 0 ≡ Some (a, h) → first test asks 0 ≡ Some (b, k) → h ≡ k
first_is test asks a b h k e f = ap (λ (p : ℕ × HeldGrant). p.1) (some_is (a, h) (b, k) (sym e ∙ f))
