-- The first place of each key.
use Rattle.std.proofs.Common.{◌≡◌, ℕ, ◌+◌, ◌<◌, inl, inr, Bool, true, false, cond, List, length, Option, Some, None, IfSome, IfNone, slice_get, sym, ap, ◌∙◌, subst, arith}
use Rattle.std.specs.List.{Contains}
use Rattle.std.proofs.lemmas.Bool.{cases_eq, cases_Bool}
use Rattle.std.proofs.lemmas.Option.{slice_get_within}
use Rattle.names.specs.declared.digest.Digest.{Digest}
use Rattle.names.specs.declared.digest.Key.{Key}
use Rattle.names.proofs.CompareLaws.{digest_exact, digest_eq-itself}
use Rattle.lists.proofs.Places.{some_is, at_Contains}
use Rattle.vertices.specs.Loading.{GraphParts}
use Rattle.solverkeys.specs.GraphKeys.{AreKeys}
use Rattle.solverkeys.specs.Keyed.{key_eq, IsFirst, AreFirsts}

-- keys of the same bytes are one
pub key_same : (a b : Key) → key_eq a b ≡ true → a ≡ b
key_same a b e = ap (λ (d : Digest). let k : Key = record { 0 = d } in k) (digest_exact a.0 b.0 e)

pub key_eq_is : (a b : Key) → a ≡ b → key_eq a b ≡ true
key_eq_is a b e = subst (λ (k : Key). key_eq a k ≡ true) e (digest_eq-itself a.0)

module _ (keys : List Key) (n : ℕ) (key : Key) (at : slice_get keys n ≡ Some key) (first : Key → Option ℕ) (h : AreFirsts keys n first) where
  -- one more key, which is there already
  pub firsts_known : (first key ≡ None → ⊥) → AreFirsts keys (n + 1) first
  firsts_known known = record {
    found = λ k p e. let f = h.found k p e in let less = f.0 in (omega (arith, less), f.1);
    missing = λ k p less there none. elim (cases_eq p n) [
      | inl same ↦ (let one = some_is key k (sym at ∙ ap (slice_get keys) (sym same) ∙ there) in known (ap first one ∙ none))
      | inr apart ↦ h.missing k p (omega (arith, less, apart)) there none
    ];
  }

  -- one more key, which is new
  pub firsts_new : (more : Key → Option ℕ) → first key ≡ None → ((k : Key) → more k ≡ cond (key_eq key k) (Some n) (first k)) → AreFirsts keys (n + 1) more
  firsts_new more none more_is =
      let by : (k : Key) (b : Bool) → key_eq key k ≡ b → more k ≡ cond b (Some n) (first k)
      = λ k b e. more_is k ∙ ap (λ (c : Bool). cond c (Some n) (first k)) e in
      record {
        found = λ k p e. elim (cases_Bool (key_eq key k)) [
          | inl met ↦
              let is : n ≡ p = (let f = by k true met in cc (f, e)) in
              let one = key_same key k met in (
                omega (arith, is),
                record {
                  there = ap (slice_get keys) (sym is) ∙ at ∙ ap (λ (x : Key). Some x) one;
                  earlier = λ other less there. h.missing key other (omega (arith, is, less)) (there ∙ ap (λ (x : Key). Some x) (sym one)) none;
                },
              )
          | inr unmet ↦ (let f = h.found k p (sym (by k false unmet) ∙ e) in let less = f.0 in (omega (arith, less), f.1))
        ];
        missing = λ k p less there empty. elim (cases_Bool (key_eq key k)) [
          | inl met ↦ (let f = by k true met in cc (f, empty))
          | inr unmet ↦ elim (cases_eq p n) [
            | inl same ↦ (let met = key_eq_is key k (some_is key k (sym at ∙ ap (slice_get keys) (sym same) ∙ there)) in cc (met, unmet))
            | inr apart ↦ h.missing k p (omega (arith, less, apart)) there (sym (by k false unmet) ∙ empty)
          ]
        ];
      }

module _ (keys : List Key) (first : Key → Option ℕ) (h : AreFirsts keys (length keys) first) (key : Key) where
  -- what a look-up finds
  pub find_first : (r : Option ℕ) → r ≡ first key → IfSome r (IsFirst keys key)
  find_first None is = tt
  find_first (Some place) is = (h.found key place (sym is)).1

  pub find_within : (g : GraphParts) → AreKeys g keys → (r : Option ℕ) → r ≡ first key → IfSome r (λ place. place < length g.vertices)
  find_within g are None is = tt
  find_within g are (Some place) is = (let less = (h.found key place (sym is)).0 in let count = are.count in omega (arith, less, count))

  pub find_none : (r : Option ℕ) → r ≡ first key → IfNone r (Contains keys key → ⊥)
  find_none None is = λ has. (let at = at_Contains keys key has in h.missing key at.0 (slice_get_within keys at.0 key at.1) at.1 (sym is))
  find_none (Some place) is = tt
