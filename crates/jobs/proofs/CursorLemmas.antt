-- What the cursors know of the inputs.
use Rattle.std.proofs.Common.{◌≡◌, ℕ, zero, suc, ◌+◌, ◌-◌, ◌<◌, inl, inr, List, [], ◌∷◌, ◌++◌, length, take, set, get_or, replicate, Some, slice_get, refl, ap, sym, ◌∙◌, subst, arith}
use Rattle.std.proofs.lemmas.Bool.{cases_eq, cases_lt}
use Rattle.std.proofs.lemmas.List.{length-set, length-append, length-replicate, take_all, get_or-set_same, get_or-set_other, get_or_past}
use Rattle.names.specs.declared.digest.Key.{Key}
use Rattle.lists.proofs.Places.{at_place, get_set_cases, some_is}
use Rattle.vertices.specs.Loading.{GraphParts}
use Rattle.keytable.specs.declared.entry.Entry.{Entry}
use Rattle.keytable.specs.declared.entry.Fault.{Fault}
use Rattle.keytable.specs.declared.entry.Progress.{Progress}
use Rattle.keytable.specs.declared.entry.Progress.TheVariants.{Done, Failed}
use Rattle.keytable.specs.Adding.{AreAdded}
use Rattle.jobs.specs.ReadyLists.{AreCursors, AreThereBefore}
use Rattle.jobs.proofs.AddLemmas.{added_grows, added_left}
use Rattle.keytable.proofs.ProgressLemmas.{Grows, has_grows, moved_grows}

-- what is there stays there
before_grows : (old new : List Entry) → Grows old new → (place : ℕ) (inputs : List (Key × ℕ)) → AreThereBefore old place inputs → AreThereBefore new place inputs
before_grows old new grows place inputs before lower input less at = let out = before lower input less at in (out.0, has_grows old new grows input out.0 out.1)

-- one cursor moves on
pub cursors_set : (es : List Entry) (old new : List ℕ) (n place : ℕ) (e : Entry) → slice_get es n ≡ Some e → n < length es → new ≡ set old n place → AreThereBefore es place e.inputs → AreCursors es old → AreCursors es new
cursors_set es old new n place e at within new_is before h = subst (AreCursors es) (sym new_is) (record {
  count = length-set old n place ∙ h.count;
  there = λ m f there. elim (cases_eq m n) [
    | inl same ↦ (let one : e ≡ f = some_is e f (sym at ∙ ap (slice_get es) (sym same) ∙ there) in
        let less : n < length old = (let c = h.count in omega (arith, c, within)) in
        let cursor : get_or (set old n place) m 0 ≡ place = ap (λ k. get_or (set old n place) k 0) same ∙ get_or-set_same old n place 0 less in
        subst (λ (x : Entry). AreThereBefore es (get_or (set old n place) m 0) x.inputs) one (subst (λ k. AreThereBefore es k e.inputs) (sym cursor) before))
    | inr apart ↦ subst (λ k. AreThereBefore es k f.inputs) (sym (get_or-set_other old n m place 0 apart)) (h.there m f there)
  ];
})

-- one key moves on
pub cursors_moved : (es : List Entry) (n : ℕ) (e : Entry) (at : slice_get es n ≡ Some e) (to : Progress) (now : List Entry) (cursors : List ℕ) → ((outputs : List _) → e.progress ≡ Done outputs → ⊥) → ((fault : Fault) → e.progress ≡ Failed fault → ⊥)
    → now ≡ set es n (record e { progress = to }) → AreCursors es cursors → AreCursors now cursors
cursors_moved es n e at to now cursors not_done not_failed now_is h =
    let grows : Grows es now = subst (Grows es) (sym now_is) (moved_grows es n e at to not_done not_failed) in
    record {
      count = h.count ∙ sym (ap length now_is ∙ length-set es n (record e { progress = to }));
      there = λ m f there. elim (get_set_cases es n m (record e { progress = to }) e f at (ap (λ (xs : List Entry). slice_get xs m) (sym now_is) ∙ there)) [
        | inl same ↦ (let before = before_grows es now grows (get_or cursors n 0) e.inputs (h.there n e at) in
            subst (λ (x : Entry). AreThereBefore now (get_or cursors m 0) x.inputs) same.1 (subst (λ k. AreThereBefore now (get_or cursors k 0) e.inputs) (sym same.0) before))
        | inr other ↦ before_grows es now grows (get_or cursors m 0) f.inputs (h.there m f other.1)
      ];
    }

-- what comes behind cursors are zeros
zeros : (count n : ℕ) → ◌≡◌ {A = ℕ} (get_or (replicate count 0) n 0) 0
zeros zero n = refl
zeros (suc count) zero = refl
zeros (suc count) (suc n) = zeros count n

padded : (xs : List ℕ) (count n : ℕ) → ◌≡◌ {A = ℕ} (get_or (xs ++ replicate count 0) n 0) (get_or xs n 0)
padded [] count n = zeros count n
padded (x ∷ xs) count zero = refl
padded (x ∷ xs) count (suc n) = padded xs count n

-- keys are added
pub cursors_added : (g : GraphParts) (keys : List Key) (old new : List Entry) (h : AreAdded g keys old new) (was now : List ℕ) → now ≡ take (length new) was ++ replicate (length new - length was) 0 → AreCursors old was → AreCursors new now
cursors_added g keys old new h was now now_is c =
    let longer : length new ≡ length old + length h.added = ap length h.new_is ∙ length-append old h.added in
    let count = c.count in
    let all : take (length new) was ≡ was = take_all (length new) was (omega (arith, count, longer)) in
    let is : now ≡ was ++ replicate (length new - length was) 0 = now_is ∙ ap (λ (xs : List ℕ). xs ++ replicate (length new - length was) 0) all in
    subst (AreCursors new) (sym is) (record {
      count = (let a = length-append {A = ℕ} was (replicate (length new - length was) 0) in let r = length-replicate {A = ℕ} (length new - length was) 0 in omega (arith, a, r, count, longer));
      there = λ n f there. subst (λ k. AreThereBefore new k f.inputs) (sym (padded was (length new - length was) n)) (elim (cases_lt n (length old)) [
        | inl less ↦ (let o = at_place old n less in
            let one : o.0 ≡ f = some_is o.0 f (sym (added_left g keys old new h n o.0 o.1) ∙ there) in
            subst (λ (x : Entry). AreThereBefore new (get_or was n 0) x.inputs) one (before_grows old new (added_grows g keys old new h) (get_or was n 0) o.0.inputs (c.there n o.0 o.1)))
        | inr past ↦ subst (λ k. AreThereBefore new k f.inputs) (sym (get_or_past was n 0 (omega (arith, count, past)))) (λ lower input less at. absurd (omega (arith, less)))
      ]);
    })
