-- Where a path stands among the files.
use Rattle.std.proofs.Common.{◌≡◌, ℕ, zero, suc, ◌+◌, ◌<◌, ◌≤◌, List, [], ◌∷◌, ◌⊎◌, false, length, get_or, Some, None, Result, Ok, Err, Ordering, refl, sym, ◌∙◌, ap, subst, inl, inr, arith}
use Rattle.std.specs.Prelude.{MatchResult}
use Rattle.std.specs.List.Sorted.{IsStrictlySortedBy, IsSortedBy, IsSearchInRange, IsBinarySearchResult}
use Rattle.std.specs.Map.{keys_of}
use Rattle.std.specs.Ordering.{is_lt, is_eq, ordering_reverse}
use Rattle.std.specs.declared.cmp.Ordering.TheVariants.{Less, Equal, Greater}
use Rattle.std.specs.Cmp.Lexicographic.{nat_list_cmp_total}
use Rattle.std.proofs.lemmas.List.{get_or-map, length-map}
use Rattle.std.proofs.lemmas.List.Sorted.{searchable_from_sorted}
use Rattle.std.proofs.lemmas.Result.{MatchResult-at_ok, MatchResult-at_err}
use Rattle.std.proofs.lemmas.Map.Keys.{Less-from_sorted, sorted_tail}
use Rattle.folders.specs.Files.{Files, path_cmp, content_at}

abbrev pub Pair : Type 0
Pair = List ℕ × List ℕ

abbrev pub Rise : Files → Type 0
Rise files = IsStrictlySortedBy path_cmp (keys_of files)

pub reversed : (a b : List ℕ) (o : Ordering) → path_cmp a b ≡ o → path_cmp b a ≡ ordering_reverse o
reversed a b o e = nat_list_cmp_total.antisymm b a ∙ ap ordering_reverse e

pub less_at : (files : Files) (i j : ℕ) (d : Pair) → Rise files → i < j → j < length files → path_cmp (get_or files i d).0 (get_or files j d).0 ≡ Less
less_at files i j d up lt inside =
    let inside' : j < length (keys_of files) = omega (arith, length-map files (λ (f : Pair). f.0)) in
    let less = Less-from_sorted path_cmp (keys_of files) i j d.0 up lt inside' in
    let low : get_or (keys_of files) i d.0 ≡ (get_or files i d).0 = get_or-map (λ (f : Pair). f.0) files i d d.0 (omega arith) in
    let high : get_or (keys_of files) j d.0 ≡ (get_or files j d).0 = get_or-map (λ (f : Pair). f.0) files j d d.0 inside in
    ap (λ p. path_cmp p (get_or files j d).0) (sym low) ∙ ap (path_cmp (get_or (keys_of files) i d.0)) (sym high) ∙ less

in_order : (files : Files) → Rise files → IsSortedBy (λ a b. is_lt (path_cmp a.0 b.0)) files
in_order files up k d low inside = ap is_lt (reversed (get_or files k d).0 (get_or files (k + 1) d).0 Less (less_at files k (k + 1) d up (omega arith) inside))

content_at-place : (files : Files) (path : List ℕ) (k : ℕ) (d : Pair) → Rise files → k < length files → path_cmp (get_or files k d).0 path ≡ Equal → content_at files path ≡ Some (get_or files k d).1
content_at-place [] path k d up lt e = absurd (omega arith)
content_at-place (f ∷ fs) path zero d up lt e = rw (reversed f.0 path Equal e) refl
content_at-place (f ∷ fs) path (suc k) d up lt e =
    let less : path_cmp f.0 (get_or fs k d).0 ≡ Less = less_at (f ∷ fs) 0 (suc k) d up (omega arith) lt in
    let other : path_cmp path f.0 ≡ Greater = sym (nat_list_cmp_total.congr (get_or fs k d).0 path f.0 e) ∙ reversed f.0 (get_or fs k d).0 Less less in
    rw other (content_at-place fs path k d (sorted_tail path_cmp f.0 (keys_of fs) up) (omega arith) e)

content_at-none : (files : Files) (path : List ℕ) → ((i : ℕ) (d : Pair) → i < length files → is_eq (path_cmp path (get_or files i d).0) ≡ false) → content_at files path ≡ None
content_at-none [] path h = refl
content_at-none (f ∷ fs) path h = rw (h 0 f (omega arith)) (content_at-none fs path (λ i d lt. h (suc i) d (omega arith)))

-- what a binary search by the path finds
searched : (path : List ℕ) (files : Files) (r : Result ℕ ℕ) → Rise files → IsSearchInRange r (length files) → IsBinarySearchResult (λ f. path_cmp f.0 path) files r
    → MatchResult r (λ k. (d : Pair) → content_at files path ≡ Some (get_or files k d).1) (λ k. content_at files path ≡ None)
searched path files (Ok k) up inside at = λ d. content_at-place files path k d up inside (at d)
searched path files (Err k) up inside parts =
    let p = parts (searchable_from_sorted nat_list_cmp_total (λ (f : Pair). f.0) files path (in_order files up)) in
    content_at-none files path (λ i d lt. elim (split i k) [
      | inl low ↦ ap is_eq (reversed (get_or files i d).0 path Less (p.0 i d (omega arith) low))
      | inr high ↦ ap is_eq (reversed (get_or files i d).0 path Greater (p.1 i d high lt))
    ])
  where
    split : (a b : ℕ) → (a < b) ⊎ (b ≤ a)
    split a b = grind arith

-- the content at the place that is found
pub place_found : (path : List ℕ) (files lent : Files) (r : Result ℕ ℕ) (k : ℕ) (d : Pair) → lent ≡ files → Rise files → IsSearchInRange r (length lent) → IsBinarySearchResult (λ f. path_cmp f.0 path) lent r → r ≡ Ok k
    → content_at files path ≡ Some (get_or lent k d).1
place_found path files lent r k d same up inside at is =
    let found = searched path lent r (subst Rise (sym same) up) inside at in
    ap (λ (fs : Files). content_at fs path) (sym same) ∙ MatchResult-at_ok (λ k. (d : Pair) → content_at lent path ≡ Some (get_or lent k d).1) (λ k. content_at lent path ≡ None) k is found d

pub place_missed : (path : List ℕ) (files lent : Files) (r : Result ℕ ℕ) (k : ℕ) → lent ≡ files → Rise files → IsSearchInRange r (length lent) → IsBinarySearchResult (λ f. path_cmp f.0 path) lent r → r ≡ Err k
    → content_at files path ≡ None
place_missed path files lent r k same up inside at is =
    let found = searched path lent r (subst Rise (sym same) up) inside at in
    ap (λ (fs : Files). content_at fs path) (sym same) ∙ MatchResult-at_err (λ k. (d : Pair) → content_at lent path ≡ Some (get_or lent k d).1) (λ k. content_at lent path ≡ None) k is found
