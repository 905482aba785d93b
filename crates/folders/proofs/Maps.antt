-- Edits as updates of a map.
use Rattle.std.proofs.Common.{◌≡◌, ℕ, Bool, true, false, cond, List, [], ◌∷◌, Some, None, Ordering, refl, sym, ◌∙◌, ap}
use Rattle.std.specs.BTreeMap.{insert_entry, is_at}
use Rattle.std.specs.List.{AllByRecursion}
use Rattle.std.specs.List.Sorted.{IsStrictlySortedBy}
use Rattle.std.specs.Map.{keys_of, remove_entry}
use Rattle.std.specs.Ordering.{is_eq, match_ordering}
use Rattle.std.specs.Str.{bytes_eq}
use Rattle.std.specs.declared.cmp.Ordering.TheVariants.{Less, Equal, Greater}
use Rattle.std.specs.Cmp.Lexicographic.{nat_list_cmp_total}
use Rattle.std.proofs.lemmas.Cmp.{eq_by_cmp_equiv}
use Rattle.std.proofs.lemmas.Map.{lookup-remove_entry}
use Rattle.std.proofs.lemmas.Map.Keys.{IsDistinct-from_sorted}
use Rattle.std.proofs.lemmas.Map.Lookups.{exact_bytes}
use Rattle.std.proofs.lemmas.Map.Text.{is_eq-slice_cmp}
use Rattle.folders.specs.declared.edit.Edit.{Edit}
use Rattle.folders.specs.declared.edit.Edit.TheVariants.{Put, Remove}
use Rattle.folders.specs.Edits.{edited, edited_all}
use Rattle.folders.specs.Files.{Files, path_cmp, content_at}
use Rattle.folders.proofs.Places.{Rise, reversed}

abbrev File : Type 0
File = List ℕ × List ℕ

equal_is : (o : Ordering) → is_eq o ≡ true → o ≡ Equal
equal_is Less h = cc h
equal_is Equal h = refl
equal_is Greater h = cc h

-- equal paths compare the same way with any other path
same_order : (a b c : List ℕ) (o : Ordering) → path_cmp b c ≡ o → is_eq (path_cmp a b) ≡ true → path_cmp a c ≡ o
same_order a b c o e same = nat_list_cmp_total.congr a b c (equal_is (path_cmp a b) same) ∙ e

-- two tests of which the first rules the second out
apart : {A : Type 0} (s t : Bool) (x y z : A) → (s ≡ true → t ≡ false) → cond t y (cond s x z) ≡ cond s x (cond t y z)
apart true true x y z h = (let bad = h refl in absurd (cc bad))
apart true false x y z h = refl
apart false true x y z h = refl
apart false false x y z h = refl

twice : {A : Type 0} (b : Bool) (x y z : A) → cond b x z ≡ cond b x (cond b y z)
twice true x y z = refl
twice false x y z = refl

put_at : (files : Files) (path content other : List ℕ) → content_at (insert_entry path_cmp files path content) other ≡ cond (is_eq (path_cmp other path)) (Some content) (content_at files other)
put_at [] path content other = refl
put_at (f ∷ fs) path content other = by_order (path_cmp path f.0) refl (put_at fs path content other)
  where
    by_order : (o : Ordering) → path_cmp path f.0 ≡ o → content_at (insert_entry path_cmp fs path content) other ≡ cond (is_eq (path_cmp other path)) (Some content) (content_at fs other)
        → content_at (match_ordering o ((path, content) ∷ f ∷ fs) ((f.0, content) ∷ fs) (f ∷ insert_entry path_cmp fs path content)) other ≡ cond (is_eq (path_cmp other path)) (Some content) (content_at (f ∷ fs) other)
    by_order Less e h = refl
    by_order Equal e h = twice (is_eq (path_cmp other f.0)) (Some content) (Some f.1) (content_at fs other)
        ∙ ap (λ (p : List ℕ). cond (is_eq (path_cmp other p)) (Some content) (content_at (f ∷ fs) other)) (sym (exact_bytes path f.0 e))
    by_order Greater e h = rw h (apart (is_eq (path_cmp other path)) (is_eq (path_cmp other f.0)) (Some content) (Some f.1) (content_at fs other) (λ same. ap is_eq (same_order other path f.0 Greater e same)))

pub put-content_at : (files : Files) (path content other : List ℕ) → content_at (edited files (Put path content)) other ≡ cond (bytes_eq other path) (Some content) (content_at files other)
put-content_at files path content other = put_at files path content other ∙ ap (λ (b : Bool). cond b (Some content) (content_at files other)) (is_eq-slice_cmp other path)

pub remove-content_at : (files : Files) (path other : List ℕ) → Rise files → content_at (edited files (Remove path)) other ≡ cond (bytes_eq other path) None (content_at files other)
remove-content_at files path other up =
    let laws = eq_by_cmp_equiv nat_list_cmp_total in
    lookup-remove_entry laws (is_at (path_cmp path)) (λ x y same. laws.congr path x y same) other files (IsDistinct-from_sorted path_cmp (keys_of files) up)
    ∙ ap (λ (b : Bool). cond b None (content_at files other)) (laws.symm path other ∙ is_eq-slice_cmp other path)

-- a property of all paths and of the edit's path holds after the edit
put_keeps : (P : List ℕ → Type 0) (files : Files) (path content : List ℕ) → AllByRecursion P (keys_of files) → P path → AllByRecursion P (keys_of (insert_entry path_cmp files path content))
put_keeps P [] path content all here = (here, tt)
put_keeps P (f ∷ fs) path content all here = by_order (path_cmp path f.0) (put_keeps P fs path content all.1 here)
  where
    by_order : (o : Ordering) → AllByRecursion P (keys_of (insert_entry path_cmp fs path content))
        → AllByRecursion P (keys_of (match_ordering o ((path, content) ∷ f ∷ fs) ((f.0, content) ∷ fs) (f ∷ insert_entry path_cmp fs path content)))
    by_order Less h = (here, all)
    by_order Equal h = all
    by_order Greater h = (all.0, h)

above_all : (p q : List ℕ) (qs : List (List ℕ)) → path_cmp p q ≡ Less → AllByRecursion (λ r. path_cmp q r ≡ Less) qs → AllByRecursion (λ r. path_cmp p r ≡ Less) qs
above_all p q [] lt h = tt
above_all p q (r ∷ rs) lt h = (nat_list_cmp_total.trans p q r lt h.0, above_all p q rs lt h.1)

put_rises : (files : Files) (path content : List ℕ) → Rise files → Rise (insert_entry path_cmp files path content)
unfolding IsStrictlySortedBy
put_rises [] path content up = (tt, tt)
put_rises (f ∷ fs) path content up = by_order (path_cmp path f.0) refl (put_rises fs path content up.1)
  where
    by_order : (o : Ordering) → path_cmp path f.0 ≡ o → Rise (insert_entry path_cmp fs path content)
        → Rise (match_ordering o ((path, content) ∷ f ∷ fs) ((f.0, content) ∷ fs) (f ∷ insert_entry path_cmp fs path content))
    by_order Less e h = ((e, above_all path f.0 (keys_of fs) e up.0), up)
    by_order Equal e h = up
    by_order Greater e h = (put_keeps (λ r. path_cmp f.0 r ≡ Less) fs path content up.0 (reversed path f.0 Greater e), h)

remove_keeps : (P : List ℕ → Type 0) (test : List ℕ → Bool) (files : Files) → AllByRecursion P (keys_of files) → AllByRecursion P (keys_of (remove_entry test files))
remove_keeps P test [] all = tt
remove_keeps P test (f ∷ fs) all = by_test (test f.0) (remove_keeps P test fs all.1)
  where
    by_test : (b : Bool) → AllByRecursion P (keys_of (remove_entry test fs)) → AllByRecursion P (keys_of (cond b fs (f ∷ remove_entry test fs)))
    by_test true h = all.1
    by_test false h = (all.0, h)

remove_rises : (test : List ℕ → Bool) (files : Files) → Rise files → Rise (remove_entry test files)
unfolding IsStrictlySortedBy
remove_rises test [] up = tt
remove_rises test (f ∷ fs) up = by_test (test f.0) (remove_rises test fs up.1)
  where
    by_test : (b : Bool) → Rise (remove_entry test fs) → Rise (cond b fs (f ∷ remove_entry test fs))
    by_test true h = up.1
    by_test false h = (remove_keeps (λ r. path_cmp f.0 r ≡ Less) test fs up.0, h)

pub edited_rises : (files : Files) (edit : Edit) → Rise files → Rise (edited files edit)
edited_rises files (Put path content) up = put_rises files path content up
edited_rises files (Remove path) up = remove_rises (is_at (path_cmp path)) files up

pub edited_all_rises : (files : Files) (edits : List Edit) → Rise files → Rise (edited_all files edits)
edited_all_rises files [] up = up
edited_all_rises files (edit ∷ edits) up = edited_all_rises (edited files edit) edits (edited_rises files edit up)
