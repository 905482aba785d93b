-- Files that a map lends.
use Rattle.std.proofs.Common.{◌≡◌, ℕ, zero, suc, ◌+◌, ◌<◌, Bool, true, false, cond, List, [], ◌∷◌, ◌++◌, map, length, get_or, take, Ordering, refl, sym, ◌∙◌, ap, arith, add-one, Bor}
use Rattle.std.specs.BTreeMap.{insert_entry, is_at}
use Rattle.std.specs.List.{AllByRecursion}
use Rattle.std.specs.List.Sorted.{IsStrictlySortedBy}
use Rattle.std.specs.Map.{keys_of, remove_entry}
use Rattle.std.specs.Map.Iter.{deref_pair}
use Rattle.std.specs.Ordering.{is_eq, match_ordering, nat_cmp}
use Rattle.std.specs.declared.cmp.Ordering.TheVariants.{Less, Equal, Greater}
use Rattle.std.specs.Cmp.Lexicographic.{slice_cmp}
use Rattle.std.specs.Str.{IsUtf8}
use Rattle.std.proofs.lemmas.List.{append-nil}
use Rattle.folders.specs.Files.{Files, path_cmp}
use Rattle.folders.proofs.Places.{Rise, less_at, reversed}
use Rattle.std.proofs.lemmas.Map.Keys.{sorted_tail}

-- a lent text or content
abbrev Lent : Type 0
Lent = Bor (List ℕ)

abbrev File : Type 0
File = List ℕ × List ℕ

abbrev pub lent_cmp : Lent → Lent → Ordering
lent_cmp x y = slice_cmp nat_cmp x.now y.now

abbrev pub files_lent : List (Lent × Lent) → Files
files_lent es = map deref_pair es

pub lent-insert_entry : (es : List (Lent × Lent)) (k v : Lent) → files_lent (insert_entry lent_cmp es k v) ≡ insert_entry path_cmp (files_lent es) k.now v.now
lent-insert_entry [] k v = refl
lent-insert_entry (e ∷ es) k v = by_order (path_cmp k.now e.0.now) e es k v (insert_entry lent_cmp es k v) (lent-insert_entry es k v)
  where
    by_order : (o : Ordering) (e : Lent × Lent) (es : List (Lent × Lent)) (k v : Lent) (others : List (Lent × Lent)) → files_lent others ≡ insert_entry path_cmp (files_lent es) k.now v.now
        → files_lent (match_ordering o ((k, v) ∷ e ∷ es) ((e.0, v) ∷ es) (e ∷ others))
        ≡ match_ordering o ((k.now, v.now) ∷ (e.0.now, e.1.now) ∷ files_lent es) ((e.0.now, v.now) ∷ files_lent es) ((e.0.now, e.1.now) ∷ insert_entry path_cmp (files_lent es) k.now v.now)
    by_order Less e es k v others h = refl
    by_order Equal e es k v others h = refl
    by_order Greater e es k v others h = ap (λ (fs : Files). (e.0.now, e.1.now) ∷ fs) h

pub lent-remove_entry : (es : List (Lent × Lent)) (path : List ℕ) → files_lent (remove_entry (λ k. is_eq (slice_cmp nat_cmp path k.now)) es) ≡ remove_entry (is_at (path_cmp path)) (files_lent es)
lent-remove_entry [] path = refl
lent-remove_entry (e ∷ es) path = by_test (is_eq (path_cmp path e.0.now)) e es (remove_entry (λ k. is_eq (slice_cmp nat_cmp path k.now)) es) path (lent-remove_entry es path)
  where
    by_test : (b : Bool) (e : Lent × Lent) (es others : List (Lent × Lent)) (path : List ℕ) → files_lent others ≡ remove_entry (is_at (path_cmp path)) (files_lent es)
        → files_lent (cond b es (e ∷ others)) ≡ cond b (files_lent es) ((e.0.now, e.1.now) ∷ remove_entry (is_at (path_cmp path)) (files_lent es))
    by_test true e es others path h = refl
    by_test false e es others path h = ap (λ (fs : Files). (e.0.now, e.1.now) ∷ fs) h

-- a file above all others goes behind them
insert_entry-last : (files : Files) (i : ℕ) (d : File) → Rise files → i < length files → insert_entry path_cmp (take i files) (get_or files i d).0 (get_or files i d).1 ≡ take (suc i) files
insert_entry-last [] i d up lt = absurd (omega arith)
insert_entry-last (f ∷ fs) zero d up lt = refl
insert_entry-last (f ∷ fs) (suc i) d up lt =
    let less : path_cmp f.0 (get_or fs i d).0 ≡ Less = less_at (f ∷ fs) 0 (suc i) d up (omega arith) lt in
    rw (reversed f.0 (get_or fs i d).0 Less less) (ap (λ (gs : Files). f ∷ gs) (insert_entry-last fs i d (sorted_tail path_cmp f.0 (keys_of fs) up) (omega arith)))

-- if lent paths rise, so do the paths themselves
rise_lent_above : (p : Lent) (es : List (Lent × Lent)) → AllByRecursion (λ q. lent_cmp p q ≡ Less) (keys_of es) → AllByRecursion (λ q. path_cmp p.now q ≡ Less) (keys_of (files_lent es))
rise_lent_above p [] h = tt
rise_lent_above p (e ∷ es) h = (h.0, rise_lent_above p es h.1)

pub rise_lent : (es : List (Lent × Lent)) → IsStrictlySortedBy lent_cmp (keys_of es) → Rise (files_lent es)
unfolding IsStrictlySortedBy
rise_lent [] h = tt
rise_lent (e ∷ es) h = (rise_lent_above e.0 es h.0, rise_lent es h.1)

-- adding a path that is UTF-8
pub utf8_push : (files : Files) (file : File) → AllByRecursion IsUtf8 (keys_of files) → IsUtf8 file.0 → AllByRecursion IsUtf8 (keys_of (files ++ file ∷ []))
utf8_push [] file all here = (here, tt)
utf8_push (f ∷ fs) file all here = (all.0, utf8_push fs file all.1 here)

-- when nothing is left
pub all_copied : (files : Files) (rest : List (Lent × Lent)) (all : Files) → rest ≡ [] → files ++ files_lent rest ≡ all → files ≡ all
all_copied files rest all none so_far = sym (append-nil files) ∙ ap (λ (es : List (Lent × Lent)). files ++ files_lent es) (sym none) ∙ so_far

-- adding a file
pub one_more : (files : Files) (i : ℕ) (file : File) (es : Files) (path content : List ℕ) → Rise files → i < length files → file ≡ get_or files i file → es ≡ take i files → path ≡ file.0 → content ≡ file.1
    → insert_entry path_cmp es path content ≡ take (i + 1) files
one_more files i file es path content up lt is so_far p q =
    let last = insert_entry-last files i file up lt in
    rw (so_far, p, q, add-one) (ap (λ (f : File). insert_entry path_cmp (take i files) f.0 f.1) is ∙ last)
