-- Open folders and their batches.
use Rattle.std.proofs.Common.{◌≡◌, ◌≢◌, ◌⊎◌, inl, inr, ℕ, zero, suc, ◌+◌, ◌<◌, ◌≤◌, Bool, true, false, cond, List, [], ◌∷◌, ◌++◌, Option, Some, None, map, drop, length, set, ap, sym, ◌∙◌, subst, refl, arith, eq-eqb}
use Rattle.std.specs.List.{find, fold, list_any, remove, slice_get}
use Rattle.std.specs.Option.{option_map}
use Rattle.std.proofs.Math.Seq.{drop-cons, map-set_same}
use Rattle.std.proofs.lemmas.Bool.{cases_Bool, cases_lt}
use Rattle.std.proofs.lemmas.List.{drop-append-le, drop_all, length_push}
use Rattle.std.proofs.lemmas.List.Sums.{fold_push}
use Rattle.std.proofs.lemmas.List.Edits.{length-remove, get_or-remove_below, get_or-remove_above}
use Rattle.std.proofs.lemmas.List.Folds.{list_any_at}
use Rattle.std.proofs.lemmas.Option.{slice_get_within, slice_get-get_or, get_or_from_slice_get}
use Rattle.lists.proofs.Places.{some_is, get_front, get_push_cases, get_set_cases}
use Rattle.names.proofs.CompareLaws.{folder_eq-itself}
use Rattle.names.proofs.NameLaws.{folder_exact}
use Rattle.names.specs.Folders.{folder_eq}
use Rattle.folders.specs.Edits.{edited_all}
use Rattle.folders.specs.Files.{Files}
use Rattle.slotfolders.specs.declared.batch.Batch.{Batch}
use Rattle.executions.specs.declared.live_shared.Open.{Open}
use Rattle.executions.specs.Leased.{leased}
use Rattle.slotfolders.specs.Seen.{folder_at}
use Rattle.slotfolders.specs.Batches.{is_by, with_batch}
use Rattle.executions.specs.Live.{is_named, files_of}
use Rattle.executions.specs.Keeping.{opened, AreOnce, IsAsMade, IsKept}

-- ---- what is found

-- what passes at a place is found from there on
pub find_at : {X Y : Type 0} (p : Y → Bool) (f : X → Y) (xs : List X) (k : ℕ) (x : X) → slice_get xs k ≡ Some x → p (f x) ≡ true
    → find p (map f (drop k xs)) ≡ Some (f x)
find_at p f xs k x at passes =
    let here : drop k xs ≡ x ∷ drop (suc k) xs = drop-cons xs k x (slice_get_within xs k x at) ∙ ap (λ y. y ∷ drop (suc k) xs) (get_or_from_slice_get xs k x x at) in
    rw here (rw passes refl)

first_fails : {Y : Type 0} (b : Bool) (y : Y) (rest : Option Y) → cond b (Some y) rest ≡ None → (b ≡ false) × (rest ≡ None)
first_fails true y rest h = absurd (cc h)
first_fails false y rest h = (refl, h)

-- where nothing is found, nothing that is there passes
pub none_passes : {X Y : Type 0} (p : Y → Bool) (f : X → Y) (xs : List X) (k : ℕ) (x : X) → find p (map f xs) ≡ None → slice_get xs k ≡ Some x → p (f x) ≡ false
none_passes p f [] k x none at = absurd (cc at)
none_passes p f (y ∷ ys) zero x none at = ap (λ z. p (f z)) (sym (some_is y x at)) ∙ (first_fails (p (f y)) (f y) (find p (map f ys)) none).0
none_passes p f (y ∷ ys) (suc k) x none at = none_passes p f ys k x (first_fails (p (f y)) (f y) (find p (map f ys)) none).1 at

first_or_later : {Y : Type 0} (p : Y → Bool) (b : Bool) (z y : Y) (rest : Option Y) → p z ≡ b → cond b (Some z) rest ≡ Some y → (rest ≡ Some y → p y ≡ true) → p y ≡ true
first_or_later p true z y rest is h later = ap p (sym (some_is z y h)) ∙ is
first_or_later p false z y rest is h later = later h

-- what is found passes
pub found_passes : {Y : Type 0} (p : Y → Bool) (ys : List Y) (y : Y) → find p ys ≡ Some y → p y ≡ true
found_passes p [] y h = absurd (cc h)
found_passes p (z ∷ zs) y h = first_or_later p (p z) z y (find p zs) refl h (found_passes p zs y)

-- where none passes, what is there doesn't
any_fails : {X : Type 0} (p : X → Bool) (xs : List X) (k : ℕ) (x : X) → list_any p xs ≡ false → slice_get xs k ≡ Some x → p x ≡ true → ⊥
any_fails p xs k x none at passes =
    let there = list_any_at p xs k x (slice_get_within xs k x at) (ap p (get_or_from_slice_get xs k x x at) ∙ passes) in
    absurd (cc (there, none))

-- what is left after one was removed stood at its place, or at the one behind it
abbrev pub WasAt : ℕ → ℕ → ℕ → Type 0
WasAt n k j = ((k < n) × (j ≡ k)) ⊎ ((n ≤ k) × (j ≡ k + 1))

get_remove : {X : Type 0} (xs : List X) (n k : ℕ) (x : X) → n < length xs → slice_get (remove xs n) k ≡ Some x → (j : ℕ) × (slice_get xs j ≡ Some x) × WasAt n k j
get_remove xs n k x within at =
    let value = get_or_from_slice_get (remove xs n) k x x at in
    let less = slice_get_within (remove xs n) k x at in
    let len = length-remove xs n within in
    elim (cases_lt k n) [
      | inl below ↦ (k, slice_get-get_or xs k x (omega arith) ∙ ap Some (sym (get_or-remove_below xs n x k below within) ∙ value), inl (below, refl))
      | inr above ↦ (k + 1, slice_get-get_or xs (k + 1) x (omega arith) ∙ ap Some (sym (get_or-remove_above xs n x k above within) ∙ value), inr (above, refl))
    ]

was_one_place : (n j k i : ℕ) → WasAt n j i → WasAt n k i → j ≡ k
was_one_place n j k i one other = elim one [
  | inl a ↦ elim other [ inl b ↦ omega (arith, a.0, a.1, b.0, b.1) | inr b ↦ omega (arith, a.0, a.1, b.0, b.1) ]
  | inr a ↦ elim other [ inl b ↦ omega (arith, a.0, a.1, b.0, b.1) | inr b ↦ omega (arith, a.0, a.1, b.0, b.1) ]
]

-- ---- a folder is opened

named_itself : (o p : Open) → p.folder ≡ o.folder → is_named o.folder (opened p) ≡ true
named_itself o p same = ap (folder_eq o.folder) same ∙ folder_eq-itself o.folder

pub kept_pushed : (batches : List Batch) (folders : List Open) (o : Open) → IsKept batches folders → find (is_named o.folder) (map opened folders) ≡ None
    → IsAsMade batches o → IsKept batches (folders ++ o ∷ [])
kept_pushed batches folders o kept none made = record {
  each = λ k p at. elim (get_push_cases folders o k p at) [
    | inl old ↦ kept.each k p old.1
    | inr new ↦ subst (IsAsMade batches) new.1 made
  ];
  apart = λ j k one other at there same. elim (get_push_cases folders o j one at) [
    | inl old ↦ elim (get_push_cases folders o k other there) [
      | inl others ↦ kept.apart j k one other old.1 others.1 same
      | inr new ↦ absurd (fresh j one old.1 (same ∙ ap (λ (p : Open). p.folder) (sym new.1)))
    ]
    | inr new ↦ elim (get_push_cases folders o k other there) [
      | inl others ↦ absurd (fresh k other others.1 (sym same ∙ ap (λ (p : Open). p.folder) (sym new.1)))
      | inr others ↦ new.0 ∙ sym others.0
    ]
  ];
  once = kept.once;
}
  where
    fresh : (k : ℕ) (p : Open) → slice_get folders k ≡ Some p → p.folder ≡ o.folder → ⊥
    fresh k p at same =
        let not_named = none_passes (is_named o.folder) opened folders k p none at in
        let named = named_itself o p same in
        absurd (cc (not_named, named))

-- no batch was made since it was opened
pub opened_now : (batches : List Batch) (o : Open) → o.since ≡ length batches → o.files ≡ folder_at (leased o.running) o.folder → IsAsMade batches o
opened_now batches o now start = record {
  files = start ∙ sym (ap (fold (with_batch o.folder) (folder_at (leased o.running) o.folder)) (drop_all o.since batches (omega arith)));
  since = omega arith;
}

pub none_mapped : {X Y : Type 0} (f : X → Y) (o : Option X) → option_map f o ≡ None → o ≡ None
none_mapped f None h = refl
none_mapped f (Some x) h = absurd (cc h)

-- ---- a batch is made

after_batch : (batches : List Batch) (o : Open) (b : Batch) → IsAsMade batches o
    → files_of (batches ++ b ∷ []) (opened o) ≡ with_batch o.folder o.files b
after_batch batches o b made =
    let start = folder_at (leased o.running) o.folder in
    let f = with_batch o.folder in
    ap (fold f start) (drop-append-le o.since batches (b ∷ []) made.since)
    ∙ fold_push f start (drop o.since batches) b
    ∙ ap (λ (files : Files). f files b) (sym made.files)

pub made_same : (batches : List Batch) (o : Open) (b : Batch) → IsAsMade batches o → folder_eq o.folder b.folder ≡ true
    → IsAsMade (batches ++ b ∷ []) (record o { files = edited_all o.files b.edits })
made_same batches o b made same =
    let len = length_push batches b in
    let before = made.since in record {
      files = sym (after_batch batches o b made ∙ rw same refl);
      since = omega arith;
    }

pub made_other : (batches : List Batch) (o : Open) (b : Batch) → IsAsMade batches o → folder_eq o.folder b.folder ≡ false
    → IsAsMade (batches ++ b ∷ []) o
made_other batches o b made other =
    let len = length_push batches b in
    let before = made.since in record {
      files = sym (after_batch batches o b made ∙ rw other refl);
      since = omega arith;
    }

by_itself : (one b : Batch) → one.ticket ≡ b.ticket → one.folder ≡ b.folder → is_by b.ticket b.folder one ≡ true
by_itself one b ticket folder =
    let t = eq-eqb one.ticket.0 b.ticket.0 (ap (λ x. x.0) ticket) in
    let f = ap (folder_eq b.folder) folder ∙ folder_eq-itself b.folder in
    rw t f

once_pushed : (batches : List Batch) (b : Batch) → AreOnce batches → list_any (is_by b.ticket b.folder) batches ≡ false → AreOnce (batches ++ b ∷ [])
once_pushed batches b once none = λ j k one other at there ticket folder. elim (get_push_cases batches b j one at) [
  | inl old ↦ elim (get_push_cases batches b k other there) [
    | inl others ↦ once j k one other old.1 others.1 ticket folder
    | inr new ↦ absurd (any_fails (is_by b.ticket b.folder) batches j one none old.1
        (by_itself one b (ticket ∙ ap (λ (x : Batch). x.ticket) (sym new.1)) (folder ∙ ap (λ (x : Batch). x.folder) (sym new.1))))
  ]
  | inr new ↦ elim (get_push_cases batches b k other there) [
    | inl others ↦ absurd (any_fails (is_by b.ticket b.folder) batches k other none others.1
        (by_itself other b (sym ticket ∙ ap (λ (x : Batch). x.ticket) (sym new.1)) (sym folder ∙ ap (λ (x : Batch). x.folder) (sym new.1))))
    | inr others ↦ new.0 ∙ sym others.0
  ]
]

pub kept_batched : (batches : List Batch) (folders : List Open) (place : ℕ) (o : Open) (b : Batch) → IsKept batches folders → slice_get folders place ≡ Some o
    → o.folder ≡ b.folder → list_any (is_by b.ticket b.folder) batches ≡ false
    → IsKept (batches ++ b ∷ []) (set folders place (record o { files = edited_all o.files b.edits }))
kept_batched batches folders place o b kept here named none = record {
  each = λ k p at. elim (get_set_cases folders place k changed o p here at) [
    | inl same ↦ subst (IsAsMade (batches ++ b ∷ [])) same.1 (made_same batches o b (kept.each place o here) of_folder)
    | inr apart ↦ made_other batches p b (kept.each k p apart.1) (differs k p apart.1 apart.0)
  ];
  apart = λ j k one other at there same.
      let x = was j one at in
      let y = was k other there in
      kept.apart j k x.0 y.0 x.1 y.1 (x.2 ∙ same ∙ sym y.2);
  once = once_pushed batches b kept.once none;
}
  where
    changed : Open
    changed = record o { files = edited_all o.files b.edits }

    of_folder : folder_eq o.folder b.folder ≡ true
    of_folder = ap (λ f. folder_eq f b.folder) named ∙ folder_eq-itself b.folder

    differs : (k : ℕ) (p : Open) → slice_get folders k ≡ Some p → k ≢ place → folder_eq p.folder b.folder ≡ false
    differs k p at apart = elim (cases_Bool (folder_eq p.folder b.folder)) [
      | inl passes ↦ absurd (apart (kept.apart k place p o at here (folder_exact p.folder b.folder passes ∙ sym named)))
      | inr fails ↦ fails
    ]

    was : (k : ℕ) (p : Open) → slice_get (set folders place changed) k ≡ Some p → (q : Open) × (slice_get folders k ≡ Some q) × (q.folder ≡ p.folder)
    was k p at = elim (get_set_cases folders place k changed o p here at) [
      | inl same ↦ (o, ap (slice_get folders) same.0 ∙ here, ap (λ (x : Open). x.folder) same.1)
      | inr apart ↦ (p, apart.1, refl)
    ]

-- its files aren't seen
pub opened_set : (folders : List Open) (place : ℕ) (o : Open) (files : Files) → slice_get folders place ≡ Some o
    → map opened (set folders place (record o { files = files })) ≡ map opened folders
opened_set folders place o files at =
    let changed : Open = record o { files = files } in
    map-set_same opened folders place changed o (ap opened (sym (get_or_from_slice_get folders place o o at)))

-- ---- a folder is closed

pub kept_removed : (batches : List Batch) (folders : List Open) (place : ℕ) → place < length folders → IsKept batches folders → IsKept batches (remove folders place)
kept_removed batches folders place within kept = record {
  each = λ k p at. let x = get_remove folders place k p within at in kept.each x.0 p x.1;
  apart = λ j k one other at there same.
      let x = get_remove folders place j one within at in
      let y = get_remove folders place k other within there in
      let z = kept.apart x.0 y.0 one other x.1 y.1 same in
      was_one_place place j k y.0 (subst (WasAt place j) z x.2) y.2;
  once = kept.once;
}

pub kept_front : (batches : List Batch) (folders others : List Open) → IsKept batches (folders ++ others) → IsKept batches folders
kept_front batches folders others kept = record {
  each = λ k p at. kept.each k p (get_front folders others k p at);
  apart = λ j k one other at there same. kept.apart j k one other (get_front folders others j one at) (get_front folders others k other there) same;
  once = kept.once;
}

pub map_remove : {X Y : Type 0} (f : X → Y) (xs : List X) (place : ℕ) → map f (remove xs place) ≡ remove (map f xs) place
map_remove f [] zero = refl
map_remove f [] (suc place) = refl
map_remove f (x ∷ xs) zero = refl
map_remove f (x ∷ xs) (suc place) = ap (λ ys. f x ∷ ys) (map_remove f xs place)
