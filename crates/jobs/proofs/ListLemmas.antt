-- The list of the ready keys.
use Rattle.std.proofs.Common.{◌≡◌, ℕ, zero, suc, ◌+◌, ◌-◌, ◌<◌, ◌≤◌, ◌⊎◌, inl, inr, Bool, true, false, ◌||◌, List, [], ◌∷◌, ◌++◌, length, take, drop, get_or, Ok, Err, ap, sym, ◌∙◌, subst, arith}
use Rattle.std.specs.List.{Contains, AllZip, AllByRecursion, IsDistinct, insert, list_any}
use Rattle.std.specs.List.Sorted.{IsStrictlyIncreasing, IsBinarySearchResult}
use Rattle.std.specs.Ordering.{nat_cmp}
use Rattle.std.specs.Prelude.{nat_eq}
use Rattle.std.proofs.lemmas.Bool.{cases_eq, cases_lt}
use Rattle.std.proofs.lemmas.Bool.Decides.{eqb_tells}
use Rattle.std.proofs.lemmas.List.{take-append-drop, take-append-le, take_all, drop-append-le, length-take, length-drop, drop_all, get_or_default}
use Rattle.std.proofs.lemmas.List.Edits.{length-insert, get_or-insert_below, get_or-insert_at, get_or-insert_above, insert-append_right}
use Rattle.std.proofs.lemmas.List.Elements.{Contains-append_left, Contains-append_right, Contains-append_cases}
use Rattle.std.proofs.lemmas.List.Sorted.{IsPermutation-insert, searched}
use Rattle.std.proofs.lemmas.Map.Keys.{IsDistinct-cons, IsDistinct-IsPermutation, below_from_sorted, sorted_from_strictly_increasing}
use Rattle.std.proofs.lemmas.Map.Steps.{length-le_from_distinct_below}
use Rattle.std.proofs.lemmas.Option.{slice_get_within}
use Rattle.names.specs.declared.digest.Key.{Key}
use Rattle.lists.proofs.Places.{Contains-cases, Contains-head, Contains-tail, some_is}
use Rattle.vertices.proofs.ZipLemmas.{all_zip_length}
use Rattle.keytable.specs.declared.entry.Entry.{Entry}
use Rattle.jobs.specs.declared.ready_list.ReadyList.{ReadyList}
use Rattle.jobs.specs.ReadyLists.{IsReadyAt, IsHandedAt, IsKeyAt, IsList, listed, taken}

-- ---- an item is inserted

module _ {X : Type 0} (xs : List X) (p : ℕ) (y : X) where
  pub insert_has : Contains (insert xs p y) y
  insert_has = Contains-append_right (take p xs) (y ∷ drop p xs) y (Contains-head y (drop p xs))

  pub insert_keeps : (x : X) → Contains xs x → Contains (insert xs p y) x
  insert_keeps x c = elim (Contains-append_cases (take p xs) (drop p xs) x (subst (λ (zs : List X). Contains zs x) (sym (take-append-drop p xs)) c)) [
    | inl before ↦ Contains-append_left (take p xs) (y ∷ drop p xs) x before
    | inr behind ↦ Contains-append_right (take p xs) (y ∷ drop p xs) x (Contains-tail y (drop p xs) x behind)
  ]

  pub insert_cases : (x : X) → Contains (insert xs p y) x → (y ≡ x) ⊎ Contains xs x
  insert_cases x c = elim (Contains-append_cases (take p xs) (y ∷ drop p xs) x c) [
    | inl before ↦ inr (subst (λ (zs : List X). Contains zs x) (take-append-drop p xs) (Contains-append_left (take p xs) (drop p xs) x before))
    | inr behind ↦ elim (Contains-cases y (drop p xs) x behind) [
      | inl same ↦ inl same
      | inr rest ↦ inr (subst (λ (zs : List X). Contains zs x) (take-append-drop p xs) (Contains-append_right (take p xs) (drop p xs) x rest))
    ]
  ]

-- rising numbers rise where one goes between those below it and those above it
pub insert_rises : (xs : List ℕ) (p y : ℕ) → p ≤ length xs → IsStrictlyIncreasing xs → ((k : ℕ) → k < p → get_or xs k 0 < y) → ((k : ℕ) → p ≤ k → k < length xs → y < get_or xs k 0) → IsStrictlyIncreasing (insert xs p y)
insert_rises xs p y within rising below above k less =
    let len = length-insert xs p y within in
    elim (cases_lt (k + 1) p) [
      | inl before ↦
          let a = get_or-insert_below xs p y 0 k (omega arith) within in
          let b = get_or-insert_below xs p y 0 (k + 1) before within in
          let h = rising k (omega arith) in
          omega arith
      | inr more ↦ elim (cases_eq p (k + 1)) [
        | inl here ↦
            let a = get_or-insert_below xs p y 0 k (omega arith) within in
            let b : get_or (insert xs p y) (k + 1) 0 ≡ y = subst (λ j. get_or (insert xs p y) j 0 ≡ y) here (get_or-insert_at xs p y 0 within) in
            let h = below k (omega arith) in
            omega arith
        | inr past ↦ elim (cases_eq p k) [
          | inl here ↦
              let a : get_or (insert xs p y) k 0 ≡ y = subst (λ j. get_or (insert xs p y) j 0 ≡ y) here (get_or-insert_at xs p y 0 within) in
              let b = get_or-insert_above xs p y 0 k (omega arith) within in
              let h = above k (omega arith) (omega arith) in
              omega arith
          | inr behind ↦ rises_behind k less len more past behind
        ]
      ]
    ]
  where
    rises_behind : (j : ℕ) → j + 1 < length (insert xs p y) → length (insert xs p y) ≡ length xs + 1 → p ≤ j + 1 → (p ≡ j + 1 → ⊥) → (p ≡ j → ⊥) → get_or (insert xs p y) j 0 < get_or (insert xs p y) (j + 1) 0
    rises_behind zero less len more past behind = absurd (let no : p ≡ 0 → ⊥ = behind in elim (cases_eq p 0) [ inl is ↦ no is | inr not ↦ (let one : p ≡ 1 → ⊥ = past in omega arith) ])
    rises_behind (suc i) less len more past behind =
        let a = get_or-insert_above xs p y 0 i (omega arith) within in
        let b = get_or-insert_above xs p y 0 (suc i) (omega arith) within in
        let h = rising i (omega arith) in
        let a_is : get_or (insert xs p y) (suc i) 0 ≡ get_or xs i 0 = subst (λ m. get_or (insert xs p y) m 0 ≡ get_or xs i 0) (omega arith) a in
        let h_is : get_or xs i 0 < get_or xs (suc i) 0 = subst (λ m. get_or xs i 0 < get_or xs m 0) (omega arith) h in
        omega arith

-- an insert behind a front is one into the rest
module _ {X : Type 0} (xs : List X) (t p place : ℕ) (y : X) (within : t ≤ length xs) (is : place ≡ t + p) where
  insert_behind : insert xs place y ≡ take t xs ++ insert (drop t xs) p y
  insert_behind =
      let len : length (take t xs) ≡ t = (let l = length-take t xs in omega arith) in
      let a : insert (take t xs ++ drop t xs) place y ≡ take t xs ++ insert (drop t xs) (place - t) y = insert-append_right (take t xs) (drop t xs) t place y len (omega arith) in
      let b : place - t ≡ p = omega arith in
      ap (λ (zs : List X). insert zs place y) (sym (take-append-drop t xs)) ∙ a ∙ ap (λ k. take t xs ++ insert (drop t xs) k y) b

  pub drop_insert : drop t (insert xs place y) ≡ insert (drop t xs) p y
  drop_insert =
      let len : length (take t xs) ≡ t = (let l = length-take t xs in omega arith) in
      ap (drop t) insert_behind ∙ drop-append-le t (take t xs) (insert (drop t xs) p y) (omega arith)
      ∙ ap (λ (zs : List X). zs ++ insert (drop t xs) p y) (drop_all t (take t xs) (omega arith))

  pub take_insert : take t (insert xs place y) ≡ take t xs
  take_insert =
      let len : length (take t xs) ≡ t = (let l = length-take t xs in omega arith) in
      ap (take t) insert_behind ∙ take-append-le t (take t xs) (insert (drop t xs) p y) (omega arith) ∙ take_all t (take t xs) (omega arith)

-- pairs that match, and one more among them
pub zip_insert : {A B : Type 0} (R : A → B → Type 0) (xs : List A) (ys : List B) (p : ℕ) (x : A) (y : B) → AllZip R xs ys → R x y → AllZip R (insert xs p x) (insert ys p y)
zip_insert R xs ys zero x y all one = (one, all)
zip_insert R [] [] (suc p) x y all one = (one, tt)
zip_insert R [] (b ∷ ys) (suc p) x y all one = absurd all
zip_insert R (a ∷ xs) [] (suc p) x y all one = absurd all
zip_insert R (a ∷ xs) (b ∷ ys) (suc p) x y all one = (all.0, zip_insert R xs ys p x y all.1 one)

-- ---- numbers that differ

flips : (x y : ℕ) → nat_eq x y ≡ nat_eq y x
flips x y = elim (eqb_tells x y) [
  | inl same ↦ same.0 ∙ sym (elim (eqb_tells y x) [ inl back ↦ back.0 | inr apart ↦ absurd (apart.1 (sym same.1)) ])
  | inr apart ↦ apart.0 ∙ sym (elim (eqb_tells y x) [ inl back ↦ absurd (apart.1 (sym back.1)) | inr other ↦ other.0 ])
]

any_contains : (xs : List ℕ) (q : ℕ) → list_any (nat_eq q) xs ≡ true → Contains xs q
any_contains [] q h = absurd (cc h)
any_contains (x ∷ xs) q h = elim (eqb_tells q x) [
  | inl same ↦ subst (Contains (x ∷ xs)) (sym same.1) (Contains-head x xs)
  | inr apart ↦ Contains-tail x xs q (any_contains xs q (any_rest (nat_eq q x) (list_any (nat_eq q) xs) apart.0 h))
]
  where
    any_rest : (a b : Bool) → a ≡ false → (a || b) ≡ true → b ≡ true
    any_rest true b unmet h = absurd (cc unmet)
    any_rest false b unmet h = h

none_equal : (xs : List ℕ) (y : ℕ) → (Contains xs y → ⊥) → AllByRecursion (λ x. nat_eq y x ≡ false) xs
none_equal [] y none = tt
none_equal (x ∷ xs) y none = (
  (elim (eqb_tells y x) [ inl same ↦ absurd (none (subst (Contains (x ∷ xs)) (sym same.1) (Contains-head x xs))) | inr apart ↦ apart.0 ]),
  none_equal xs y (λ c. none (Contains-tail x xs y c)),
)

one_more_apart : (xs : List ℕ) (y : ℕ) → IsDistinct nat_eq xs → (Contains xs y → ⊥) → IsDistinct nat_eq (y ∷ xs)
one_more_apart xs y apart none = IsDistinct-cons nat_eq y xs (none_equal xs y none) apart

-- ---- what the list holds

module _ (es : List Entry) (l : ReadyList) (h : IsList es l) where
  -- what is in the list was handed out or is ready
  held_cases : (n : ℕ) → Contains l.numbers.items n → IsHandedAt es n ⊎ IsReadyAt es n
  held_cases n c = elim (Contains-append_cases (taken l) (listed l) n (subst (λ (zs : List ℕ). Contains zs n) (sym (take-append-drop l.taken l.numbers.items)) c)) [
    | inl before ↦ inl (h.handed n before)
    | inr behind ↦ inr (h.ready n behind)
  ]

  held_within : (n : ℕ) → Contains l.numbers.items n → n < length es
  held_within n c = elim (held_cases n c) [
    | inl handed ↦ slice_get_within es n handed.entry handed.at
    | inr ready ↦ slice_get_within es n ready.entry ready.at
  ]

  -- a ready key that isn't listed isn't held at all
  not_held : (n : ℕ) → IsReadyAt es n → (Contains (listed l) n → ⊥) → Contains l.numbers.items n → ⊥
  not_held n ready none c = elim (Contains-append_cases (taken l) (listed l) n (subst (λ (zs : List ℕ). Contains zs n) (sym (take-append-drop l.taken l.numbers.items)) c)) [
    | inl before ↦ (let handed = h.handed n before in
        handed.handed (ap (λ (x : Entry). x.progress) (some_is handed.entry ready.entry (sym handed.at ∙ ready.at)) ∙ ready.ready.waiting))
    | inr behind ↦ none behind
  ]

  -- so there is room for it
  pub room_left : (n : ℕ) → IsReadyAt es n → (Contains (listed l) n → ⊥) → length l.numbers.items < length es
  room_left n ready none =
      let more = length-le_from_distinct_below (n ∷ l.numbers.items) (length es) (one_more_apart l.numbers.items n h.apart (not_held n ready none))
      (λ q any. elim (Contains-cases n l.numbers.items q (any_contains (n ∷ l.numbers.items) q any)) [
        | inl same ↦ subst (λ m. m < length es) same (slice_get_within es n ready.entry ready.at)
        | inr c ↦ held_within q c
      ]) in
      omega arith

  pub same_count : length l.keys.items ≡ length l.numbers.items
  same_count = sym (all_zip_length (IsKeyAt es) l.numbers.items l.keys.items h.named)

  -- the place that a search found for a number that isn't listed
  pub record IsPlace (p n : ℕ) : Type 0 where
    pub within : p ≤ length (listed l)
    pub below : (k : ℕ) → k < p → get_or (listed l) k 0 < n
    pub above : (k : ℕ) → p ≤ k → k < length (listed l) → n < get_or (listed l) k 0

  pub place_free : (p n : ℕ) → IsPlace p n → Contains (listed l) n → ⊥
  place_free p n at (k, less, is) =
      let here : get_or (listed l) k 0 ≡ n = get_or_default (listed l) k 0 n less ∙ is in
      elim (cases_lt k p) [
        | inl before ↦ (let b = at.below k before in omega arith)
        | inr behind ↦ (let a = at.above k behind less in omega arith)
      ]

  -- the list with one more ready key
  pub inserted : (m : ReadyList) (p place n : ℕ) (key : Key) → IsPlace p n → place ≡ l.taken + p → IsReadyAt es n → IsKeyAt es n key → m.taken ≡ l.taken → m.numbers.items ≡ insert l.numbers.items place n
      → m.keys.items ≡ insert l.keys.items place key → IsList es m
  inserted m p place n key at place_is ready named same numbers keys =
      let listed_is : listed m ≡ insert (listed l) p n = ap (λ t. drop t m.numbers.items) same ∙ ap (drop l.taken) numbers ∙ drop_insert l.numbers.items l.taken p place n h.within place_is in
      let taken_is : taken m ≡ taken l = ap (λ t. take t m.numbers.items) same ∙ ap (take l.taken) numbers ∙ take_insert l.numbers.items l.taken p place n h.within place_is in
      record {
        within = let d = length-drop l.taken l.numbers.items in let w = h.within in let pw = at.within in let len = ap length numbers ∙ length-insert l.numbers.items place n (omega arith) in omega arith;
        handed = λ q c. h.handed q (subst (λ (zs : List ℕ). Contains zs q) taken_is c);
        ready = λ q c. elim (insert_cases (listed l) p n q (subst (λ (zs : List ℕ). Contains zs q) listed_is c)) [
          | inl here ↦ subst (IsReadyAt es) here ready
          | inr before ↦ h.ready q before
        ];
        rising = subst IsStrictlyIncreasing (sym listed_is) (insert_rises (listed l) p n at.within h.rising at.below at.above);
        apart = subst (IsDistinct nat_eq) (sym numbers) (IsDistinct-IsPermutation nat_eq flips (n ∷ l.numbers.items) (insert l.numbers.items place n) (IsPermutation-insert l.numbers.items place n)
            (one_more_apart l.numbers.items n h.apart (not_held n ready (place_free p n at))));
        named = subst (λ (ks : List Key). AllZip (IsKeyAt es) m.numbers.items ks) (sym keys) (subst (λ (ns : List ℕ). AllZip (IsKeyAt es) ns (insert l.keys.items place key)) (sym numbers)
            (zip_insert (IsKeyAt es) l.numbers.items l.keys.items place n key h.named named));
      }

  pub inserted_has : (m : ReadyList) (p place n : ℕ) → place ≡ l.taken + p → m.taken ≡ l.taken → m.numbers.items ≡ insert l.numbers.items place n → Contains (listed m) n
  inserted_has m p place n place_is same numbers =
      let listed_is : listed m ≡ insert (listed l) p n = ap (λ t. drop t m.numbers.items) same ∙ ap (drop l.taken) numbers ∙ drop_insert l.numbers.items l.taken p place n h.within place_is in
      subst (λ (zs : List ℕ). Contains zs n) (sym listed_is) (insert_has (listed l) p n)

  pub inserted_keeps : (m : ReadyList) (p place n : ℕ) → place ≡ l.taken + p → m.taken ≡ l.taken → m.numbers.items ≡ insert l.numbers.items place n → (q : ℕ) → Contains (listed l) q → Contains (listed m) q
  inserted_keeps m p place n place_is same numbers q c =
      let listed_is : listed m ≡ insert (listed l) p n = ap (λ t. drop t m.numbers.items) same ∙ ap (drop l.taken) numbers ∙ drop_insert l.numbers.items l.taken p place n h.within place_is in
      subst (λ (zs : List ℕ). Contains zs q) (sym listed_is) (insert_keeps (listed l) p n q c)

  -- what a search among the listed numbers answers
  not_falling : (i j : ℕ) → i ≤ j → j < length (listed l) → get_or (listed l) i 0 ≤ get_or (listed l) j 0
  not_falling i j le less = elim (cases_eq i j) [
    | inl same ↦ (let e = ap (λ k. get_or (listed l) k 0) same in omega arith)
    | inr apart ↦ (let b = below_from_sorted (listed l) i j 0 (sorted_from_strictly_increasing (listed l) h.rising) (omega arith) less in omega arith)
  ]

  pub search_found : (xs : List ℕ) (n i : ℕ) → xs ≡ listed l → IsBinarySearchResult (λ y. nat_cmp y n) xs (Ok i) → Contains (listed l) n
  search_found xs n i same found =
      let s = searched (listed l) n (Ok i) (subst (λ (zs : List ℕ). IsBinarySearchResult (λ y. nat_cmp y n) zs (Ok i)) same found) not_falling in
      (i, s.0, get_or_default (listed l) i n 0 s.0 ∙ s.1)

  pub search_place : (xs : List ℕ) (n i : ℕ) → xs ≡ listed l → IsBinarySearchResult (λ y. nat_cmp y n) xs (Err i) → IsPlace i n
  search_place xs n i same found =
      let s = searched (listed l) n (Err i) (subst (λ (zs : List ℕ). IsBinarySearchResult (λ y. nat_cmp y n) zs (Err i)) same found) not_falling in
      record { within = s.0; below = s.1; above = s.2 }

-- the list of no keys
pub empty_list : (l : ReadyList) → l.taken ≡ 0 → l.numbers.items ≡ [] → l.keys.items ≡ [] → IsList [] l
unfolding IsDistinct
empty_list l t ns ks =
    let taken_is : taken l ≡ [] = ap (λ k. take k l.numbers.items) t in
    let listed_is : listed l ≡ [] = ap (λ k. drop k l.numbers.items) t ∙ ns in
    record {
      within = omega (arith, t);
      handed = λ n c. absurd (let none = subst (λ (zs : List ℕ). Contains zs n) taken_is c in omega (arith, none.1));
      ready = λ n c. absurd (let none = subst (λ (zs : List ℕ). Contains zs n) listed_is c in omega (arith, none.1));
      rising = subst IsStrictlyIncreasing (sym listed_is) (λ k less. absurd (omega (arith, less)));
      apart = subst (IsDistinct nat_eq) (sym ns) tt;
      named = subst (λ (xs : List Key). AllZip (IsKeyAt []) l.numbers.items xs) (sym ks) (subst (λ (xs : List ℕ). AllZip (IsKeyAt []) xs []) (sym ns) tt);
    }
