-- What the rows of three listings are, path by path.
use Rattle.std.proofs.Common.{◌≡◌, ℕ, zero, suc, ◌+◌, ◌≤◌, ◌⊎◌, inl, inr, Bool, true, false, cond, List, [], ◌∷◌, length, Option, Some, None, Ordering, refl, sym, ap, ◌∙◌, subst, arith}
use Rattle.std.specs.List.{AllByRecursion}
use Rattle.std.specs.List.Sorted.{IsStrictlySortedBy}
use Rattle.std.specs.Map.{keys_of}
use Rattle.std.specs.Ordering.{is_eq, is_lt}
use Rattle.std.specs.Str.{bytes_eq}
use Rattle.std.specs.declared.cmp.Ordering.TheVariants.{Less, Equal, Greater}
use Rattle.std.specs.Cmp.Lexicographic.{nat_list_cmp_total}
use Rattle.std.proofs.lemmas.Map.Lookups.{exact_bytes}
use Rattle.std.proofs.lemmas.Slice.Eq.{bytes_eq-Decides}
use Rattle.lists.proofs.Places.{some_is}
use Rattle.merging.specs.Choices.{Three}
use Rattle.merging.specs.Listings.{Listing, Place, path_cmp, entry_at, IsListing}
use Rattle.merging.specs.Merging.{three_at}
use Rattle.merging.specs.Rows.{Side_by_side, first_path, lesser, first_entry, behind, least_path, row_at, rows_in, rows_of}
use Rattle.merging.proofs.Lookups.{cmp_itself, reversed, first_at, other_at, absent, above_all}
use Rattle.merging.proofs.RowLoop.{lesser_some, lesser_none, first_none, shrinks, rows_some, rows_none}

-- all paths are above this one
abbrev pub Above : {X : Type 0} → List ℕ → List (List ℕ × X) → Type 0
Above p l = AllByRecursion (λ k. path_cmp p k ≡ Less) (keys_of l)

-- the path is not above the other, if there is one
abbrev AtMost : List ℕ → Option (List ℕ) → Type 0
AtMost p None = Unit {0}
AtMost p (Some x) = (x ≡ p) ⊎ (path_cmp p x ≡ Less)

below_next : (p x y : List ℕ) → AtMost p (Some x) → path_cmp x y ≡ Less → path_cmp p y ≡ Less
below_next p x y (inl is) h = ap (λ (z : List ℕ). path_cmp z y) (sym is) ∙ h
below_next p x y (inr lt) h = nat_list_cmp_total.trans p x y lt h

lesser_parts : (a b : Option (List ℕ)) (p : List ℕ) → AtMost p (lesser a b) → AtMost p a × AtMost p b
lesser_parts None b p h = (tt, h)
lesser_parts (Some x) None p h = (h, tt)
lesser_parts (Some x) (Some y) p h = by_order (path_cmp y x) refl h
  where
    by_order : (o : Ordering) → path_cmp y x ≡ o → AtMost p (let z : Option (List ℕ) = cond (is_lt o) (Some y) (Some x) in z) → AtMost p (Some x) × AtMost p (Some y)
    by_order Less e h = (inr (below_next p y x h e), h)
    by_order Equal e h = (h, subst (λ (z : List ℕ). AtMost p (Some z)) (sym (exact_bytes y x e)) h)
    by_order Greater e h = (h, inr (below_next p x y h (reversed y x Greater e)))

least_parts : (base mine theirs : Listing) (p : List ℕ) → least_path base mine theirs ≡ Some p → AtMost p (first_path base) × AtMost p (first_path mine) × AtMost p (first_path theirs)
least_parts base mine theirs p e =
    let whole : AtMost p (least_path base mine theirs) = subst (λ (o : Option (List ℕ)). AtMost p o) (sym e) (inl refl) in
    let one = lesser_parts (lesser (first_path base) (first_path mine)) (first_path theirs) p whole in
    let two = lesser_parts (first_path base) (first_path mine) p one.0 in
    (two.0, two.1, one.1)

-- ---- one listing, at the least path

other_path : (a p : List ℕ) → bytes_eq a p ≡ false → AtMost p (Some a) → path_cmp p a ≡ Less
other_path a p e (inl is) = (let t = (bytes_eq-Decides a p).1 is in absurd (cc))
other_path a p e (inr lt) = lt

behind_above : (p : List ℕ) (l : Listing) → IsListing l → AtMost p (first_path l) → Above p (behind p l)
unfolding IsStrictlySortedBy
behind_above p [] up h = tt
behind_above p (f ∷ fs) up h = by_test (bytes_eq f.0 p) refl
  where
    by_test : (t : Bool) → bytes_eq f.0 p ≡ t → Above p (let l : Listing = cond t fs (f ∷ fs) in l)
    by_test true e = subst (λ (k : List ℕ). Above k fs) ((bytes_eq-Decides f.0 p).0 e) up.0
    by_test false e = (let lt = other_path f.0 p e h in (lt, above_all p f.0 (keys_of fs) lt up.0))

behind_rises : (p : List ℕ) (l : Listing) → IsListing l → IsListing (behind p l)
unfolding IsStrictlySortedBy
behind_rises p [] up = tt
behind_rises p (f ∷ fs) up = by_test (bytes_eq f.0 p)
  where
    by_test : (t : Bool) → IsListing (cond t fs (f ∷ fs))
    by_test true = up.1
    by_test false = up

behind_keeps : (q p : List ℕ) (l : Listing) → Above q l → Above q (behind p l)
behind_keeps q p [] h = tt
behind_keeps q p (f ∷ fs) h = by_test (bytes_eq f.0 p)
  where
    by_test : (t : Bool) → Above q (let l : Listing = cond t fs (f ∷ fs) in l)
    by_test true = h.1
    by_test false = h

first_above : (q p : List ℕ) (l : Listing) → Above q l → first_path l ≡ Some p → path_cmp q p ≡ Less
first_above q p [] h e = absurd (cc)
first_above q p (f ∷ fs) h e = ap (path_cmp q) (sym (some_is f.0 p e)) ∙ h.0

first_is : (p : List ℕ) (l : Listing) → IsListing l → AtMost p (first_path l) → first_entry p l ≡ entry_at l p
unfolding IsStrictlySortedBy
first_is p [] up h = refl
first_is p (f ∷ fs) up h = by_test (bytes_eq f.0 p) refl
  where
    by_test : (t : Bool) → bytes_eq f.0 p ≡ t → (let z : Place = cond t (Some f.1) None in z) ≡ entry_at (f ∷ fs) p
    by_test true e = sym (ap (entry_at (f ∷ fs)) (sym ((bytes_eq-Decides f.0 p).0 e)) ∙ first_at f fs)
    by_test false e = (let lt = other_path f.0 p e h in sym (absent p (f ∷ fs) (lt, above_all p f.0 (keys_of fs) lt up.0)))

behind_at : (q p : List ℕ) (l : Listing) (o : Ordering) → path_cmp q p ≡ o → is_eq o ≡ false → entry_at (behind p l) q ≡ entry_at l q
behind_at q p [] o e ne = refl
behind_at q p (f ∷ fs) o e ne = by_test (bytes_eq f.0 p) refl
  where
    by_test : (t : Bool) → bytes_eq f.0 p ≡ t → entry_at (cond t fs (f ∷ fs)) q ≡ entry_at (f ∷ fs) q
    by_test true h = sym (other_at q f fs o (ap (path_cmp q) ((bytes_eq-Decides f.0 p).0 h) ∙ e) ne)
    by_test false h = refl

-- ---- rows rise

pub rows_above : (limit : ℕ) (base mine theirs : Listing) (q : List ℕ) → Above q base → Above q mine → Above q theirs → Above q (rows_in limit base mine theirs)
unfolding rows_in
rows_above zero base mine theirs q hb hm ht = tt
rows_above (suc limit) base mine theirs q hb hm ht = by_least (least_path base mine theirs) refl
    (λ p. rows_above limit (behind p base) (behind p mine) (behind p theirs) q (behind_keeps q p base hb) (behind_keeps q p mine hm) (behind_keeps q p theirs ht))
  where
    first : (p : List ℕ) → least_path base mine theirs ≡ Some p → path_cmp q p ≡ Less
    first p e = elim (lesser_some (lesser (first_path base) (first_path mine)) (first_path theirs) p e) [
      | inr is ↦ first_above q p theirs ht is
      | inl two ↦ elim (lesser_some (first_path base) (first_path mine) p two) [ inl is ↦ first_above q p base hb is | inr is ↦ first_above q p mine hm is ]
    ]

    by_least : (o : Option (List ℕ)) → least_path base mine theirs ≡ o → ((p : List ℕ) → Above q (rows_in limit (behind p base) (behind p mine) (behind p theirs)))
        → Above q (rows_in (suc limit) base mine theirs)
    by_least None e others = subst (λ (rows : Side_by_side). Above q rows) (sym (rows_none (suc limit) base mine theirs e)) tt
    by_least (Some p) e others = subst (λ (rows : Side_by_side). Above q rows) (sym (rows_some limit base mine theirs p e)) (first p e, others p)

pub rows_rise : (limit : ℕ) (base mine theirs : Listing) → IsListing base → IsListing mine → IsListing theirs → IsStrictlySortedBy path_cmp (keys_of (rows_in limit base mine theirs))
unfolding rows_in IsStrictlySortedBy
rows_rise zero base mine theirs ub um ut = tt
rows_rise (suc limit) base mine theirs ub um ut = by_least (least_path base mine theirs) refl
    (λ p. rows_rise limit (behind p base) (behind p mine) (behind p theirs) (behind_rises p base ub) (behind_rises p mine um) (behind_rises p theirs ut))
  where
    by_least : (o : Option (List ℕ)) → least_path base mine theirs ≡ o → ((p : List ℕ) → IsStrictlySortedBy path_cmp (keys_of (rows_in limit (behind p base) (behind p mine) (behind p theirs))))
        → IsStrictlySortedBy path_cmp (keys_of (rows_in (suc limit) base mine theirs))
    by_least None e others = subst (λ (rows : Side_by_side). IsStrictlySortedBy path_cmp (keys_of rows)) (sym (rows_none (suc limit) base mine theirs e)) tt
    by_least (Some p) e others =
        let parts = least_parts base mine theirs p e in
        subst (λ (rows : Side_by_side). IsStrictlySortedBy path_cmp (keys_of rows)) (sym (rows_some limit base mine theirs p e)) (
          rows_above limit (behind p base) (behind p mine) (behind p theirs) p (behind_above p base ub parts.0) (behind_above p mine um parts.1) (behind_above p theirs ut parts.2),
          others p,
        )

-- ---- what rows hold

abbrev pub nothing : Three
nothing = record { base = None; mine = None; theirs = None }

abbrev pub three_in : Side_by_side → List ℕ → Three
three_in [] q = nothing
three_in (row ∷ rows) q = cond (is_eq (path_cmp q row.0)) row.1 (three_in rows q)

pub three_first : (row : List ℕ × Three) (rows : Side_by_side) → three_in (row ∷ rows) row.0 ≡ row.1
three_first row rows = ap (λ (o : Ordering). cond (is_eq o) row.1 (three_in rows row.0)) (cmp_itself row.0)

pub three_other : (q : List ℕ) (row : List ℕ × Three) (rows : Side_by_side) (o : Ordering) → path_cmp q row.0 ≡ o → is_eq o ≡ false → three_in (row ∷ rows) q ≡ three_in rows q
three_other q row rows o e ne = ap (λ (o : Ordering). cond (is_eq o) row.1 (three_in rows q)) e ∙ ap (λ (b : Bool). cond b row.1 (three_in rows q)) ne

three_same : (a b c a' b' c' : Place) → a ≡ a' → b ≡ b' → c ≡ c' → (let x : Three = record { base = a; mine = b; theirs = c } in x) ≡ record { base = a'; mine = b'; theirs = c' }
three_same a b c a' b' c' ea eb ec =
    ap (λ (z : Place). let y : Three = record { base = z; mine = b; theirs = c } in y) ea
    ∙ ap (λ (z : Place). let y : Three = record { base = a'; mine = z; theirs = c } in y) eb
    ∙ ap (λ (z : Place). let y : Three = record { base = a'; mine = b'; theirs = z } in y) ec

none_left : (base mine theirs : Listing) → least_path base mine theirs ≡ None → (q : List ℕ) → nothing ≡ three_at base mine theirs q
none_left base mine theirs e q =
    let one = lesser_none (lesser (first_path base) (first_path mine)) (first_path theirs) e in
    let two = lesser_none (first_path base) (first_path mine) one.0 in
    three_same None None None (entry_at base q) (entry_at mine q) (entry_at theirs q)
    (ap (λ (l : Listing). entry_at l q) (sym (first_none base two.0)))
    (ap (λ (l : Listing). entry_at l q) (sym (first_none mine two.1)))
    (ap (λ (l : Listing). entry_at l q) (sym (first_none theirs one.1)))

pub rows_three : (limit : ℕ) (base mine theirs : Listing) → IsListing base → IsListing mine → IsListing theirs → length base + length mine + length theirs ≤ limit
    → (q : List ℕ) → three_in (rows_in limit base mine theirs) q ≡ three_at base mine theirs q
rows_three zero base mine theirs ub um ut within q = by_least (least_path base mine theirs) refl
  where
    by_least : (o : Option (List ℕ)) → least_path base mine theirs ≡ o → three_in (rows_in zero base mine theirs) q ≡ three_at base mine theirs q
    by_least None e = ap (λ (rows : Side_by_side). three_in rows q) (rows_none zero base mine theirs e) ∙ none_left base mine theirs e q
    by_least (Some p) e = (let less = shrinks base mine theirs p e in absurd (omega arith))
rows_three (suc limit) base mine theirs ub um ut within q = by_least (least_path base mine theirs) refl
    (λ p fits. rows_three limit (behind p base) (behind p mine) (behind p theirs) (behind_rises p base ub) (behind_rises p mine um) (behind_rises p theirs ut) fits q)
  where
    later : (p : List ℕ) (o : Ordering) → path_cmp q p ≡ o → is_eq o ≡ false
        → three_in (rows_in limit (behind p base) (behind p mine) (behind p theirs)) q ≡ three_at (behind p base) (behind p mine) (behind p theirs) q
        → three_in (row_at p base mine theirs ∷ rows_in limit (behind p base) (behind p mine) (behind p theirs)) q ≡ three_at base mine theirs q
    later p o e ne others =
        three_other q (row_at p base mine theirs) (rows_in limit (behind p base) (behind p mine) (behind p theirs)) o e ne ∙ others
        ∙ three_same (entry_at (behind p base) q) (entry_at (behind p mine) q) (entry_at (behind p theirs) q) (entry_at base q) (entry_at mine q) (entry_at theirs q)
        (behind_at q p base o e ne) (behind_at q p mine o e ne) (behind_at q p theirs o e ne)

    by_order : (p : List ℕ) → least_path base mine theirs ≡ Some p → (o : Ordering) → path_cmp q p ≡ o
        → three_in (rows_in limit (behind p base) (behind p mine) (behind p theirs)) q ≡ three_at (behind p base) (behind p mine) (behind p theirs) q
        → three_in (row_at p base mine theirs ∷ rows_in limit (behind p base) (behind p mine) (behind p theirs)) q ≡ three_at base mine theirs q
    by_order p least Less e others = later p Less e refl others
    by_order p least Greater e others = later p Greater e refl others
    by_order p least Equal e others =
        let is : q ≡ p = exact_bytes q p e in
        let parts = least_parts base mine theirs p least in
        let row : List ℕ × Three = row_at p base mine theirs in
        let rows : Side_by_side = rows_in limit (behind p base) (behind p mine) (behind p theirs) in
        ap (three_in (row ∷ rows)) is ∙ three_first row rows
        ∙ three_same (first_entry p base) (first_entry p mine) (first_entry p theirs) (entry_at base p) (entry_at mine p) (entry_at theirs p)
        (first_is p base ub parts.0) (first_is p mine um parts.1) (first_is p theirs ut parts.2)
        ∙ ap (three_at base mine theirs) (sym is)

    by_least : (o : Option (List ℕ)) → least_path base mine theirs ≡ o
        → ((p : List ℕ) → length (behind p base) + length (behind p mine) + length (behind p theirs) ≤ limit
        → three_in (rows_in limit (behind p base) (behind p mine) (behind p theirs)) q ≡ three_at (behind p base) (behind p mine) (behind p theirs) q)
        → three_in (rows_in (suc limit) base mine theirs) q ≡ three_at base mine theirs q
    by_least None e others = ap (λ (rows : Side_by_side). three_in rows q) (rows_none (suc limit) base mine theirs e) ∙ none_left base mine theirs e q
    by_least (Some p) e others =
        let less = shrinks base mine theirs p e in
        ap (λ (rows : Side_by_side). three_in rows q) (rows_some limit base mine theirs p e) ∙ by_order p e (path_cmp q p) refl (others p (omega arith))

-- ---- the rows of three listings

pub all_rise : (base mine theirs : Listing) → IsListing base → IsListing mine → IsListing theirs → IsStrictlySortedBy path_cmp (keys_of (rows_of base mine theirs))
unfolding rows_of
all_rise base mine theirs ub um ut = rows_rise (length base + length mine + length theirs) base mine theirs ub um ut

pub all_three : (base mine theirs : Listing) → IsListing base → IsListing mine → IsListing theirs → (q : List ℕ) → three_in (rows_of base mine theirs) q ≡ three_at base mine theirs q
unfolding rows_of
all_three base mine theirs ub um ut = rows_three (length base + length mine + length theirs) base mine theirs ub um ut (omega arith)
