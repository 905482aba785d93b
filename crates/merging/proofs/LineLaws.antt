-- The lines that rows are decided to are those of the merge.
use Rattle.std.proofs.Common.{◌≡◌, ℕ, ◌⊎◌, inl, inr, Bool, true, false, cond, ◌&&◌, ◌==◌, List, [], ◌∷◌, ◌++◌, Option, Some, None, Ordering, refl, sym, ap, ◌∙◌, arith, filter, flat_map}
use Rattle.std.specs.List.{AllByRecursion}
use Rattle.std.specs.List.Sorted.{IsStrictlySortedBy}
use Rattle.std.specs.Map.{keys_of}
use Rattle.std.specs.Ordering.{is_eq, nat_cmp, ordering_then}
use Rattle.std.specs.declared.cmp.Ordering.TheVariants.{Less, Equal, Greater}
use Rattle.std.specs.Cmp.Lexicographic.{nat_list_cmp_total}
use Rattle.std.proofs.lemmas.Bool.Decides.{nat_tests}
use Rattle.std.proofs.lemmas.Map.Lookups.{exact_bytes, exact_unsigned}
use Rattle.lists.proofs.Places.{some_is}
use Rattle.lists.proofs.Rising.{less-from_cmp}
use Rattle.merging.specs.declared.rule.Rule.{Rule}
use Rattle.merging.specs.declared.side.Side.{Side}
use Rattle.merging.specs.declared.side.Side.TheVariants.{Mine, Theirs}
use Rattle.merging.specs.Choices.{Three, of, chosen, settled, is_conflict}
use Rattle.merging.specs.Listings.{Listing, Place, path_cmp, entry_at, IsListing, stands, is_below}
use Rattle.merging.specs.Merging.{three_at, stands_below, side_at, merged_at, is_conflict_at, IsMerge}
use Rattle.merging.specs.Rows.{Side_by_side, next_taken, has_below, line_if, lines_in, conflicts_in}
use Rattle.merging.specs.Views.{plain, line_at}
use Rattle.merging.proofs.ChoiceLaws.{taken}
use Rattle.merging.proofs.Lookups.{reversed, first_at, other_at, absent}
use Rattle.merging.proofs.MergeLaws.{both_true, below_found, below_from}
use Rattle.merging.proofs.RowLaws.{Above, nothing, three_in, three_first, three_other}

-- ---- what is below comes right behind

same_byte : (a b : ℕ) → (a == b) ≡ true → a ≡ b
same_byte a b h = grind (arith, nat_tests)

byte_is : (a b : ℕ) → a ≡ b → (a == b) ≡ true
byte_is a b h = grind (arith, nat_tests)

cmp_same : (a b : ℕ) → a ≡ b → nat_cmp a b ≡ Equal
cmp_same a b h = grind (arith, nat_tests)

then_less : (o r : Ordering) → ordering_then o r ≡ Less → (o ≡ Less) ⊎ ((o ≡ Equal) × (r ≡ Less))
then_less Less r h = inl refl
then_less Equal r h = inr (refl, h)
then_less Greater r h = absurd (cc)

pub behind_dir : (dir path : List ℕ) → is_below dir path ≡ true → path_cmp dir path ≡ Less
behind_dir [] [] h = absurd (cc)
behind_dir [] (b ∷ path) h = refl
behind_dir (a ∷ dir) [] h = absurd (cc)
behind_dir (a ∷ dir) (b ∷ path) h =
    let parts = both_true (b == a) (is_below dir path) h in
    ap (λ (o : Ordering). ordering_then o (path_cmp dir path)) (cmp_same a b (sym (same_byte b a parts.0))) ∙ behind_dir dir path parts.1

pub between : (dir mid path : List ℕ) → is_below dir path ≡ true → path_cmp dir mid ≡ Less → path_cmp mid path ≡ Less → is_below dir mid ≡ true
between [] [] path h up down = absurd (cc)
between [] (b ∷ mid) [] h up down = absurd (cc)
between [] (b ∷ mid) (c ∷ path) h up down =
    let low : c ≡ 0 = same_byte c 0 h in
    elim (then_less (nat_cmp b c) (path_cmp mid path) down) [
      | inl less ↦ let lt = less-from_cmp b c less in absurd (omega arith)
      | inr both ↦ let is = exact_unsigned b c both.0 in byte_is b 0 (is ∙ low)
    ]
between (a ∷ dir) [] path h up down = absurd (cc)
between (a ∷ dir) (b ∷ mid) [] h up down = absurd (cc)
between (a ∷ dir) (b ∷ mid) (c ∷ path) h up down =
    let parts = both_true (c == a) (is_below dir path) h in
    let same : c ≡ a = same_byte c a parts.0 in
    elim (then_less (nat_cmp a b) (path_cmp dir mid) up) [
      | inl less ↦
          let one = less-from_cmp a b less in
          elim (then_less (nat_cmp b c) (path_cmp mid path) down) [
            | inl less' ↦ let two = less-from_cmp b c less' in absurd (omega arith)
            | inr both' ↦ let two = exact_unsigned b c both'.0 in absurd (omega arith)
          ]
      | inr both ↦
          let one : a ≡ b = exact_unsigned a b both.0 in
          elim (then_less (nat_cmp b c) (path_cmp mid path) down) [
            | inl less' ↦ let two = less-from_cmp b c less' in absurd (omega arith)
            | inr both' ↦ ap (λ (t : Bool). t && is_below dir mid) (byte_is b a (sym one)) ∙ between dir mid path parts.1 both.1 both'.1
          ]
    ]

-- ---- the first path that is taken

next_some : (rule : Rule) (rows : Side_by_side) (p : List ℕ) → IsStrictlySortedBy path_cmp (keys_of rows) → next_taken rule rows ≡ Some p
    → (stands (taken rule (three_in rows p)) ≡ true) × ((x : List ℕ) → Above x rows → path_cmp x p ≡ Less)
unfolding IsStrictlySortedBy
next_some rule [] p up e = absurd (cc)
next_some rule (row ∷ rows) p up e = by_test (stands (taken rule row.1)) refl (λ h. next_some rule rows p up.1 h)
  where
    by_test : (t : Bool) → stands (taken rule row.1) ≡ t
        → (next_taken rule rows ≡ Some p → (stands (taken rule (three_in rows p)) ≡ true) × ((x : List ℕ) → Above x rows → path_cmp x p ≡ Less))
        → (stands (taken rule (three_in (row ∷ rows) p)) ≡ true) × ((x : List ℕ) → Above x (row ∷ rows) → path_cmp x p ≡ Less)
    by_test true h later =
        let is : row.0 ≡ p = some_is row.0 p (sym (ap (λ (t : Bool). let z : Option (List ℕ) = cond t (Some row.0) (next_taken rule rows) in z) h) ∙ e) in (
          ap (λ (q : List ℕ). stands (taken rule (three_in (row ∷ rows) q))) (sym is) ∙ ap (λ (x : Three). stands (taken rule x)) (three_first row rows) ∙ h,
          λ x above. ap (path_cmp x) (sym is) ∙ above.0,
        )
    by_test false h later =
        let rest = later (sym (ap (λ (t : Bool). let z : Option (List ℕ) = cond t (Some row.0) (next_taken rule rows) in z) h) ∙ e) in
        let less = rest.1 row.0 up.0 in (
          ap (λ (x : Three). stands (taken rule x)) (three_other p row rows Greater (reversed row.0 p Less less) refl) ∙ rest.0,
          λ x above. rest.1 x above.1,
        )

-- a path that is taken is the first one or behind it
next_found : (rule : Rule) (rows : Side_by_side) (q : List ℕ) → IsStrictlySortedBy path_cmp (keys_of rows) → stands (taken rule (three_in rows q)) ≡ true
    → (p : List ℕ) × (next_taken rule rows ≡ Some p) × ((p ≡ q) ⊎ (path_cmp p q ≡ Less))
unfolding IsStrictlySortedBy
next_found rule [] q up h = absurd (cc)
next_found rule (row ∷ rows) q up h = by_test (stands (taken rule row.1)) refl (path_cmp q row.0) refl (λ k. next_found rule rows q up.1 k)
  where
    by_test : (t : Bool) → stands (taken rule row.1) ≡ t → (o : Ordering) → path_cmp q row.0 ≡ o
        → (stands (taken rule (three_in rows q)) ≡ true → (p : List ℕ) × (next_taken rule rows ≡ Some p) × ((p ≡ q) ⊎ (path_cmp p q ≡ Less)))
        → (p : List ℕ) × (next_taken rule (row ∷ rows) ≡ Some p) × ((p ≡ q) ⊎ (path_cmp p q ≡ Less))
    by_test true k Equal e later = (row.0, ap (λ (t : Bool). let z : Option (List ℕ) = cond t (Some row.0) (next_taken rule rows) in z) k, inl (sym (exact_bytes q row.0 e)))
    by_test true k Greater e later = (row.0, ap (λ (t : Bool). let z : Option (List ℕ) = cond t (Some row.0) (next_taken rule rows) in z) k, inr (reversed q row.0 Greater e))
    by_test true k Less e later =
        let rest = later (ap (λ (x : Three). stands (taken rule x)) (sym (three_other q row rows Less e refl)) ∙ h) in
        let first = (next_some rule rows rest.0 up.1 rest.1).1 row.0 up.0 in
        let less : path_cmp row.0 q ≡ Less = elim rest.2 [
          | inl is ↦ ap (path_cmp row.0) (sym is) ∙ first
          | inr lt ↦ nat_list_cmp_total.trans row.0 rest.0 q first lt
        ] in
        let bad : Less ≡ Greater = sym e ∙ reversed row.0 q Less less in
        absurd (cc)
    by_test false k Equal e later =
        let is : q ≡ row.0 = exact_bytes q row.0 e in
        let here : stands (taken rule row.1) ≡ true = ap (λ (x : Three). stands (taken rule x)) (sym (three_first row rows) ∙ ap (three_in (row ∷ rows)) (sym is)) ∙ h in
        absurd (cc (here, k))
    by_test false k Less e later =
        let rest = later (ap (λ (x : Three). stands (taken rule x)) (sym (three_other q row rows Less e refl)) ∙ h) in
        (rest.0, ap (λ (t : Bool). let z : Option (List ℕ) = cond t (Some row.0) (next_taken rule rows) in z) k ∙ rest.1, rest.2)
    by_test false k Greater e later =
        let rest = later (ap (λ (x : Three). stands (taken rule x)) (sym (three_other q row rows Greater e refl)) ∙ h) in
        (rest.0, ap (λ (t : Bool). let z : Option (List ℕ) = cond t (Some row.0) (next_taken rule rows) in z) k ∙ rest.1, rest.2)

same_bool : (p q : Bool) → (p ≡ true → q ≡ true) → (q ≡ true → p ≡ true) → p ≡ q
same_bool true q f g = sym (f refl)
same_bool false true f g = g refl
same_bool false false f g = refl

below_some : (dir : List ℕ) (next : Option (List ℕ)) → has_below dir next ≡ true → (p : List ℕ) × (next ≡ Some p) × (is_below dir p ≡ true)
below_some dir None h = absurd (cc)
below_some dir (Some p) h = (p, refl, h)

module _ (rule : Rule) (base mine theirs : Listing) where
  abbrev X : List ℕ → Three
  X path = three_at base mine theirs path

  -- whether something below stands is told by the first path behind that is taken
  below_told : (dir : List ℕ) (rows : Side_by_side) → IsStrictlySortedBy path_cmp (keys_of rows) → Above dir rows
      → ((q : List ℕ) → path_cmp dir q ≡ Less → three_in rows q ≡ X q) → has_below dir (next_taken rule rows) ≡ stands_below rule base mine theirs dir
  below_told dir rows up above know = same_bool (has_below dir (next_taken rule rows)) (stands_below rule base mine theirs dir) to from
    where
      to : has_below dir (next_taken rule rows) ≡ true → stands_below rule base mine theirs dir ≡ true
      to h =
          let some = below_some dir (next_taken rule rows) h in
          let first = next_some rule rows some.0 up some.1 in
          below_from rule base mine theirs dir some.0 some.2 (ap (λ (x : Three). stands (taken rule x)) (sym (know some.0 (first.1 dir above))) ∙ first.0)

      from : stands_below rule base mine theirs dir ≡ true → has_below dir (next_taken rule rows) ≡ true
      from h =
          let low = below_found rule base mine theirs dir h in
          let there : stands (taken rule (three_in rows low.0)) ≡ true = ap (λ (x : Three). stands (taken rule x)) (know low.0 (behind_dir dir low.0 low.1)) ∙ low.2 in
          let next = next_found rule rows low.0 up there in
          let first = (next_some rule rows next.0 up next.1).1 dir above in
          let below : is_below dir next.0 ≡ true = elim next.2 [
            | inl is ↦ ap (is_below dir) is ∙ low.1
            | inr lt ↦ between dir next.0 low.0 low.1 first lt
          ] in
          ap (has_below dir) next.1 ∙ below

  abbrev lines_for : List ℕ → Bool → Three → List (List ℕ × (List ℕ × Side))
  lines_for path below x = line_if path (settled below (chosen rule x) x) (of (settled below (chosen rule x) x) x)

  abbrev conflicts_for : List ℕ → Bool → Three → List (List ℕ)
  conflicts_for path below x = cond (is_conflict below (chosen rule x) x) (path ∷ []) []

  one_more : (b : Bool) (k : List ℕ) (ks : List (List ℕ)) → (let xs : List (List ℕ) = cond b (k ∷ []) [] in xs) ++ ks ≡ cond b (k ∷ ks) ks
  one_more true k ks = refl
  one_more false k ks = refl

  abbrev Decides : Side_by_side → Type 0
  Decides rows = (lines_in rule rows ≡ flat_map (line_at rule base mine theirs) (keys_of rows))
      × (conflicts_in rule rows ≡ filter (is_conflict_at rule base mine theirs) (keys_of rows))

  row_decides : (row : List ℕ × Three) (rows : Side_by_side) → row.1 ≡ X row.0 → has_below row.0 (next_taken rule rows) ≡ stands_below rule base mine theirs row.0
      → Decides rows → Decides (row ∷ rows)
  row_decides row rows is below rest = (
    ap (λ (x : Three). lines_for row.0 (has_below row.0 (next_taken rule rows)) x ++ lines_in rule rows) is
        ∙ ap (λ (b : Bool). lines_for row.0 b (X row.0) ++ lines_in rule rows) below
        ∙ ap (λ (ls : List (List ℕ × (List ℕ × Side))). line_at rule base mine theirs row.0 ++ ls) rest.0,
    ap (λ (x : Three). conflicts_for row.0 (has_below row.0 (next_taken rule rows)) x ++ conflicts_in rule rows) is
        ∙ ap (λ (b : Bool). conflicts_for row.0 b (X row.0) ++ conflicts_in rule rows) below
        ∙ ap (λ (ks : List (List ℕ)). conflicts_for row.0 (stands_below rule base mine theirs row.0) (X row.0) ++ ks) rest.1
        ∙ one_more (is_conflict_at rule base mine theirs row.0) row.0 (filter (is_conflict_at rule base mine theirs) (keys_of rows)),
  )

  decides_behind : (last : List ℕ) (rows : Side_by_side) → IsStrictlySortedBy path_cmp (keys_of rows) → Above last rows
      → ((q : List ℕ) → path_cmp last q ≡ Less → three_in rows q ≡ X q) → Decides rows
  unfolding IsStrictlySortedBy
  decides_behind last [] up above know = (refl, refl)
  decides_behind last (row ∷ rows) up above know =
      let later : (q : List ℕ) → path_cmp row.0 q ≡ Less → three_in rows q ≡ X q =
      λ q less. sym (three_other q row rows Greater (reversed row.0 q Less less) refl) ∙ know q (nat_list_cmp_total.trans last row.0 q above.0 less) in
      row_decides row rows (sym (three_first row rows) ∙ know row.0 above.0) (below_told row.0 rows up.1 up.0 later) (decides_behind row.0 rows up.1 up.0 later)

  pub all_decided : (rows : Side_by_side) → IsStrictlySortedBy path_cmp (keys_of rows) → ((q : List ℕ) → three_in rows q ≡ X q) → Decides rows
  unfolding IsStrictlySortedBy
  all_decided [] up know = (refl, refl)
  all_decided (row ∷ rows) up know =
      let later : (q : List ℕ) → path_cmp row.0 q ≡ Less → three_in rows q ≡ X q =
      λ q less. sym (three_other q row rows Greater (reversed row.0 q Less less) refl) ∙ know q in
      row_decides row rows (sym (three_first row rows) ∙ know row.0) (below_told row.0 rows up.1 up.0 later) (decides_behind row.0 rows up.1 up.0 later)

  -- ---- as a listing

  abbrev merged_in : List (List ℕ) → Listing
  merged_in ks = plain (flat_map (line_at rule base mine theirs) ks)

  abbrev with_line : List ℕ → Side → Place → List (List ℕ × (List ℕ × Side)) → Listing
  with_line k side place ls = plain (line_if k side place ++ ls)

  lines_above : (p : List ℕ) (ks : List (List ℕ)) → AllByRecursion (λ k. path_cmp p k ≡ Less) ks → Above p (merged_in ks)
  lines_above p [] above = tt
  lines_above p (k ∷ ks) above = by_place (side_at rule base mine theirs k) (merged_at rule base mine theirs k) (lines_above p ks above.1)
    where
      by_place : (side : Side) (place : Place) → Above p (merged_in ks) → Above p (with_line k side place (flat_map (line_at rule base mine theirs) ks))
      by_place side None rest = rest
      by_place side (Some x) rest = (above.0, rest)

  pub lines_rise : (ks : List (List ℕ)) → IsStrictlySortedBy path_cmp ks → IsListing (merged_in ks)
  unfolding IsStrictlySortedBy
  lines_rise [] up = tt
  lines_rise (k ∷ ks) up = by_place (side_at rule base mine theirs k) (merged_at rule base mine theirs k) (lines_rise ks up.1)
    where
      by_place : (side : Side) (place : Place) → IsListing (merged_in ks) → IsListing (with_line k side place (flat_map (line_at rule base mine theirs) ks))
      by_place side None rest = rest
      by_place side (Some x) rest = (lines_above k ks up.0, rest)

  skip : (q k : List ℕ) (side : Side) (place : Place) (ls : List (List ℕ × (List ℕ × Side))) (o : Ordering) → path_cmp q k ≡ o → is_eq o ≡ false
      → entry_at (with_line k side place ls) q ≡ entry_at (plain ls) q
  skip q k side None ls o e ne = refl
  skip q k side (Some x) ls o e ne = other_at q (k, x) (plain ls) o e ne

  here : (k : List ℕ) (side : Side) (place : Place) (ls : List (List ℕ × (List ℕ × Side))) → Above k (plain ls) → entry_at (with_line k side place ls) k ≡ place
  here k side None ls above = absent k (plain ls) above
  here k side (Some x) ls above = first_at (k, x) (plain ls)

  lines_at : (rows : Side_by_side) (q : List ℕ) → IsStrictlySortedBy path_cmp (keys_of rows)
      → (entry_at (merged_in (keys_of rows)) q ≡ merged_at rule base mine theirs q) ⊎ ((entry_at (merged_in (keys_of rows)) q ≡ None) × (three_in rows q ≡ nothing))
  unfolding IsStrictlySortedBy
  lines_at [] q up = inr (refl, refl)
  lines_at (row ∷ rows) q up = by_order (path_cmp q row.0) refl (lines_at rows q up.1)
    where
      later : (o : Ordering) → path_cmp q row.0 ≡ o → is_eq o ≡ false
          → (entry_at (merged_in (keys_of rows)) q ≡ merged_at rule base mine theirs q) ⊎ ((entry_at (merged_in (keys_of rows)) q ≡ None) × (three_in rows q ≡ nothing))
          → (entry_at (merged_in (keys_of (row ∷ rows))) q ≡ merged_at rule base mine theirs q) ⊎ ((entry_at (merged_in (keys_of (row ∷ rows))) q ≡ None) × (three_in (row ∷ rows) q ≡ nothing))
      later o e ne rest =
          let skipped = skip q row.0 (side_at rule base mine theirs row.0) (merged_at rule base mine theirs row.0) (flat_map (line_at rule base mine theirs) (keys_of rows)) o e ne in
          elim rest [
            | inl is ↦ inl (skipped ∙ is)
            | inr none ↦ inr (skipped ∙ none.0, three_other q row rows o e ne ∙ none.1)
          ]

      by_order : (o : Ordering) → path_cmp q row.0 ≡ o
          → (entry_at (merged_in (keys_of rows)) q ≡ merged_at rule base mine theirs q) ⊎ ((entry_at (merged_in (keys_of rows)) q ≡ None) × (three_in rows q ≡ nothing))
          → (entry_at (merged_in (keys_of (row ∷ rows))) q ≡ merged_at rule base mine theirs q) ⊎ ((entry_at (merged_in (keys_of (row ∷ rows))) q ≡ None) × (three_in (row ∷ rows) q ≡ nothing))
      by_order Less e rest = later Less e refl rest
      by_order Greater e rest = later Greater e refl rest
      by_order Equal e rest =
          let is : q ≡ row.0 = exact_bytes q row.0 e in
          inl (ap (entry_at (merged_in (keys_of (row ∷ rows)))) is
          ∙ here row.0 (side_at rule base mine theirs row.0) (merged_at rule base mine theirs row.0) (flat_map (line_at rule base mine theirs) (keys_of rows)) (lines_above row.0 (keys_of rows) up.0)
          ∙ ap (merged_at rule base mine theirs) (sym is))

  none_of : (s : Side) (x : Three) → x ≡ nothing → of s x ≡ None
  none_of s x h = ap (of s) h ∙ by_side s
    where
      by_side : (s : Side) → of s nothing ≡ None
      by_side Mine = refl
      by_side Theirs = refl

  pub is_merge : (rows : Side_by_side) → IsStrictlySortedBy path_cmp (keys_of rows) → ((q : List ℕ) → three_in rows q ≡ X q) → IsMerge rule base mine theirs (merged_in (keys_of rows))
  is_merge rows up know = record {
    rise = lines_rise (keys_of rows) up;
    each = λ q. elim (lines_at rows q up) [
      | inl is ↦ is
      | inr none ↦ none.0 ∙ sym (none_of (side_at rule base mine theirs q) (X q) (sym (know q) ∙ none.1))
    ];
  }
