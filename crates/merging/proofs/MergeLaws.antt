-- The laws of merges.
use Rattle.std.proofs.Common.{◌≡◌, ℕ, ◌⊎◌, inl, inr, Bool, true, false, cond, not, ◌&&◌, ◌||◌, ◌==◌, List, [], ◌∷◌, ◌++◌, Some, None, refl, sym, ap, ◌∙◌, arith}
use Rattle.std.specs.List.{list_any}
use Rattle.std.specs.Map.{keys_of}
use Rattle.std.proofs.lemmas.Bool.{cases_Bool}
use Rattle.std.proofs.lemmas.Bool.Decides.{nat_tests}
use Rattle.std.proofs.lemmas.List.Folds.{list_any-append}
use Rattle.merging.specs.declared.rule.Rule.{Rule}
use Rattle.merging.specs.declared.side.Side.{Side}
use Rattle.merging.specs.declared.side.Side.TheVariants.{Mine, Theirs}
use Rattle.merging.specs.Choices.{Three, of, other, favoured, chosen, is_contested, is_kept, settled}
use Rattle.merging.specs.Listings.{Listing, Place, entry_at, IsListing, stands, is_directory, is_below, IsTree}
use Rattle.merging.specs.Merging.{three_at, chosen_at, flat_at, stands_below, side_at, merged_at, is_conflict_at, IsMerge, Stays}
use Rattle.merging.proofs.ChoiceLaws.{untouched, alone, agreed, contested, cases, contested_side, untouched_side, untouched_takes_theirs, alone_takes_mine, taken, either_order}
use Rattle.merging.proofs.Lookups.{listed, same_listing}

-- ---- tests

pub both_true : (p q : Bool) → (p && q) ≡ true → (p ≡ true) × (q ≡ true)
both_true true true h = (refl, refl)
both_true true false h = absurd (cc)
both_true false q h = absurd (cc)

and_true : (p q : Bool) → p ≡ true → q ≡ true → (p && q) ≡ true
and_true p q e f = rw (e, f) refl

or_right : (p q : Bool) → q ≡ true → (p || q) ≡ true
or_right true q h = refl
or_right false q h = h

or_left : (p q : Bool) → p ≡ true → (p || q) ≡ true
or_left p q h = rw h refl

or_false : (p q : Bool) → (p || q) ≡ false → (p ≡ false) × (q ≡ false)
or_false true q h = absurd (cc)
or_false false q h = (refl, h)

not_true : (p : Bool) → not p ≡ true → p ≡ false
not_true true h = absurd (cc)
not_true false h = refl

false_of : (p : Bool) → (p ≡ true → ⊥) → p ≡ false
false_of true h = absurd (h refl)
false_of false h = refl

stands_some : (a : Place) → stands a ≡ true → (x : List ℕ) × (a ≡ Some x)
stands_some None h = absurd (cc)
stands_some (Some x) h = (x, refl)

pub directory_stands : (a : Place) → is_directory a ≡ true → stands a ≡ true
directory_stands None h = absurd (cc)
directory_stands (Some x) h = refl

-- ---- below

same_byte : (a b : ℕ) → (a == b) ≡ true → a ≡ b
same_byte a b h = grind (arith, nat_tests)

byte_itself : (a : ℕ) → (a == a) ≡ true
byte_itself a = grind (arith, nat_tests)

pub below_below : (dir mid path : List ℕ) → is_below dir mid ≡ true → is_below mid path ≡ true → is_below dir path ≡ true
below_below [] [] path h k = absurd (cc)
below_below [] (b ∷ mid) [] h k = absurd (cc)
below_below [] (b ∷ mid) (c ∷ path) h k =
    let e : c ≡ b = same_byte c b (both_true (c == b) (is_below mid path) k).0 in
    ap (λ (n : ℕ). n == 0) e ∙ h
below_below (a ∷ dir) [] path h k = absurd (cc)
below_below (a ∷ dir) (b ∷ mid) [] h k = absurd (cc)
below_below (a ∷ dir) (b ∷ mid) (c ∷ path) h k =
    let one = both_true (b == a) (is_below dir mid) h in
    let two = both_true (c == b) (is_below mid path) k in
    let e : c ≡ b = same_byte c b two.0 in
    and_true (c == a) (is_below dir path) (ap (λ (n : ℕ). n == a) e ∙ one.0) (below_below dir mid path one.1 two.1)

-- ---- what stands below

found : (test : List ℕ → Bool) (ks : List (List ℕ)) → list_any test ks ≡ true → (k : List ℕ) × (test k ≡ true)
found test [] h = absurd (cc)
found test (k ∷ ks) h = by_test (test k) refl (λ later. found test ks later)
  where
    by_test : (b : Bool) → test k ≡ b → (list_any test ks ≡ true → (k : List ℕ) × (test k ≡ true)) → (k : List ℕ) × (test k ≡ true)
    by_test true e find = (k, e)
    by_test false e find = find (sym (ap (λ (v : Bool). v || list_any test ks) e) ∙ h)

any_in : (test : List ℕ → Bool) (before : List (List ℕ)) (k : List ℕ) (behind : List (List ℕ)) → test k ≡ true → list_any test (before ++ k ∷ behind) ≡ true
any_in test [] k behind h = or_left (test k) (list_any test behind) h
any_in test (b ∷ before) k behind h = or_right (test b) (list_any test (before ++ k ∷ behind)) (any_in test before k behind h)

any_listed : (test : List ℕ → Bool) (l : Listing) (k : List ℕ) → stands (entry_at l k) ≡ true → test k ≡ true → list_any test (keys_of l) ≡ true
any_listed test l k there h =
    let some = stands_some (entry_at l k) there in
    let place = listed l k some.0 some.1 in
    ap (list_any test) place.2 ∙ any_in test place.0 k place.1 h

module _ (rule : Rule) (base mine theirs : Listing) where
  abbrev M : List ℕ → Place
  M path = merged_at rule base mine theirs path

  abbrev F : List ℕ → Place
  F path = flat_at rule base mine theirs path

  abbrev X : List ℕ → Three
  X path = three_at base mine theirs path

  abbrev kept_at : List ℕ → Bool
  kept_at path = is_kept (stands_below rule base mine theirs path) (chosen_at rule base mine theirs path) (X path)

  -- an entry that stands below
  pub below_found : (dir : List ℕ) → stands_below rule base mine theirs dir ≡ true → (path : List ℕ) × (is_below dir path ≡ true) × (stands (F path) ≡ true)
  unfolding stands_below
  below_found dir h =
      let one = found (λ path. is_below dir path && stands (F path)) (keys_of mine ++ keys_of theirs) h in
      let two = both_true (is_below dir one.0) (stands (F one.0)) one.1 in
      (one.0, two.0, two.1)

  pub below_from : (dir path : List ℕ) → is_below dir path ≡ true → stands (F path) ≡ true → stands_below rule base mine theirs dir ≡ true
  unfolding stands_below
  below_from dir path h there =
      let test : List ℕ → Bool = λ path. is_below dir path && stands (F path) in
      let passes : test path ≡ true = and_true (is_below dir path) (stands (F path)) h there in
      list_any-append test (keys_of mine) (keys_of theirs) ∙ by_side (chosen_at rule base mine theirs path) there test passes
    where
      by_side : (s : Side) → stands (of s (X path)) ≡ true → (test : List ℕ → Bool) → test path ≡ true → (list_any test (keys_of mine) || list_any test (keys_of theirs)) ≡ true
      by_side Mine here test passes = or_left (list_any test (keys_of mine)) (list_any test (keys_of theirs)) (any_listed test mine path here passes)
      by_side Theirs here test passes = or_right (list_any test (keys_of mine)) (list_any test (keys_of theirs)) (any_listed test theirs path here passes)

  kept_settles : (below : Bool) (s : Side) (x : Three) (b : Bool) → is_kept below s x ≡ b → of (settled below s x) x ≡ cond b (of (other s) x) (of s x)
  kept_settles below s x b e = ap (λ (v : Bool). of (cond v (other s) s) x) e ∙ by_test b
    where
      by_test : (b : Bool) → of (cond b (other s) s) x ≡ cond b (of (other s) x) (of s x)
      by_test true = refl
      by_test false = refl

  pub not_kept : (path : List ℕ) → kept_at path ≡ false → M path ≡ F path
  not_kept path h = kept_settles (stands_below rule base mine theirs path) (chosen_at rule base mine theirs path) (X path) false h

  pub is_other : (path : List ℕ) → kept_at path ≡ true → M path ≡ of (other (chosen_at rule base mine theirs path)) (X path)
  is_other path h = kept_settles (stands_below rule base mine theirs path) (chosen_at rule base mine theirs path) (X path) true h

  -- what it says that a directory stays
  pub kept_parts : (path : List ℕ) → kept_at path ≡ true
      → (stands_below rule base mine theirs path ≡ true) × (is_directory (F path) ≡ false) × (is_directory (of (other (chosen_at rule base mine theirs path)) (X path)) ≡ true)
  kept_parts path h =
      let one = both_true (stands_below rule base mine theirs path) (not (is_directory (F path)) && is_directory (of (other (chosen_at rule base mine theirs path)) (X path))) h in
      let two = both_true (not (is_directory (F path))) (is_directory (of (other (chosen_at rule base mine theirs path)) (X path))) one.1 in
      (one.0, not_true (is_directory (F path)) two.0, two.1)

  pub kept_from : (path : List ℕ) → stands_below rule base mine theirs path ≡ true → is_directory (F path) ≡ false
      → is_directory (of (other (chosen_at rule base mine theirs path)) (X path)) ≡ true → kept_at path ≡ true
  kept_from path h k d =
      and_true (stands_below rule base mine theirs path) (not (is_directory (F path)) && is_directory (of (other (chosen_at rule base mine theirs path)) (X path))) h
      (and_true (not (is_directory (F path))) (is_directory (of (other (chosen_at rule base mine theirs path)) (X path))) (ap not k) d)

  -- where the entries that are taken are a tree, the merge is these entries
  pub flat_tree : IsTree F → (path : List ℕ) → M path ≡ F path
  flat_tree tree path = not_kept path (false_of (kept_at path) bad)
    where
      bad : kept_at path ≡ true → ⊥
      bad h =
          let parts = kept_parts path h in
          let there = below_found path parts.0 in
          let dir = tree path there.0 there.1 there.2 in
          cc (parts.1, dir)

  -- what stands after the merge is taken, or above something that is taken
  pub stands_source : (path : List ℕ) → stands (M path) ≡ true → (stands (F path) ≡ true) ⊎ (stands_below rule base mine theirs path ≡ true)
  stands_source path h = elim (cases_Bool (kept_at path)) [
    | inl kept ↦ inr (kept_parts path kept).0
    | inr free ↦ inl (ap stands (sym (not_kept path free)) ∙ h)
  ]

  pub below_of_stands : (dir path : List ℕ) → is_below dir path ≡ true → stands (M path) ≡ true → stands_below rule base mine theirs dir ≡ true
  below_of_stands dir path h there = elim (stands_source path there) [
    | inl here ↦ below_from dir path h here
    | inr lower ↦ let more = below_found path lower in below_from dir more.0 (below_below dir path more.0 h more.1) more.2
  ]

  -- the merge of trees is a tree
  pub merged_tree : IsTree (λ path. entry_at mine path) → IsTree (λ path. entry_at theirs path) → IsTree M
  merged_tree mine_tree theirs_tree dir path h there =
      let below = below_of_stands dir path h there in
      let more = below_found dir below in
      let side : Side = chosen_at rule base mine theirs more.0 in
      let on_side : is_directory (of side (X dir)) ≡ true = by_side side more.0 more.1 more.2 in
      elim (cases_Bool (is_directory (F dir))) [
        | inl is ↦ elim (cases_Bool (kept_at dir)) [
          | inl kept ↦ absurd (cc (is, (kept_parts dir kept).1))
          | inr free ↦ ap is_directory (not_kept dir free) ∙ is
        ]
        | inr isnt ↦
            let turned : is_directory (of (other (chosen_at rule base mine theirs dir)) (X dir)) ≡ true = one_of_two side (chosen_at rule base mine theirs dir) (X dir) on_side isnt in
            ap is_directory (is_other dir (kept_from dir below isnt turned)) ∙ turned
      ]
    where
      by_side : (s : Side) (low : List ℕ) → is_below dir low ≡ true → stands (of s (X low)) ≡ true → is_directory (of s (X dir)) ≡ true
      by_side Mine low h here = mine_tree dir low h here
      by_side Theirs low h here = theirs_tree dir low h here

      one_of_two : (s c : Side) (x : Three) → is_directory (of s x) ≡ true → is_directory (of c x) ≡ false → is_directory (of (other c) x) ≡ true
      one_of_two Mine Mine x is isnt = absurd (cc)
      one_of_two Mine Theirs x is isnt = is
      one_of_two Theirs Mine x is isnt = is
      one_of_two Theirs Theirs x is isnt = absurd (cc)

  -- without a conflict, each path is as if no other mattered
  pub no_conflict : (path : List ℕ) → is_conflict_at rule base mine theirs path ≡ false → (is_contested (X path) ≡ false) × (M path ≡ F path)
  no_conflict path h =
      let parts = or_false (is_contested (X path)) (kept_at path) h in
      (parts.0, not_kept path parts.1)

-- ---- nothing of one side alone is lost

pub nothing_changed_by_mine : (rule : Rule) (base theirs : Listing) → IsTree (λ path. entry_at theirs path) → (path : List ℕ) → merged_at rule base base theirs path ≡ entry_at theirs path
nothing_changed_by_mine rule base theirs tree path = flat_tree rule base base theirs flat path ∙ same path
  where
    same : (path : List ℕ) → flat_at rule base base theirs path ≡ entry_at theirs path
    same path = untouched_takes_theirs rule (three_at base base theirs path) refl

    flat : IsTree (λ path. flat_at rule base base theirs path)
    flat dir path h there = ap is_directory (same dir) ∙ tree dir path h (ap stands (sym (same path)) ∙ there)

pub nothing_changed_by_theirs : (rule : Rule) (base mine : Listing) → IsTree (λ path. entry_at mine path) → (path : List ℕ) → merged_at rule base mine base path ≡ entry_at mine path
nothing_changed_by_theirs rule base mine tree path = flat_tree rule base mine base flat path ∙ same path
  where
    same : (path : List ℕ) → flat_at rule base mine base path ≡ entry_at mine path
    same path = alone_takes_mine rule (three_at base mine base path) refl

    flat : IsTree (λ path. flat_at rule base mine base path)
    flat dir path h there = ap is_directory (same dir) ∙ tree dir path h (ap stands (sym (same path)) ∙ there)

-- ---- two commands in either order

pub orders_agree : (rule : Rule) (base one two theirs with_one with_two : Listing)
    → IsMerge rule base one theirs with_one → IsMerge rule base two theirs with_two
    → ((path : List ℕ) → is_conflict_at rule base one theirs path ≡ false) → ((path : List ℕ) → is_conflict_at rule base two theirs path ≡ false)
    → ((path : List ℕ) → is_conflict_at rule base one with_two path ≡ false) → ((path : List ℕ) → is_conflict_at rule base two with_one path ≡ false)
    → (path : List ℕ) → merged_at rule base one with_two path ≡ merged_at rule base two with_one path
orders_agree rule base one two theirs with_one with_two m1 m2 f1 f2 f12 f21 path =
    let n1 = no_conflict rule base one theirs path (f1 path) in
    let n2 = no_conflict rule base two theirs path (f2 path) in
    let n12 = no_conflict rule base one with_two path (f12 path) in
    let n21 = no_conflict rule base two with_one path (f21 path) in
    let e1 : entry_at with_one path ≡ flat_at rule base one theirs path = m1.each path ∙ n1.1 in
    let e2 : entry_at with_two path ≡ flat_at rule base two theirs path = m2.each path ∙ n2.1 in
    let b : Place = entry_at base path in
    let c12 : is_contested (record { base = b; mine = entry_at one path; theirs = flat_at rule base two theirs path }) ≡ false
    = ap (λ (z : Place). is_contested (record { base = b; mine = entry_at one path; theirs = z })) (sym e2) ∙ n12.0 in
    let left : flat_at rule base one with_two path ≡ taken rule (record { base = b; mine = entry_at one path; theirs = flat_at rule base two theirs path })
    = ap (λ (z : Place). taken rule (record { base = b; mine = entry_at one path; theirs = z })) e2 in
    let right : flat_at rule base two with_one path ≡ taken rule (record { base = b; mine = entry_at two path; theirs = flat_at rule base one theirs path })
    = ap (λ (z : Place). taken rule (record { base = b; mine = entry_at two path; theirs = z })) e1 in
    n12.1 ∙ left ∙ either_order rule b (entry_at one path) (entry_at two path) (entry_at theirs path) n1.0 n2.0 c12 ∙ sym right ∙ sym n21.1

-- ---- merging again changes nothing

side_or : (s : Side) (x : Three) → (x.mine ≡ of s x) ⊎ (x.theirs ≡ of s x)
side_or Mine x = inl refl
side_or Theirs x = inr refl

any_side : (x : Three) (a : Place) → x.mine ≡ a → x.theirs ≡ a → (s : Side) → of s x ≡ a
any_side x a h k Mine = h
any_side x a h k Theirs = k

pub same_bool : (p q : Bool) → (p ≡ true → q ≡ true) → (q ≡ true → p ≡ true) → p ≡ q
same_bool true q f g = sym (f refl)
same_bool false true f g = g refl
same_bool false false f g = refl

module _ (rule : Rule) (base mine theirs merged : Listing) (m : IsMerge rule base mine theirs merged) where
  abbrev now : List ℕ → Three
  now path = three_at base mine theirs path

  abbrev again : List ℕ → Three
  again path = three_at base mine merged path

  -- merged again, both sides of a path are what it was merged to, or it is as before
  either : (path : List ℕ) → ((s : Side) → of s (again path) ≡ merged_at rule base mine theirs path) ⊎ (again path ≡ now path)
  either path = elim (side_or (side_at rule base mine theirs path) (now path)) [
    | inl is ↦ inl (any_side (again path) (merged_at rule base mine theirs path) is (m.each path))
    | inr is ↦ inr (ap (λ (z : Place). let y : Three = record { base = entry_at base path; mine = entry_at mine path; theirs = z } in y) (m.each path ∙ sym is))
  ]

  still_stands : (path : List ℕ) → stands (flat_at rule base mine theirs path) ≡ true → stands (merged_at rule base mine theirs path) ≡ true
  still_stands path h = elim (cases_Bool (is_kept (stands_below rule base mine theirs path) (chosen_at rule base mine theirs path) (now path))) [
    | inl kept ↦ ap stands (is_other rule base mine theirs path kept) ∙ directory_stands (of (other (chosen_at rule base mine theirs path)) (now path)) (kept_parts rule base mine theirs path kept).2
    | inr free ↦ ap stands (not_kept rule base mine theirs path free) ∙ h
  ]

  below_again : (dir : List ℕ) → stands_below rule base mine merged dir ≡ stands_below rule base mine theirs dir
  below_again dir = same_bool (stands_below rule base mine merged dir) (stands_below rule base mine theirs dir) to from
    where
      to : stands_below rule base mine merged dir ≡ true → stands_below rule base mine theirs dir ≡ true
      to h =
          let one = below_found rule base mine merged dir h in
          elim (either one.0) [
            | inl all ↦ below_of_stands rule base mine theirs dir one.0 one.1 (ap stands (sym (all (chosen_at rule base mine merged one.0))) ∙ one.2)
            | inr is ↦ below_from rule base mine theirs dir one.0 one.1 (ap (λ (x : Three). stands (taken rule x)) (sym is) ∙ one.2)
          ]

      from : stands_below rule base mine theirs dir ≡ true → stands_below rule base mine merged dir ≡ true
      from h =
          let one = below_found rule base mine theirs dir h in
          elim (either one.0) [
            | inl all ↦ below_from rule base mine merged dir one.0 one.1 (ap stands (all (chosen_at rule base mine merged one.0)) ∙ still_stands one.0 one.2)
            | inr is ↦ below_from rule base mine merged dir one.0 one.1 (ap (λ (x : Three). stands (taken rule x)) is ∙ one.2)
          ]

  abbrev settle : Bool → Three → Place
  settle below x = of (settled below (chosen rule x) x) x

  pub merged_again : (path : List ℕ) → merged_at rule base mine merged path ≡ merged_at rule base mine theirs path
  merged_again path = elim (either path) [
    | inl all ↦ all (side_at rule base mine merged path)
    | inr is ↦ ap (settle (stands_below rule base mine merged path)) is ∙ ap (λ (b : Bool). settle b (now path)) (below_again path)
  ]

-- ---- the listing of a merge

pub one_merge : (rule rule' : Rule) (base mine theirs base' mine' theirs' merged merged' : Listing) → IsMerge rule base mine theirs merged → IsMerge rule' base' mine' theirs' merged'
    → ((path : List ℕ) → merged_at rule base mine theirs path ≡ merged_at rule' base' mine' theirs' path) → merged ≡ merged'
one_merge rule rule' base mine theirs base' mine' theirs' merged merged' m m' h = same_listing merged merged' m.rise m'.rise (λ path. m.each path ∙ h path ∙ sym (m'.each path))

pub merge_is : (rule : Rule) (base mine theirs merged other : Listing) → IsMerge rule base mine theirs merged → IsListing other
    → ((path : List ℕ) → merged_at rule base mine theirs path ≡ entry_at other path) → merged ≡ other
merge_is rule base mine theirs merged other m rise h = same_listing merged other m.rise rise (λ path. m.each path ∙ h path)

pub merge_again : (rule : Rule) (base mine theirs merged again : Listing) → IsMerge rule base mine theirs merged → IsMerge rule base mine merged again → again ≡ merged
merge_again rule base mine theirs merged again m m' = merge_is rule base mine merged again merged m' m.rise (λ path. merged_again rule base mine theirs merged m path ∙ sym (m.each path))

pub merge_tree : (rule : Rule) (base mine theirs merged : Listing) → IsMerge rule base mine theirs merged
    → IsTree (λ path. entry_at mine path) → IsTree (λ path. entry_at theirs path) → IsTree (λ path. entry_at merged path)
merge_tree rule base mine theirs merged m t1 t2 dir path h there =
    ap is_directory (m.each dir) ∙ merged_tree rule base mine theirs t1 t2 dir path h (ap stands (sym (m.each path)) ∙ there)

-- ---- what is lost of a side

-- where a directory stays that the side drops, the other side has it
stays : (rule : Rule) (s : Side) (base mine theirs : Listing) (path : List ℕ) → chosen_at rule base mine theirs path ≡ s
    → is_kept (stands_below rule base mine theirs path) (chosen_at rule base mine theirs path) (three_at base mine theirs path) ≡ true
    → Stays (other s) rule base mine theirs path
stays rule s base mine theirs path side kept =
    let x : Three = three_at base mine theirs path in
    let parts = kept_parts rule base mine theirs path kept in
    let turned : of (other (chosen rule x)) x ≡ of (other s) x = ap (λ (s : Side). of (other s) x) side in
    record {
      merged = is_other rule base mine theirs path kept ∙ turned;
      directory = ap is_directory (sym turned) ∙ parts.2;
      dropped = ap is_directory (ap (λ (s : Side). of s x) (twice s) ∙ sym (ap (λ (s : Side). of s x) side)) ∙ parts.1;
      below = parts.0;
      conflict = or_right (is_contested x) (is_kept (stands_below rule base mine theirs path) (chosen_at rule base mine theirs path) x) kept;
    }
  where
    twice : (s : Side) → other (other s) ≡ s
    twice Mine = refl
    twice Theirs = refl

-- a path that is taken from a side is that side's, or its directory stays
pub taken_stays : (rule : Rule) (s : Side) (base mine theirs : Listing) (path : List ℕ) → chosen_at rule base mine theirs path ≡ s
    → (merged_at rule base mine theirs path ≡ of s (three_at base mine theirs path)) ⊎ Stays (other s) rule base mine theirs path
taken_stays rule s base mine theirs path side =
    let x : Three = three_at base mine theirs path in
    elim (cases_Bool (is_kept (stands_below rule base mine theirs path) (chosen_at rule base mine theirs path) x)) [
      | inr free ↦ inl (not_kept rule base mine theirs path free ∙ ap (λ (s : Side). of s x) side)
      | inl kept ↦ inr (stays rule s base mine theirs path side kept)
    ]

pub theirs_stay : (rule : Rule) (base mine theirs : Listing) (path : List ℕ) → entry_at mine path ≡ entry_at base path
    → (merged_at rule base mine theirs path ≡ entry_at theirs path) ⊎ Stays Mine rule base mine theirs path
theirs_stay rule base mine theirs path h = taken_stays rule Theirs base mine theirs path (untouched_side rule (three_at base mine theirs path) h)

pub mine_stay : (rule : Rule) (base mine theirs : Listing) (path : List ℕ) → entry_at theirs path ≡ entry_at base path
    → (merged_at rule base mine theirs path ≡ entry_at mine path) ⊎ Stays Theirs rule base mine theirs path
mine_stay rule base mine theirs path h = elim (cases rule (three_at base mine theirs path)) [
  | untouched is ch ↦ elim (taken_stays rule Theirs base mine theirs path ch) [ inl e ↦ inl (e ∙ h ∙ sym is) | inr s ↦ inl (absurd (same_place s (h ∙ sym is))) ]
  | alone ne is ch ↦ taken_stays rule Mine base mine theirs path ch
  | agreed ne nt is ch ↦ absurd (nt h)
  | contested ne nt nm ch co ↦ absurd (nt h)
]
  where
    same_place : Stays Mine rule base mine theirs path → entry_at theirs path ≡ entry_at mine path → ⊥
    same_place s e = (let d = ap is_directory e in let d1 = s.directory in let d2 = s.dropped in cc)

pub contested_stays : (rule : Rule) (base mine theirs : Listing) (path : List ℕ) → is_contested (three_at base mine theirs path) ≡ true
    → (merged_at rule base mine theirs path ≡ of (favoured rule (entry_at mine path) (entry_at theirs path)) (three_at base mine theirs path))
    ⊎ Stays (other (favoured rule (entry_at mine path) (entry_at theirs path))) rule base mine theirs path
contested_stays rule base mine theirs path h =
    taken_stays rule (favoured rule (entry_at mine path) (entry_at theirs path)) base mine theirs path (contested_side rule (three_at base mine theirs path) h)
