-- Which paths a merge has.
use Rattle.std.proofs.Common.{◌≡◌, ℕ, ◌⊎◌, inl, inr, Bool, true, false, cond, List, [], ◌∷◌, Ordering, refl, sym, ap, ◌∙◌, subst, arith, filter}
use Rattle.std.specs.List.{Contains}
use Rattle.std.specs.Map.{keys_of}
use Rattle.std.specs.declared.cmp.Ordering.TheVariants.{Less, Equal, Greater}
use Rattle.std.proofs.lemmas.Map.Lookups.{exact_bytes}
use Rattle.lists.proofs.Places.{Contains-cases, Contains-head, Contains-tail}
use Rattle.merging.specs.declared.rule.Rule.{Rule}
use Rattle.merging.specs.Choices.{Three, chosen, is_conflict}
use Rattle.merging.specs.Listings.{Listing, path_cmp, entry_at, IsListing, stands}
use Rattle.merging.specs.Merging.{three_at, stands_below, is_conflict_at}
use Rattle.merging.specs.Rows.{Side_by_side, rows_of, paths_of}
use Rattle.merging.specs.Views.{merged_conflicts}
use Rattle.merging.proofs.RowLaws.{nothing, three_in, three_other, all_three}

in_rows : (rows : Side_by_side) (q : List ℕ) → Contains (keys_of rows) q ⊎ (three_in rows q ≡ nothing)
in_rows [] q = inr refl
in_rows (row ∷ rows) q = by_order (path_cmp q row.0) refl (in_rows rows q)
  where
    by_order : (o : Ordering) → path_cmp q row.0 ≡ o → Contains (keys_of rows) q ⊎ (three_in rows q ≡ nothing) → Contains (keys_of (row ∷ rows)) q ⊎ (three_in (row ∷ rows) q ≡ nothing)
    by_order Equal e rest = inl (subst (λ (k : List ℕ). Contains (row.0 ∷ keys_of rows) k) (sym (exact_bytes q row.0 e)) (Contains-head row.0 (keys_of rows)))
    by_order Less e (inl there) = inl (Contains-tail row.0 (keys_of rows) q there)
    by_order Less e (inr none) = inr (three_other q row rows Less e refl ∙ none)
    by_order Greater e (inl there) = inl (Contains-tail row.0 (keys_of rows) q there)
    by_order Greater e (inr none) = inr (three_other q row rows Greater e refl ∙ none)

in_paths : (base mine theirs : Listing) (path : List ℕ) → IsListing base → IsListing mine → IsListing theirs
    → (three_at base mine theirs path ≡ nothing → ⊥) → Contains (paths_of base mine theirs) path
in_paths base mine theirs path ub um ut some = elim (in_rows (rows_of base mine theirs) path) [
  | inl there ↦ there
  | inr none ↦ absurd (some (sym (all_three base mine theirs ub um ut path) ∙ none))
]

pub path_listed : (base mine theirs : Listing) (path : List ℕ) → IsListing base → IsListing mine → IsListing theirs
    → (stands (entry_at base path) ≡ true) ⊎ ((stands (entry_at mine path) ≡ true) ⊎ (stands (entry_at theirs path) ≡ true)) → Contains (paths_of base mine theirs) path
path_listed base mine theirs path ub um ut some = in_paths base mine theirs path ub um ut (λ none. elim some [
  | inl here ↦ let gone = ap (λ (x : Three). stands x.base) none in cc
  | inr others ↦ elim others [
    | inl here ↦ let gone = ap (λ (x : Three). stands x.mine) none in cc
    | inr here ↦ let gone = ap (λ (x : Three). stands x.theirs) none in cc
  ]
])

quiet : (rule : Rule) (below : Bool) → is_conflict below (chosen rule nothing) nothing ≡ false
quiet rule true = refl
quiet rule false = refl

passes : (test : List ℕ → Bool) (ks : List (List ℕ)) (k : List ℕ) → Contains (filter test ks) k → test k ≡ true
passes test [] k (n, less, is) = absurd (omega arith)
passes test (x ∷ xs) k there = by_test (test x) refl there (λ h. passes test xs k h)
  where
    by_test : (b : Bool) → test x ≡ b → Contains (let ys : List (List ℕ) = cond b (x ∷ filter test xs) (filter test xs) in ys) k → (Contains (filter test xs) k → test k ≡ true) → test k ≡ true
    by_test true e there later = elim (Contains-cases x (filter test xs) k there) [ inl is ↦ ap test (sym is) ∙ e | inr rest ↦ later rest ]
    by_test false e there later = later there

passed : (test : List ℕ → Bool) (ks : List (List ℕ)) (k : List ℕ) → Contains ks k → test k ≡ true → Contains (filter test ks) k
passed test [] k (n, less, is) h = absurd (omega arith)
passed test (x ∷ xs) k there h = by_test (test x) refl (Contains-cases x xs k there) (λ rest. passed test xs k rest h)
  where
    by_test : (b : Bool) → test x ≡ b → (x ≡ k) ⊎ Contains xs k → (Contains xs k → Contains (filter test xs) k) → Contains (let ys : List (List ℕ) = cond b (x ∷ filter test xs) (filter test xs) in ys) k
    by_test true e (inl is) later = subst (λ (y : List ℕ). Contains (x ∷ filter test xs) y) is (Contains-head x (filter test xs))
    by_test true e (inr rest) later = Contains-tail x (filter test xs) k (later rest)
    by_test false e (inl is) later = (let bad = sym e ∙ ap test is ∙ h in absurd (cc))
    by_test false e (inr rest) later = later rest

pub conflict_listed : (rule : Rule) (base mine theirs : Listing) (path : List ℕ) → IsListing base → IsListing mine → IsListing theirs
    → is_conflict_at rule base mine theirs path ≡ true → Contains (merged_conflicts rule base mine theirs) path
conflict_listed rule base mine theirs path ub um ut h = passed (is_conflict_at rule base mine theirs) (paths_of base mine theirs) path
    (in_paths base mine theirs path ub um ut (λ none.
    let calm : is_conflict_at rule base mine theirs path ≡ false =
    ap (λ (x : Three). is_conflict (stands_below rule base mine theirs path) (chosen rule x) x) none ∙ quiet rule (stands_below rule base mine theirs path) in
    cc (calm, h)))
    h

pub conflict_only : (rule : Rule) (base mine theirs : Listing) (path : List ℕ) → Contains (merged_conflicts rule base mine theirs) path → is_conflict_at rule base mine theirs path ≡ true
conflict_only rule base mine theirs path there = passes (is_conflict_at rule base mine theirs) (paths_of base mine theirs) path there
