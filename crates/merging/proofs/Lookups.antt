-- What stands in a listing.
use Rattle.std.proofs.Common.{◌≡◌, ℕ, Bool, false, cond, List, [], ◌∷◌, ◌++◌, Some, None, Ordering, refl, sym, ap, ◌∙◌}
use Rattle.std.specs.List.{AllByRecursion}
use Rattle.std.specs.List.Sorted.{IsStrictlySortedBy}
use Rattle.std.specs.Map.{keys_of}
use Rattle.std.specs.Ordering.{is_eq, ordering_reverse}
use Rattle.std.specs.declared.cmp.Ordering.TheVariants.{Less, Equal, Greater}
use Rattle.std.specs.Cmp.Lexicographic.{nat_list_cmp_total}
use Rattle.std.proofs.lemmas.Map.Lookups.{exact_bytes}
use Rattle.lists.proofs.Places.{some_is}
use Rattle.merging.specs.Listings.{Listing, Place, path_cmp, entry_at, IsListing}

abbrev pub Line : Type 0
Line = List ℕ × List ℕ

pub cmp_itself : (p : List ℕ) → path_cmp p p ≡ Equal
cmp_itself p = by_order (path_cmp p p) refl
  where
    by_order : (o : Ordering) → path_cmp p p ≡ o → path_cmp p p ≡ Equal
    by_order Less e = (let turned : Less ≡ Greater = sym e ∙ nat_list_cmp_total.antisymm p p ∙ ap ordering_reverse e in absurd (cc))
    by_order Equal e = e
    by_order Greater e = (let turned : Greater ≡ Less = sym e ∙ nat_list_cmp_total.antisymm p p ∙ ap ordering_reverse e in absurd (cc))

pub reversed : (a b : List ℕ) (o : Ordering) → path_cmp a b ≡ o → path_cmp b a ≡ ordering_reverse o
reversed a b o e = nat_list_cmp_total.antisymm b a ∙ ap ordering_reverse e

-- the first line is at its path
pub first_at : (f : Line) (fs : Listing) → entry_at (f ∷ fs) f.0 ≡ Some f.1
first_at f fs = ap (λ (o : Ordering). cond (is_eq o) (Some f.1) (entry_at fs f.0)) (cmp_itself f.0)

-- another path is not at the first line
pub other_at : (p : List ℕ) (f : Line) (fs : Listing) (o : Ordering) → path_cmp p f.0 ≡ o → is_eq o ≡ false → entry_at (f ∷ fs) p ≡ entry_at fs p
other_at p f fs o e ne = ap (λ (o : Ordering). cond (is_eq o) (Some f.1) (entry_at fs p)) e ∙ ap (λ (b : Bool). cond b (Some f.1) (entry_at fs p)) ne

-- a path below all others is not there
pub absent : (p : List ℕ) (fs : Listing) → AllByRecursion (λ k. path_cmp p k ≡ Less) (keys_of fs) → entry_at fs p ≡ None
absent p [] all = refl
absent p (f ∷ fs) all = other_at p f fs Less all.0 refl ∙ absent p fs all.1

pub above_all : (p q : List ℕ) (qs : List (List ℕ)) → path_cmp p q ≡ Less → AllByRecursion (λ r. path_cmp q r ≡ Less) qs → AllByRecursion (λ r. path_cmp p r ≡ Less) qs
above_all p q [] lt h = tt
above_all p q (r ∷ rs) lt h = (nat_list_cmp_total.trans p q r lt h.0, above_all p q rs lt h.1)

-- what stands is one of the paths
pub listed : (fs : Listing) (p x : List ℕ) → entry_at fs p ≡ Some x → (before behind : List (List ℕ)) × (keys_of fs ≡ before ++ p ∷ behind)
listed [] p x h = absurd (cc)
listed (f ∷ fs) p x h = by_order (path_cmp p f.0) refl (λ e. listed fs p x e)
  where
    later : ((before behind : List (List ℕ)) × (keys_of fs ≡ before ++ p ∷ behind)) → (before behind : List (List ℕ)) × (keys_of (f ∷ fs) ≡ before ++ p ∷ behind)
    later rest = (f.0 ∷ rest.0, rest.1, ap (λ (ks : List (List ℕ)). f.0 ∷ ks) rest.2)

    by_order : (o : Ordering) → path_cmp p f.0 ≡ o → (entry_at fs p ≡ Some x → (before behind : List (List ℕ)) × (keys_of fs ≡ before ++ p ∷ behind))
        → (before behind : List (List ℕ)) × (keys_of (f ∷ fs) ≡ before ++ p ∷ behind)
    by_order Less e find = later (find (sym (other_at p f fs Less e refl) ∙ h))
    by_order Equal e find = ([], keys_of fs, ap (λ (k : List ℕ). k ∷ keys_of fs) (sym (exact_bytes p f.0 e)))
    by_order Greater e find = later (find (sym (other_at p f fs Greater e refl) ∙ h))

-- a listing is known by what stands at each path
pub same_listing : (xs ys : Listing) → IsListing xs → IsListing ys → ((p : List ℕ) → entry_at xs p ≡ entry_at ys p) → xs ≡ ys
unfolding IsStrictlySortedBy
same_listing [] [] up down h = refl
same_listing [] (y ∷ ys) up down h = (let e : ◌≡◌ {A = Place} None (Some y.1) = h y.0 ∙ first_at y ys in absurd (cc))
same_listing (x ∷ xs) [] up down h = (let e : ◌≡◌ {A = Place} None (Some x.1) = sym (h x.0) ∙ first_at x xs in absurd (cc))
same_listing (x ∷ xs) (y ∷ ys) up down h = by_order (path_cmp x.0 y.0) refl (λ same. same_listing xs ys up.1 down.1 same)
  where
    tails : (p : List ℕ) (o : Ordering) → path_cmp p x.0 ≡ o → x.0 ≡ y.0 → entry_at xs p ≡ entry_at ys p
    tails p Less e key = sym (other_at p x xs Less e refl) ∙ h p ∙ other_at p y ys Less (ap (path_cmp p) (sym key) ∙ e) refl
    tails p Greater e key = sym (other_at p x xs Greater e refl) ∙ h p ∙ other_at p y ys Greater (ap (path_cmp p) (sym key) ∙ e) refl
    tails p Equal e key =
        let is : p ≡ x.0 = exact_bytes p x.0 e in
        let gone_x : entry_at xs p ≡ None = ap (entry_at xs) is ∙ absent x.0 xs up.0 in
        let gone_y : entry_at ys p ≡ None = ap (entry_at ys) (is ∙ key) ∙ absent y.0 ys down.0 in
        gone_x ∙ sym gone_y

    by_order : (o : Ordering) → path_cmp x.0 y.0 ≡ o → (((p : List ℕ) → entry_at xs p ≡ entry_at ys p) → xs ≡ ys) → (x ∷ xs) ≡ (y ∷ ys)
    by_order Less e rest_same =
        let gone : entry_at (y ∷ ys) x.0 ≡ None = absent x.0 (y ∷ ys) (e, above_all x.0 y.0 (keys_of ys) e down.0) in
        let bad : ◌≡◌ {A = Place} None (Some x.1) = sym gone ∙ sym (h x.0) ∙ first_at x xs in
        absurd (cc)
    by_order Greater e rest_same =
        let less = reversed x.0 y.0 Greater e in
        let gone : entry_at (x ∷ xs) y.0 ≡ None = absent y.0 (x ∷ xs) (less, above_all y.0 x.0 (keys_of xs) less up.0) in
        let bad : ◌≡◌ {A = Place} None (Some y.1) = sym gone ∙ h y.0 ∙ first_at y ys in
        absurd (cc)
    by_order Equal e rest_same =
        let key : x.0 ≡ y.0 = exact_bytes x.0 y.0 e in
        let value : ◌≡◌ {A = Place} (Some x.1) (Some y.1) = sym (first_at x xs) ∙ h x.0 ∙ ap (entry_at (y ∷ ys)) key ∙ first_at y ys in
        let first : x ≡ y = ap (λ (k : List ℕ). let z : Line = (k, x.1) in z) key ∙ ap (λ (v : List ℕ). let z : Line = (y.0, v) in z) (some_is x.1 y.1 value) in
        let rest : xs ≡ ys = rest_same (λ p. tails p (path_cmp p x.0) refl key) in
        ap (λ (z : Line). z ∷ xs) first ∙ ap (λ (zs : Listing). y ∷ zs) rest
