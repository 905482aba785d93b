-- What a node stores that was begun from kept contents.
use Rattle.std.proofs.Common.{◌≡◌, ◌≢◌, ℕ, Bool, true, false, if◌then◌else◌, List, [], ◌∷◌, Option, None, Some, is_some, Result, Ok, Err, OnOk, refl, sym, ap, ◌∙◌, subst}
use Rattle.std.specs.List.{All}
use Rattle.std.specs.Result.{is_err}
use Rattle.std.proofs.lemmas.List.Elements.{All-head, All-tail}
use Rattle.names.proofs.CompareLaws.{digest_exact}
use Rattle.names.specs.Contents.{content_digest}
use Rattle.names.specs.Digests.{digest_eq}
use Rattle.nodecontents.specs.Stored.{store_one, store_each}
use Rattle.protocol.specs.Names.{Digest}
use Rattle.protocol.specs.World.{keep, first_node}

-- so it is of each digest under which something is stored, the empty content's excepted
abbrev AreAll : (Digest → Type 0) → (Digest → Option (List ℕ)) → Type 0
AreAll P store = (d : Digest) (c : List ℕ) → store d ≡ Some c → d ≢ content_digest [] → P d

first_all : (P : Digest → Type 0) → AreAll P (first_node content_digest).store
first_all P d c is apart = by_test (digest_eq d (content_digest [])) refl is
  where
    by_test : (test : Bool) → digest_eq d (content_digest []) ≡ test → (if test then Some [] else None) ≡ Some c → P d
    by_test true same is = absurd (apart (digest_exact d (content_digest []) same))
    by_test false other is = absurd (cc is)

put_all : (P : Digest → Type 0) (x : List ℕ) (store : Digest → Option (List ℕ)) → P (content_digest x) → AreAll P store → AreAll P (keep (content_digest x) x store)
put_all P x store here old d c is apart = by_test (digest_eq d (content_digest x)) refl is
  where
    by_test : (test : Bool) → digest_eq d (content_digest x) ≡ test → (if test then Some x else store d) ≡ Some c → P d
    by_test true same is = subst P (sym (digest_exact d (content_digest x) same)) here
    by_test false other is = old d c is apart

one_all : (P : Digest → Type 0) (x : List ℕ) (store : Digest → Option (List ℕ)) (is_here : Bool) → P (content_digest x) → AreAll P store
    → AreAll P (if is_here then store else keep (content_digest x) x store)
one_all P x store true here old = old
one_all P x store false here old = put_all P x store here old

each_all : (P : Digest → Type 0) (cs : List (List ℕ)) (store : Digest → Option (List ℕ)) → All (λ (c : List ℕ). P (content_digest c)) cs → AreAll P store
    → AreAll P (store_each cs store)
each_all P [] store each old = old
each_all P (x ∷ cs) store each old =
    each_all P cs (store_one x store) (All-tail (λ (c : List ℕ). P (content_digest c)) x cs each)
    (one_all P x store (is_some (store (content_digest x))) (All-head (λ (c : List ℕ). P (content_digest c)) x cs each) old)

-- of the contents that were kept
pub kept_all : (P : Digest → Type 0) (cs : List (List ℕ)) (store : Digest → Option (List ℕ)) → store ≡ store_each cs (first_node content_digest).store
    → All (λ (c : List ℕ). P (content_digest c)) cs → AreAll P store
kept_all P cs store is each = subst (AreAll P) (sym is) (each_all P cs (first_node content_digest).store each (first_all P))

-- what some stores, all store
abbrev StandsIn : (Digest → Option (List ℕ)) → (Digest → Option (List ℕ)) → Type 0
StandsIn some all = (d : Digest) (c : List ℕ) → some d ≡ Some c → all d ≡ Some c

put_stands : (x : List ℕ) (some all : Digest → Option (List ℕ)) → all (content_digest x) ≡ Some x → StandsIn some all → StandsIn (keep (content_digest x) x some) all
put_stands x some all here so_far d c is = by_test (digest_eq d (content_digest x)) refl is
  where
    by_test : (test : Bool) → digest_eq d (content_digest x) ≡ test → (if test then Some x else some d) ≡ Some c → all d ≡ Some c
    by_test true same is = ap all (digest_exact d (content_digest x) same) ∙ here ∙ is
    by_test false other is = so_far d c is

one_stands : (x : List ℕ) (some all : Digest → Option (List ℕ)) (is_here : Bool) → all (content_digest x) ≡ Some x → StandsIn some all
    → StandsIn (if is_here then some else keep (content_digest x) x some) all
one_stands x some all true here so_far = so_far
one_stands x some all false here so_far = put_stands x some all here so_far

each_stands : (cs : List (List ℕ)) (some all : Digest → Option (List ℕ)) → All (λ (c : List ℕ). all (content_digest c) ≡ Some c) cs → StandsIn some all → StandsIn (store_each cs some) all
each_stands [] some all each so_far = so_far
each_stands (x ∷ cs) some all each so_far =
    each_stands cs (store_one x some) all (All-tail (λ (c : List ℕ). all (content_digest c) ≡ Some c) x cs each)
    (one_stands x some all (is_some (some (content_digest x))) (All-head (λ (c : List ℕ). all (content_digest c) ≡ Some c) x cs each) so_far)

-- of the contents that were kept, where these were stored
pub kept_stands : (all : Digest → Option (List ℕ)) (cs : List (List ℕ)) → All (λ (c : List ℕ). all (content_digest c) ≡ Some c) cs → all (content_digest []) ≡ Some []
    → StandsIn (store_each cs (first_node content_digest).store) all
kept_stands all cs each empty = each_stands cs (first_node content_digest).store all each (put_stands [] (λ d. None) all empty (λ d c is. absurd (cc is)))

-- what holds where the call went well
pub went_well : {T E : Type 0} (r : Result T E) (P : Type 0) → is_err r ≡ false → OnOk r P → P
went_well (Ok x) P fine h = h
went_well (Err e) P fine h = absurd (cc fine)
