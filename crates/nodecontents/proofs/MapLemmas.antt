-- What is stored and known, with one entry more.
use mathlib.Core.Path.{fun_ext}
use Rattle.std.proofs.Common.{◌≡◌, ℕ, Bool, true, false, cond, ◌&&◌, List, [], ◌∷◌, ◌++◌, map, refl, ap, sym, ◌∙◌, Option, Some, is_some, Result, Ok, Err, zero, suc, ◌≤◌, length, drop, eqb, arith}
use Rattle.std.specs.Prelude.{if◌then◌else◌, nat_eq, IsOk, OnOk}
use Rattle.std.proofs.lemmas.Cmp.{nat_eq_equiv, nat_list_eq_equiv}
use Rattle.std.proofs.lemmas.Grind.{common_steps}
use Rattle.indexmap.specs.IndexMap.{IndexMap, get}
use Rattle.names.specs.Digests.{digest_eq}
use Rattle.names.specs.Slots.{slot_eq}
use Rattle.farm_base.specs.Versions.{version_eq}
use Rattle.farm_base.specs.declared.message.Version.{Version}
use Rattle.names.proofs.CompareLaws.{slot_equivalence}
use Rattle.names.specs.Contents.{content_digest}
use Rattle.protocol.specs.Names.{Slot, Digest, slots_eq}
use Rattle.protocol.specs.Nodes.{Left, stored, news_of}
use Rattle.protocol.specs.World.{keep, learn, learn_versions, learn_bases}
use Rattle.protocol.specs.Machine.{Confirmed, GrantedSlot, slots_of}
use Rattle.nodecontents.specs.Stored.{store_in, known_in, learn_all, version_of, base_of}

pub digest_eq-sym : (a b : Digest) → digest_eq a b ≡ digest_eq b a
digest_eq-sym a b = nat_list_eq_equiv.symm a.0 b.0

-- the store with one content more
pub keep_shown : {S : Type 0} (m n : IndexMap Digest (List ℕ) S) (d : Digest) (v : List ℕ) → ((q : Digest) → get digest_eq n q ≡ cond (digest_eq d q) (Some v) (get digest_eq m q))
    → (λ e. get digest_eq n e) ≡ keep d v (λ e. get digest_eq m e)
keep_shown m n d v h = fun_ext (λ e. h e ∙ ap (λ (b : Bool). cond b (Some v) (get digest_eq m e)) (digest_eq-sym d e))

-- what an Ok promises
pub on_ok : {A E p : Type 0} (r : Result A E) → IsOk r → OnOk r p → p
on_ok (Ok x) h o = o
on_ok (Err e) h o = absurd (cc)

both : {X : Type 0} (p q : Bool) (x r : X) → cond (p && q) x r ≡ (if p then (if q then x else r) else r)
both true true x r = refl
both true false x r = refl
both false true x r = refl
both false false x r = refl

-- what is known of a version, where one more was learnt
pub learn_here : (v : Version) (d : Digest) (known : Slot → ℕ → Option Digest) (s : Slot) (k : ℕ) → cond (version_eq v (record { slot = s; number = k })) (Some d) (known s k) ≡ learn v.slot v.number d known s k
learn_here v d known s k =
    both (slot_eq v.slot s) (nat_eq v.number k) (Some d) (known s k)
    ∙ (λ j. if slot_equivalence.symm v.slot s j then (if nat_eq_equiv.symm v.number k j then Some d else known s k) else known s k)

-- one version more is known
pub learns : {S : Type 0} (m n : IndexMap Version Digest S) (v : Version) (d : Digest) → ((q : Version) → get version_eq n q ≡ cond (version_eq v q) (Some d) (get version_eq m q))
    → known_in n ≡ learn v.slot v.number d (known_in m)
learns m n v d h = fun_ext (λ s. fun_ext (λ k. h (record { slot = s; number = k }) ∙ learn_here v d (known_in m) s k))

-- one more at the end
pub learn_all-push : (vs : List (Version × Digest)) (v : Version × Digest) (known : Slot → ℕ → Option Digest) → learn_all (vs ++ v ∷ []) known ≡ learn v.0.slot v.0.number v.1 (learn_all vs known)
learn_all-push [] v known = refl
learn_all-push (x ∷ xs) v known = learn_all-push xs v (learn x.0.slot x.0.number x.1 known)

-- one content more is stored
pub stores : {S : Type 0} (m n : IndexMap Digest (List ℕ) S) (d : Digest) (c : List ℕ) → d ≡ content_digest c → is_some (store_in m d) ≡ false → ((q : Digest) → get digest_eq n q ≡ cond (digest_eq d q) (Some c) (get digest_eq m q))
    → store_in n ≡ (if is_some (store_in m (content_digest c)) then store_in m else keep (content_digest c) c (store_in m))
stores m n d c e p h =
    let absent : is_some (store_in m (content_digest c)) ≡ false = ap (λ (z : Digest). is_some (store_in m z)) (sym e) ∙ p in
    rw absent (keep_shown m n d c h ∙ ap (λ (z : Digest). keep z c (store_in m)) e)

pub stored-push : (sha : List ℕ → Digest) (xs : List Left) (x : Left) (store : Digest → Option (List ℕ))
    → stored sha (xs ++ x ∷ []) store ≡ (if is_some (stored sha xs store (sha x.content)) then stored sha xs store else keep (sha x.content) x.content (stored sha xs store))
stored-push sha [] x store = refl
stored-push sha (y ∷ ys) x store = elim (is_some (store (sha y.content))) as (λ b. (if b then stored sha (ys ++ x ∷ []) store else stored sha (ys ++ x ∷ []) (keep (sha y.content) y.content store))
    ≡ (if is_some ((if b then stored sha ys store else stored sha ys (keep (sha y.content) y.content store)) (sha x.content)) then (if b then stored sha ys store else stored sha ys (keep (sha y.content) y.content store)) else keep (sha x.content) x.content (if b then stored sha ys store else stored sha ys (keep (sha y.content) y.content store)))) [
      | true ↦ stored-push sha ys x store
      | false ↦ stored-push sha ys x (keep (sha y.content) y.content store)
    ]

-- a map with the same entries
pub same_known : {S : Type 0} (m n : IndexMap Version Digest S) → n.entries ≡ m.entries → known_in n ≡ known_in m
same_known m n h = fun_ext (λ s. fun_ext (λ k. rw h refl))

pub versions_learned : (vs : List Confirmed) (known : Slot → ℕ → Option Digest) → learn_versions vs known ≡ learn_all (map version_of vs) known
versions_learned [] known = refl
versions_learned (v ∷ vs) known = versions_learned vs (learn v.slot v.number v.digest known)

pub bases_learned : (us : List GrantedSlot) (known : Slot → ℕ → Option Digest) → learn_bases us known ≡ learn_all (map base_of us) known
bases_learned [] known = refl
bases_learned (u ∷ us) known = bases_learned us (learn u.slot u.base u.digest known)

not_zero : (n : ℕ) → false ≡ eqb (suc n) 0
not_zero n = grind (arith, common_steps)

-- nothing is left to leave
pub fits_end : (rest : List Left) → slots_eq (slots_of (news_of content_digest rest)) [] ≡ eqb (length rest) 0
fits_end [] = refl
fits_end (x ∷ xs) = not_zero (length xs)

pub drop_end : {A : Type 0} (xs : List A) (i : ℕ) → length xs ≤ i → drop i xs ≡ []
drop_end [] zero h = refl
drop_end [] (suc i) h = refl
drop_end (x ∷ xs) zero h = absurd (omega (arith, h))
drop_end (x ∷ xs) (suc i) h = drop_end xs i (omega (arith, h))
