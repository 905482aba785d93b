-- A vertex has one list of wants.
use Rattle.std.proofs.Common.{◌≡◌, ℕ, zero, suc, ◌⊎◌, inl, inr, Bool, true, false, List, [], ◌∷◌, refl, sym, ap, ◌∙◌, subst, arith}
use Rattle.std.specs.List.{Contains}
use Rattle.std.specs.List.Sorted.{IsStrictlySortedBy}
use Rattle.std.proofs.lemmas.Bool.{cases_Bool}
use Rattle.names.specs.declared.digest.Key.{Key}
use Rattle.names.specs.declared.folder.Base.{Base}
use Rattle.names.specs.declared.folder.FolderName.{FolderName}
use Rattle.farm_base.specs.declared.want.Want.{Want}
use Rattle.names.specs.Folders.{folder_cmp}
use Rattle.farm_base.specs.Wanted.{folders, IsWants}
use Rattle.names.proofs.CompareLaws.{folder_total}
use Rattle.opsproto.specs.Scalars.{Text}
use Rattle.opsproto.specs.declared.exec.Mount.{Mount}
use Rattle.lists.proofs.Places.{Contains-cases}
use Rattle.lists.proofs.Rising.{behind, same_rising}
use Rattle.vertices.specs.Loading.{GraphParts}
use Rattle.cachemounts.specs.CacheWants.{to_write, AreWantsOf, AreWants}
use Rattle.cachemounts.proofs.MountLemmas.{one_has}

abbrev folder_of : Want → FolderName
folder_of want = want.folder

-- a want of a folder, where there is one
want_of : (wants : List Want) (folder : FolderName) → Contains (folders wants) folder → (want : Want) × Contains wants want × (want.folder ≡ folder)
want_of [] folder (k, less, is) = absurd (omega arith)
want_of (w ∷ wants) folder (zero, less, is) = (w, (0, omega arith, refl), is)
want_of (w ∷ wants) folder (suc k, less, is) =
    let rest = want_of wants folder (k, omega arith, is) in
    (rest.0, (suc rest.1.0, omega (arith, rest.1.1), rest.1.2), rest.2)

folder_in : (wants : List Want) (want : Want) → Contains wants want → Contains (folders wants) want.folder
folder_in [] want (k, less, is) = absurd (omega arith)
folder_in (w ∷ wants) want (zero, less, is) = (0, omega arith, ap (λ (x : Want). x.folder) is)
folder_in (w ∷ wants) want (suc k, less, is) =
    let rest = folder_in wants want (k, omega arith, is) in (suc rest.0, omega (arith, rest.1), rest.2)

-- of wants that rise, two with one folder are one
one_want : (wants : List Want) (want other : Want) → IsStrictlySortedBy folder_cmp (folders wants) → Contains wants want → Contains wants other
    → want.folder ≡ other.folder → want ≡ other
unfolding IsStrictlySortedBy
one_want [] want other rising (k, less, is) there same = absurd (omega arith)
one_want (w ∷ wants) want other rising here there same =
    by (λ d e. one_want wants want other rising.1 d e same) (Contains-cases w wants want here) (Contains-cases w wants other there)
  where
    apart : (a b : Want) → w ≡ a → Contains wants b → a.folder ≡ b.folder → ⊥
    apart a b is c e = behind folder_cmp folder_total folder_of w wants b rising.0 c (ap folder_of is ∙ e)

    by : (Contains wants want → Contains wants other → want ≡ other) → (w ≡ want) ⊎ Contains wants want → (w ≡ other) ⊎ Contains wants other → want ≡ other
    by later (inl a) (inl b) = sym a ∙ b
    by later (inl a) (inr d) = absurd (apart want other a d same)
    by later (inr d) (inl b) = absurd (apart other want b d (sym same))
    by later (inr d) (inr e) = later d e

module _ (outputs : List Base) (mounts : List (Mount Text)) where
  -- a want of the one is one of the other
  goes_over : (one other : List Want) → IsWants one → AreWantsOf outputs mounts one → AreWantsOf outputs mounts other
      → (want : Want) → Contains one want → Contains other want
  goes_over one other rises h k want there = by_flag want.writable refl
    where
      by_flag : (flag : Bool) → want.writable ≡ flag → Contains other want
      by_flag true e =
          let own : want ≡ to_write want.folder = ap (λ (b : Bool). let w : Want = record { folder = want.folder; writable = b } in w) e in
          let written = (h.written want.folder).0 (subst (Contains one) own there) in
          subst (Contains other) (sym own) ((k.written want.folder).1 written)
      by_flag false e =
          let found = want_of other want.folder ((k.wanted want.folder).1 ((h.wanted want.folder).0 (folder_in one want there))) in
          elim (cases_Bool found.0.writable) [
            | inl yes_written ↦
                let own : found.0 ≡ to_write want.folder
                = λ j. let w : Want = record { folder = found.2 j; writable = yes_written j } in w in
                let written = (k.written want.folder).0 (subst (Contains other) own found.1) in
                let again = one_want one want (to_write want.folder) rises.1 there ((h.written want.folder).1 written) refl in
                let flag : want.writable ≡ true = ap (λ (w : Want). w.writable) again in
                absurd (cc (e, flag))
            | inr not_written ↦
                let own : found.0 ≡ want = λ j. let w : Want = record { folder = found.2 j; writable = (not_written ∙ sym e) j } in w in
                subst (Contains other) own found.1
          ]

-- the wants of a vertex are one list
pub one_wants : (g : GraphParts) (keys : List Key) (number : ℕ) (one other : List Want) → IsWants one → IsWants other
    → AreWants g keys number one → AreWants g keys number other → one ≡ other
one_wants g keys number one other rises climbs h k =
    let same = one_has g keys number h.outputs k.outputs h.mounts k.mounts h.has k.has in
    let also : AreWantsOf k.outputs k.mounts one
    = subst (λ (os : List Base). AreWantsOf os k.mounts one) same.0 (subst (λ (ms : List (Mount Text)). AreWantsOf h.outputs ms one) same.1 h.wants_are) in
    same_rising folder_cmp folder_total folder_of one other rises.1 climbs.1
    (goes_over k.outputs k.mounts one other rises also k.wants_are)
    (goes_over k.outputs k.mounts other one climbs k.wants_are also)
