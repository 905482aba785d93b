-- Wants of which no two have the same folder can be put in order.
use Rattle.std.proofs.Common.{◌≡◌, true, false, List, [], ◌∷◌, Ordering, refl, ap, ◌∙◌}
use Rattle.std.specs.List.{All, AllByRecursion, IsDistinct}
use Rattle.std.specs.List.Sorted.{IsStrictlySortedBy, IsPermutation}
use Rattle.std.specs.Ordering.{is_eq, ordering_reverse}
use Rattle.std.specs.declared.cmp.Ordering.TheVariants.{Less, Equal, Greater}
use Rattle.std.proofs.lemmas.List.Elements.{All-nil, All-cons, All-head, All-tail, All-weaker}
use Rattle.std.proofs.lemmas.List.Sorted.{IsPermutation-refl, IsPermutation-cons, IsPermutation-middle, IsPermutation-trans, All-permutation}
use Rattle.std.proofs.lemmas.Map.Keys.{sorted_head, sorted_tail, IsDistinct-head, IsDistinct-tail}
use Rattle.names.specs.declared.folder.FolderName.{FolderName}
use Rattle.farm_base.specs.declared.want.Want.{Want}
use Rattle.names.specs.Folders.{folder_cmp, folder_eq}
use Rattle.farm_base.specs.Wanted.{folders}
use Rattle.names.proofs.FolderLemmas.{eq-by_cmp, folder_total}

-- what holds of the folders of wants holds of each want's folder, and the other way round
from_folders : (P : FolderName → Type 0) (ws : List Want) → AllByRecursion P (folders ws) → All (λ w. P w.folder) ws
from_folders P [] h = All-nil (λ (w : Want). P w.folder)
from_folders P (w ∷ ws) h = All-cons (λ (w : Want). P w.folder) w ws h.0 (from_folders P ws h.1)

to_folders : (P : FolderName → Type 0) (ws : List Want) → All (λ w. P w.folder) ws → AllByRecursion P (folders ws)
to_folders P [] h = tt
to_folders P (w ∷ ws) h = (All-head (λ (w : Want). P w.folder) w ws h, to_folders P ws (All-tail (λ (w : Want). P w.folder) w ws h))

abbrev pub IsRising : List Want → Type 0
IsRising ws = IsStrictlySortedBy folder_cmp (folders ws)

-- the want's folder is below those of all of these
abbrev IsBelow : Want → List Want → Type 0
IsBelow want ws = All (λ w. folder_cmp want.folder w.folder ≡ Less) ws

rising_cons : (w : Want) (ws : List Want) → IsBelow w ws → IsRising ws → IsRising (w ∷ ws)
unfolding IsStrictlySortedBy
rising_cons w ws below rising = (to_folders (λ f. folder_cmp w.folder f ≡ Less) ws below, rising)

rising_head : (w : Want) (ws : List Want) → IsRising (w ∷ ws) → IsBelow w ws
rising_head w ws rising = from_folders (λ f. folder_cmp w.folder f ≡ Less) ws (sorted_head folder_cmp w.folder (folders ws) rising)

-- wants in order that are these in another one
pub record IsInOrder (ws : List Want) : Type 0 where
  pub order : List Want
  pub moved : IsPermutation ws order
  pub rising : IsRising order

-- one more want, whose folder is none of theirs

placed_by : (o : Ordering) (want w : Want) (ws : List Want) → folder_cmp want.folder w.folder ≡ o → IsRising (w ∷ ws)
    → All (λ w. folder_eq want.folder w.folder ≡ false) (w ∷ ws) → IsInOrder (want ∷ ws) → IsInOrder (want ∷ w ∷ ws)
placed_by Less want w ws e rising apart rest =
    let behind = All-weaker (λ (v : Want). folder_cmp w.folder v.folder ≡ Less) (λ (v : Want). folder_cmp want.folder v.folder ≡ Less)
    (λ v less. folder_total.trans want.folder w.folder v.folder e less) ws (rising_head w ws rising) in
    record {
      order = want ∷ w ∷ ws;
      moved = IsPermutation-refl (want ∷ w ∷ ws);
      rising = rising_cons want (w ∷ ws) (All-cons (λ (v : Want). folder_cmp want.folder v.folder ≡ Less) w ws e behind) rising;
    }
placed_by Equal want w ws e rising apart rest =
    let one : folder_eq want.folder w.folder ≡ true = eq-by_cmp want.folder w.folder ∙ ap is_eq e in
    let other = All-head (λ (v : Want). folder_eq want.folder v.folder ≡ false) w ws apart in
    absurd cc
placed_by Greater want w ws e rising apart rest =
    let P = λ (v : Want). folder_cmp w.folder v.folder ≡ Less in
    let below : folder_cmp w.folder want.folder ≡ Less = folder_total.antisymm w.folder want.folder ∙ ap ordering_reverse e in
    let above = All-permutation P (want ∷ ws) rest.order rest.moved (All-cons P want ws below (rising_head w ws rising)) in
    record {
      order = w ∷ rest.order;
      moved = IsPermutation-trans (want ∷ w ∷ ws) (w ∷ want ∷ ws) (w ∷ rest.order) (IsPermutation-middle (want ∷ []) w ws)
          (IsPermutation-cons w (want ∷ ws) rest.order rest.moved);
      rising = rising_cons w rest.order above rest.rising;
    }

placed : (want : Want) (ws : List Want) → IsRising ws → All (λ w. folder_eq want.folder w.folder ≡ false) ws → IsInOrder (want ∷ ws)
placed want [] rising apart = record {
  order = want ∷ [];
  moved = IsPermutation-refl (want ∷ []);
  rising = rising_cons want [] (All-nil (λ (v : Want). folder_cmp want.folder v.folder ≡ Less)) rising;
}
placed want (w ∷ ws) rising apart = placed_by (folder_cmp want.folder w.folder) want w ws refl rising apart
    (placed want ws (sorted_tail folder_cmp w.folder (folders ws) rising) (All-tail (λ (v : Want). folder_eq want.folder v.folder ≡ false) w ws apart))

-- wants of different folders can be put in order
pub in_order : (ws : List Want) → IsDistinct folder_eq (folders ws) → IsInOrder ws
unfolding IsStrictlySortedBy
in_order [] distinct = record { order = []; moved = IsPermutation-refl []; rising = tt }
in_order (w ∷ ws) distinct =
    let P = λ (v : Want). folder_eq w.folder v.folder ≡ false in
    let rest = in_order ws (IsDistinct-tail folder_eq w.folder (folders ws) distinct) in
    let apart = from_folders (λ f. folder_eq w.folder f ≡ false) ws (IsDistinct-head folder_eq w.folder (folders ws) distinct) in
    let all = placed w rest.order rest.rising (All-permutation P ws rest.order rest.moved apart) in
    record {
      order = all.order;
      moved = IsPermutation-trans (w ∷ ws) (w ∷ rest.order) all.order (IsPermutation-cons w ws rest.order rest.moved) all.moved;
      rising = all.rising;
    }
