-- Wants that are given in any order.
use Rattle.std.proofs.Common.{◌≡◌, ℕ, ◌<◌, ◌≤◌, List, map, length, Result, Err, sym, ◌∙◌, subst, arith}
use Rattle.std.specs.Prelude.{IsErrOf, ◌↔◌, IsPermutation}
use Rattle.std.specs.List.{All, IsDistinct}
use Rattle.std.specs.List.Sorted.{IsStrictlySortedBy}
use Rattle.std.proofs.lemmas.List.Sorted.{Contains-permutation, IsPermutation-sym, length_permutation}
use Rattle.farm_base.specs.declared.want.Want.{Want}
use Rattle.farm_base.specs.declared.want.WantsRefusal.{WantsRefusal}
use Rattle.farm_base.specs.declared.want.WantsRefusal.TheVariants.{TooManyWants, SameFolderTwice, OutOfMemory}
use Rattle.names.specs.Folders.{folder_cmp, folder_eq}
use Rattle.farm_base.specs.Wanted.{folders}
use Rattle.names.proofs.FolderLemmas.{folder_total}
use Rattle.farm_base.proofs.WantLemmas.{distinct-from_sorted, distinct-permutation}
use Rattle.lists.proofs.Rising.{same_rising}
use Rattle.words.specs.declared.refusal.ReadRefusal.TheVariants.{BadForm}
use Rattle.words.specs.Refusals.{wants_refusal}
use Rattle.words.specs.Words.{want_text, IsWant, SpellGiven}
use Rattle.words.proofs.ListLemmas.{map-injective}
use Rattle.words.proofs.Spelling.{want_same}

-- the wants that some words give, if they are lawful
lawful_given : (ws : List (List ℕ)) (given wants : List Want) → All IsWant given → ws ≡ map want_text given → SpellGiven ws wants
    → (length given ≤ 16) × IsDistinct folder_eq (folders given)
lawful_given ws given wants each e h =
    let same : given ≡ h.given = map-injective want_text IsWant want_same given h.given each h.each (sym e ∙ h.text) in
    let len = length_permutation h.given wants h.sorted in
    let few = h.lawful.0 in
    let distinct = distinct-permutation wants h.given (IsPermutation-sym h.given wants h.sorted) (distinct-from_sorted wants h.lawful.1) in
    rw same (omega arith, distinct)

-- wants that are refused are not lawful
pub none_given : {T : Type 0} (r : Result T WantsRefusal) (d : WantsRefusal) (n : ℕ) (ws : List (List ℕ)) (given wants : List Want)
    → r ≡ Err d → wants_refusal d ≡ BadForm
    → (IsErrOf r TooManyWants ↔ (16 < n)) → (IsErrOf r SameFolderTwice ↔ ((n ≤ 16) × (IsDistinct folder_eq (folders given) → ⊥)))
    → n ≡ length given → All IsWant given → ws ≡ map want_text given → SpellGiven ws wants → ⊥
none_given r TooManyWants n ws given wants was bad many twice len each e h =
    let few = (lawful_given ws given wants each e h).0 in
    let over = many.0 was in
    omega arith
none_given r SameFolderTwice n ws given wants was bad many twice len each e h =
    (twice.0 was).1 (lawful_given ws given wants each e h).1
none_given r OutOfMemory n ws given wants was bad many twice len each e h = cc bad

-- wants that are the same in another order, both by rising folder, are equal
pub moved_same : (ws vs : List Want) → IsStrictlySortedBy folder_cmp (folders ws) → IsStrictlySortedBy folder_cmp (folders vs) → IsPermutation ws vs → ws ≡ vs
moved_same ws vs up sorted moved =
    same_rising folder_cmp folder_total (λ (w : Want). w.folder) ws vs up sorted (λ x c. Contains-permutation ws vs x moved c)
    (λ x c. Contains-permutation vs ws x (IsPermutation-sym ws vs moved) c)

-- words give one list of wants
pub given_same : (ws : List (List ℕ)) (a b : List Want) → SpellGiven ws a → SpellGiven ws b → a ≡ b
given_same ws a b ha hb =
    let given : ha.given ≡ hb.given = map-injective want_text IsWant want_same ha.given hb.given ha.each hb.each (sym ha.text ∙ hb.text) in
    let moved : IsPermutation ha.given b = subst (λ (l : List Want). IsPermutation l b) (sym given) hb.sorted in
    same_rising folder_cmp folder_total (λ (w : Want). w.folder) a b ha.lawful.1 hb.lawful.1
    (λ x c. Contains-permutation ha.given b x moved (Contains-permutation a ha.given x (IsPermutation-sym ha.given a ha.sorted) c))
    (λ x c. Contains-permutation ha.given a x ha.sorted (Contains-permutation b ha.given x (IsPermutation-sym ha.given b moved) c))
