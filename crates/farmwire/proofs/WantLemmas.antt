-- Wants that rise.
use Rattle.std.proofs.Common.{◌≡◌, ℕ, ◌+◌, ◌<◌, ◌≤◌, true, false, Bool, List, [], ◌∷◌, map, length, get_or, Result, Err, sym, ap, ◌∙◌, arith}
use Rattle.std.specs.Prelude.{IsErrOf, ◌↔◌}
use Rattle.std.specs.List.{All, IsDistinct}
use Rattle.std.specs.List.Sorted.{IsStrictlySortedBy}
use Rattle.std.specs.Ordering.{is_lt}
use Rattle.std.proofs.lemmas.List.{get_or-map, length-map}
use Rattle.std.proofs.lemmas.Map.Keys.{Less-from_sorted}
use Rattle.farm_base.specs.declared.want.Want.{Want}
use Rattle.farm_base.specs.declared.want.WantsRefusal.{WantsRefusal}
use Rattle.farm_base.specs.declared.want.WantsRefusal.TheVariants.{TooManyWants, SameFolderTwice, OutOfMemory}
use Rattle.names.specs.Folders.{folder_cmp, folder_eq}
use Rattle.farm_base.specs.Wanted.{folders}
use Rattle.farm_base.proofs.WantLemmas.{distinct-from_sorted, not_less, IsRising}
use Rattle.words.specs.declared.refusal.ReadRefusal.TheVariants.{BadForm}
use Rattle.words.specs.Words.{IsWant, want_text}
use Rattle.words.specs.Refusals.{wants_refusal}
use Rattle.farmwire.specs.Words.{SpellWants}
use Rattle.words.proofs.ListLemmas.{map-injective}
use Rattle.words.proofs.Spelling.{want_same}

-- the wants of some words are determined
given_same : (ws : List (List ℕ)) (given wants : List Want) → All IsWant given → ws ≡ map want_text given → SpellWants ws wants → given ≡ wants
given_same ws given wants each e h = map-injective want_text IsWant want_same given wants each h.lawful.0 (sym e ∙ h.text)

-- wants of which one isn't below the next don't rise
falling : (wants : List Want) (k : ℕ) → k + 1 < length wants
    → ((d : Want) → false ≡ is_lt (folder_cmp (get_or wants k d).folder (get_or wants (k + 1) d).folder)) → IsStrictlySortedBy folder_cmp (folders wants) → ⊥
falling [] k lt falls rising = absurd (omega arith)
falling (l ∷ wants) k lt falls rising =
    let len = length-map (l ∷ wants) (λ (x : Want). x.folder) in
    let less = Less-from_sorted folder_cmp (folders (l ∷ wants)) k (k + 1) l.folder rising (omega arith) (omega arith) in
    let this = get_or-map (λ (x : Want). x.folder) (l ∷ wants) k l l.folder (omega arith) in
    let next = get_or-map (λ (x : Want). x.folder) (l ∷ wants) (k + 1) l l.folder (omega arith) in
    let below = rw (this, next) at less in
    not_less _ (falls l) below

-- no words say wants that don't rise
pub not_rising : (ws : List (List ℕ)) (given wants : List Want) (answer : Bool) → IsRising given answer → answer ≡ false
    → All IsWant given → ws ≡ map want_text given → SpellWants ws wants → ⊥
not_rising ws given wants true h answered each e is = cc answered
not_rising ws given wants false h answered each e is =
    falling given h.0 h.1 h.2 (rw (given_same ws given wants each e is) is.lawful.1.1)

-- wants that are refused are not lawful
pub unlawful : {T : Type 0} (r : Result T WantsRefusal) (d : WantsRefusal) (n : ℕ) (ws : List (List ℕ)) (given wants : List Want)
    → r ≡ Err d → wants_refusal d ≡ BadForm
    → (IsErrOf r TooManyWants ↔ (16 < n)) → (IsErrOf r SameFolderTwice ↔ ((n ≤ 16) × (IsDistinct folder_eq (folders given) → ⊥)))
    → n ≡ length given → All IsWant given → ws ≡ map want_text given → SpellWants ws wants → ⊥
unlawful r TooManyWants n ws given wants was bad many twice len each e h =
    let few = h.lawful.1.0 in
    let same = ap length (given_same ws given wants each e h) in
    let over = many.0 was in
    omega arith
unlawful r SameFolderTwice n ws given wants was bad many twice len each e h =
    (twice.0 was).1 (rw (given_same ws given wants each e h) (distinct-from_sorted wants h.lawful.1.1))
unlawful r OutOfMemory n ws given wants was bad many twice len each e h = cc bad
