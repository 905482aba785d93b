-- The SHARED folders that are handed to an execution.
use Rattle.std.proofs.Common.{arith, ◌≡◌, ◌++◌, ◌∷◌, ◌<◌, List, [], length, map, sym, subst}
use Rattle.std.specs.List.{Contains}
use Rattle.std.proofs.lemmas.List.{map-append}
use Rattle.std.proofs.lemmas.List.Elements.{Contains-append_left, Contains-append_right}
use Rattle.names.specs.declared.folder.FolderName.{FolderName}
use Rattle.farm_base.specs.declared.want.Want.{Want}
use Rattle.folders.specs.Files.{Files}
use Rattle.solving.specs.Places.{IsSeenIn}

-- a folder that was there still is, with one more
pub seen_push : (views : List (FolderName × Files)) (view : FolderName × Files) (want : Want) → IsSeenIn views want → IsSeenIn (views ++ view ∷ []) want
seen_push views view want seen shared =
    let name : FolderName × Files → FolderName = λ v. v.0 in
    subst (λ (names : List FolderName). Contains names want.folder) (sym (map-append name views (view ∷ [])))
    (Contains-append_left (map name views) (view.0 ∷ []) want.folder (seen shared))

-- and the new one is there
pub seen_here : (views : List (FolderName × Files)) (view : FolderName × Files) (want : Want) → view.0 ≡ want.folder → IsSeenIn (views ++ view ∷ []) want
seen_here views view want same shared =
    let name : FolderName × Files → FolderName = λ v. v.0 in
    let first : 0 < length (view.0 ∷ []) = search arith in
    subst (λ (names : List FolderName). Contains names want.folder) (sym (map-append name views (view ∷ [])))
    (Contains-append_right (map name views) (view.0 ∷ []) want.folder (0, first, same))
