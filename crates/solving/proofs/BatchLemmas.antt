-- The batches of what an execution edits.
use Rattle.std.proofs.Common.{◌≡◌, true, false, List, [], ◌∷◌, ◌++◌, map, filter, Err, refl, sym, ap, ◌∙◌, append-nil, append_assoc}
use Rattle.std.specs.Iterator.{Yields}
use Rattle.std.specs.Vec.Iter.{into_iter_items, into_iter_steps}
use Rattle.std.specs.declared.vec.IntoIter.{IntoIter}
use Rattle.std.proofs.lemmas.List.Elements.{filter-append}
use Rattle.std.proofs.lemmas.List.{map-append}
use Rattle.names.specs.declared.folder.FolderName.{FolderName}
use Rattle.names.specs.declared.folder.Mode.{Mode}
use Rattle.names.specs.declared.folder.Mode.TheVariants.{Shared, Private, Locked}
use Rattle.names.specs.declared.number.Ticket.{Ticket}
use Rattle.protocol.specs.Names.{is_shared}
use Rattle.folders.specs.declared.edit.Edit.{Edit}
use Rattle.executions.specs.declared.refusal.SharedRefusal.{SharedRefusal}
use Rattle.executions.specs.declared.refusal.SharedRefusal.TheVariants as refusal
use Rattle.slotfolders.specs.Left.{FolderEdits}
use Rattle.slotfolders.specs.Batches.{batch}
use Rattle.executions.specs.Live.{Live, Applies}
use Rattle.solving.specs.Batches.{batches_of, with_batches}

-- those of two lists of edits
batches-append : (ticket : Ticket) (edits more : List FolderEdits) → batches_of ticket (edits ++ more) ≡ batches_of ticket edits ++ batches_of ticket more
batches-append ticket edits more =
    ap (map (λ (e : FolderEdits). batch ticket e.0 e.1)) (filter-append (λ (e : FolderEdits). is_shared e.0.mode) edits more)
    ∙ map-append (λ (e : FolderEdits). batch ticket e.0 e.1) (filter (λ (e : FolderEdits). is_shared e.0.mode) edits) (filter (λ (e : FolderEdits). is_shared e.0.mode) more)

-- one more edit, of a SHARED folder
pub shared_more : (ticket : Ticket) (edits : List FolderEdits) (e : FolderEdits) (live : Live) → is_shared e.0.mode ≡ true
    → with_batches (batches_of ticket (edits ++ e ∷ [])) live ≡ with_batches (batch ticket e.0 e.1 ∷ []) (with_batches (batches_of ticket edits) live)
shared_more ticket edits e live is =
    let one : batches_of ticket (e ∷ []) ≡ batch ticket e.0 e.1 ∷ [] = rw is refl in
    let all : batches_of ticket (edits ++ e ∷ []) ≡ batches_of ticket edits ++ batch ticket e.0 e.1 ∷ []
    = batches-append ticket edits (e ∷ []) ∙ ap (λ bs. batches_of ticket edits ++ bs) one in
    let same : live.batches ++ batches_of ticket (edits ++ e ∷ []) ≡ (live.batches ++ batches_of ticket edits) ++ batch ticket e.0 e.1 ∷ []
    = ap (λ bs. live.batches ++ bs) all ∙ sym (append_assoc live.batches (batches_of ticket edits) (batch ticket e.0 e.1 ∷ [])) in
    λ j. record live { batches = same j }

-- one more, of another folder
pub other_more : (ticket : Ticket) (edits : List FolderEdits) (e : FolderEdits) → is_shared e.0.mode ≡ false → batches_of ticket (edits ++ e ∷ []) ≡ batches_of ticket edits
other_more ticket edits e is =
    let none : batches_of ticket (e ∷ []) ≡ [] = rw is refl in
    batches-append ticket edits (e ∷ []) ∙ ap (λ bs. batches_of ticket edits ++ bs) none ∙ append-nil (batches_of ticket edits)

-- a mode that isn't SHARED
pub not_shared : (mode : Mode) → ¬ (mode ≡ Shared) → is_shared mode ≡ false
not_shared Shared other = absurd (other refl)
not_shared Private other = refl
not_shared Locked other = refl

-- a refused batch changes nothing
pub refused_same : (old new : Live) (ticket : Ticket) (name : FolderName) (edits : List Edit) (r : SharedRefusal) → Applies old ticket name edits (Err r) new → new ≡ old
refused_same old new ticket name edits refusal.NotOpen h = h.1
refused_same old new ticket name edits refusal.Twice h = h.1
refused_same old new ticket name edits refusal.TooLarge h = h.1
refused_same old new ticket name edits refusal.OutOfMemory h = h
refused_same old new ticket name edits refusal.BadContents h = absurd h

-- what the iterator of a vector has given is a front of its items
pub taken_front : {X Z : Type 0} (s : IntoIter X Z) (xs : List X) (t : IntoIter X Z) → Yields into_iter_steps s xs t → into_iter_items s ≡ xs ++ into_iter_items t
taken_front s [] t y = ap into_iter_items y
taken_front s (x ∷ xs) t y = y.1.0 ∙ ap (λ ys. x ∷ ys) (taken_front y.0 xs t y.2)
