use Rattle.std.proofs.Common.{◌≡◌, ◌++◌, ◌∷◌, [], List, Some, false, map, set, ap, sym, ◌∙◌, subst}
use Rattle.std.specs.List.{find, list_any, slice_get}
use Rattle.std.specs.Option.{option_map}
use Rattle.names.proofs.NameLaws.{folder_exact}
use Rattle.folders.specs.Edits.{edited_all}
use Rattle.lists.proofs.Places.{some_is}
use Rattle.slotfolders.specs.declared.batch.Batch.{Batch}
use Rattle.executions.specs.declared.live_shared.Open.{Open}
use Rattle.slotfolders.specs.Batches.{batch, is_by}
use Rattle.executions.specs.Live.{Live, is_named, files_in, files_of, has_changed}
use Rattle.executions.specs.Keeping.{opened, IsKept}
use Rattle.executions.proofs.LiveLemmas.{found_passes, kept_batched, opened_set}
use Rattle.executions.proofs.live_shared.LiveShared.apply.Goals as goal

pub invariant_of-self-2 : goal.invariant_of-self-2
invariant_of-self-2 c =
    let batches = c.self.inside.batches.items in
    let folders = c.self.inside.folders.items in
    let name = c.args.folder.now in
    let place = c.in-Some.place in
    let found = c.in-Some.ensures.some in
    let o : Open = found.0 in
    let b : Batch = batch c.args.ticket name c.args.edits.items in
    let at : slice_get folders place ≡ Some o = subst (λ (fs : List Open). slice_get fs place ≡ Some o) c.as_slice.ensures.value found.1 in
    let same : o.folder ≡ name = sym (folder_exact name o.folder (found_passes (is_named name) (map opened c.as_slice.result.now) (opened o) found.2)) in
    let none : list_any (is_by c.args.ticket name) batches ≡ false
    = ap (list_any (is_by c.args.ticket name)) (sym c.as_slice-2.ensures.value) ∙ sym c.has_changed.ensures ∙ c.if-has_changed.false in
    let was = c.in_ok-change.ensures.ok in
    let it : was.0 ≡ o = some_is was.0 o (sym was.1 ∙ at) in
    let made : c.change.new.folders.items ≡ set folders place (record o { files = edited_all o.files c.args.edits.items })
    = was.2 ∙ λ i. set folders place (record (it i) { files = edited_all (it i).files (c.as_slice-3.ensures.value i) }) in
    let pushed : c.push_reserved.new.self.items ≡ batches ++ b ∷ []
    = c.push_reserved.ensures.items ∙ λ i. c.reserve.ensures.items i ++ batch c.args.ticket (c.in_ok-name.ensures i) (c.new.ensures i) ∷ [] in
    subst (λ (bs : List Batch). IsKept bs c.change.new.folders.items) (sym pushed)
    (subst (IsKept (batches ++ b ∷ [])) (sym made) (kept_batched batches folders place o b c.self.invariant at same none))

pub returns : goal.returns
returns c =
    let batches = c.self.inside.batches.items in
    let folders = c.self.inside.folders.items in
    let name = c.args.folder.now in
    let place = c.in-Some.place in
    let found = c.in-Some.ensures.some in
    let o : Open = found.0 in
    let b : Batch = batch c.args.ticket name c.args.edits.items in
    let at : slice_get folders place ≡ Some o = subst (λ (fs : List Open). slice_get fs place ≡ Some o) c.as_slice.ensures.value found.1 in
    let finds : find (is_named name) (map opened folders) ≡ Some (opened o)
    = subst (λ (fs : List Open). find (is_named name) (map opened fs) ≡ Some (opened o)) c.as_slice.ensures.value found.2 in
    let none : list_any (is_by c.args.ticket name) batches ≡ false
    = ap (list_any (is_by c.args.ticket name)) (sym c.as_slice-2.ensures.value) ∙ sym c.has_changed.ensures ∙ c.if-has_changed.false in
    let was = c.in_ok-change.ensures.ok in
    let it : was.0 ≡ o = some_is was.0 o (sym was.1 ∙ at) in
    let made : c.change.new.folders.items ≡ set folders place (record o { files = edited_all o.files c.args.edits.items })
    = was.2 ∙ λ i. set folders place (record (it i) { files = edited_all (it i).files (c.as_slice-3.ensures.value i) }) in
    let pushed : c.push_reserved.new.self.items ≡ batches ++ b ∷ []
    = c.push_reserved.ensures.items ∙ λ i. c.reserve.ensures.items i ++ batch c.args.ticket (c.in_ok-name.ensures i) (c.new.ensures i) ∷ [] in
    let shown : map opened c.change.new.folders.items ≡ map opened folders
    = ap (map opened) made ∙ opened_set folders place o (edited_all o.files c.args.edits.items) at in
    let live : Live = record { batches = batches; folders = map opened folders } in
    let view : live ≡ c.args.self.now = c.self.view_is in (
      (files_of batches (opened o), sym (ap (λ (l : Live). files_in l name) view) ∙ ap (option_map (files_of batches)) finds),
      sym (ap (λ (l : Live). has_changed l c.args.ticket name) view) ∙ none,
      (λ i. record { batches = pushed i; folders = shown i }) ∙ λ i. record { batches = (view i).batches ++ b ∷ []; folders = (view i).folders },
    )
