use Rattle.std.proofs.Common.{◌≡◌, List, Some, map, ap, sym, ◌∙◌, subst}
use Rattle.std.specs.List.{remove, slice_get}
use Rattle.std.specs.Option.{option_map}
use Rattle.std.proofs.lemmas.Option.{slice_get_within, slice_get-map, get_or_from_slice_get}
use Rattle.names.proofs.NameLaws.{folder_exact}
use Rattle.folders.specs.Files.{folder_bytes}
use Rattle.executions.specs.declared.live_shared.Open.{Open}
use Rattle.executions.specs.Live.{Live, is_named, files_of}
use Rattle.executions.specs.Keeping.{opened, IsKept}
use Rattle.executions.proofs.LiveLemmas.{found_passes, kept_removed, map_remove}
use Rattle.executions.proofs.live_shared.LiveShared.close.Goals as goal

pub invariant_of-self : goal.invariant_of-self
invariant_of-self c =
    let batches = c.self.inside.batches.items in
    let folders = c.self.inside.folders.items in
    let place = c.in-Some.place in
    let found = c.in-Some.ensures.some in
    let o : Open = found.0 in
    let at : slice_get folders place ≡ Some o = subst (λ (fs : List Open). slice_get fs place ≡ Some o) c.as_slice.ensures.value found.1 in
    subst (IsKept batches) (sym c.remove-running.ensures.items)
    (kept_removed batches folders place (slice_get_within folders place o at) c.self.invariant)

pub returns : goal.returns
returns c =
    let batches = c.self.inside.batches.items in
    let folders = c.self.inside.folders.items in
    let name = c.args.folder.now in
    let place = c.in-Some.place in
    let found = c.in-Some.ensures.some in
    let o : Open = found.0 in
    let at : slice_get folders place ≡ Some o = subst (λ (fs : List Open). slice_get fs place ≡ Some o) c.as_slice.ensures.value found.1 in
    let same : o.folder ≡ name = sym (folder_exact name o.folder (found_passes (is_named name) (map opened c.as_slice.result.now) (opened o) found.2)) in
    let live : Live = record { batches = batches; folders = map opened folders } in
    let view : live ≡ c.args.self.now = c.self.view_is in
    let taken : c.remove-running.result ≡ o = c.remove-running.ensures.value ∙ get_or_from_slice_get folders place o c.remove-running.result at in
    let read : c.index.result.now ≡ o = c.index.ensures ∙ get_or_from_slice_get folders place o c.index.result.now at in
    let files : c.index.result.now.files ≡ files_of batches (opened o) = ap (λ (x : Open). x.files) read ∙ (c.self.invariant.each place o at).files in
    let bytes = c.in_ok-content.ensures ∙ c.of.ensures ∙ c.in_ok-bytes.ensures.bytes ∙ ap folder_bytes files in
    let left : map opened c.remove-running.new.self.items ≡ remove (map opened folders) place
    = ap (map opened) c.remove-running.ensures.items ∙ map_remove opened folders place in (
      place,
      opened o,
      sym (ap (λ (l : Live). slice_get l.folders place) view) ∙ slice_get-map opened folders place ∙ ap (option_map opened) at,
      same,
      ap (λ (x : Open). x.running) taken,
      bytes ∙ ap (λ (l : Live). folder_bytes (files_of l.batches (opened o))) view,
      (λ i. record { batches = batches; folders = left i }) ∙ λ i. record { batches = (view i).batches; folders = remove (view i).folders place },
    )
