use Rattle.std.proofs.Common.{List, length, sym, ◌∙◌, subst}
use Rattle.std.specs.List.{All}
use Rattle.names.specs.declared.folder.Base.{Base}
use Rattle.opsproto.specs.Scalars.{Text}
use Rattle.opsproto.specs.declared.exec.Mount.{Mount}
use Rattle.cachemounts.specs.CacheWants.{AreWantsOf}
use Rattle.cachemounts.specs.Checked.{IsChecked}
use Rattle.cachemounts.proofs.MountLemmas.{one_has}
use Rattle.cachemounts.proofs.viewing.views.Goals as goal

pub views_of_mounts-requires-clause-checked : goal.views_of_mounts-requires-clause-checked
views_of_mounts-requires-clause-checked c =
    subst (λ (os : List Base). All (IsChecked (length os)) c.mounts.result.now) (sym c.outputs.ensures)
    (subst (All (IsChecked (length c.in_ok-mounted.mounted.outputs.items))) (sym c.mounts.ensures) c.in_ok-mounted.ensures.checked)

pub views_of_mounts-requires-clause-wanted : goal.views_of_mounts-requires-clause-wanted
views_of_mounts-requires-clause-wanted c = λ folder h.
    let given = c.requires.wants in
    let own = c.in_ok-mounted.ensures.has in
    let outputs = c.in_ok-mounted.mounted.outputs.items in
    let mounts = c.in_ok-mounted.mounted.mounts in
    let same = one_has c.args.graph.now c.args.keys.now c.args.vertex given.outputs outputs given.mounts mounts given.has own in
    let wants : AreWantsOf c.outputs.result.now c.mounts.result.now c.as_slice.result.now
    = subst (λ (os : List Base). AreWantsOf os c.mounts.result.now c.as_slice.result.now) (same.0 ∙ sym c.outputs.ensures)
    (subst (λ (ms : List (Mount Text)). AreWantsOf given.outputs ms c.as_slice.result.now) (same.1 ∙ sym c.mounts.ensures)
    (subst (AreWantsOf given.outputs given.mounts) (sym c.as_slice.ensures.same) given.wants_are)) in
    (wants.wanted folder).1 h
