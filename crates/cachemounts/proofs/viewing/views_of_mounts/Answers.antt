use Rattle.std.proofs.Common.{◌+◌, Vec, length, take, refl, sym, subst}
use Rattle.std.specs.Global.{Global}
use Rattle.std.proofs.lemmas.Option.{slice_get_read, MatchOption-at_some, MatchOption-at_none}
use Rattle.lists.proofs.Places.{Contains-at}
use Rattle.vertices.specs.OpChecks.{IsCache}
use Rattle.cachemounts.specs.CacheFolders.{HasFolder}
use Rattle.cachemounts.specs.CacheViews.{AreViewsOf}
use Rattle.cachemounts.specs.declared.viewing.CacheView.{CacheView}
use Rattle.cachemounts.specs.Checked.{IsChecked}
use Rattle.cachemounts.proofs.ViewLemmas.{views_same, views_more}
use Rattle.cachemounts.proofs.viewing.views_of_mounts.Goals as goal
use Rattle.cachemounts.proofs.viewing.views_of_mounts.Goals.{in-Some+in-Some-place_of+in_ok-push, in_default}

pub folder_of-requires : goal.folder_of-requires
folder_of-requires c =
    subst (IsChecked (length c.args.outputs.now)) (sym c.index-mounts-place.is)
    (c.requires.checked c.loop-place.place c.index-mounts-place.result c.loop-place-test.true)

pub unreachable-requires : goal.unreachable-requires
unreachable-requires c =
    let mount = c.index-mounts-place.result in
    let at = slice_get_read c.args.mounts.now _ c.loop-place.place mount refl c.loop-place-test.true c.index-mounts-place.is in
    let folder : HasFolder c.args.outputs.now mount c.in-Some.folder
    = MatchOption-at_some (IsCache mount → ⊥) (HasFolder c.args.outputs.now mount) c.in-Some.folder c.in-Some.is c.in_ok-folder.ensures in
    c.in_default-place_of.ensures.none
    (c.requires.wanted c.in-Some.folder (record { mount = mount; has = Contains-at c.args.mounts.now c.loop-place.place mount at; folder_is = folder }))

pub loop-place-preserved : goal.loop-place-preserved
loop-place-preserved c =
    let outputs = c.args.outputs.now in
    let mounts = c.args.mounts.now in
    let k = c.loop-place.place in
    let mount = c.index-mounts-place.result in
    let at = slice_get_read mounts _ k mount refl c.loop-place-test.true c.index-mounts-place.is in
    let after = λ (vs : Vec CacheView Global). AreViewsOf outputs (take (k + 1) mounts) c.args.wants.now vs.items in
    elim c.match-branch-2.branch [
      | in-Some+in-Some-place_of+in_ok-push w ↦
          let folder : HasFolder outputs mount w.in-Some.folder
          = MatchOption-at_some (IsCache mount → ⊥) (HasFolder outputs mount) w.in-Some.folder w.in-Some.is c.in_ok-folder.ensures in
          let found = w.in-Some-place_of.ensures.found in
          subst after (sym w.views-is)
          (subst (AreViewsOf outputs (take (k + 1) mounts) c.args.wants.now) (sym w.in_ok-push.ensures.items)
          (views_more outputs mounts c.args.wants.now c.loop-place.views.items k mount at c.loop-place.invariant w.in-Some-place_of.want found.0 found.1
          (subst (HasFolder outputs mount) (sym found.2) folder)))
      | in_default w ↦
          subst after (sym w.views-is)
          (views_same outputs mounts c.args.wants.now c.loop-place.views.items k mount at c.loop-place.invariant
          (MatchOption-at_none (IsCache mount → ⊥) (HasFolder outputs mount) w.in_default.is c.in_ok-folder.ensures))
    ]
