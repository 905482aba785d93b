use Rattle.std.proofs.Common.{List, ◌++◌, ◌∷◌, [], take, get_or, sym, subst}
use Rattle.std.specs.List.{AllZip}
use Rattle.std.proofs.lemmas.Option.{slice_get-get_or}
use Rattle.lists.proofs.Places.{take_push, AllZip-push}
use Rattle.cachemounts.specs.declared.viewing.CacheView.{CacheView}
use Rattle.executions.specs.declared.task.View.{View}
use Rattle.executions.specs.Given.{IsViewAt}
use Rattle.slotfolders.specs.Seen.{folder_seen}
use Rattle.executions.proofs.given.views_at.Goals as goal

pub loop-place-preserved : goal.loop-place-preserved
loop-place-preserved c =
    let places = c.args.places.now in
    let k = c.loop-place.place-index in
    let none : CacheView = record { mount = 0; want = 0 } in
    let place = get_or places k none in
    let is : CacheView → View → Type 0 = IsViewAt (folder_seen c.args.seen.now.leased c.args.seen.now.shared) c.args.wants.now c.args.outputs.now c.args.mounts.now in
    subst (λ (ps : List CacheView). AllZip is ps c.push.new.self.items) (sym (take_push places k place (slice_get-get_or places k none c.loop-place-test.true)))
    (subst (AllZip is (take k places ++ place ∷ [])) (sym c.in_ok-push.ensures.items)
    (AllZip-push is (take k places) c.loop-place.views.items place c.in_ok-view_at.field-0 c.loop-place.invariant c.in_ok-view_at.ensures))
