use Rattle.std.proofs.Common.{◌≡◌, List, set, slice_get, Some, ap, sym, ◌∙◌, add-one, length, arith, rules}
use Rattle.std.proofs.lemmas.Option.{slice_get_read}
use Rattle.farm_base.specs.declared.message.Version.{Version}
use Rattle.world.specs.Shown.{shown}
use Rattle.farmhistory.specs.Lines.{number_on, or_zero, numbered}
use Rattle.farmhistory.proofs.LineLemmas.{changed_front, front_same}
use Rattle.farmhistory.proofs.lines.number_all.Goals as goal

pub loop-version-preserved : goal.loop-version-preserved
loop-version-preserved c =
    let x : Version = c.version-item.result in
    let f : Version → Version = numbered (shown c.args.world.now) c.args.ticket in
    let at = slice_get_read c.loop-version.version-items (length c.deref_mut-version-items.result.now) c.loop-version.version-index x (omega (arith, c.loop-version.auto.version-items)) c.loop-version-test.true c.version-item.is in
    let from : slice_get c.args.versions.now.items c.loop-version.version-index ≡ Some x =
    sym (front_same f c.args.versions.now.items c.loop-version.version-index) ∙ ap (λ (l : List Version). slice_get l c.loop-version.version-index) (sym c.loop-version.invariant) ∙ at in
    let number : c.or_zero-version.result ≡ or_zero (number_on (shown c.args.world.now) c.args.ticket x.slot) = search rules in
    rw add-one (
    (λ j. set (c.loop-version.invariant j) c.loop-version.version-index (record { slot = (sym c.version-item.is j).slot; number = number j }))
    ∙ changed_front f c.args.versions.now.items c.loop-version.version-index x from)
