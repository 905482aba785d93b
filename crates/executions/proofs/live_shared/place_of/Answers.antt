use Rattle.std.proofs.Common.{◌∙◌, sym, refl}
use Rattle.std.proofs.lemmas.Option.{slice_get_read}
use Rattle.executions.specs.Live.{is_named}
use Rattle.executions.specs.Keeping.{opened}
use Rattle.executions.proofs.LiveLemmas.{find_at}
use Rattle.executions.proofs.live_shared.place_of.Goals as goal

pub returns-then-eq-clause-some : goal.returns-then-eq-clause-some
returns-then-eq-clause-some c =
    let o = c.index-folders-place.result in
    let at = slice_get_read c.args.folders.now _ c.loop-place.place o refl c.loop-place-test.true c.index-folders-place.is in
    (o, at, c.loop-place.invariant ∙ find_at (is_named c.args.name.now) opened c.args.folders.now c.loop-place.place o at (sym c.eq.ensures ∙ c.if-eq.true))
