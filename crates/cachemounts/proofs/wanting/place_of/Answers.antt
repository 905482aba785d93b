use Rattle.std.proofs.Common.{◌≡◌, List, take, refl, sym, ◌∙◌, subst}
use Rattle.std.specs.List.{Contains}
use Rattle.std.proofs.lemmas.List.{take_all}
use Rattle.std.proofs.lemmas.Option.{slice_get_read}
use Rattle.farm_base.specs.declared.want.Want.{Want}
use Rattle.farm_base.specs.Wanted.{folders}
use Rattle.names.proofs.NameLaws.{folder_exact}
use Rattle.cachemounts.proofs.AddingLemmas.{apart_more}
use Rattle.cachemounts.proofs.wanting.place_of.Goals as goal

pub returns-then-eq-clause-found : goal.returns-then-eq-clause-found
returns-then-eq-clause-found c =
    let want = c.index-wants-place.result in (
      want,
      slice_get_read c.args.wants.now _ c.loop-place.place want refl c.loop-place-test.true c.index-wants-place.is,
      folder_exact want.folder c.args.folder.now (sym c.eq.ensures ∙ c.if-eq.true),
    )

pub loop-place-preserved : goal.loop-place-preserved
loop-place-preserved c =
    let want = c.index-wants-place.result in
    let at = slice_get_read c.args.wants.now _ c.loop-place.place want refl c.loop-place-test.true c.index-wants-place.is in
    apart_more c.args.wants.now c.loop-place.place want c.args.folder.now at (sym c.eq.ensures ∙ c.if-eq.false) c.loop-place.invariant

pub returns-clause-none : goal.returns-clause-none
returns-clause-none c =
    let all : take c.loop-place.place c.args.wants.now ≡ c.args.wants.now = take_all c.loop-place.place c.args.wants.now c.loop-place-test.false in
    λ h. c.loop-place.invariant (subst (λ (ws : List Want). Contains (folders ws) c.args.folder.now) (sym all) h)
