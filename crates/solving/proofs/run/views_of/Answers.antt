use Rattle.std.proofs.Common.{List, length, take, refl, sym, subst, slice_index_or, arith}
use Rattle.std.specs.List.{All}
use Rattle.std.proofs.lemmas.List.{take_all}
use Rattle.std.proofs.lemmas.List.Elements.{All-push}
use Rattle.std.proofs.lemmas.Option.{slice_get_read}
use Rattle.farm_base.specs.declared.want.Want.{Want}
use Rattle.lists.proofs.Places.{take_push}
use Rattle.solving.specs.Places.{IsSeenIn}
use Rattle.solving.proofs.run.views_of.Goals as goal

pub loop-want-preserved : goal.loop-want-preserved
loop-want-preserved c =
    let wants = c.args.wants.now in
    let place = c.loop-want.want-index in
    let want = c.want-item.result in
    let views = c.add_view.new.views.items in
    let told = c.in_ok-add_view.ensures in
    let at = slice_get_read wants (length wants) place want refl c.loop-want-test.true c.want-item.is in
    record {
      seen = subst (λ (ws : List Want). All (IsSeenIn views) ws) (sym (take_push wants place want at))
          (All-push (IsSeenIn views) (take place wants) want (λ k d within. told.kept (slice_index_or (take place wants) k d) (c.loop-want.invariant.seen k d within)) told.seen);
      standing = told.standing c.loop-want.invariant.standing;
    }

pub returns-clause-seen : goal.returns-clause-seen
returns-clause-seen c = subst (λ (ws : List Want). All (IsSeenIn c.loop-want.views.items) ws) (take_all c.loop-want.want-index c.args.wants.now (omega (arith, c.loop-want-test.false))) c.loop-want.invariant.seen
