use Rattle.std.proofs.Common.{◌≡◌, true, List, option_copied, sym, ap, ◌∙◌, subst, arith}
use Rattle.std.specs.List.{Contains}
use Rattle.std.proofs.lemmas.List.{take_all}
use Rattle.nodecore.specs.Shown.{shown}
use Rattle.protocol.specs.Names.{Digest}
use Rattle.nodefilter.proofs.KeepingLemmas.{kept_more, none_stored}
use Rattle.nodefilter.proofs.carrying.keep_each.Goals as goal
use Rattle.nodefilter.proofs.carrying.keep_each.Goals.{in-Some+in_ok-keep, in_default}

pub loop-digest-preserved : goal.loop-digest-preserved
loop-digest-preserved g c =
    let inv = c.loop-digest.invariant in
    let store = (shown c.args.core.now).store in
    elim c.match-content.branch [
      | in-Some+in_ok-keep w ↦ rw w.store-is (record {
        kept = kept_more g.S.Store.kept store c.args.digests.now c.loop-digest.digest-index _ c.loop-digest.store w.keep.new.self c.loop-digest-test.true inv.kept
            w.keep.ensures.others (λ content is. subst (λ (d : Digest). g.S.Store.kept w.keep.new.self d ≡ true) w.in-Some.ensures.digest w.in_ok-keep.ensures.kept);
        others = λ d apart h. w.keep.ensures.others d apart (inv.others d apart h);
        life = w.keep.ensures.life ∙ inv.life;
      })
      | in_default w ↦ rw w.store-is (record {
        kept = kept_more g.S.Store.kept store c.args.digests.now c.loop-digest.digest-index _ c.loop-digest.store c.loop-digest.store c.loop-digest-test.true inv.kept
            (λ d apart h. h) (none_stored g.S.Store.kept store _ _ c.loop-digest.store c.content.ensures.value (ap option_copied w.in_default.is));
        others = inv.others;
        life = inv.life;
      })
    ]

pub returns-clause-kept : goal.returns-clause-kept
returns-clause-kept g c = λ d content is_in is.
    let whole = take_all c.loop-digest.digest-index c.args.digests.now (omega arith) in
    c.loop-digest.invariant.kept d content (subst (λ (ds : List Digest). Contains ds d) (sym whole) is_in) is
