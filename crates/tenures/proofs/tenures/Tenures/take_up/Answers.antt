use Rattle.std.proofs.Common.{◌≡◌, ◌<◌, List, length, set, subst, sym, ap, ◌∙◌, rules}
use Rattle.std.proofs.lemmas.List.Edits.{map_over_more}
use Rattle.tenures.specs.Tenures.{taken_up}
use Rattle.tenures.specs.declared.tenure.Tenure.{Tenure}
use Rattle.tenures.proofs.tenures.Tenures.take_up.Goals as goal

pub loop-tenure-preserved : goal.loop-tenure-preserved
loop-tenure-preserved c =
    let were : List Tenure = c.args.self.now.tenures in
    let lent : c.deref_mut-tenure-items.result.now ≡ were = search rules in
    let inside = subst (λ ts. c.loop-tenure.tenure-index < length ts) lent c.loop-tenure-test.true in
    let f : Tenure → Tenure = taken_up c.args.node c.args.wants.now in
    ap (set c.loop-tenure.tenure-items c.loop-tenure.tenure-index) (c.take_up.ensures ∙ ap f (sym c.tenure-item.is))
    ∙ map_over_more f were c.loop-tenure.tenure-items c.loop-tenure.tenure-index c.tenure-item.result inside c.loop-tenure.invariant c.tenure-item.is
