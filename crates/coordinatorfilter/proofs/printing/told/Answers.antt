use Rattle.std.proofs.Common.{◌≡◌, List, [], ◌∷◌, ◌++◌, sym, ap, ◌∙◌, append_assoc}
use Rattle.std.proofs.lemmas.List.{map-append}
use Rattle.std.specs.Vec.Iter.{into_iter_items}
use Rattle.farm_base.specs.declared.message.FromCoord.{FromCoord}
use Rattle.protocol.specs.Machine.{Told}
use Rattle.coordinatorfilter.proofs.printing.told.Goals as goal

pub loop-message-preserved : goal.loop-message-preserved
loop-message-preserved c =
    let told = c.loop-message.invariant.told in
    let message : FromCoord = c.in-Some.message in
    let rest : List FromCoord = into_iter_items c.next.new.self in
    let first : into_iter_items c.loop-message.message-iterator ≡ message ∷ rest = c.in-Some.ensures.steps.0 in
    record {
      can = tt;
      finite = tt;
      told = (
        told.0 ++ message ∷ [],
        told.1 ∙ ap (λ more. told.0 ++ more) first ∙ sym (append_assoc told.0 (message ∷ []) rest),
        c.in_ok-push.ensures.items ∙ ap (λ done. done ++ Told message ∷ []) told.2 ∙ sym (map-append Told told.0 (message ∷ [])),
      );
    }
