use Rattle.std.proofs.Common.{false, sym, subst}
use Rattle.ledger.specs.Seen.{IsKeeping}
use Rattle.ledger.proofs.Keeping.{taken_up}
use Rattle.coordinator.proofs.coordinator.Coordinator.start.Goals as goal

pub invariant_of-result : goal.invariant_of-result
invariant_of-result g c =
    let up = taken_up (g.K.Keeper.kept c.args.keeper) c.in-Ok.ensures.answer.1.0 c.in-Ok.ensures.answer.1.1 c.in-Ok.ledger c.in-Ok.ensures.answer.2 in
    subst (λ t. IsKeeping t c.in-Ok.ledger false) (sym c.in-Ok.ensures.kept) up
