-- What the coordinator decides in a farm of which nodes were taken over.
use Rattle.std.proofs.Common.{List, sym, subst}
use Rattle.protocol.specs.Lists.{In}
use Rattle.protocol.specs.Machine.{Message, acquire, Machine}
use Rattle.protocol.specs.World.{start}
use Rattle.protocol.specs.Hostile.{AsksFit, EveryRaidedDecisionFollows}
use Rattle.protocol.proofs.Steps.{Sound}
use Rattle.protocol.proofs.Following.{Sent}
use Rattle.protocol.proofs.Raiding.{raids_raided, start_raided}
use Rattle.protocol.proofs.Schedules.{decisions_follow}

sent_fit : (pool : List Message) (m : Machine) → AsksFit pool → Sent pool m
sent_fit pool m fit = record { tenures = λ n l a wants tenure i t. fit n l a wants (subst (λ z. In (acquire n l a wants z) pool) t i) }

pub every_raided_decision_follows : EveryRaidedDecisionFollows
every_raided_decision_follows taken sha k farm w raids fit q agrees =
    let s = (raids_raided taken sha (start sha) w (start_raided taken sha) raids).0.now in
    decisions_follow k farm.instances w.pool w.machine (subst (λ z. Sound z w.machine) (sym farm.empty) s.shadow.inv.sound) (sent_fit w.pool w.machine fit) q agrees
