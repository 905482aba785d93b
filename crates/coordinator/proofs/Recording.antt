-- Where a call doesn't say that the record changed, it is as before.
use Rattle.std.proofs.Common.{◌≤◌, Result, Ok, Err}
use Rattle.protocol.specs.Farm.{farm_limits}
use Rattle.protocol.specs.Names.{Slot, NodeId, Ticket}
use Rattle.protocol.specs.Machine.{ToCoord}
use Rattle.protocol.specs.Ledger.{Ledger, Work, begin_work, handled, withdrawn, retired, pruned}
use Rattle.events.specs.declared.answer.CoordRefusal.{CoordRefusal}
use Rattle.protocol.proofs.Base.{all_in}
use Rattle.protocol.proofs.Saving as saving
use Rattle.protocol.proofs.Saving.{Apart}
use Rattle.protocol.proofs.Owning.{handled_keeps}
use Rattle.effects.specs.Sound.{IsSound}
use Rattle.coordinator.specs.Promises.{EndsOnlyItsOwn}
use Rattle.ledger.specs.Prepared.{ChangesAsTold}
use Rattle.ledger.proofs.Entries.{own_tickets}

apart_of : (q : Ledger) → IsSound q → Apart q
apart_of q s = record { unique = own_tickets q.live s.leases.tickets; top = all_in (λ g. g.ticket.0 ≤ q.last) q.live s.given }

told_of : (q : Ledger) (r : Result Work CoordRefusal) → saving.SavesOk farm_limits q r → ChangesAsTold q r
told_of q (Ok w) h = h
told_of q (Err e) h = tt

pub handled-told : (y : ToCoord) (q : Ledger) → IsSound q → ChangesAsTold q (Ok (handled farm_limits y (begin_work q)))
handled-told y q s = saving.handled_saves farm_limits q y (apart_of q s)

pub handled-own : (y : ToCoord) (q : Ledger) → IsSound q → EndsOnlyItsOwn q y (handled farm_limits y (begin_work q)).ledger
handled-own y q s g i = handled_keeps farm_limits g q y (apart_of q s) i

pub withdrawn-told : (t : Ticket) (q : Ledger) → IsSound q → ChangesAsTold q (withdrawn farm_limits t (begin_work q))
withdrawn-told t q s = told_of q (withdrawn farm_limits t (begin_work q)) (saving.withdrawn_saves farm_limits q t (apart_of q s))

pub retired-told : (n : NodeId) (q : Ledger) → ChangesAsTold q (retired farm_limits n (begin_work q))
retired-told n q = told_of q (retired farm_limits n (begin_work q)) (saving.retired_saves farm_limits q n)

pub pruned-told : (s : Slot) (q : Ledger) → ChangesAsTold q (pruned farm_limits s (begin_work q))
pruned-told s q = told_of q (pruned farm_limits s (begin_work q)) (saving.pruned_saves farm_limits q s)
