-- How many messages the coordinator's own calls make it send.
use Rattle.std.proofs.Common.{◌≡◌, ◌≤◌, eqb, not, length, None, Result, Ok, sym, ap, arith}
use Rattle.std.specs.List.{list_any}
use Rattle.std.specs.Result.{result_err}
use Rattle.protocol.specs.Names.{NodeId, Slot, Ticket}
use Rattle.events.specs.declared.answer.CoordRefusal.{CoordRefusal}
use Rattle.protocol.specs.Ledger.{Limits, Ledger, Work, begin_work, retried, withdraws, withdrawn, is_at, goes, retired, pruned}
use Rattle.drafts.proofs.Sends.{weight, retried_few, lighter, filter_length}
use Rattle.drafts.proofs.OwnCalls.{withdrawal, retirement}
use Rattle.drafts.proofs.Prunes.{pruning}

-- what is accepted isn't refused
pub accepted : (r : Result Work CoordRefusal) (w : Work) → r ≡ Ok w → result_err r ≡ None
accepted r w e = ap (λ (x : Result Work CoordRefusal). result_err x) e

same_work : (r : Result Work CoordRefusal) (v w : Work) → r ≡ Ok v → r ≡ Ok w → length v.sends ≡ length w.sends
same_work r v w e f = (let same : v ≡ w = cc in ap (λ (x : Work). length x.sends) same)

pub withdrawn_few : (k : Limits) (t : Ticket) (q : Ledger) (w : Work) → withdrawn k t (begin_work q) ≡ Ok w → length w.sends ≤ length q.parked
withdrawn_few k t q w e =
    let r = withdrawal k t (begin_work q) (accepted _ w e) in
    omega (arith, same_work _ _ w r.work e, retried_few k (withdraws r.lease (begin_work q)))

pub retired_few : (k : Limits) (n : NodeId) (q : Ledger) (w : Work) → retired k n (begin_work q) ≡ Ok w → length w.sends ≤ length q.parked
retired_few k n q w e =
    let v : Work = begin_work q in
    let gone : weight (goes n v) ≤ length q.parked = omega (arith, filter_length (λ p. not (eqb p.node.0 n.0)) q.parked) in
    let tried = lighter (list_any (is_at n) q.live) (retried k (goes n v)) (goes n v) (length q.parked) (omega (arith, retried_few k (goes n v), gone)) gone in
    omega (arith, same_work _ _ w (retirement k n v (accepted _ w e)) e, tried)

pub pruned_none : (k : Limits) (s : Slot) (q : Ledger) (w : Work) → pruned k s (begin_work q) ≡ Ok w → length w.sends ≡ 0
pruned_none k s q w e = sym (same_work _ _ w (pruning k s (begin_work q) (accepted _ w e)).work e)
