use Rattle.std.proofs.Common.{◌≡◌, Some, None, true, false, cond, ap, sym, ◌∙◌}
use Rattle.std.specs.List.{find}
use Rattle.std.specs.Option.{option_copied}
use Rattle.protocol.specs.Names.{only_slot}
use Rattle.protocol.specs.Ledger.{has_slot, has_ticket}
use Rattle.leaseindex.specs.Index.{ticket_at}
use Rattle.leaseindex.specs.Live.{Live}
use Rattle.leaseindex.proofs.FindLemmas.{ticket_once}
use Rattle.leaseindex.proofs.IndexLemmas.{unindexed, indexed-none, indexed-some}
use Rattle.leaseindex.proofs.live_leases.LiveLeases.holding.Goals as goal

pub returns-in_err-ticket-clause-value : goal.returns-in_err-ticket-clause-value
returns-in_err-ticket-clause-value c =
    let none : ticket_at c.self.inside.by_folder c.args.folder.now ≡ None = sym c.get.ensures.value ∙ ap option_copied c.in_err-ticket.was in
    rw (← c.self.view_is) (ap option_copied c.from_residual.ensures ∙ sym (unindexed (ticket_at c.self.inside.by_folder) c.args.folder.now c.self.inside.leases.items c.self.invariant.indexed none))

pub returns-in_err-lease-clause-value : goal.returns-in_err-lease-clause-value
returns-in_err-lease-clause-value c =
    let at : ticket_at c.self.inside.by_folder c.args.folder.now ≡ Some c.in_ok-ticket.ticket.now = sym c.get.ensures.value ∙ ap option_copied c.in_ok-ticket.was in
    let live : c.self.inside.leases.items ≡ c.args.self.now.leases = ap (λ (l : Live). l.leases) c.self.view_is in
    let none : find (has_ticket c.in_ok-ticket.ticket.now) c.self.inside.leases.items ≡ None = ap (find (has_ticket c.in_ok-ticket.ticket.now)) live ∙ sym c.under.ensures.value ∙ ap option_copied c.in_err-lease.was in
    rw (← c.self.view_is) (ap option_copied c.from_residual-in_err-lease.ensures ∙ sym (indexed-none (ticket_at c.self.inside.by_folder) c.args.folder.now c.in_ok-ticket.ticket.now c.self.inside.leases.items c.self.invariant.indexed at (ticket_once c.in_ok-ticket.ticket.now c.self.inside.leases.items c.self.invariant.sound.tickets) none))

pub returns-then-has_only-clause-value : goal.returns-then-has_only-clause-value
returns-then-has_only-clause-value c =
    let at : ticket_at c.self.inside.by_folder c.args.folder.now ≡ Some c.in_ok-ticket.ticket.now = sym c.get.ensures.value ∙ ap option_copied c.in_ok-ticket.was in
    let live : c.self.inside.leases.items ≡ c.args.self.now.leases = ap (λ (l : Live). l.leases) c.self.view_is in
    let found : find (has_ticket c.in_ok-ticket.ticket.now) c.self.inside.leases.items ≡ Some c.in_ok-lease.lease.now = ap (find (has_ticket c.in_ok-ticket.ticket.now)) live ∙ sym c.under.ensures.value ∙ ap option_copied c.in_ok-lease.was in
    let has : has_slot c.in_ok-lease.lease.now.slots (only_slot c.args.folder.now) ≡ true = ap (λ slots. has_slot slots (only_slot c.args.folder.now)) (sym c.as_slice.ensures) ∙ sym c.has_only.ensures ∙ c.if-has_only.true in
    rw (← c.self.view_is) (sym (indexed-some (ticket_at c.self.inside.by_folder) c.args.folder.now c.in_ok-ticket.ticket.now c.self.inside.leases.items c.in_ok-lease.lease.now c.self.invariant.indexed at
    (ticket_once c.in_ok-ticket.ticket.now c.self.inside.leases.items c.self.invariant.sound.tickets) found ∙ ap (λ b. cond b (Some c.in_ok-lease.lease.now) None) has))

pub returns-else-has_only-clause-value : goal.returns-else-has_only-clause-value
returns-else-has_only-clause-value c =
    let at : ticket_at c.self.inside.by_folder c.args.folder.now ≡ Some c.in_ok-ticket.ticket.now = sym c.get.ensures.value ∙ ap option_copied c.in_ok-ticket.was in
    let live : c.self.inside.leases.items ≡ c.args.self.now.leases = ap (λ (l : Live). l.leases) c.self.view_is in
    let found : find (has_ticket c.in_ok-ticket.ticket.now) c.self.inside.leases.items ≡ Some c.in_ok-lease.lease.now = ap (find (has_ticket c.in_ok-ticket.ticket.now)) live ∙ sym c.under.ensures.value ∙ ap option_copied c.in_ok-lease.was in
    let has : has_slot c.in_ok-lease.lease.now.slots (only_slot c.args.folder.now) ≡ false = ap (λ slots. has_slot slots (only_slot c.args.folder.now)) (sym c.as_slice.ensures) ∙ sym c.has_only.ensures ∙ c.if-has_only.false in
    rw (← c.self.view_is) (sym (indexed-some (ticket_at c.self.inside.by_folder) c.args.folder.now c.in_ok-ticket.ticket.now c.self.inside.leases.items c.in_ok-lease.lease.now c.self.invariant.indexed at
    (ticket_once c.in_ok-ticket.ticket.now c.self.inside.leases.items c.self.invariant.sound.tickets) found ∙ ap (λ b. cond b (Some c.in_ok-lease.lease.now) None) has))
