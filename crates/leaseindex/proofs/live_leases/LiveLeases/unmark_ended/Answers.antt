use Rattle.std.proofs.Common.{◌≡◌, Bool, Some, None, false, ◌&&◌, not, List, sym, ◌∙◌, ap}
use Rattle.std.specs.List.{find}
use Rattle.std.specs.Option.{option_copied}
use Rattle.farm_base.specs.declared.lease.Lease.{Lease}
use Rattle.protocol.specs.Names.{Slot}
use Rattle.protocol.specs.Ledger.{has_slot, has_ticket}
use Rattle.holdings.specs.declared.ending.Ending.{Ending}
use Rattle.holdings.specs.Endings.{ends_lease}
use Rattle.leaseindex.specs.Instances.{has}
use Rattle.leaseindex.proofs.FindLemmas.{ticket_once}
use Rattle.leaseindex.proofs.LastLemmas.{last-with}
use Rattle.leaseindex.proofs.TakenLemmas.{any_with, any_with-once, any_with-missing}
use Rattle.leaseindex.proofs.live_leases.LiveLeases.unmark_ended.Goals as goal

pub returns-in-Some : goal.returns-in-Some
returns-in-Some c i to =
    let live : List Lease = c.args.self.now.leases in
    let s : Slot = record { folder = c.args.folder.now; instance = i } in
    let found : find (has_ticket c.in-Ticket.ticket) live ≡ Some c.in-Some.lease.now = sym c.under.ensures.value ∙ ap option_copied c.in-Some.is in
    let one : any_with (ends_lease c.args.ending.now) live s ≡ has_slot c.in-Some.lease.now.slots s =
    ap (λ (e : Ending). any_with (ends_lease e) live s) c.in-Ticket.is
    ∙ any_with-once (has_ticket c.in-Ticket.ticket) live s c.in-Some.lease.now (ticket_once c.in-Ticket.ticket live c.under.ensures.sound.tickets) found in
    c.unmark_lease.ensures i to
    ∙ ap (λ slots. not (has_slot slots s) && has c.args.taken.now i) c.as_slice.ensures
    ∙ ap (λ (b : Bool). not b && has c.args.taken.now i) (sym one)

pub returns-in_default : goal.returns-in_default
returns-in_default c i to =
    let live : List Lease = c.args.self.now.leases in
    let s : Slot = record { folder = c.args.folder.now; instance = i } in
    let missing : find (has_ticket c.in-Ticket.ticket) live ≡ None = sym c.under.ensures.value ∙ ap option_copied c.in_default.is in
    let none : any_with (ends_lease c.args.ending.now) live s ≡ false =
    ap (λ (e : Ending). any_with (ends_lease e) live s) c.in-Ticket.is ∙ any_with-missing (has_ticket c.in-Ticket.ticket) live s missing in
    ap (λ (b : Bool). not b && has c.args.taken.now i) (sym none)

pub returns-in-Node : goal.returns-in-Node
returns-in-Node c i to =
    let s : Slot = record { folder = c.args.folder.now; instance = i } in
    c.unmark_ending.ensures i to ∙ ap (λ (b : Bool). not b && has c.args.taken.now i) (last-with (ends_lease c.args.ending.now) s c.last_ending.result.now c.args.self.now.leases c.last_ending.ensures)
