use Rattle.std.proofs.Common.{◌≡◌, Some, true, ap, sym, ◌∙◌}
use Rattle.std.specs.List.{find}
use Rattle.std.specs.Option.{option_copied}
use Rattle.protocol.specs.Ledger.{has_ticket, is_of}
use Rattle.leaseindex.specs.Counts.{ask_count}
use Rattle.leaseindex.specs.Live.{Live}
use Rattle.leaseindex.specs.declared.lease_counts.AskName.{AskName}
use Rattle.leaseindex.proofs.CountLemmas.{unasked, first_asked}
use Rattle.leaseindex.proofs.live_leases.LiveLeases.of_ask.Goals as goal

pub returns-in_err-ticket : goal.returns-in_err-ticket
returns-in_err-ticket c =
    let name : AskName = record { node = c.args.node; life = c.args.life; ask = c.args.ask } in
    rw (← c.self.view_is) (ap option_copied c.from_residual.ensures
    ∙ sym (unasked (ask_count c.self.inside.counts name) (is_of c.args.node c.args.life c.args.ask) c.self.inside.leases.items (c.self.invariant.counted.asks name) (sym c.oldest.ensures ∙ c.in_err-ticket.was)))

pub returns-then-is_of : goal.returns-then-is_of
returns-then-is_of c =
    let name : AskName = record { node = c.args.node; life = c.args.life; ask = c.args.ask } in
    let t = c.in_ok-ticket.ticket in
    let live : c.self.inside.leases.items ≡ c.args.self.now.leases = ap (λ (l : Live). l.leases) c.self.view_is in
    let found : find (has_ticket t) c.self.inside.leases.items ≡ Some c.in-Some.lease.now = ap (find (has_ticket t)) live ∙ sym c.under.ensures.value ∙ ap option_copied c.in-Some.is in
    let has : is_of c.args.node c.args.life c.args.ask c.in-Some.lease.now ≡ true = sym c.is_of.ensures ∙ c.if-is_of.true in
    rw (← c.self.view_is) (sym (first_asked (ask_count c.self.inside.counts name) (is_of c.args.node c.args.life c.args.ask) t c.self.inside.leases.items c.in-Some.lease.now c.self.invariant.sound.tickets (c.self.invariant.counted.asks name)
    (sym c.oldest.ensures ∙ c.in_ok-ticket.was) found has))
