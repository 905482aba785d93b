use Rattle.std.proofs.Common.{Some, ap, sym, ◌∙◌, length, arith}
use Rattle.std.specs.List.{position_from}
use Rattle.protocol.specs.Ledger.{has_ticket}
use Rattle.holdings.proofs.LeaseLemmas.{StandsAt, stands, missing}
use Rattle.leaseindex.proofs.live_leases.LiveLeases.under.Goals as goal

pub returns-in-None-clause-value : goal.returns-in-None-clause-value
returns-in-None-clause-value c =
    rw (← c.self.view_is) (sym (missing c.args.ticket c.self.inside.leases.items 0 (ap (position_from (has_ticket c.args.ticket) 0) (sym c.as_slice.ensures.value) ∙ sym c.place_of.ensures ∙ c.in-None.is)).0)

pub index-requires : goal.index-requires
index-requires c =
    let s : StandsAt c.args.ticket c.self.inside.leases.items c.in-Some.place = stands _ _ _ (ap (position_from (has_ticket c.args.ticket) 0) (sym c.as_slice.ensures.value) ∙ sym c.place_of.ensures ∙ c.in-Some.is) in
    omega (arith, s.inside, ap length c.as_slice.ensures.value, c.as_slice.ensures.len)

pub returns-in-Some-clause-value : goal.returns-in-Some-clause-value
returns-in-Some-clause-value c =
    let s : StandsAt c.args.ticket c.self.inside.leases.items c.in-Some.place = stands _ _ _ (ap (position_from (has_ticket c.args.ticket) 0) (sym c.as_slice.ensures.value) ∙ sym c.place_of.ensures ∙ c.in-Some.is) in
    rw (← c.self.view_is) (ap (λ g. Some g) c.index.ensures ∙ sym (s.found c.index.result.now))
