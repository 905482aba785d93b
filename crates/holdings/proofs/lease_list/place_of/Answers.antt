use Rattle.std.proofs.Common.{◌∙◌, rules}
use Rattle.std.proofs.lemmas.Fn.{always_returns_same}
use Rattle.farm_base.specs.declared.lease.Lease.{Lease}
use Rattle.holdings.proofs.LeaseLemmas.{position_searched, tickets_rise}
use Rattle.holdings.proofs.PlaceLemmas.{searched}
use Rattle.holdings.proofs.lease_list.place_of.Goals as goal

pub returns : goal.returns
returns c =
    let facts = c.binary_search_by_key.ensures in
    let by_ticket = facts.position (λ lease. lease.ticket) (always_returns_same _ _ _ (λ a r g called. search rules)) in
    let found = searched (λ (g : Lease). g.ticket.0) c.args.ticket.0 c.args.leases.now c.binary_search_by_key.result (tickets_rise c.args.leases.now c.requires) facts.bound by_ticket in
    c.ok.ensures.value ∙ position_searched c.args.ticket c.args.leases.now c.binary_search_by_key.result c.requires found
