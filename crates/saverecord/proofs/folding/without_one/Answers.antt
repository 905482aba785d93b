use Rattle.std.proofs.Common.{◌∙◌, List, Option, Ok, ap, sym, inr, length, arith}
use Rattle.std.specs.List.{position_from}
use Rattle.std.specs.Prelude.{is_some}
use Rattle.farm_base.specs.declared.lease.Lease.{Lease}
use Rattle.holdings.proofs.LeaseLemmas.{StandsAt, stands, missing}
use Rattle.protocol.specs.Ledger.{has_ticket, without}
use Rattle.recordparts.specs.declared.refusal.Flaw.TheVariants.{Relation}
use Rattle.recordparts.specs.Parts.{passed}
use Rattle.saverecord.proofs.folding.without_one.Goals as goal

pub returns-in-None-clause-exact : goal.returns-in-None-clause-exact
returns-in-None-clause-exact c =
    let none = missing c.args.ticket c.args.leases.items 0 (ap (position_from (has_ticket c.args.ticket) 0) (sym c.as_slice.ensures.value) ∙ sym c.place_of.ensures ∙ c.in-None.is) in
    inr (ap (λ (o : Option Lease). passed Relation (is_some o) (without c.args.ticket c.args.leases.items)) none.0)

pub remove-requires : goal.remove-requires
remove-requires c =
    let s : StandsAt c.args.ticket c.args.leases.items c.in-Some.place = stands _ _ _ (ap (position_from (has_ticket c.args.ticket) 0) (sym c.as_slice.ensures.value) ∙ sym c.place_of.ensures ∙ c.in-Some.is) in
    omega (arith, s.inside, ap length c.as_slice.ensures.value, c.as_slice.ensures.len)

pub returns-in-Some-clause-exact : goal.returns-in-Some-clause-exact
returns-in-Some-clause-exact c =
    let s : StandsAt c.args.ticket c.args.leases.items c.in-Some.place = stands _ _ _ (ap (position_from (has_ticket c.args.ticket) 0) (sym c.as_slice.ensures.value) ∙ sym c.place_of.ensures ∙ c.in-Some.is) in
    ap (λ (o : Option Lease). passed Relation (is_some o) (without c.args.ticket c.args.leases.items)) (s.found c.remove.result) ∙ ap (λ (gs : List Lease). Ok gs) (sym (c.remove.ensures.items ∙ s.rest c.requires))
