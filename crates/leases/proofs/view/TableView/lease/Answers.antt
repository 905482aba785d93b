use Rattle.std.proofs.Common.{◌≡◌, ◌∙◌, List, Option, ap, rules, tests}
use Rattle.std.proofs.lemmas.Iterator.{YieldsList-from_slice}
use Rattle.std.proofs.lemmas.Iterator.Search.{find_from_yields_List}
use Rattle.std.specs.List.{find}
use Rattle.std.specs.Option.{option_copied, option_or}
use Rattle.farm_base.specs.declared.lease.Lease.{Lease}
use Rattle.protocol.specs.Ledger.{has_ticket}
use Rattle.holdings.specs.Endings.{standing}
use Rattle.leases.specs.Leases.{Table}
use Rattle.leaseindex.proofs.FindLemmas.{copied_or, found_over, ticket_once}
use Rattle.leases.proofs.view.TableView.lease.Goals as goal

pub returns : goal.returns
returns c =
    let live : List Lease = c.self.inside.live.now.leases in
    let ended = c.self.inside.ended.now in
    let granted : option_copied c.find.result ≡ find (has_ticket c.args.ticket) c.self.inside.granted.now =
    find_from_yields_List (has_ticket c.args.ticket) _ _ _ c.find.ensures.ran (YieldsList-from_slice c.self.inside.granted.now cc) (λ x b q k. search (rules, tests)) in
    ap option_copied c.or.ensures
    ∙ copied_or c.standing.result c.find.result
    ∙ ap (λ (o : Option Lease). option_or o (option_copied c.find.result)) (c.standing.ensures ∙ ap (standing ended) c.under.ensures.value)
    ∙ ap (option_or (standing ended (find (has_ticket c.args.ticket) live))) granted
    ∙ found_over (has_ticket c.args.ticket) ended live c.self.inside.granted.now (ticket_once c.args.ticket live c.under.ensures.sound.tickets)
    ∙ ap (λ (t : Table). find (has_ticket c.args.ticket) t.live) c.self.view_is
