use Rattle.std.proofs.Common.{◌≡◌, ◌∙◌, List, filter, not, Option, ap, sym, rules, tests}
use Rattle.std.proofs.lemmas.List.Folds.{find-append}
use Rattle.std.proofs.lemmas.Iterator.{YieldsList-from_slice}
use Rattle.std.proofs.lemmas.Iterator.Search.{find_from_yields_List}
use Rattle.std.specs.List.{find}
use Rattle.std.specs.Option.{option_copied, option_or}
use Rattle.farm_base.specs.declared.lease.Lease.{Lease}
use Rattle.protocol.specs.Names.{only_slot}
use Rattle.protocol.specs.Ledger.{has_slot}
use Rattle.holdings.specs.Endings.{has_ended}
use Rattle.leases.specs.Leases.{Table}
use Rattle.leaseindex.proofs.FindLemmas.{copied_or}
use Rattle.leases.proofs.view.TableView.holding.Goals as goal

pub returns : goal.returns
returns c =
    let live : List Lease = filter (λ g. not (has_ended c.self.inside.ended.now g)) c.self.inside.live.now.leases in
    let has = λ (g : Lease). has_slot g.slots (only_slot c.args.folder.now) in
    let granted : option_copied c.find.result ≡ find has c.self.inside.granted.now =
    find_from_yields_List has _ _ _ c.find.ensures.ran (YieldsList-from_slice c.self.inside.granted.now cc) (λ x b q k. search (rules, tests)) in
    ap option_copied c.or.ensures
    ∙ copied_or c.holding_beside.result c.find.result
    ∙ ap (λ (o : Option Lease). option_or o (option_copied c.find.result)) c.holding_beside.ensures.value
    ∙ ap (option_or (find has live)) granted
    ∙ sym (find-append has live c.self.inside.granted.now)
    ∙ ap (λ (t : Table). find has t.live) c.self.view_is
