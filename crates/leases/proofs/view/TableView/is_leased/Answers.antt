use Rattle.std.proofs.Common.{◌∙◌, not, ap, rules, tests}
use Rattle.std.specs.List.{list_any}
use Rattle.std.proofs.lemmas.Iterator.{YieldsList-from_slice}
use Rattle.std.proofs.lemmas.Iterator.Consumers.{YieldsList-from_filter, YieldsList-from_chain, YieldsList-at}
use Rattle.std.proofs.lemmas.Iterator.Search.{any_from_yields_List}
use Rattle.protocol.specs.Ledger.{has_slot}
use Rattle.holdings.specs.Endings.{has_ended}
use Rattle.leases.specs.Leases.{Table}
use Rattle.leases.proofs.view.TableView.is_leased.Goals as goal

pub returns : goal.returns
returns c =
    any_from_yields_List (λ g. has_slot g.slots c.args.slot.now) _ _ _ c.any.ensures.ran
    (YieldsList-from_chain (YieldsList-at c.chain.ensures.first (YieldsList-from_filter _ (λ g. not (has_ended c.self.inside.ended.now g)) (YieldsList-from_slice c.self.inside.live.now.leases cc) c.filter.ensures.closure (λ x b q k. search (rules, tests))))
    (YieldsList-from_slice c.self.inside.granted.now cc) c.chain.ensures.first_done c.chain.ensures.second_done)
    (λ x b q k. search (rules, tests))
    ∙ ap (λ (t : Table). list_any (λ g. has_slot g.slots c.args.slot.now) t.live) c.self.view_is
