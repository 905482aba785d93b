use Rattle.std.proofs.Common.{◌∙◌, not, ap, rules, tests}
use Rattle.std.specs.List.{list_any}
use Rattle.std.proofs.lemmas.Iterator.{YieldsList-from_slice}
use Rattle.std.proofs.lemmas.Iterator.Consumers.{YieldsList-from_filter, YieldsList-from_chain, YieldsList-at}
use Rattle.std.proofs.lemmas.Iterator.Search.{any_from_yields_List}
use Rattle.protocol.specs.Ledger.{is_at}
use Rattle.holdings.specs.Endings.{has_ended}
use Rattle.leases.specs.Leases.{Table}
use Rattle.leaseindex.proofs.LastLemmas.{last-any}
use Rattle.leases.proofs.view.TableView.has_lease_of.Goals as goal

pub returns : goal.returns
returns c =
    any_from_yields_List (is_at c.args.node) _ _ _ c.any.ensures.ran
    (YieldsList-from_chain (YieldsList-at c.chain.ensures.first (YieldsList-from_filter _ (λ g. not (has_ended c.self.inside.ended.now g)) (YieldsList-from_slice c.last_at.result.now cc) c.filter.ensures.closure (λ x b q k. search (rules, tests))))
    (YieldsList-from_slice c.self.inside.granted.now cc) c.chain.ensures.first_done c.chain.ensures.second_done)
    (λ x b q k. search (rules, tests))
    ∙ last-any (is_at c.args.node) (λ g. not (has_ended c.self.inside.ended.now g)) c.last_at.result.now c.self.inside.live.now.leases c.self.inside.granted.now c.last_at.ensures
    ∙ ap (λ (t : Table). list_any (is_at c.args.node) t.live) c.self.view_is
