use Rattle.std.proofs.Common.{◌∙◌, ◌&&◌, Bool, not, ap, rules, tests}
use Rattle.std.specs.List.{list_any}
use Rattle.std.proofs.lemmas.Iterator.{YieldsList-from_slice}
use Rattle.std.proofs.lemmas.Iterator.Consumers.{YieldsList-from_filter, YieldsList-from_chain, YieldsList-at}
use Rattle.std.proofs.lemmas.Iterator.Search.{any_from_yields_List}
use Rattle.std.specs.Prelude.{nat_lt}
use Rattle.protocol.specs.Ledger.{is_at, is_older}
use Rattle.holdings.specs.Endings.{has_ended}
use Rattle.leases.specs.Leases.{Table}
use Rattle.leaseindex.proofs.LastLemmas.{last-weaker, last-any}
use Rattle.leases.proofs.view.TableView.has_lease_below.Goals as goal

pub returns : goal.returns
returns c =
    any_from_yields_List (is_older c.args.node c.args.life) _ _ _ c.any.ensures.ran
    (YieldsList-from_chain (YieldsList-at c.chain.ensures.first (YieldsList-from_filter _ (λ g. not (has_ended c.self.inside.ended.now g)) (YieldsList-from_slice c.last_at.result.now cc) c.filter.ensures.closure (λ x b q k. search (rules, tests))))
    (YieldsList-from_slice c.self.inside.granted.now cc) c.chain.ensures.first_done c.chain.ensures.second_done)
    (λ x b q k. search (rules, tests))
    ∙ last-any (is_older c.args.node c.args.life) (λ g. not (has_ended c.self.inside.ended.now g)) c.last_at.result.now c.self.inside.live.now.leases c.self.inside.granted.now (last-weaker (is_at c.args.node) (is_older c.args.node c.args.life) c.last_at.result.now c.self.inside.live.now.leases (λ g e. ap (λ (b : Bool). b && nat_lt g.life.0 c.args.life.0) e) c.last_at.ensures)
    ∙ ap (λ (t : Table). list_any (is_older c.args.node c.args.life) t.live) c.self.view_is
