use Rattle.std.proofs.Common.{◌∙◌, not, ap, rules, tests}
use Rattle.std.specs.List.{find}
use Rattle.std.proofs.lemmas.Iterator.{YieldsList-from_slice}
use Rattle.std.proofs.lemmas.Iterator.Consumers.{YieldsList-from_filter, YieldsList-from_chain, YieldsList-at}
use Rattle.std.proofs.lemmas.Iterator.Search.{find_from_yields_List}
use Rattle.protocol.specs.Ledger.{is_of}
use Rattle.holdings.specs.Endings.{has_ended}
use Rattle.leases.specs.Leases.{Table}
use Rattle.leases.proofs.view.TableView.among_all.Goals as goal

pub returns : goal.returns
returns c =
    find_from_yields_List (is_of c.args.node c.args.life c.args.ask) _ _ _ c.find.ensures.ran
    (YieldsList-from_chain (YieldsList-at c.chain.ensures.first (YieldsList-from_filter _ (λ g. not (has_ended c.self.inside.ended.now g)) (YieldsList-from_slice c.self.inside.live.now.leases cc) c.filter.ensures.closure (λ x b q k. search (rules, tests))))
    (YieldsList-from_slice c.self.inside.granted.now cc) c.chain.ensures.first_done c.chain.ensures.second_done)
    (λ x b q k. search (rules, tests))
    ∙ ap (λ (t : Table). find (is_of c.args.node c.args.life c.args.ask) t.live) c.self.view_is
