use Rattle.std.proofs.Common.{List, filter, ap, sym, ◌∙◌}
use Rattle.std.specs.List.{find}
use Rattle.protocol.specs.Names.{Want}
use Rattle.leaseindex.specs.Live.{holds_some}
use Rattle.holdings.specs.Leases.{takes}
use Rattle.holdings.proofs.LeaseLemmas.{leased-filter}
use Rattle.leases.proofs.view.TableView.holder_of.Goals as goal

pub returns : goal.returns
returns c =
    c.first_with.ensures
    ∙ ap (λ (ws : List Want). find (holds_some (filter (takes c.args.tenure) ws)) c.args.self.now.live) c.as_slice.ensures.same
    ∙ ap (λ (ws : List Want). find (holds_some ws) c.args.self.now.live) (sym (leased-filter c.args.tenure c.args.wants.now))
