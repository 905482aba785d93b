use Rattle.std.proofs.Common.{is_some, ap, ◌∙◌}
use Rattle.protocol.specs.Names.{only_slot}
use Rattle.protocol.specs.Ledger.{has_slot}
use Rattle.leaseindex.proofs.FindLemmas.{is_some-copied}
use Rattle.leaseindex.proofs.IndexLemmas.{is_some-find}
use Rattle.leases.proofs.view.TableView.has_only_slot.Goals as goal

pub returns : goal.returns
returns c = c.is_some.ensures ∙ is_some-copied c.holding.result ∙ ap is_some c.holding.ensures ∙ is_some-find (λ g. has_slot g.slots (only_slot c.args.folder.now)) c.args.self.now.live
