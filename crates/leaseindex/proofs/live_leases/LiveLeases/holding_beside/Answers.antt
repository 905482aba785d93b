use Rattle.std.proofs.Common.{◌∙◌, ap}
use Rattle.protocol.specs.Names.{only_slot}
use Rattle.protocol.specs.Ledger.{has_slot}
use Rattle.holdings.specs.Endings.{standing}
use Rattle.leaseindex.proofs.FindLemmas.{found_standing}
use Rattle.leaseindex.proofs.IndexLemmas.{folder_once}
use Rattle.leaseindex.proofs.live_leases.LiveLeases.holding_beside.Goals as goal

pub returns-clause-value : goal.returns-clause-value
returns-clause-value c =
    c.standing.ensures
    ∙ ap (standing c.args.ended.now) c.holding.ensures.value
    ∙ found_standing (λ g. has_slot g.slots (only_slot c.args.folder.now)) c.args.ended.now c.args.self.now.leases (folder_once c.args.folder.now c.args.self.now.leases c.holding.ensures.sound.apart)
