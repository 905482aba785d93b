use Rattle.std.proofs.Common.{◌≡◌, ◌++◌, List, ap, ◌∙◌}
use Rattle.protocol.specs.Names.{Slot}
use Rattle.protocol.specs.Ledger.{lease_under}
use Rattle.leases.specs.Leases.{Table}
use Rattle.holdings.specs.Leases.{among}
use Rattle.leases.specs.Table.{private_of}
use Rattle.leases.proofs.RetiredLemmas.{retired-one}
use Rattle.leases.proofs.lease_table.LeaseTable.withdraw.Goals as goal

pub returns-clause-retired : goal.returns-clause-retired
returns-clause-retired c =
    let t : Table = c.args.self.now in
    let was : c.self.inside.retired.slots ≡ t.retired = ap (λ (t : Table). t.retired) c.self.view_is in
    let own : c.in_ok-retired.retired.items ≡ private_of (lease_under t.live c.args.ticket) = c.in_ok-retired.ensures ∙ ap (λ (seen : Table). private_of (lease_under seen.live c.args.ticket)) c.unchanged.ensures in
    ap among (c.in_ok-add.ensures.ok ∙ ap (λ (slots : List Slot). slots ++ c.in_ok-retired.retired.items) was ∙ ap (λ (slots : List Slot). t.retired ++ slots) own) ∙ retired-one (lease_under t.live c.args.ticket) t.retired
