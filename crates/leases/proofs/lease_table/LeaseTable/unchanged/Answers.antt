use Rattle.std.proofs.Common.{◌∙◌}
use Rattle.leases.proofs.ChangeLemmas.{changed-none}
use Rattle.leases.proofs.lease_table.LeaseTable.unchanged.Goals as goal

pub returns : goal.returns
returns c = c.with_changes.ensures ∙ changed-none c.args.self.now
