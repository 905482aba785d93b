use Rattle.std.proofs.Common.{sym, ◌∙◌}
use Rattle.protocol.specs.Ledger.{is_at}
use Rattle.leaseindex.specs.Counts.{node_count}
use Rattle.leaseindex.proofs.CountLemmas.{none_counted, none_before}
use Rattle.leaseindex.proofs.lease_counts.LeaseCounts.last_at.Goals as goal

pub returns-in-None : goal.returns-in-None
returns-in-None c =
    none_counted (node_count c.args.self.now c.args.node) (is_at c.args.node) c.args.leases.now (c.requires.counted.nodes c.args.node) (sym c.oldest_at.ensures ∙ c.in-None.is)

pub returns-in-Some : goal.returns-in-Some
returns-in-Some c =
    none_before (node_count c.args.self.now c.args.node) (is_at c.args.node) c.in-Some.oldest c.since.result.now c.args.leases.now (c.requires.counted.nodes c.args.node) (sym c.oldest_at.ensures ∙ c.in-Some.is) c.since.ensures
