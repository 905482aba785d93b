use Rattle.std.proofs.Common.{◌≡◌, drop}
use Rattle.std.specs.Prelude.{AllPairs}
use Rattle.holdings.specs.Leases.{IsBefore}
use Rattle.saverecord.specs.Logs.{without_all}
use Rattle.saverecord.proofs.folding.without_all.Given as goal

abbrev pub invariant-loop-ticket : goal.invariant-loop-ticket
invariant-loop-ticket l = record {
  rise : AllPairs IsBefore l.leases.items;
  folded : without_all (drop l.ticket-index l.ended) l.leases.items ≡ without_all l.ended l.fn.leases.items;
}
