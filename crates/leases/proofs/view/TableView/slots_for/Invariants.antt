use Rattle.std.proofs.Common.{◌≡◌, ◌++◌, false, drop, filter}
use Rattle.protocol.specs.Ledger.{all_taken}
use Rattle.leases.specs.Table.{is_free, slots_of}
use Rattle.holdings.specs.Leases.{takes}
use Rattle.leases.proofs.view.TableView.slots_for.Given as goal

abbrev pub invariant-loop-want : goal.invariant-loop-want
invariant-loop-want l = record {
  room : all_taken 4096 (is_free l.self) (filter (takes l.tenure) (drop l.want-index l.wants)) ≡ false;
  slots : l.slots.items ++ slots_of l.self (filter (takes l.tenure) (drop l.want-index l.wants)) ≡ slots_of l.self (filter (takes l.tenure) l.wants);
}
