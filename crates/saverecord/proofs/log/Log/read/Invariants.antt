use Rattle.std.proofs.Common.{◌≡◌, drop}
use Rattle.codec.specs.Steps.{◌>>=◌}
use Rattle.saverecord.specs.Logs.{with_entries, agreed, ledger_in, folded_ledger, IsReadable}
use Rattle.saverecord.proofs.log.Log.read.Given as goal

abbrev pub invariant-loop-text : goal.invariant-loop-text
invariant-loop-text l = record {
  readable : IsReadable (folded_ledger l.folded);
  folded : (with_entries (drop l.text-index l.text-items) (folded_ledger l.folded) >>= agreed) ≡ ledger_in l.fn.self;
}
