use Rattle.std.proofs.Common.{◌≡◌, ◌+◌, ℕ, List, length, take}
use Rattle.filekeeper.specs.Disks.{calls_of, Leaves}
use Rattle.filekeeper.specs.Framing.{log_bytes}
use Rattle.filekeeper.specs.Settled.{IsAddedTo, IsSettled}
use Rattle.filekeeper.proofs.AddingLemmas.{Sees}
use Rattle.filekeeper.proofs.record_files.add.Given as goal

-- the entries so far are there
abbrev pub invariant-loop-entry : goal.invariant-loop-entry
invariant-loop-entry g l = record {
  len : l.len ≡ l.fn.len + length (log_bytes l.whole (take l.entry-index l.entries));
  sees : (old : List (List ℕ)) → IsSettled (calls_of l.fn.disk) (record { whole = l.whole; entries = old }) → Sees l.whole old l.entries (calls_of l.disk) (log_bytes l.whole (take l.entry-index l.entries));
  leaves : (old : List (List ℕ)) → IsSettled (calls_of l.fn.disk) (record { whole = l.whole; entries = old })
      → Leaves (IsAddedTo (record { whole = l.whole; entries = old }) l.entries) (calls_of l.fn.disk) (calls_of l.disk);
}
