use Rattle.std.proofs.Common.{◌≡◌, ℕ, ◌<◌, true, get_or}
use Rattle.protocol.specs.Names.{FolderName}
use Rattle.protocol.specs.Machine.{Parked}
use Rattle.leases.specs.Table.{is_free}
use Rattle.parked.specs.Noted.{is_noted}
use Rattle.effects.specs.Spent.{IsNoted}
use Rattle.effects.proofs.spent_folders.SpentFolders.note_asks.Given as goal

abbrev pub invariant-loop-p : goal.invariant-loop-p
invariant-loop-p l = record {
  noted : (k : ℕ) (d : Parked) → k < l.p-index → IsNoted l.self.folders.items (is_free l.table) (get_or l.asks k d);
  kept : (f : FolderName) → is_noted l.initial.self.folders.items f ≡ true → is_noted l.self.folders.items f ≡ true;
}
