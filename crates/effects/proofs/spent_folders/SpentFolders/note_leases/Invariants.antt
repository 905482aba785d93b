use Rattle.std.proofs.Common.{◌≡◌, ℕ, ◌<◌, true, get_or}
use Rattle.std.specs.Prelude.{Bool}
use Rattle.protocol.specs.Lists.{In}
use Rattle.protocol.specs.Names.{FolderName, Slot}
use Rattle.protocol.specs.Ledger.{Lease}
use Rattle.leases.specs.Table.{is_free}
use Rattle.parked.specs.Noted.{is_noted}
use Rattle.effects.specs.Spent.{is_private_spent}
use Rattle.effects.proofs.spent_folders.SpentFolders.note_leases.Given as goal

abbrev pub invariant-loop-lease : goal.invariant-loop-lease
invariant-loop-lease l = record {
  noted : (k : ℕ) (d : Lease) → k < l.lease-index → (x : Slot × Bool) → In x (get_or l.leases k d).slots
      → is_private_spent (is_free l.table) x.0.folder ≡ true → is_noted l.self.folders.items x.0.folder ≡ true;
  kept : (f : FolderName) → is_noted l.initial.self.folders.items f ≡ true → is_noted l.self.folders.items f ≡ true;
}
