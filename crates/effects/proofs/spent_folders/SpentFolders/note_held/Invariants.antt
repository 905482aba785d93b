use Rattle.std.proofs.Common.{◌≡◌, ℕ, ◌<◌, true, get_or}
use Rattle.std.specs.Prelude.{Bool}
use Rattle.protocol.specs.Names.{FolderName, Slot}
use Rattle.leases.specs.Table.{is_free}
use Rattle.parked.specs.Noted.{is_noted}
use Rattle.effects.specs.Spent.{is_private_spent}
use Rattle.effects.proofs.spent_folders.SpentFolders.note_held.Given as goal

abbrev pub invariant-loop-held : goal.invariant-loop-held
invariant-loop-held l = record {
  noted : (k : ℕ) (d : Slot × Bool) → k < l.held-index → is_private_spent (is_free l.table) (get_or l.slots k d).0.folder ≡ true → is_noted l.self.folders.items (get_or l.slots k d).0.folder ≡ true;
  kept : (f : FolderName) → is_noted l.initial.self.folders.items f ≡ true → is_noted l.self.folders.items f ≡ true;
}
