use Rattle.std.proofs.Common.{◌≡◌, ◌≤◌, ◌-◌, ℕ, ◌<◌, true, get_or, length}
use Rattle.protocol.specs.Names.{FolderName, Slot}
use Rattle.leases.specs.Table.{is_free}
use Rattle.parked.specs.Noted.{is_noted}
use Rattle.effects.specs.Spent.{is_private_spent}
use Rattle.effects.proofs.spent_folders.SpentFolders.note_slots.Given as goal

abbrev pub invariant-loop-place : goal.invariant-loop-place
invariant-loop-place l = record {
  noted : (k : ℕ) (d : Slot) → k < l.place → is_private_spent (is_free l.table) (get_or l.slots k d).folder ≡ true → is_noted l.self.folders.items (get_or l.slots k d).folder ≡ true;
  kept : (f : FolderName) → is_noted l.initial.self.folders.items f ≡ true → is_noted l.self.folders.items f ≡ true;
  inside : l.place ≤ length l.slots;
}

abbrev pub decreases-loop-place : goal.decreases-loop-place
decreases-loop-place l = length l.slots - l.place
