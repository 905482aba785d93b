use Rattle.std.proofs.Common.{◌≡◌, ℕ, ◌<◌, true, get_or}
use Rattle.protocol.specs.Names.{FolderName, Want}
use Rattle.leases.specs.Table.{is_free}
use Rattle.parked.specs.Noted.{is_noted}
use Rattle.effects.specs.Spent.{is_private_spent}
use Rattle.effects.proofs.spent_folders.SpentFolders.note_wants.Given as goal

abbrev pub invariant-loop-want : goal.invariant-loop-want
invariant-loop-want l = record {
  noted : (k : ℕ) (d : Want) → k < l.want-index → is_private_spent (is_free l.table) (get_or l.wants k d).folder ≡ true → is_noted l.self.folders.items (get_or l.wants k d).folder ≡ true;
  kept : (f : FolderName) → is_noted l.initial.self.folders.items f ≡ true → is_noted l.self.folders.items f ≡ true;
}
