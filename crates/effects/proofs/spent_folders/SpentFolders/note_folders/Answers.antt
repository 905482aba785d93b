use Rattle.std.proofs.Common.{◌≡◌, true, arith}
use Rattle.protocol.specs.Names.{FolderName}
use Rattle.leases.specs.Table.{is_free}
use Rattle.parked.specs.Noted.{is_noted}
use Rattle.effects.specs.Spent.{is_private_spent}
use Rattle.parked.proofs.NotedWords.{each_in}
use Rattle.effects.proofs.spent_folders.SpentFolders.note_folders.Goals as goal

pub returns-clause-noted : goal.returns-clause-noted
returns-clause-noted c f i =
    each_in (λ (y : FolderName). is_private_spent (is_free c.args.table.now) y ≡ true → is_noted c.loop-folder.self.folders.items y ≡ true) c.args.folders.now
    (λ k d inside. c.loop-folder.invariant.noted k d (omega arith)) f i
