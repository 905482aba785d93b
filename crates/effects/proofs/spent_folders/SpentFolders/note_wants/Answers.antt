use Rattle.std.proofs.Common.{◌≡◌, true, arith}
use Rattle.protocol.specs.Names.{Want}
use Rattle.leases.specs.Table.{is_free}
use Rattle.parked.specs.Noted.{is_noted}
use Rattle.effects.specs.Spent.{is_private_spent}
use Rattle.parked.proofs.NotedWords.{each_in}
use Rattle.effects.proofs.spent_folders.SpentFolders.note_wants.Goals as goal

pub returns-clause-noted : goal.returns-clause-noted
returns-clause-noted c w i =
    each_in (λ (y : Want). is_private_spent (is_free c.args.table.now) y.folder ≡ true → is_noted c.loop-want.self.folders.items y.folder ≡ true) c.args.wants.now
    (λ k d inside. c.loop-want.invariant.noted k d (omega arith)) w i
