use Rattle.std.proofs.Common.{◌≡◌, true, arith}
use Rattle.std.specs.Prelude.{Bool}
use Rattle.protocol.specs.Names.{Slot}
use Rattle.leases.specs.Table.{is_free}
use Rattle.parked.specs.Noted.{is_noted}
use Rattle.effects.specs.Spent.{is_private_spent}
use Rattle.parked.proofs.NotedWords.{each_in}
use Rattle.effects.proofs.spent_folders.SpentFolders.note_held.Goals as goal

pub returns-clause-noted : goal.returns-clause-noted
returns-clause-noted c x i =
    each_in (λ (y : Slot × Bool). is_private_spent (is_free c.args.table.now) y.0.folder ≡ true → is_noted c.loop-held.self.folders.items y.0.folder ≡ true) c.args.slots.now
    (λ k d inside. c.loop-held.invariant.noted k d (omega arith)) x i
