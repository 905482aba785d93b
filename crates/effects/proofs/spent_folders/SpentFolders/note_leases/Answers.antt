use Rattle.std.proofs.Common.{◌≡◌, true, arith}
use Rattle.std.specs.Prelude.{Bool}
use Rattle.protocol.specs.Lists.{In}
use Rattle.protocol.specs.Names.{Slot}
use Rattle.protocol.specs.Ledger.{Lease}
use Rattle.leases.specs.Table.{is_free}
use Rattle.parked.specs.Noted.{is_noted}
use Rattle.effects.specs.Spent.{is_private_spent}
use Rattle.parked.proofs.NotedWords.{each_in}
use Rattle.effects.proofs.spent_folders.SpentFolders.note_leases.Goals as goal

pub returns-clause-noted : goal.returns-clause-noted
returns-clause-noted c g i =
    each_in (λ (y : Lease). (x : Slot × Bool) → In x y.slots → is_private_spent (is_free c.args.table.now) x.0.folder ≡ true → is_noted c.loop-lease.self.folders.items x.0.folder ≡ true) c.args.leases.now
    (λ k d inside. c.loop-lease.invariant.noted k d (omega arith)) g i
