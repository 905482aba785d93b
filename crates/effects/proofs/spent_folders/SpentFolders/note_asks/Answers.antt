use Rattle.std.proofs.Common.{arith}
use Rattle.protocol.specs.Machine.{Parked}
use Rattle.leases.specs.Table.{is_free}
use Rattle.effects.specs.Spent.{IsNoted}
use Rattle.parked.proofs.NotedWords.{each_in}
use Rattle.effects.proofs.spent_folders.SpentFolders.note_asks.Goals as goal

pub returns-clause-noted : goal.returns-clause-noted
returns-clause-noted c p i =
    each_in (λ (y : Parked). IsNoted c.loop-p.self.folders.items (is_free c.args.table.now) y) c.args.asks.now
    (λ k d inside. c.loop-p.invariant.noted k d (omega arith)) p i
