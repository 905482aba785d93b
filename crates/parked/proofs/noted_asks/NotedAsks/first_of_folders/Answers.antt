use Rattle.std.proofs.Common.{arith}
use Rattle.protocol.specs.Names.{FolderName}
use Rattle.parked.specs.Noted.{notes_want}
use Rattle.parked.proofs.NotedWords.{some_at}
use Rattle.parked.proofs.noted_asks.NotedAsks.first_of_folders.Goals as goal

pub returns : goal.returns
returns c = λ n le some.
    let r = some_at (λ (f : FolderName). notes_want c.args.self.now f n) c.args.folders.now some in
    c.loop-folder.invariant n r.0 r.1 le (let inside = r.2 in omega arith) r.3
