use Rattle.std.proofs.Common.{refl}
use Rattle.parked.specs.declared.noted_asks.NotedAsks.{NotedAsks}
use Rattle.parked.proofs.NotedWords.{keeps_of-same, keeps_of-then, keeps_of-folder}
use Rattle.parked.proofs.noted_asks.NotedAsks.drop_wants.Goals as goal

pub loop-want-init : goal.loop-want-init
loop-want-init c = keeps_of-same c.args.waiting.now c.args.self.now

pub loop-want-preserved : goal.loop-want-preserved
loop-want-preserved c =
    let x : NotedAsks = c.loop-want.self in
    let y : NotedAsks = record { by_folder = c.drop_first.new.noted; by_node = x.by_node } in
    keeps_of-then c.args.waiting.now c.args.self.now x y c.loop-want.invariant
    (keeps_of-folder c.args.waiting.now x y c.want-item.result.folder (λ m. refl) c.drop_first.ensures.kept c.drop_first.ensures.others)
