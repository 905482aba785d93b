use Rattle.std.proofs.Common.{refl}
use Rattle.parked.specs.declared.noted_asks.NotedAsks.{NotedAsks}
use Rattle.parked.proofs.NotedWords.{keeps_of-then, keeps_of-node}
use Rattle.parked.proofs.noted_asks.NotedAsks.drop_ask.Goals as goal

pub returns : goal.returns
returns c =
    let x : NotedAsks = c.drop_wants.new.self in
    let y : NotedAsks = record { by_folder = x.by_folder; by_node = c.drop_first.new.noted } in
    keeps_of-then c.args.waiting.now c.args.self.now x y c.drop_wants.ensures
    (keeps_of-node c.args.waiting.now x y c.args.p.now.node (λ f. refl) c.drop_first.ensures.kept c.drop_first.ensures.others)
