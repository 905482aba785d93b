use Rattle.parked.proofs.NotedWords.{keeps_of-same}
use Rattle.parked.proofs.noted_asks.NotedAsks.drop_over.Goals as goal

pub loop-place-init : goal.loop-place-init
loop-place-init c = keeps_of-same c.args.waiting.now c.args.self.now
