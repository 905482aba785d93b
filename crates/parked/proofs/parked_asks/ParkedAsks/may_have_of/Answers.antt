use Rattle.std.proofs.Common.{◌≡◌, true, false, sym, ◌∙◌}
use Rattle.parked.specs.Queue.{asks_of, numbers_of}
use Rattle.parked.proofs.NotedWords.{none-of-node}
use Rattle.parked.proofs.parked_asks.ParkedAsks.may_have_of.Goals as goal

pub returns : goal.returns
returns c none =
    none-of-node c.args.self.now.noted c.args.node (asks_of c.args.self.now) (numbers_of c.args.self.now.numbers) c.args.self.now.indexed
    (λ n noted. (let bad : false ≡ true = sym none ∙ c.has_some_of.ensures n noted in absurd (cc bad)))
