use Rattle.std.proofs.Common.{◌∙◌}
use Rattle.parked.proofs.NotedWords.{among-found}
use Rattle.parked.proofs.numbers.is_among.Goals as goal

pub returns : goal.returns
returns c = λ i. c.is_ok.ensures.value ∙ among-found c.args.numbers.now c.args.number c.binary_search.result c.binary_search.ensures.position c.requires i
