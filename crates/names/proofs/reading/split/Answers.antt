use Rattle.names.proofs.ReadingLemmas.{split_found, split_only}
use Rattle.names.proofs.reading.split.Goals as goal

pub returns-clause-found : goal.returns-clause-found
returns-clause-found c = split_found c.args.at c.args.text.now _ c.split_once.ensures.cases c.requires

pub returns-clause-only : goal.returns-clause-only
returns-clause-only c = split_only c.args.at c.args.text.now _ c.split_once.ensures.cases c.requires
