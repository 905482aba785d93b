use Rattle.words.proofs.WordLemmas.{last_found, last_only}
use Rattle.words.proofs.word.last_split.Goals as goal

pub returns-clause-found : goal.returns-clause-found
returns-clause-found c = last_found c.args.at c.args.text.now _ c.rsplit_once.ensures.cases c.requires

pub returns-clause-only : goal.returns-clause-only
returns-clause-only c = last_only c.args.at c.args.text.now _ c.rsplit_once.ensures.cases c.requires
