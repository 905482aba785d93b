use Rattle.nodecontents.proofs.StoredLemmas.{found_keyed}
use Rattle.nodecontents.proofs.stored.StoredContents.get.Goals as goal

pub returns-clause-digest : goal.returns-clause-digest
returns-clause-digest c = found_keyed c.args.self.now.by_digest c.args.digest.now c.get.result c.args.self.now.stored c.get.ensures.value
