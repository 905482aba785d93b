use Rattle.nodecontents.proofs.StoredLemmas.{stored_less, store_without}
use Rattle.nodecontents.proofs.stored.StoredContents.remove.Goals as goal

pub returns : goal.returns
returns c = store_without c.args.self.now.by_digest c.swap_remove.new.self c.args.digest c.swap_remove.ensures.updates.0

pub invariant_of-self : goal.invariant_of-self
invariant_of-self c = record { stored = stored_less c.args.self.now.by_digest c.swap_remove.new.self c.args.digest c.args.self.now.stored c.requires c.swap_remove.ensures.entries c.swap_remove.ensures.updates.0 }
