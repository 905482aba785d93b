use Rattle.std.proofs.Common.{ap, ◌∙◌}
use Rattle.nodecontents.specs.Stored.{store_each}
use Rattle.nodecontents.proofs.stored.StoredContents.with.Goals as goal

pub returns : goal.returns
returns c = c.store_each.ensures ∙ ap (store_each c.args.contents.items) (c.reserve.ensures.same ∙ c.in_ok-stored.ensures)
