use Rattle.std.proofs.Common.{List, ℕ, ap, ◌∙◌}
use Rattle.names.specs.Contents.{content_digest}
use Rattle.protocol.specs.World.{first_node}
use Rattle.nodecontents.specs.Stored.{store_each}
use Rattle.nodecontents.proofs.StoredLemmas.{stored_are}
use Rattle.nodecontents.proofs.stored.StoredContents.values.Goals as goal

pub returns : goal.returns
returns c = ap (λ (cs : List (List ℕ)). store_each cs (first_node content_digest).store) c.values.ensures.rest ∙ stored_are c.args.self.now.by_digest c.args.self.now.stored
