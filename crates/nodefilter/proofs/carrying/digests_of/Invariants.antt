use Rattle.std.proofs.Common.{◌≡◌, map, take}
use Rattle.names.specs.Contents.{content_digest}
use Rattle.protocol.specs.Nodes.{Left}
use Rattle.nodefilter.proofs.carrying.digests_of.Given as goal

abbrev pub invariant-loop-left : goal.invariant-loop-left
invariant-loop-left l = l.digests.items ≡ map (λ (left : Left). content_digest left.content) (take l.left-index l.lefts)
