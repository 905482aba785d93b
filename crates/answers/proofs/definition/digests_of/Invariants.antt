use Rattle.std.proofs.Common.{◌≡◌, take}
use Rattle.answers.specs.Answers.{vertex_digests}
use Rattle.answers.proofs.definition.digests_of.Given as goal

abbrev pub invariant-loop-number : goal.invariant-loop-number
invariant-loop-number l = l.digests.items ≡ vertex_digests (take l.number l.graph.vertices)
