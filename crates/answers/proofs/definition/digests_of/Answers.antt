use Rattle.std.proofs.Common.{rules, ◌≡◌, Some, slice_get}
use Rattle.answers.proofs.definition.digests_of.Goals as goal
use Rattle.answers.proofs.Texts.{vertex_digests-next}

pub loop-number-preserved : goal.loop-number-preserved
loop-number-preserved c =
    let vertices = c.args.graph.now.vertices in
    let number = c.loop-number.number in
    let vertex : slice_get vertices number ≡ Some c.vertex.result = search rules in
    search (rules, vertex_digests-next vertices number c.vertex.result vertex)
