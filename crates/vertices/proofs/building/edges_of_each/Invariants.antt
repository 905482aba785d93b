use Rattle.std.proofs.Common.{List, take, None}
use Rattle.std.specs.List.{AllZip}
use Rattle.names.specs.declared.digest.Digest.{Digest}
use Rattle.vertices.specs.declared.vertex.Vertex.{Vertex}
use Rattle.vertices.specs.Asked.{Asks}
use Rattle.vertices.specs.Outcomes.{Each}
use Rattle.vertices.specs.Edges.{AreEdges, Numbers}
use Rattle.vertices.specs.Loading.{VertexCheck}
use Rattle.vertices.proofs.building.edges_of_each.Given as goal

-- the vertices so far pass, and have their edges
abbrev pub invariant-loop-asked : goal.invariant-loop-asked
invariant-loop-asked l = record {
  passes : (vertices : List Vertex) (digests : List Digest) → AllZip Asks vertices l.all → Numbers digests vertices l.table
      → Each (VertexCheck digests) (take l.asked-index vertices) None;
  edges : (vertices : List Vertex) (digests : List Digest) → AllZip Asks vertices l.all → Numbers digests vertices l.table
      → AllZip (λ v es. AreEdges vertices v.op.inputs es) (take l.asked-index vertices) l.edges.items;
}
