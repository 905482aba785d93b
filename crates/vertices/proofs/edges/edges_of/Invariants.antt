use Rattle.std.proofs.Common.{List, take, None}
use Rattle.std.specs.List.{AllZip}
use Rattle.names.specs.declared.digest.Digest.{Digest}
use Rattle.opsproto.specs.Scalars.{Text}
use Rattle.opsproto.specs.declared.input.Input.{Input}
use Rattle.vertices.specs.declared.vertex.Vertex.{Vertex}
use Rattle.vertices.specs.Asked.{NamesAs}
use Rattle.vertices.specs.Outcomes.{Each}
use Rattle.vertices.specs.Edges.{InputCheck, AreEdges, Numbers}
use Rattle.vertices.proofs.edges.edges_of.Given as goal

-- the inputs so far pass, and have their edges
abbrev pub invariant-loop-named : goal.invariant-loop-named
invariant-loop-named l = record {
  passes : (inputs : List (Input Text)) (digests : List Digest) (vertices : List Vertex) → AllZip NamesAs inputs l.all → Numbers digests vertices l.table
      → Each (InputCheck digests l.place) (take l.named-index inputs) None;
  edges : (inputs : List (Input Text)) (digests : List Digest) (vertices : List Vertex) → AllZip NamesAs inputs l.all → Numbers digests vertices l.table
      → AreEdges vertices (take l.named-index inputs) l.edges.items;
}
