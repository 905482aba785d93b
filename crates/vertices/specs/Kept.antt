-- What a graph keeps: the entries, and for each vertex where it comes from (this project's own).
use Rattle.std.specs.Prelude.{ℕ, List, map}
use Rattle.std.specs.List.{AllByRecursion}
use Rattle.vertices.specs.declared.vertex.Source.{Source}
use Rattle.vertices.specs.Sources.{IsSource, vertex_of}
use Rattle.vertices.specs.Loading.{GraphParts, IsGraph}

-- the graph of what is kept
abbrev pub parts : List (List ℕ) → List Source → List (List (ℕ × ℕ)) → List ℕ → ℕ × ℕ → GraphParts
parts entries sources edges order result = record { vertices = map (vertex_of entries) sources; edges = edges; order = order; result = result }

-- it is one, and its vertices come from entries that are ops
pub record AreKept (entries : List (List ℕ)) (sources : List Source) (g : GraphParts) : Type 0 where
  pub graph : IsGraph g
  pub ops : AllByRecursion (IsSource entries) sources
