-- What a definition means as a graph (this project's own, over BuildKit's ops.proto).
use Rattle.std.specs.Prelude.{◌≡◌, ℕ, ◌+◌, ◌-◌, ◌<◌, List, [], ◌∷◌, length, map, take, slice_index_or, slice_get, Some, None, IsOk, IfSome}
use Rattle.std.specs.List.{AllByRecursion, Contains, AllZip}
use Rattle.std.specs.List.Sorted.{IsStrictlyIncreasing}
use Rattle.sha2.specs.Sha256.{sha256}
use Rattle.names.specs.declared.digest.Digest.{Digest}
use Rattle.names.specs.Digests.{digest_text}
use Rattle.opsproto.specs.Scalars.{Text}
use Rattle.opsproto.specs.declared.input.Input.{Input}
use Rattle.opsproto.specs.Ops.{op_at, op_in}
use Rattle.ordering.specs.Firsts.{IsFirstAt}
use Rattle.ordering.specs.Orders as orders
use Rattle.vertices.specs.declared.vertex.Vertex.{Vertex}
use Rattle.vertices.specs.declared.refusal.LoadRefusal.TheVariants as refusal
use Rattle.vertices.specs.Outcomes.{Check, Passes, Fails, Needs, Refuses, Then, Each}
use Rattle.vertices.specs.OpChecks.{KindCheck}
use Rattle.vertices.specs.Edges.{InputCheck, IsEdge, AreEdges, GoesTo}

-- the SHA-256 of an entry's bytes (FIPS 180-4)
abbrev pub digest_in : List ℕ → Digest
digest_in bytes = record { 0 = sha256 bytes }

-- the digests of entries
abbrev pub digests_in : List (List ℕ) → List Digest
digests_in entries = map digest_in entries

-- the vertex of the entry at a place
abbrev pub vertex_at : List (List ℕ) → ℕ → Vertex
vertex_at entries place =
    let bytes = slice_index_or entries place [] in record { place = place; digest = digest_in bytes; op = op_in bytes }

-- the first place of each digest, rising
pub record AreFirsts (digests : List Digest) (places : List ℕ) : Type 0 where
  pub first : (place : ℕ) → Contains places place → (digest : Digest) × IsFirstAt digests place digest
  pub whole : (place : ℕ) (digest : Digest) → IsFirstAt digests place digest → Contains places place
  pub rising : IsStrictlyIncreasing places

-- the vertices of entries: one for each digest, by the first entry that has it
pub record AreVertices (entries : List (List ℕ)) (vertices : List Vertex) : Type 0 where
  pub places : List ℕ
  pub firsts : AreFirsts (digests_in entries) places
  pub vertices_are : vertices ≡ map (vertex_at entries) places

-- the entry at a place is an op
abbrev pub ReadCheck : ℕ → List ℕ → Check
ReadCheck place bytes = Needs (IsOk (op_at bytes)) (refusal.BadOp place)

-- so is each from that place on
abbrev pub ReadChecks : ℕ → List (List ℕ) → Check
ReadChecks place [] = Passes
ReadChecks place (bytes ∷ entries) = Then (ReadCheck place bytes) (ReadChecks (place + 1) entries)

-- the first input of the last entry names the result
abbrev pub ResultCheck : List Digest → ℕ → List (Input Text) → Check
ResultCheck digests place [] = Fails refusal.NoResult
ResultCheck digests place (input ∷ inputs) = InputCheck digests place input

-- the checks of a vertex: its inputs in order, and then what it does
abbrev pub VertexCheck : List Digest → Vertex → Check
VertexCheck digests v = Then (Each (InputCheck digests v.place) v.op.inputs) (KindCheck v.place (length v.op.inputs) v.op.kind)

-- one of these vertices, by its number, names another
pub record HasEdge (vertices : List Vertex) (number other : ℕ) : Type 0 where
  pub vertex : Vertex
  pub input : Input Text
  pub target : Vertex
  pub from : slice_get vertices number ≡ Some vertex
  pub has : Contains vertex.op.inputs input
  pub to : slice_get vertices other ≡ Some target
  pub named : input.digest ≡ digest_text target.digest

-- a walk of at least one edge from a vertex to itself
abbrev pub IsCyclic : List Vertex → Type 0
IsCyclic vertices = orders.IsCyclic (HasEdge vertices)

-- what a graph is: its vertices, the edges of each, the numbers in the order in which they can be
-- solved, and the edge to its result
pub record GraphParts : Type 0 where
  pub vertices : List Vertex
  pub edges : List (List (ℕ × ℕ))
  pub order : List ℕ
  pub result : ℕ × ℕ

-- what the vertex does passes its checks
abbrev pub IsRunnable : Vertex → Type 0
IsRunnable v = KindCheck v.place (length v.op.inputs) v.op.kind None

-- each vertex can be run and has an edge for each of its inputs, the order is that of the graph, and the result is one of them
pub record IsGraph (g : GraphParts) : Type 0 where
  pub runnable : AllByRecursion IsRunnable g.vertices
  pub edges : AllZip (λ v edges. AreEdges g.vertices v.op.inputs edges) g.vertices g.edges
  pub order : orders.IsOrder (λ number. number < length g.vertices) (GoesTo g.edges) g.order
  pub acyclic : IsCyclic g.vertices → ⊥
  pub result : g.result.0 < length g.vertices

-- the checks of vertices, where all have these digests, and of the inputs of the last entry, at its place
abbrev pub GraphCheck : List Digest → ℕ → List Vertex → List (Input Text) → Check
GraphCheck digests place vertices last =
    Then (ResultCheck digests place last) (Then (Each (VertexCheck digests) vertices) (Refuses (IsCyclic vertices) refusal.Cycle))

-- all entries but the last, which names the result
abbrev pub front : List (List ℕ) → List (List ℕ)
front def = take (length def - 1) def

-- the last entry
abbrev pub last_of : List (List ℕ) → List ℕ
last_of def = slice_index_or def (length def - 1) []

-- the checks of the vertices, and of the last entry
abbrev pub VerticesCheck : List (List ℕ) → Check
VerticesCheck def given =
    (vertices : List Vertex) × AreVertices (front def) vertices × GraphCheck (digests_in (front def)) (length (front def)) vertices (op_in (last_of def)).inputs given

-- the checks of the entries of a definition, in this order
abbrev pub DefinitionCheck : List (List ℕ) → Check
DefinitionCheck def = Then (Needs (0 < length def) refusal.EmptyDefinition) (Then (ReadChecks 0 def) (VerticesCheck def))

-- the graph of a definition: its vertices, and the edge to the result
pub record IsGraphOf (def : List (List ℕ)) (g : GraphParts) : Type 0 where
  pub graph : IsGraph g
  pub vertices : AreVertices (front def) g.vertices
  pub result : IfSome (slice_get (op_in (last_of def)).inputs 0) (λ input. IsEdge g.vertices input g.result)
