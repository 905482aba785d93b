-- The solver keys of the vertices of a graph (this project's own).
use Rattle.std.specs.Prelude.{◌≡◌, ℕ, ◌<◌, List, [], ◌∷◌, length, Some, slice_get}
use Rattle.std.specs.List.{AllZip}
use Rattle.names.specs.declared.digest.Key.{Key}
use Rattle.vertices.specs.declared.vertex.Vertex.{Vertex}
use Rattle.vertices.specs.Edges.{list_at}
use Rattle.vertices.specs.Loading.{GraphParts}
use Rattle.solverkeys.specs.Keys.{solver_key}
use Rattle.solverkeys.specs.Shapes.{Shape, vertex, Inputs, no_inputs, input, shape_key}

unfoldable mutual
  -- the shape of the vertex of a number
  pub IsShapeOf : GraphParts → Shape → ℕ → Type 0
  IsShapeOf g (vertex stripped inputs) number =
      (v : Vertex) × (slice_get g.vertices number ≡ Some v) × (stripped ≡ v.op.stripped) × AreShapesOf g inputs (list_at g.edges number)

  -- the shapes of the vertices that edges go to, with the index of each edge
  pub AreShapesOf : GraphParts → Inputs → List (ℕ × ℕ) → Type 0
  AreShapesOf g no_inputs edges = edges ≡ []
  AreShapesOf g (input shape index others) [] = ⊥
  AreShapesOf g (input shape index others) (edge ∷ edges) = IsShapeOf g shape edge.0 × (index ≡ edge.1) × AreShapesOf g others edges

-- the key at a number is that of the shape of its vertex
pub record HasKey (g : GraphParts) (keys : List Key) (number : ℕ) : Type 0 where
  pub shape : Shape
  pub is_shape : IsShapeOf g shape number
  pub key : slice_get keys number ≡ Some (shape_key shape)

-- a key for each vertex, by its number
pub record AreKeys (g : GraphParts) (keys : List Key) : Type 0 where
  pub count : length keys ≡ length g.vertices
  pub each : (number : ℕ) → number < length g.vertices → HasKey g keys number

-- for each edge the key of the vertex that it goes to, and its index
abbrev pub TakesKeys : List Key → List (ℕ × ℕ) → List (Key × ℕ) → Type 0
TakesKeys keys edges inputs = AllZip (λ (edge : ℕ × ℕ) (taken : Key × ℕ). (slice_get keys edge.0 ≡ Some taken.0) × (taken.1 ≡ edge.1)) edges inputs

-- the key of a vertex, from the keys of those that its edges go to
pub record FollowsKeys (g : GraphParts) (keys : List Key) (number : ℕ) (key : Key) : Type 0 where
  pub own : Vertex
  pub inputs : List (Key × ℕ)
  pub there : slice_get g.vertices number ≡ Some own
  pub taken : TakesKeys keys (list_at g.edges number) inputs
  pub key_is : key ≡ solver_key own.op.stripped inputs
