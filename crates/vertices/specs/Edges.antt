-- The edges that inputs name (this project's own, over BuildKit's ops.proto).
use Rattle.std.specs.Prelude.{◌≡◌, ℕ, pos, ◌≤ℤ◌, ◌<◌, ◌^◌, zero, suc, map, List, [], ◌∷◌, Some, None, slice_get}
use Rattle.std.specs.List.{Contains, AllZip}
use Rattle.names.specs.declared.digest.Digest.{Digest}
use Rattle.names.specs.Digests.{IsDigest, digest_text}
use Rattle.opsproto.specs.Scalars.{Text}
use Rattle.opsproto.specs.declared.input.Input.{Input}
use Rattle.ordering.specs.declared.table.Table.{Table}
use Rattle.ordering.specs.Firsts.{number_in}
use Rattle.vertices.specs.declared.vertex.Vertex.{Vertex}
use Rattle.vertices.specs.declared.refusal.LoadRefusal.TheVariants as refusal
use Rattle.vertices.specs.Outcomes.{Check, Needs, Then}

-- `sha256:` and the digits of 32 bytes
abbrev pub IsDigestText : List ℕ → Type 0
IsDigestText text = (digest : Digest) × IsDigest digest × (text ≡ digest_text digest)

-- the text of one of these digests
abbrev pub NamesOne : List Digest → List ℕ → Type 0
NamesOne digests text = (digest : Digest) × Contains digests digest × (text ≡ digest_text digest)

-- the checks of an input, where the vertices have these digests
abbrev pub InputCheck : List Digest → ℕ → Input Text → Check
InputCheck digests place input =
    Then (Needs (IsDigestText input.digest) (refusal.BadInputDigest place))
    (Then (Needs (NamesOne digests input.digest) (refusal.MissingInput place))
    (Needs (pos 0 ≤ℤ input.index) (refusal.NegativeIndex place)))

-- an edge goes to the vertex that the input names, and takes the output of its index, an int64 that isn't negative (ops.proto)
pub record IsEdge (vertices : List Vertex) (input : Input Text) (edge : ℕ × ℕ) : Type 0 where
  pub vertex : Vertex
  pub there : slice_get vertices edge.0 ≡ Some vertex
  pub named : input.digest ≡ digest_text vertex.digest
  pub index : input.index ≡ pos edge.1
  pub small : edge.1 < 2 ^ 63

-- an edge for each input, in order
abbrev pub AreEdges : List Vertex → List (Input Text) → List (ℕ × ℕ) → Type 0
AreEdges vertices inputs edges = AllZip (IsEdge vertices) inputs edges

-- the table finds the number of each of these vertices, which have these digests
pub record Numbers (digests : List Digest) (vertices : List Vertex) (table : Table) : Type 0 where
  pub found : (digest : Digest) (number : ℕ) → number_in table digest ≡ Some number
      → (vertex : Vertex) × (slice_get vertices number ≡ Some vertex) × (vertex.digest ≡ digest)
  pub listed : (digest : Digest) (number : ℕ) → number_in table digest ≡ Some number → Contains digests digest
  pub missing : (digest : Digest) → number_in table digest ≡ None → Contains digests digest → ⊥
  pub are_digests : (digest : Digest) → Contains digests digest → IsDigest digest
  pub numbered : (number : ℕ) (vertex : Vertex) → slice_get vertices number ≡ Some vertex → number_in table vertex.digest ≡ Some number

-- what stands in a list of lists at a place
abbrev pub list_at : {X : Type 0} → List (List X) → ℕ → List X
list_at [] place = []
list_at (xs ∷ lists) zero = xs
list_at (xs ∷ lists) (suc place) = list_at lists place

-- the numbers that edges go to
abbrev pub targets : List (ℕ × ℕ) → List ℕ
targets edges = map (λ (edge : ℕ × ℕ). edge.0) edges

-- an edge of the one goes to the other
abbrev pub GoesTo : List (List (ℕ × ℕ)) → ℕ → ℕ → Type 0
GoesTo edges number other = Contains (targets (list_at edges number)) other
