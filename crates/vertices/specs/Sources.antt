-- Vertices by where they come from (this project's own).
use Rattle.std.specs.Prelude.{◌≡◌, ℕ, ◌<◌, List, [], length, slice_index_or, IsOk}
use Rattle.opsproto.specs.Ops.{op_at, op_in}
use Rattle.vertices.specs.declared.vertex.Source.{Source}
use Rattle.vertices.specs.declared.vertex.Vertex.{Vertex}
use Rattle.vertices.specs.Loading.{digest_in}

-- the vertex that comes from an entry
abbrev pub vertex_of : List (List ℕ) → Source → Vertex
vertex_of entries source = record { place = source.place; digest = source.digest; op = op_in (slice_index_or entries source.place []) }

-- there is such an entry, it is an op, and its stripped bytes have that digest
pub record IsSource (entries : List (List ℕ)) (source : Source) : Type 0 where
  pub within : source.place < length entries
  pub is_op : IsOk (op_at (slice_index_or entries source.place []))
  pub stripped : source.stripped ≡ digest_in (op_in (slice_index_or entries source.place [])).stripped
