-- What is kept of an entry (this project's own).
use Rattle.std.specs.Prelude.{◌≡◌, ℕ, List, Ok}
use Rattle.names.specs.Digests.{IsDigest}
use Rattle.opsproto.specs.Ops.{OpParts, op_at}
use Rattle.vertices.specs.declared.unresolved.Entry.{Entry}
use Rattle.vertices.specs.declared.vertex.Vertex.{Vertex}
use Rattle.vertices.specs.Asked.{Asks}
use Rattle.vertices.specs.Loading.{digest_in}

-- the bytes at a place spell an op, of which this is kept
pub record IsEntry (place : ℕ) (bytes : List ℕ) (entry : Entry) : Type 0 where
  pub op : OpParts
  pub spelled : op_at bytes ≡ Ok op
  pub digest : entry.digest ≡ digest_in bytes
  pub digits : IsDigest entry.digest
  pub stripped : entry.stripped ≡ digest_in op.stripped
  pub asked : (vertex : Vertex) → vertex.place ≡ place → vertex.op ≡ op → Asks vertex entry.asked
