-- What holds once the entries of a definition are read (this project's own).
use Rattle.std.specs.Prelude.{◌≡◌, ℕ, List, map, take}
use Rattle.std.specs.List.{AllByRecursion, AllZip, Contains}
use Rattle.names.specs.declared.digest.Digest.{Digest}
use Rattle.names.specs.Digests.{IsDigest}
use Rattle.ordering.specs.Firsts.{IsTable, places_in}
use Rattle.vertices.specs.declared.loading.Loading.{Loading}
use Rattle.vertices.specs.declared.vertex.Vertex.{Vertex}
use Rattle.vertices.specs.Asked.{Asks}
use Rattle.vertices.specs.Loading.{digests_in, vertex_at}
use Rattle.vertices.specs.Sources.{IsSource, vertex_of}

-- the vertices that were made
abbrev pub vertices_in : Loading → List Vertex
vertices_in loading = map (vertex_of loading.entries) loading.sources.items

-- the table and the vertices of these entries, and what is to be checked of them
pub record IsLoaded (entries : List (List ℕ)) (loading : Loading) : Type 0 where
  pub table : IsTable (digests_in entries) loading.table
  pub vertices : vertices_in loading ≡ map (vertex_at entries) (places_in loading.table)
  pub digests : (digest : Digest) → Contains (digests_in entries) digest → IsDigest digest
  pub sources : AllByRecursion (IsSource loading.entries) loading.sources.items
  pub asked : AllZip Asks (vertices_in loading) loading.asked.items

-- the same while they are read, once those in front of this place are
pub record IsReadTo (place : ℕ) (loading : Loading) : Type 0 where
  pub table : IsTable (digests_in (take place loading.entries)) loading.table
  pub vertices : vertices_in loading ≡ map (vertex_at loading.entries) (places_in loading.table)
  pub digests : (digest : Digest) → Contains (digests_in (take place loading.entries)) digest → IsDigest digest
  pub sources : AllByRecursion (IsSource loading.entries) loading.sources.items
  pub asked : AllZip Asks (vertices_in loading) loading.asked.items
