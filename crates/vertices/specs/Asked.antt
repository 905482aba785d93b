-- What is kept of an op until all digests are known (this project's own).
use Rattle.std.specs.Prelude.{◌≡◌, length, IfSome, IfNone}
use Rattle.std.specs.List.{AllZip}
use Rattle.names.specs.Digests.{IsDigest, digest_text}
use Rattle.opsproto.specs.Scalars.{Text}
use Rattle.opsproto.specs.declared.input.Input.{Input}
use Rattle.vertices.specs.declared.unresolved.Named.{Named}
use Rattle.vertices.specs.declared.unresolved.Asked.{Asked}
use Rattle.vertices.specs.declared.vertex.Vertex.{Vertex}
use Rattle.vertices.specs.Edges.{IsDigestText}
use Rattle.vertices.specs.OpChecks.{KindCheck}

-- the digest that the input's text spells, if it spells one, and the index
pub record NamesAs (input : Input Text) (named : Named) : Type 0 where
  pub spelled : IfSome named.digest (λ digest. IsDigest digest × (input.digest ≡ digest_text digest))
  pub none : IfNone named.digest (¬ IsDigestText input.digest)
  pub index : named.index ≡ input.index

-- what the inputs of the vertex name, and the first fault of what it does
pub record Asks (vertex : Vertex) (asked : Asked) : Type 0 where
  pub place : asked.place ≡ vertex.place
  pub inputs : AllZip NamesAs vertex.op.inputs asked.inputs.items
  pub fault : KindCheck vertex.place (length vertex.op.inputs) vertex.op.kind asked.fault
