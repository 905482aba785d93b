-- What a version of a slot holds: any bytes, known by their digest.
use Rattle.std.specs.Prelude.{ℕ, List, []}
use Rattle.std.specs.Arc.{arc_value}
use Rattle.sha2.specs.Sha256.{sha256}
use Rattle.names.specs.declared.content.Place.{Place}
use Rattle.names.specs.declared.content.Place.TheVariants.{Own, Shared}
use Rattle.names.specs.declared.digest.Digest.{Digest}

-- the bytes, wherever they stand
abbrev pub bytes_at : Place → List ℕ
bytes_at (Own bytes) = bytes.items
bytes_at (Shared bytes) = (arc_value bytes).items

-- the digest of a content: SHA-256, as FIPS 180-4 defines it in section 6.2, of its bytes
abbrev pub content_digest : List ℕ → Digest
content_digest bytes = record { 0 = sha256 bytes }

-- the digest of the empty content
unfoldable pub empty_digest : Digest
empty_digest = content_digest []
