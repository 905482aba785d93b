-- The texts of digests and keys.
use Rattle.std.specs.Prelude.{◌≡◌, ℕ, List, ◌++◌, length, codes, Bool, nat_eq}
use Rattle.std.specs.Cmp.Lexicographic.{pointwise}
pub use Rattle.hex.specs.Hex.{IsBytes, encode_lower}
use Rattle.names.specs.declared.digest.Digest.{Digest}
use Rattle.names.specs.declared.digest.Key.{Key}

-- 32 bytes; holds of each digest of the program
abbrev pub IsDigest : Digest → Type 0
IsDigest d = (length d.0 ≡ 32) × IsBytes d.0

-- the text of a digest: `sha256:` and 64 lower-case digits
abbrev pub digest_text : Digest → List ℕ
digest_text d = codes "sha256:" ++ encode_lower d.0

-- the text of a key: its 64 lower-case digits
abbrev pub key_text : Key → List ℕ
key_text k = encode_lower k.0.0

-- the same bytes
abbrev pub digest_eq : Digest → Digest → Bool
digest_eq a b = pointwise nat_eq a.0 b.0
