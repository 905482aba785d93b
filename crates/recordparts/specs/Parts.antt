-- Reading from the left: what stands there and the bytes after it, or the first fault.
use Rattle.std.specs.Prelude.{ℕ, zero, suc, nat_le, Bool, true, false, ◌&&◌, if◌then◌else◌, List, [], ◌∷◌, Option, Some, None, Result, Ok, Err}
use Rattle.std.specs.Int.{Width, w32, w64, byte_len, from_be_bytes}
use Rattle.std.specs.Str.{is_utf8}
use Rattle.codec.specs.Steps.{◌>>=◌, GivesUnless, front_or}
use Rattle.names.specs.declared.digest.Digest.{Digest}
use Rattle.names.specs.declared.limits.TheConstants.{NODES}
use Rattle.names.specs.declared.number.NodeId.{NodeId}
use Rattle.recordparts.specs.declared.refusal.Flaw.{Flaw}
use Rattle.recordparts.specs.declared.refusal.Flaw.TheVariants.{Range, Utf8}
use Rattle.recordparts.specs.declared.refusal.RecordRefusal.{RecordRefusal}
use Rattle.recordparts.specs.declared.refusal.RecordRefusal.TheVariants.{Truncated, NotCanonical, OutOfMemory}

-- what was returned, with view applied to its value, is what reading gives, unless memory ran out
abbrev pub Gives : {X Y : Type 0} → (X → Y) → Result X RecordRefusal → Result Y RecordRefusal → Type 0
Gives view returned read = GivesUnless OutOfMemory view returned read

-- a value and the bytes after it, or the fault
abbrev pub Part : Type 0 → Type 0
Part X = Result (X × List ℕ) RecordRefusal

-- the value, if it passes a test
abbrev pub passed : {X : Type 0} → Flaw → Bool → X → Result X RecordRefusal
passed flaw test x = if test then Ok x else Err (NotCanonical flaw)

-- the first len bytes
unfoldable pub front_at : ℕ → List ℕ → Part (List ℕ)
front_at len bytes = front_or Truncated len bytes

-- a number from low to high, big endian
unfoldable pub number_at : Width → ℕ → ℕ → List ℕ → Part ℕ
number_at w low high bytes = do
  front ← front_at (byte_len w) bytes
  passed Range (nat_le low (from_be_bytes w front.0) && nat_le (from_be_bytes w front.0) high) (from_be_bytes w front.0, front.1)

-- 0 or 1
unfoldable pub flag_at : List ℕ → Part Bool
flag_at [] = Err Truncated
flag_at (zero ∷ rest) = Ok (false, rest)
flag_at (suc zero ∷ rest) = Ok (true, rest)
flag_at (suc (suc n) ∷ rest) = Err (NotCanonical Range)

-- 32 bytes
unfoldable pub digest_at : List ℕ → Part Digest
digest_at bytes = do
  front ← front_at 32 bytes
  Ok (record { 0 = front.0 }, front.1)

-- bytes that are UTF-8
abbrev pub text_of : List ℕ → Result (List ℕ) RecordRefusal
text_of bytes = passed Utf8 (is_utf8 bytes) bytes

-- a length, and as many bytes, which are UTF-8
unfoldable pub id_at : List ℕ → Part (List ℕ)
id_at bytes = do
  len ← number_at w64 0 0xffff_ffff_ffff_ffff bytes
  id ← front_at len.0 len.1
  text ← text_of id.0
  Ok (text, id.1)

-- a node, or 0 for none
abbrev pub home_of : ℕ → Option NodeId
home_of zero = None
home_of (suc n) = Some (record { 0 = suc n })

unfoldable pub home_at : List ℕ → Part (Option NodeId)
home_at bytes = do
  home ← number_at w32 0 NODES bytes
  Ok (home_of home.0, home.1)
