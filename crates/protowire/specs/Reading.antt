-- Reading a message from the left: its fields, or the first fault.
use Rattle.std.specs.Prelude.{◌≡◌, ℕ, zero, suc, ◌+◌, ◌-◌, ◌*◌, ◌/◌, ◌%◌, ◌^◌, ◌||◌, ◌==◌, nat_lt, nat_le, if◌then◌else◌, List, [], ◌∷◌, ◌++◌, length, take, Result, Ok, Err}
use Rattle.protowire.specs.declared.refusal.WireRefusal.{WireRefusal}
use Rattle.protowire.specs.declared.refusal.WireRefusal.TheVariants.{Truncated, VarintTooLong, BadWireType, BadFieldNumber, OutOfMemory}
use Rattle.std.specs.List.{AllByRecursion}
use Rattle.codec.specs.Steps.{◌>>=◌, GivesUnless, front_or}
use Rattle.protowire.specs.Fields.{Payload, varint, eight, bytes, four, Entry, Spelled, IsField, message}

-- what was returned, its value seen by view, is what reading gives, unless memory ran out
abbrev pub Gives : {X Y : Type 0} → (X → Y) → Result X WireRefusal → Result Y WireRefusal → Type 0
Gives view returned read = GivesUnless OutOfMemory view returned read

-- reading from the left: what stands at the front, and what follows it, or the first fault
abbrev pub Reader : Type 0 → Type 0
Reader X = List ℕ → Result (X × List ℕ) WireRefusal

-- The number at the front, and what follows it, where at most `places` bytes come before its last one.
-- The tenth byte has one bit left.
unfoldable pub varint_in : ℕ → Reader ℕ
varint_in places [] = Err Truncated
varint_in zero (b ∷ bs) = if nat_lt b 2 then Ok (b, bs) else Err VarintTooLong
varint_in (suc places) (b ∷ bs) = if nat_lt b 128 then Ok (b, bs)
    else (varint_in places bs >>= λ high. Ok (b % 128 + 128 * high.0, high.1))

unfoldable pub varint_at : Reader ℕ
varint_at text = varint_in 9 text

-- the first `len` bytes, and what follows them
abbrev pub front_at : ℕ → Reader (List ℕ)
front_at len text = front_or Truncated len text

-- what a field of each wire type holds, and what follows it (proto3 encoding)
abbrev pub number_payload : Reader Payload
number_payload text = do
  number ← varint_at text
  Ok (varint number.0, number.1)

abbrev pub bytes_payload : Reader Payload
bytes_payload text = do
  len ← varint_at text
  body ← front_at len.0 len.1
  Ok (bytes body.0, body.1)

-- eight or four bytes, which are skipped
abbrev pub fixed_payload : ℕ → Payload → Reader Payload
fixed_payload len payload text = do
  body ← front_at len text
  Ok (payload, body.1)

-- what a field of this wire type holds; there is no type 3, 4, 6 or 7 (groups are left out: this project's own)
unfoldable pub payload_at : ℕ → Reader Payload
payload_at type text =
    if type == 0 then number_payload text
    else if type == 1 then fixed_payload 8 eight text
    else if type == 2 then bytes_payload text
    else if type == 5 then fixed_payload 4 four text
    else Err BadWireType

-- the tag, then the number, then the wire type, then the value
unfoldable pub field_at : Reader Entry
field_at text = do
  tag ← varint_at text
  if tag.0 / 8 == 0 || nat_le (2 ^ 29) (tag.0 / 8) then Err BadFieldNumber else (do
    value ← payload_at (tag.0 % 8) tag.1
    Ok (record { number = tag.0 / 8; payload = value.0 }, value.1))

-- the field at the front with the bytes that spell it, and what follows it
unfoldable pub spelled_at : Reader Spelled
spelled_at text = do
  field ← field_at text
  Ok (record { entry = field.0; text = take (length text - length field.1) text }, field.1)

-- the fields of a text of at most `limit` bytes
unfoldable pub fields_in : ℕ → List ℕ → Result (List Spelled) WireRefusal
fields_in limit [] = Ok []
fields_in zero (b ∷ bs) = Ok []
fields_in (suc limit) (b ∷ bs) = do
  first ← spelled_at (b ∷ bs)
  others ← fields_in limit first.1
  Ok (first.0 ∷ others)

-- the fields of a message, or the first fault from the left
unfoldable pub fields_of : List ℕ → Result (List Spelled) WireRefusal
fields_of text = fields_in (length text) text

-- fields stand in front of the fault, and it is the fault of what follows them
pub record Faulted (text : List ℕ) (refusal : WireRefusal) : Type 0 where
  pub before : List Spelled
  pub rest : List ℕ
  pub each : AllByRecursion IsField before
  pub parts : text ≡ message before ++ rest
  pub fault : field_at rest ≡ Err refusal
