-- The fields of a message, as a relation on its whole text (proto3 encoding).
use Rattle.std.specs.Prelude.{◌≡◌, ℕ, ◌+◌, ◌*◌, ◌<◌, ◌≤◌, ◌^◌, List, ◌++◌, length}
use Rattle.std.specs.List.{flat_map, AllByRecursion}
use Rattle.protowire.specs.Varints.{IsVarint}

-- what a field holds, by its wire type
pub data Payload : Type 0 where
  varint : ℕ → Payload
  eight : Payload
  bytes : List ℕ → Payload
  four : Payload

-- what a field says
pub record Entry : Type 0 where
  pub number : ℕ
  pub payload : Payload

-- a field, and the bytes that spell it
pub record Spelled : Type 0 where
  pub entry : Entry
  pub text : List ℕ

-- the wire type (proto3 encoding)
abbrev pub wire_type : Payload → ℕ
wire_type (varint n) = 0
wire_type eight = 1
wire_type (bytes body) = 2
wire_type four = 5

-- a spelling of what a field holds, without its tag (proto3 encoding)
abbrev pub IsPayload : Payload → List ℕ → Type 0
IsPayload (varint n) text = IsVarint text n
IsPayload eight text = length text ≡ 8
IsPayload (bytes body) text = (size : List ℕ) × IsVarint size (length body) × (text ≡ size ++ body)
IsPayload four text = length text ≡ 4

-- the tag has the number of the field above the three bits of the wire type; numbers are 1 to 2^29 - 1 (proto3 encoding)
pub record IsField (f : Spelled) : Type 0 where
  pub positive : 1 ≤ f.entry.number
  pub small : f.entry.number < 2 ^ 29
  pub tag : List ℕ
  pub value : List ℕ
  pub is_tag : IsVarint tag (8 * f.entry.number + wire_type f.entry.payload)
  pub is_value : IsPayload f.entry.payload value
  pub parts : f.text ≡ tag ++ value

-- the bytes that spell the fields, one after the other
abbrev pub message : List Spelled → List ℕ
message fs = flat_map (λ f. f.text) fs

-- the text is one spelling of each field, joined in order (proto3 encoding)
pub record AreFields (text : List ℕ) (fs : List Spelled) : Type 0 where
  pub each : AllByRecursion IsField fs
  pub joined : text ≡ message fs
