-- What is written: the shortest spellings (proto3 encoding).
use Rattle.protowire.specs.Fields.{varint, bytes, Spelled}
use Rattle.std.specs.Prelude.{ℕ, zero, suc, ◌+◌, ◌*◌, ◌/◌, ◌%◌, nat_lt, if◌then◌else◌, List, [], ◌∷◌, ◌++◌, length}

-- seven bits a byte, least group first, with no group of 0 at the end, in at most `places` bytes before the last
unfoldable pub minimal_in : ℕ → ℕ → List ℕ
minimal_in zero n = n ∷ []
minimal_in (suc places) n = if nat_lt n 128 then n ∷ [] else (n % 128 + 128) ∷ minimal_in places (n / 128)

-- the shortest spelling of a number
unfoldable pub minimal : ℕ → List ℕ
minimal n = minimal_in 9 n

-- a field that holds a number
abbrev pub varint_field : ℕ → ℕ → List ℕ
varint_field number n = minimal (8 * number) ++ minimal n

-- a field that holds bytes
abbrev pub bytes_field : ℕ → List ℕ → List ℕ
bytes_field number body = minimal (8 * number + 2) ++ (minimal (length body) ++ body)

-- those fields, with the bytes that spell them
abbrev pub spelled_varint : ℕ → ℕ → Spelled
spelled_varint number n = record { entry = record { number = number; payload = varint n }; text = varint_field number n }

abbrev pub spelled_bytes : ℕ → List ℕ → Spelled
spelled_bytes number body = record { entry = record { number = number; payload = bytes body }; text = bytes_field number body }
