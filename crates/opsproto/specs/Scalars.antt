-- What a message's fields say of one number (proto3 encoding).
use Rattle.std.specs.Prelude.{ℕ, ℤ, ◌%◌, ◌^◌, Bool, not, ◌==◌, List, [], None, unwrap_or}
use Rattle.std.specs.List.{last_or}
use Rattle.std.specs.Int.{w32, w64, cast_signed}
use Rattle.protowire.specs.Fields.{Entry}
use Rattle.protowire.specs.Lookups.{last_varint, bodies}

-- the bytes of a text
abbrev pub Text : Type 0
Text = List ℕ

-- a number that is left out is 0 (proto3 encoding)
abbrev pub number_in : ℕ → List Entry → ℕ
number_in number es = unwrap_or (last_varint number es) 0

-- an int64 is the two's complement of its varint (proto3 encoding)
abbrev pub int64_in : ℕ → List Entry → ℤ
int64_in number es = cast_signed w64 (number_in number es)

-- an int32 or an enum is that of the low 32 bits (proto3 encoding)
abbrev pub int32_in : ℕ → List Entry → ℤ
int32_in number es = cast_signed w32 (number_in number es % 2 ^ 32)

-- a bool is true for each varint but 0 (proto3 encoding)
abbrev pub bool_in : ℕ → List Entry → Bool
bool_in number es = not (number_in number es == 0)

-- a string is its last occurrence, and empty where it is left out (proto3 encoding)
abbrev pub text_in : ℕ → List Entry → Text
text_in number es = unwrap_or (last_or None (bodies number es)) []
