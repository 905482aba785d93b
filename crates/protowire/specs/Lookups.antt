-- What a message's fields give to a reader who asks for some numbers (proto3 encoding).
use Rattle.std.specs.Prelude.{ℕ, ◌==◌, nat_lt, length, if◌then◌else◌, List, [], ◌∷◌, map, Option, Some, None, Result, Ok, filter_map}
use Rattle.std.specs.List.{flat_map, last_or, list_any, list_all}
use Rattle.std.specs.Option.{option_map}
use Rattle.protowire.specs.declared.refusal.WireRefusal.{WireRefusal}
use Rattle.protowire.specs.Fields.{Payload, varint, eight, bytes, four, Entry, Spelled}
use Rattle.codec.specs.Steps.{◌>>=◌}
use Rattle.protowire.specs.Reading.{fields_of}

-- the number of a varint, and of nothing else
abbrev pub payload_number : Payload → Option ℕ
payload_number (varint n) = Some n
payload_number eight = None
payload_number (bytes body) = None
payload_number four = None

-- the body of bytes of a length, and of nothing else
abbrev pub payload_body : Payload → Option (List ℕ)
payload_body (varint n) = None
payload_body eight = None
payload_body (bytes body) = Some body
payload_body four = None

-- what a field of this number holds; one of another wire type is skipped as an unknown one (this project's own)
abbrev pub number_in : ℕ → Entry → Option ℕ
number_in number e = if e.number == number then payload_number e.payload else None

abbrev pub body_in : ℕ → Entry → Option (List ℕ)
body_in number e = if e.number == number then payload_body e.payload else None

-- a singular scalar is its last occurrence (proto3 encoding)
abbrev pub last_varint : ℕ → List Entry → Option ℕ
last_varint number es = last_or None (filter_map (number_in number) es)

-- a repeated field is all its occurrences, in order (proto3 encoding)
abbrev pub bodies : ℕ → List Entry → List (List ℕ)
bodies number es = filter_map (body_in number) es

-- what the fields of a message say
abbrev pub said : List Spelled → List Entry
said fs = map (λ f. f.entry) fs

-- the same of a message's bytes, or its first fault
abbrev pub bodies_of : ℕ → List ℕ → Result (List (List ℕ)) WireRefusal
bodies_of number text = fields_of text >>= λ fs. Ok (bodies number (said fs))

-- these bodies, if there are at most `most`
abbrev pub at_most : ℕ → List (List ℕ) → Option (List (List ℕ))
at_most most bs = if nat_lt most (length bs) then None else Some bs

-- the lists, one after the other
abbrev pub joined : List (List ℕ) → List ℕ
joined parts = flat_map (λ part. part) parts

-- the parts joined, if there are any
abbrev pub joined_parts : List (List ℕ) → Option (List ℕ)
joined_parts [] = None
joined_parts (part ∷ parts) = Some (joined (part ∷ parts))

-- a singular message is the reading of its bodies joined (proto3 encoding)
abbrev pub joined_body : ℕ → List Entry → Option (List ℕ)
joined_body number es = joined_parts (bodies number es)

-- a member of a oneof, by its number, and its body
abbrev pub Member : Type 0
Member = ℕ × List ℕ

abbrev pub member_in : List ℕ → Entry → Option Member
member_in members e = if list_any (λ m. m == e.number) members then option_map (λ body. (e.number, body)) (payload_body e.payload) else None

-- the item of a list that has exactly one
abbrev pub lone : {X : Type 0} → List X → Option X
lone [] = None
lone (x ∷ []) = Some x
lone (x ∷ (y ∷ others)) = None

abbrev pub members_in : List ℕ → List Entry → List Member
members_in members es = filter_map (member_in members) es

-- the longest end of the list that has one number alone, and its bodies joined
abbrev pub last_run : List Member → Option Member
last_run [] = None
last_run (m ∷ ms) = if list_all (λ x. x.0 == m.0) ms then Some (m.0, flat_map (λ x. x.1) (m ∷ ms)) else last_run ms

-- Of a oneof's members the last counts (proto3 encoding); its body is the joined bodies of the last
-- unbroken run of that member among the oneof's members, other fields not counted as a break (this project's own).
abbrev pub last_member : List ℕ → List Entry → Option Member
last_member members es = last_run (members_in members es)
