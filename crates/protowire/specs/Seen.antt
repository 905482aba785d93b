-- What contracts see of the fields that code holds.
use Rattle.std.specs.Prelude.{◌≡◌, ℕ, ◌<◌, List, [], ◌∷◌, map}
use Rattle.std.specs.List.{slice_range}
use Rattle.protowire.specs.declared.field.Value.{Value}
use Rattle.protowire.specs.declared.field.Value.TheVariants as held
use Rattle.protowire.specs.declared.field.Field.{Field}
use Rattle.protowire.specs.Fields.{Payload, varint, eight, bytes, four, Entry, Spelled}

-- what a field holds, without where it lies in memory
abbrev pub payload : Value → Payload
payload (held.Varint n) = varint n
payload held.Eight = eight
payload (held.Bytes body) = bytes body.now
payload held.Four = four

-- what a field says
abbrev pub entry : Field → Entry
entry f = record { number = f.number; payload = payload f.value }

abbrev pub entries : List Field → List Entry
entries fs = map entry fs

-- a field of a message, and the message's bytes from its first to its last
abbrev pub spelled : List ℕ → Field → Spelled
spelled message f = record { entry = entry f; text = slice_range message f.start f.end }

abbrev pub spelled_all : List ℕ → List Field → List Spelled
spelled_all message fs = map (spelled message) fs

-- the fields stand one after the other, from one place to another
abbrev pub StandInRow : ℕ → List Field → ℕ → Type 0
StandInRow from [] to = from ≡ to
StandInRow from (f ∷ fs) to = (f.start ≡ from) × (f.start < f.end) × StandInRow f.end fs to
