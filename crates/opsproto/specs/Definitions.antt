-- The meaning of a definition's bytes (ops.proto).
use Rattle.std.specs.Prelude.{ℕ, nat_lt, if◌then◌else◌, List, length, Result, Ok, Err}
use Rattle.codec.specs.Steps.{◌>>=◌}
use Rattle.protowire.specs.Lookups.{bodies}
use Rattle.opsproto.specs.declared.refusal.OpRefusal.{OpRefusal}
use Rattle.opsproto.specs.declared.refusal.OpRefusal.TheVariants.{TooLarge}
use Rattle.opsproto.specs.declared.definition.Definition.{Definition}
use Rattle.opsproto.specs.Refusals.{wire}
use Rattle.opsproto.specs.Reading.{entries_of}
use Rattle.opsproto.specs.Ops.{limit}

-- the greatest number of entries (this project's own)
abbrev pub most_entries : ℕ
most_entries = 65536

-- repeated bytes def = 1 (ops.proto); the size is checked first, and the number of entries last
unfoldable pub definition_at : List ℕ → Result Definition OpRefusal
definition_at text = if nat_lt limit (length text) then Err TooLarge else (do
  es ← wire (entries_of text)
  if nat_lt most_entries (length (bodies 1 es)) then Err TooLarge else Ok (record { def = bodies 1 es }))
