-- What contracts see of an op whose texts may not be UTF-8.
use Rattle.std.specs.Prelude.{ℕ, List, Result, Ok}
use Rattle.codec.specs.Steps.{◌>>=◌}
use Rattle.protowire.specs.declared.refusal.WireRefusal.{WireRefusal}
use Rattle.protowire.specs.Fields.{Entry}
use Rattle.protowire.specs.Lookups.{bodies, last_member}
use Rattle.opsproto.specs.declared.raw.RawOp.{RawOp}
use Rattle.opsproto.specs.Reading.{each_of, input_of}
use Rattle.opsproto.specs.Ops.{OpParts, members, kind_of}

abbrev pub parts : RawOp → OpParts
parts raw = record { inputs = raw.inputs; kind = raw.kind; stripped = raw.stripped.now }

-- what an op's fields mean, where the fields but the inputs have these bytes
abbrev pub parts_in : List Entry → List ℕ → Result OpParts WireRefusal
parts_in es stripped = do
  inputs ← each_of input_of (bodies 1 es)
  kind ← kind_of (last_member members es)
  Ok (record { inputs = inputs; kind = kind; stripped = stripped })
