-- What is written: the known fields by rising number, in their shortest spellings. Numbers, bools and
-- strings at their default are left out (proto3 encoding).
use Rattle.std.specs.Prelude.{ℕ, ℤ, Bool, ◌==◌, if◌then◌else◌, List, [], ◌∷◌, ◌++◌, map, Option, Some, None}
use Rattle.std.specs.Option.{option_map}
use Rattle.std.specs.Int.{w64, cast_unsigned}
use Rattle.protowire.specs.Fields.{Spelled, message}
use Rattle.protowire.specs.Writing.{spelled_varint, spelled_bytes}
use Rattle.opsproto.specs.declared.input.Input.{Input}
use Rattle.opsproto.specs.declared.exec.CacheOpt.{CacheOpt}
use Rattle.opsproto.specs.declared.exec.Mount.{Mount}
use Rattle.opsproto.specs.declared.exec.Meta.{Meta}
use Rattle.opsproto.specs.declared.exec.ExecOp.{ExecOp}
use Rattle.opsproto.specs.declared.definition.Definition.{Definition}
use Rattle.opsproto.specs.Scalars.{Text}
use Rattle.opsproto.specs.Ops.{OpParts}

unfoldable pub number_fields : ℕ → ℕ → List Spelled
number_fields number n = if n == 0 then [] else spelled_varint number n ∷ []

-- a negative number is its 64-bit two's complement (proto3 encoding)
abbrev pub int_fields : ℕ → ℤ → List Spelled
int_fields number z = number_fields number (cast_unsigned w64 z)

abbrev pub bool_fields : ℕ → Bool → List Spelled
bool_fields number b = number_fields number (if b then 1 else 0)

unfoldable pub text_fields : ℕ → Text → List Spelled
text_fields number [] = []
text_fields number (b ∷ bs) = spelled_bytes number (b ∷ bs) ∷ []

-- a repeated field has each of its items, also empty ones
unfoldable pub each_fields : ℕ → List (List ℕ) → List Spelled
each_fields number bodies = map (spelled_bytes number) bodies

-- a message that is there is written, also an empty one
unfoldable pub optional_fields : ℕ → Option (List ℕ) → List Spelled
optional_fields number None = []
optional_fields number (Some body) = spelled_bytes number body ∷ []

abbrev pub input_fields : Input Text → List Spelled
input_fields i = text_fields 1 i.digest ++ int_fields 2 i.index

abbrev pub input_text : Input Text → List ℕ
input_text i = message (input_fields i)

abbrev pub cache_fields : CacheOpt Text → List Spelled
cache_fields c = text_fields 1 c.id ++ int_fields 2 c.sharing

abbrev pub cache_text : CacheOpt Text → List ℕ
cache_text c = message (cache_fields c)

abbrev pub end_fields : Mount Text → List Spelled
end_fields m = int_fields 1 m.input ++ text_fields 2 m.selector ++ text_fields 3 m.dest

abbrev pub manner_fields : Mount Text → List Spelled
manner_fields m = int_fields 4 m.output ++ bool_fields 5 m.readonly ++ int_fields 6 m.mount_type

abbrev pub mount_fields : Mount Text → List Spelled
mount_fields m = end_fields m ++ manner_fields m ++ optional_fields 20 (option_map cache_text m.cache)

abbrev pub mount_text : Mount Text → List ℕ
mount_text m = message (mount_fields m)

abbrev pub meta_fields : Meta Text → List Spelled
meta_fields m = each_fields 1 m.args ++ each_fields 2 m.env ++ text_fields 3 m.cwd ++ text_fields 4 m.user

abbrev pub meta_text : Meta Text → List ℕ
meta_text m = message (meta_fields m)

abbrev pub exec_fields : ExecOp Text → List Spelled
exec_fields e =
    optional_fields 1 (option_map meta_text e.meta) ++ each_fields 2 (map mount_text e.mounts) ++ int_fields 3 e.network ++ int_fields 4 e.security

abbrev pub exec_text : ExecOp Text → List ℕ
exec_text e = message (exec_fields e)

-- the inputs, and then the stripped bytes
abbrev pub op_text : OpParts → List ℕ
op_text op = message (each_fields 1 (map input_text op.inputs)) ++ op.stripped

abbrev pub definition_text : Definition → List ℕ
definition_text d = message (each_fields 1 d.def)
