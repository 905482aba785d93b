-- The meaning of an op's bytes (ops.proto).
use Rattle.std.specs.Prelude.{◌≡◌, ◌≤◌, ℕ, ◌*◌, ◌^◌, not, ◌==◌, nat_lt, if◌then◌else◌, List, [], ◌∷◌, length, filter, slice_range, Option, Some, None, Result, Ok, Err}
use Rattle.std.specs.Result.{result_unwrap_or}
use Rattle.protowire.specs.declared.refusal.WireRefusal.{WireRefusal}
use Rattle.protowire.specs.Fields.{Spelled, message}
use Rattle.codec.specs.Steps.{◌>>=◌}
use Rattle.protowire.specs.Reading.{fields_of}
use Rattle.protowire.specs.Lookups.{Member, bodies, last_member}
use Rattle.opsproto.specs.declared.refusal.OpRefusal.{OpRefusal}
use Rattle.opsproto.specs.declared.refusal.OpRefusal.TheVariants.{TooLarge}
use Rattle.opsproto.specs.declared.input.Input.{Input}
use Rattle.opsproto.specs.declared.op.Kind.{Kind}
use Rattle.opsproto.specs.declared.op.Kind.TheVariants.{Exec, Opaque, Bare}
use Rattle.opsproto.specs.Refusals.{wire}
use Rattle.opsproto.specs.Scalars.{Text}
use Rattle.opsproto.specs.Reading.{says, entries_of, each_of, input_of, exec_of}
use Rattle.opsproto.specs.Texts.{each_checked, input_checked, exec_checked}

-- what a contract sees of an op
pub record OpParts : Type 0 where
  pub inputs : List (Input Text)
  pub kind : Kind Text
  pub stripped : List ℕ

-- oneof op: exec = 2, source = 3, file = 4, build = 5, merge = 6, diff = 7 (ops.proto)
abbrev pub members : List ℕ
members = 2 ∷ 3 ∷ 4 ∷ 5 ∷ 6 ∷ 7 ∷ []

-- what the member that counts says; the body of any but exec is left unread (this project's own)
abbrev pub kind_of : Option Member → Result (Kind Text) WireRefusal
kind_of None = Ok Bare
kind_of (Some m) = if m.0 == 2 then (exec_of m.1 >>= λ exec. Ok (Exec exec)) else Ok (Opaque m.0)

-- all fields but those of the inputs' number (this project's own)
abbrev pub kept : List Spelled → List Spelled
kept fs = filter (λ f. not (f.entry.number == 1)) fs

-- the bytes of those fields (this project's own)
abbrev pub stripped_of : List ℕ → Result (List ℕ) WireRefusal
stripped_of text = fields_of text >>= λ fs. Ok (message (kept fs))

-- repeated Input inputs = 1, and the oneof (ops.proto)
unfoldable pub op_of : List ℕ → Result OpParts WireRefusal
op_of text = do
  fs ← fields_of text
  inputs ← each_of input_of (bodies 1 (says fs))
  kind ← kind_of (last_member members (says fs))
  Ok (record { inputs = inputs; kind = kind; stripped = message (kept fs) })

abbrev pub kind_checked : Kind Text → Result (Kind Text) OpRefusal
kind_checked (Exec exec) = exec_checked exec >>= λ checked. Ok (Exec checked)
kind_checked (Opaque number) = Ok (Opaque number)
kind_checked Bare = Ok Bare

unfoldable pub op_checked : OpParts → Result OpParts OpRefusal
op_checked op = do
  inputs ← each_checked input_checked op.inputs
  kind ← kind_checked op.kind
  Ok (record { inputs = inputs; kind = kind; stripped = op.stripped })

-- the forms of all messages are checked before any text
unfoldable pub op_read : List ℕ → Result OpParts OpRefusal
op_read text = wire (op_of text) >>= op_checked

-- 16 MiB (this project's own)
abbrev pub limit : ℕ
limit = 16 * 2 ^ 20

-- the size is checked first
unfoldable pub op_at : List ℕ → Result OpParts OpRefusal
op_at text = if nat_lt limit (length text) then Err TooLarge else op_read text

-- the op that some bytes spell, if they spell one
abbrev pub op_in : List ℕ → OpParts
op_in bytes = result_unwrap_or (op_at bytes) (record { inputs = []; kind = Bare; stripped = [] })

-- the bytes alone are an op without inputs, of this kind
abbrev pub IsOp : List ℕ → Kind Text → Type 0
IsOp stripped kind = op_read stripped ≡ Ok (record { inputs = []; kind = kind; stripped = stripped })

-- a part of a text stands in it from one place to another
pub record StandsAt (text part : List ℕ) (start end : ℕ) : Type 0 where
  pub rises : start ≤ end
  pub within : end ≤ length text
  pub is : slice_range text start end ≡ part

-- the kind of an op, read without the rest of it
abbrev pub kind_read : List ℕ → Result (Kind Text) OpRefusal
kind_read text = wire (entries_of text >>= λ es. kind_of (last_member members es)) >>= kind_checked
