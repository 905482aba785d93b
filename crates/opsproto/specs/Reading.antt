-- What the bytes of a message mean (ops.proto), before its texts are checked. The first fault
-- decides: the message's own form, then its fields in this order.
use Rattle.std.specs.Prelude.{ℕ, List, [], ◌∷◌, map, Option, Some, None, Result, Ok}
use Rattle.protowire.specs.declared.refusal.WireRefusal.{WireRefusal}
use Rattle.protowire.specs.Fields.{Entry, Spelled}
use Rattle.codec.specs.Steps.{◌>>=◌}
use Rattle.protowire.specs.Reading.{fields_of}
use Rattle.protowire.specs.Lookups.{bodies, joined_body}
use Rattle.opsproto.specs.declared.input.Input.{Input}
use Rattle.opsproto.specs.declared.exec.CacheOpt.{CacheOpt}
use Rattle.opsproto.specs.declared.exec.Mount.{Mount}
use Rattle.opsproto.specs.declared.exec.Meta.{Meta}
use Rattle.opsproto.specs.declared.exec.ExecOp.{ExecOp}
use Rattle.opsproto.specs.Scalars.{Text, int64_in, int32_in, bool_in, text_in}

-- what the fields of a message say
abbrev pub says : List Spelled → List Entry
says fs = map (λ f. f.entry) fs

unfoldable pub entries_of : List ℕ → Result (List Entry) WireRefusal
entries_of text = do
  fs ← fields_of text
  Ok (says fs)

-- each message of a repeated field
abbrev pub each_of : {X : Type 0} → (List ℕ → Result X WireRefusal) → List (List ℕ) → Result (List X) WireRefusal
each_of read [] = Ok []
each_of read (body ∷ bodies) = do
  x ← read body
  xs ← each_of read bodies
  Ok (x ∷ xs)

-- a message, if it is there
abbrev pub optional_of : {X : Type 0} → (List ℕ → Result X WireRefusal) → Option (List ℕ) → Result (Option X) WireRefusal
optional_of read None = Ok None
optional_of read (Some body) = do
  x ← read body
  Ok (Some x)

-- string digest = 1, int64 index = 2 (ops.proto)
unfoldable pub input_of : List ℕ → Result (Input Text) WireRefusal
input_of text = do
  es ← entries_of text
  Ok (record { digest = text_in 1 es; index = int64_in 2 es })

-- string ID = 1, CacheSharingOpt sharing = 2 (ops.proto)
unfoldable pub cache_of : List ℕ → Result (CacheOpt Text) WireRefusal
cache_of text = do
  es ← entries_of text
  Ok (record { id = text_in 1 es; sharing = int32_in 2 es })

-- int64 input = 1, string selector = 2, string dest = 3, int64 output = 4, bool readonly = 5,
-- MountType mountType = 6, CacheOpt cacheOpt = 20 (ops.proto)
unfoldable pub mount_of : List ℕ → Result (Mount Text) WireRefusal
mount_of text = do
  es ← entries_of text
  cache ← optional_of cache_of (joined_body 20 es)
  Ok (record {
    input = int64_in 1 es;
    selector = text_in 2 es;
    dest = text_in 3 es;
    output = int64_in 4 es;
    readonly = bool_in 5 es;
    mount_type = int32_in 6 es;
    cache = cache;
  })

-- repeated string args = 1, repeated string env = 2, string cwd = 3, string user = 4 (ops.proto)
unfoldable pub meta_of : List ℕ → Result (Meta Text) WireRefusal
meta_of text = do
  es ← entries_of text
  Ok (record { args = bodies 1 es; env = bodies 2 es; cwd = text_in 3 es; user = text_in 4 es })

-- Meta meta = 1, repeated Mount mounts = 2, NetMode network = 3, SecurityMode security = 4 (ops.proto)
unfoldable pub exec_of : List ℕ → Result (ExecOp Text) WireRefusal
exec_of text = do
  es ← entries_of text
  meta ← optional_of meta_of (joined_body 1 es)
  mounts ← each_of mount_of (bodies 2 es)
  Ok (record { meta = meta; mounts = mounts; network = int32_in 3 es; security = int32_in 4 es })
