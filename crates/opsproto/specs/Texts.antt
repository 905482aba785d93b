-- Texts have to be UTF-8 (proto3 encoding). The first one that isn't decides, in the order of the fields.
use Rattle.std.specs.Prelude.{ℕ, if◌then◌else◌, List, [], ◌∷◌, ◌++◌, Option, Some, None, Result, Ok, Err}
use Rattle.std.specs.Str.{is_utf8}
use Rattle.codec.specs.Steps.{◌>>=◌}
use Rattle.opsproto.specs.declared.refusal.OpRefusal.{OpRefusal}
use Rattle.opsproto.specs.declared.refusal.OpRefusal.TheVariants.{NotUtf8}
use Rattle.opsproto.specs.declared.input.Input.{Input}
use Rattle.opsproto.specs.declared.exec.CacheOpt.{CacheOpt}
use Rattle.opsproto.specs.declared.exec.Mount.{Mount}
use Rattle.opsproto.specs.declared.exec.Meta.{Meta}
use Rattle.opsproto.specs.declared.exec.ExecOp.{ExecOp}
use Rattle.opsproto.specs.Scalars.{Text}

-- a text of this field number
abbrev pub text_checked : ℕ → Text → Result Text OpRefusal
text_checked number text = if is_utf8 text then Ok text else Err (NotUtf8 number)

-- each one of a list
abbrev pub each_checked : {X : Type 0} → (X → Result X OpRefusal) → List X → Result (List X) OpRefusal
each_checked check [] = Ok []
each_checked check (x ∷ xs) = do
  y ← check x
  ys ← each_checked check xs
  Ok (y ∷ ys)

-- what was checked before, and what is still checked
abbrev pub with_front : {X : Type 0} → List X → Result (List X) OpRefusal → Result (List X) OpRefusal
with_front front read = read >>= λ xs. Ok (front ++ xs)

-- one, if it is there
abbrev pub optional_checked : {X : Type 0} → (X → Result X OpRefusal) → Option X → Result (Option X) OpRefusal
optional_checked check None = Ok None
optional_checked check (Some x) = do
  y ← check x
  Ok (Some y)

unfoldable pub input_checked : Input Text → Result (Input Text) OpRefusal
input_checked i = do
  digest ← text_checked 1 i.digest
  Ok (record { digest = digest; index = i.index })

unfoldable pub cache_checked : CacheOpt Text → Result (CacheOpt Text) OpRefusal
cache_checked c = do
  id ← text_checked 1 c.id
  Ok (record { id = id; sharing = c.sharing })

unfoldable pub mount_checked : Mount Text → Result (Mount Text) OpRefusal
mount_checked m = do
  selector ← text_checked 2 m.selector
  dest ← text_checked 3 m.dest
  cache ← optional_checked cache_checked m.cache
  Ok (record {
    input = m.input;
    selector = selector;
    dest = dest;
    output = m.output;
    readonly = m.readonly;
    mount_type = m.mount_type;
    cache = cache;
  })

unfoldable pub meta_checked : Meta Text → Result (Meta Text) OpRefusal
meta_checked m = do
  args ← each_checked (text_checked 1) m.args
  env ← each_checked (text_checked 2) m.env
  cwd ← text_checked 3 m.cwd
  user ← text_checked 4 m.user
  Ok (record { args = args; env = env; cwd = cwd; user = user })

unfoldable pub exec_checked : ExecOp Text → Result (ExecOp Text) OpRefusal
exec_checked e = do
  meta ← optional_checked meta_checked e.meta
  mounts ← each_checked mount_checked e.mounts
  Ok (record { meta = meta; mounts = mounts; network = e.network; security = e.security })
