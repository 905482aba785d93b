-- What holds of each value that was written: its numbers are in range, its texts are UTF-8, and it fits memory.
use Rattle.std.specs.Prelude.{ℕ, ◌<◌, ◌^◌, List, length, FitsSigned, IfSome}
use Rattle.std.specs.List.{AllByRecursion}
use Rattle.std.specs.Str.{IsUtf8}
use Rattle.std.specs.Int.{w32, w64}
use Rattle.opsproto.specs.declared.input.Input.{Input}
use Rattle.opsproto.specs.declared.exec.CacheOpt.{CacheOpt}
use Rattle.opsproto.specs.declared.exec.Mount.{Mount}
use Rattle.opsproto.specs.declared.exec.Meta.{Meta}
use Rattle.opsproto.specs.declared.exec.ExecOp.{ExecOp}
use Rattle.opsproto.specs.Scalars.{Text}
use Rattle.opsproto.specs.Writing.{input_text, cache_text, mount_text, meta_text, exec_text}

-- it fits memory
abbrev pub IsBody : List ℕ → Type 0
IsBody body = length body < 2 ^ 64

pub record IsText (text : Text) : Type 0 where
  pub utf8 : IsUtf8 text
  pub size : length text < 2 ^ 64

pub record IsInput (i : Input Text) : Type 0 where
  pub digest : IsText i.digest
  pub index : FitsSigned w64 i.index
  pub size : length (input_text i) < 2 ^ 64

pub record IsCache (c : CacheOpt Text) : Type 0 where
  pub id : IsText c.id
  pub sharing : FitsSigned w32 c.sharing
  pub size : length (cache_text c) < 2 ^ 64

pub record IsMount (m : Mount Text) : Type 0 where
  pub input : FitsSigned w64 m.input
  pub selector : IsText m.selector
  pub dest : IsText m.dest
  pub output : FitsSigned w64 m.output
  pub mount_type : FitsSigned w32 m.mount_type
  pub cache : IfSome m.cache IsCache
  pub size : length (mount_text m) < 2 ^ 64

pub record IsMeta (m : Meta Text) : Type 0 where
  pub args : AllByRecursion IsText m.args
  pub env : AllByRecursion IsText m.env
  pub cwd : IsText m.cwd
  pub user : IsText m.user
  pub size : length (meta_text m) < 2 ^ 64

pub record IsExec (e : ExecOp Text) : Type 0 where
  pub meta : IfSome e.meta IsMeta
  pub mounts : AllByRecursion IsMount e.mounts
  pub network : FitsSigned w32 e.network
  pub security : FitsSigned w32 e.security
  pub size : length (exec_text e) < 2 ^ 64
