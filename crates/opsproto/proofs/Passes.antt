-- Texts that were written are UTF-8.
use Rattle.std.proofs.Common.{◌≡◌, ℕ, List, [], ◌∷◌, Option, Some, None, Ok, refl}
use Rattle.std.specs.Prelude.{IfSome}
use Rattle.std.specs.List.{AllByRecursion}
use Rattle.opsproto.specs.declared.input.Input.{Input}
use Rattle.opsproto.specs.declared.exec.CacheOpt.{CacheOpt}
use Rattle.opsproto.specs.declared.exec.Mount.{Mount}
use Rattle.opsproto.specs.declared.exec.Meta.{Meta}
use Rattle.opsproto.specs.declared.exec.ExecOp.{ExecOp}
use Rattle.opsproto.specs.Scalars.{Text}
use Rattle.opsproto.specs.Texts.{text_checked, each_checked, optional_checked, input_checked, cache_checked, mount_checked, meta_checked, exec_checked}
use Rattle.opsproto.specs.Written.{IsText, IsInput, IsCache, IsMount, IsMeta, IsExec}
use Rattle.opsproto.proofs.TextLemmas.{text_passes}

passes : (k : ℕ) (text : Text) → IsText text → text_checked k text ≡ Ok text
passes k text is = text_passes k text is.utf8

all_pass : (k : ℕ) (ts : List Text) → AllByRecursion IsText ts → each_checked (text_checked k) ts ≡ Ok ts
all_pass k [] is = refl
all_pass k (t ∷ ts) is = rw (passes k t is.0, all_pass k ts is.1) refl

pub input_passes : (i : Input Text) → IsInput i → input_checked i ≡ Ok i
unfolding input_checked
input_passes i is = rw (passes 1 i.digest is.digest) refl

pub inputs_pass : (is : List (Input Text)) → AllByRecursion IsInput is → each_checked input_checked is ≡ Ok is
inputs_pass [] valid = refl
inputs_pass (i ∷ is) valid = rw (input_passes i valid.0, inputs_pass is valid.1) refl

cache_passes : (found : Option (CacheOpt Text)) → IfSome found IsCache → optional_checked cache_checked found ≡ Ok found
unfolding cache_checked
cache_passes None is = refl
cache_passes (Some c) is = rw (passes 1 c.id is.id) refl

mount_passes : (m : Mount Text) → IsMount m → mount_checked m ≡ Ok m
unfolding mount_checked
mount_passes m is = rw (passes 2 m.selector is.selector, passes 3 m.dest is.dest, cache_passes m.cache is.cache) refl

mounts_pass : (ms : List (Mount Text)) → AllByRecursion IsMount ms → each_checked mount_checked ms ≡ Ok ms
mounts_pass [] is = refl
mounts_pass (m ∷ ms) is = rw (mount_passes m is.0, mounts_pass ms is.1) refl

meta_passes : (found : Option (Meta Text)) → IfSome found IsMeta → optional_checked meta_checked found ≡ Ok found
unfolding meta_checked
meta_passes None is = refl
meta_passes (Some m) is = rw (all_pass 1 m.args is.args, all_pass 2 m.env is.env, passes 3 m.cwd is.cwd, passes 4 m.user is.user) refl

pub exec_passes : (e : ExecOp Text) → IsExec e → exec_checked e ≡ Ok e
unfolding exec_checked
exec_passes e is = rw (meta_passes e.meta is.meta, mounts_pass e.mounts is.mounts) refl
