-- What was written is read again.
use Rattle.std.proofs.Common.{◌≡◌, cond, List, [], ◌∷◌, ◌++◌, map, Option, Some, None, Ok, refl, arith}
use Rattle.std.specs.Prelude.{IfSome}
use Rattle.std.specs.List.{AllByRecursion}
use Rattle.std.specs.Option.{option_map, option_to_list}
use Rattle.std.specs.Int.{w64, cast_unsigned}
use Rattle.std.proofs.lemmas.List.{append-nil}
use Rattle.protowire.specs.Fields.{IsField}
use Rattle.opsproto.specs.declared.input.Input.{Input}
use Rattle.opsproto.specs.declared.exec.CacheOpt.{CacheOpt}
use Rattle.opsproto.specs.declared.exec.Mount.{Mount}
use Rattle.opsproto.specs.declared.exec.Meta.{Meta}
use Rattle.opsproto.specs.declared.exec.ExecOp.{ExecOp}
use Rattle.opsproto.specs.Scalars.{Text}
use Rattle.opsproto.specs.Reading.{each_of, optional_of, input_of, cache_of, mount_of, meta_of, exec_of}
use Rattle.opsproto.specs.Writing.{int_fields, bool_fields, text_fields, each_fields, optional_fields, input_fields, input_text, cache_fields, cache_text, end_fields, manner_fields, mount_fields, mount_text, meta_fields, meta_text, exec_fields, exec_text}
use Rattle.opsproto.specs.Written.{IsBody, IsText, IsInput, IsCache, IsMount, IsMeta, IsExec}
use Rattle.opsproto.proofs.Parts.{numbers, texts, numbers-append, texts-append, unless_zero, unless_empty, numbers_number, numbers_text, numbers_each, numbers_optional, texts_number, texts_text, texts_each, texts_optional, text_again, bodies_again, body_again, int64_again, int32_again, bool_again, fields_append, number_is_field, unsigned64, unsigned32, bit_below, text_is_field, each_is_field, optional_is_field, entries_again}

ruleset parts = (numbers-append, texts-append, numbers_number, numbers_text, numbers_each, numbers_optional, texts_number, texts_text, texts_each, texts_optional, append-nil)

-- ---- inputs

pub input_is_field : (i : Input Text) → IsInput i → AllByRecursion IsField (input_fields i)
input_is_field i is =
    fields_append (text_fields 1 i.digest) (int_fields 2 i.index)
    (text_is_field 1 i.digest (omega arith, omega arith) is.digest)
    (number_is_field 2 (cast_unsigned w64 i.index) (omega arith, omega arith) (unsigned64 i.index is.index))

pub input_again : (i : Input Text) → IsInput i → input_of (input_text i) ≡ Ok i
unfolding input_of
input_again i is =
    let fs = input_fields i in
    let digest : texts 1 fs ≡ unless_empty i.digest = simp parts in
    let index : numbers 2 fs ≡ unless_zero (cast_unsigned w64 i.index) = simp parts in
    rw (entries_again fs (input_is_field i is), text_again 1 fs i.digest digest, int64_again 2 fs i.index is.index index) refl

-- ---- cache options

pub cache_is_field : (c : CacheOpt Text) → IsCache c → AllByRecursion IsField (cache_fields c)
cache_is_field c is =
    fields_append (text_fields 1 c.id) (int_fields 2 c.sharing)
    (text_is_field 1 c.id (omega arith, omega arith) is.id)
    (number_is_field 2 (cast_unsigned w64 c.sharing) (omega arith, omega arith) (unsigned32 c.sharing is.sharing))

pub cache_again : (c : CacheOpt Text) → IsCache c → cache_of (cache_text c) ≡ Ok c
unfolding cache_of
cache_again c is =
    let fs = cache_fields c in
    let id : texts 1 fs ≡ unless_empty c.id = simp parts in
    let sharing : numbers 2 fs ≡ unless_zero (cast_unsigned w64 c.sharing) = simp parts in
    rw (entries_again fs (cache_is_field c is), text_again 1 fs c.id id, int32_again 2 fs c.sharing is.sharing sharing) refl

-- ---- mounts

cache_body : (found : Option (CacheOpt Text)) → IfSome found IsCache → IfSome (option_map cache_text found) IsBody
cache_body None is = tt
cache_body (Some c) is = is.size

found_cache_again : (found : Option (CacheOpt Text)) → IfSome found IsCache → optional_of cache_of (option_map cache_text found) ≡ Ok found
found_cache_again None is = refl
found_cache_again (Some c) is = rw (cache_again c is) refl

pub mount_is_field : (m : Mount Text) → IsMount m → AllByRecursion IsField (mount_fields m)
mount_is_field m is =
    let input = number_is_field 1 (cast_unsigned w64 m.input) (omega arith, omega arith) (unsigned64 m.input is.input) in
    let selector = text_is_field 2 m.selector (omega arith, omega arith) is.selector in
    let dest = text_is_field 3 m.dest (omega arith, omega arith) is.dest in
    let output = number_is_field 4 (cast_unsigned w64 m.output) (omega arith, omega arith) (unsigned64 m.output is.output) in
    let readonly = number_is_field 5 (cond m.readonly 1 0) (omega arith, omega arith) (bit_below m.readonly) in
    let kind = number_is_field 6 (cast_unsigned w64 m.mount_type) (omega arith, omega arith) (unsigned32 m.mount_type is.mount_type) in
    let cache = optional_is_field 20 (option_map cache_text m.cache) (omega arith, omega arith) (cache_body m.cache is.cache) in
    fields_append (end_fields m ++ manner_fields m) (optional_fields 20 (option_map cache_text m.cache))
    (fields_append (end_fields m) (manner_fields m)
    (fields_append (int_fields 1 m.input ++ text_fields 2 m.selector) (text_fields 3 m.dest) (fields_append (int_fields 1 m.input) (text_fields 2 m.selector) input selector) dest)
    (fields_append (int_fields 4 m.output ++ bool_fields 5 m.readonly) (int_fields 6 m.mount_type) (fields_append (int_fields 4 m.output) (bool_fields 5 m.readonly) output readonly) kind))
    cache

pub mount_again : (m : Mount Text) → IsMount m → mount_of (mount_text m) ≡ Ok m
unfolding mount_of
mount_again m is =
    let fs = mount_fields m in
    let input : numbers 1 fs ≡ unless_zero (cast_unsigned w64 m.input) = simp parts in
    let selector : texts 2 fs ≡ unless_empty m.selector = simp parts in
    let dest : texts 3 fs ≡ unless_empty m.dest = simp parts in
    let output : numbers 4 fs ≡ unless_zero (cast_unsigned w64 m.output) = simp parts in
    let readonly : numbers 5 fs ≡ unless_zero (cond m.readonly 1 0) = simp parts in
    let kind : numbers 6 fs ≡ unless_zero (cast_unsigned w64 m.mount_type) = simp parts in
    let cache : texts 20 fs ≡ option_to_list (option_map cache_text m.cache) = simp parts in
    rw (
      entries_again fs (mount_is_field m is),
      body_again 20 fs (option_map cache_text m.cache) cache,
      found_cache_again m.cache is.cache,
      int64_again 1 fs m.input is.input input,
      text_again 2 fs m.selector selector,
      text_again 3 fs m.dest dest,
      int64_again 4 fs m.output is.output output,
      bool_again 5 fs m.readonly readonly,
      int32_again 6 fs m.mount_type is.mount_type kind,
    ) refl

-- ---- meta

text_bodies : (ts : List Text) → AllByRecursion IsText ts → AllByRecursion IsBody ts
text_bodies [] is = tt
text_bodies (t ∷ ts) is = (is.0.size, text_bodies ts is.1)

pub meta_is_field : (m : Meta Text) → IsMeta m → AllByRecursion IsField (meta_fields m)
meta_is_field m is =
    let args = each_is_field 1 m.args (omega arith, omega arith) (text_bodies m.args is.args) in
    let env = each_is_field 2 m.env (omega arith, omega arith) (text_bodies m.env is.env) in
    let cwd = text_is_field 3 m.cwd (omega arith, omega arith) is.cwd in
    let user = text_is_field 4 m.user (omega arith, omega arith) is.user in
    fields_append (each_fields 1 m.args ++ each_fields 2 m.env ++ text_fields 3 m.cwd) (text_fields 4 m.user)
    (fields_append (each_fields 1 m.args ++ each_fields 2 m.env) (text_fields 3 m.cwd) (fields_append (each_fields 1 m.args) (each_fields 2 m.env) args env) cwd) user

pub meta_again : (m : Meta Text) → IsMeta m → meta_of (meta_text m) ≡ Ok m
unfolding meta_of
meta_again m is =
    let fs = meta_fields m in
    let args : texts 1 fs ≡ m.args = simp parts in
    let env : texts 2 fs ≡ m.env = simp parts in
    let cwd : texts 3 fs ≡ unless_empty m.cwd = simp parts in
    let user : texts 4 fs ≡ unless_empty m.user = simp parts in
    rw (entries_again fs (meta_is_field m is), bodies_again 1 fs m.args args, bodies_again 2 fs m.env env, text_again 3 fs m.cwd cwd, text_again 4 fs m.user user) refl

-- ---- exec ops

meta_body : (found : Option (Meta Text)) → IfSome found IsMeta → IfSome (option_map meta_text found) IsBody
meta_body None is = tt
meta_body (Some m) is = is.size

found_meta_again : (found : Option (Meta Text)) → IfSome found IsMeta → optional_of meta_of (option_map meta_text found) ≡ Ok found
found_meta_again None is = refl
found_meta_again (Some m) is = rw (meta_again m is) refl

mount_bodies : (ms : List (Mount Text)) → AllByRecursion IsMount ms → AllByRecursion IsBody (map mount_text ms)
mount_bodies [] is = tt
mount_bodies (m ∷ ms) is = (is.0.size, mount_bodies ms is.1)

mounts_again : (ms : List (Mount Text)) → AllByRecursion IsMount ms → each_of mount_of (map mount_text ms) ≡ Ok ms
mounts_again [] is = refl
mounts_again (m ∷ ms) is = rw (mount_again m is.0, mounts_again ms is.1) refl

pub exec_is_field : (e : ExecOp Text) → IsExec e → AllByRecursion IsField (exec_fields e)
exec_is_field e is =
    let meta = optional_is_field 1 (option_map meta_text e.meta) (omega arith, omega arith) (meta_body e.meta is.meta) in
    let mounts = each_is_field 2 (map mount_text e.mounts) (omega arith, omega arith) (mount_bodies e.mounts is.mounts) in
    let network = number_is_field 3 (cast_unsigned w64 e.network) (omega arith, omega arith) (unsigned32 e.network is.network) in
    let security = number_is_field 4 (cast_unsigned w64 e.security) (omega arith, omega arith) (unsigned32 e.security is.security) in
    let metas = optional_fields 1 (option_map meta_text e.meta) in
    let all = each_fields 2 (map mount_text e.mounts) in
    fields_append (metas ++ all ++ int_fields 3 e.network) (int_fields 4 e.security)
    (fields_append (metas ++ all) (int_fields 3 e.network) (fields_append metas all meta mounts) network) security

pub exec_again : (e : ExecOp Text) → IsExec e → exec_of (exec_text e) ≡ Ok e
unfolding exec_of
exec_again e is =
    let fs = exec_fields e in
    let meta : texts 1 fs ≡ option_to_list (option_map meta_text e.meta) = simp parts in
    let mounts : texts 2 fs ≡ map mount_text e.mounts = simp parts in
    let network : numbers 3 fs ≡ unless_zero (cast_unsigned w64 e.network) = simp parts in
    let security : numbers 4 fs ≡ unless_zero (cast_unsigned w64 e.security) = simp parts in
    rw (
      entries_again fs (exec_is_field e is),
      body_again 1 fs (option_map meta_text e.meta) meta,
      found_meta_again e.meta is.meta,
      bodies_again 2 fs (map mount_text e.mounts) mounts,
      mounts_again e.mounts is.mounts,
      int32_again 3 fs e.network is.network network,
      int32_again 4 fs e.security is.security security,
    ) refl
