-- The mounts of an op are those that are read alone.
use Rattle.std.proofs.Common.{◌≡◌, ℕ, Bool, true, false, cond, eqb, List, [], Option, Some, None, Result, Ok, ap, ◌∙◌}
use Rattle.std.specs.Result.{IsOk}
use Rattle.codec.specs.Steps.{◌>>=◌}
use Rattle.codec.proofs.Steps.{bind_ok, ok_is}
use Rattle.protowire.specs.declared.refusal.WireRefusal.{WireRefusal}
use Rattle.protowire.specs.Lookups.{Member, bodies, joined_body, last_member}
use Rattle.protowire.proofs.FieldLaws.{fields_again}
use Rattle.opsproto.specs.declared.refusal.OpRefusal.{OpRefusal}
use Rattle.opsproto.specs.declared.exec.Mount.{Mount}
use Rattle.opsproto.specs.declared.exec.ExecOp.{ExecOp}
use Rattle.opsproto.specs.declared.op.Kind.{Kind}
use Rattle.opsproto.specs.declared.op.Kind.TheVariants.{Exec, Opaque, Bare}
use Rattle.opsproto.specs.Refusals.{wire}
use Rattle.opsproto.specs.Scalars.{Text, int32_in}
use Rattle.opsproto.specs.Reading.{says, entries_of, each_of, optional_of, meta_of, mount_of, exec_of}
use Rattle.opsproto.specs.Texts.{each_checked, optional_checked, meta_checked, mount_checked, exec_checked}
use Rattle.opsproto.specs.Ops.{members, kind_of, kind_checked, op_at, op_in}
use Rattle.opsproto.specs.Mounts.{mounts_in, exec_mounts_of, member_mounts_of, mounts_read}
use Rattle.opsproto.proofs.OpLemmas.{op_held, spells}

-- what was read of an exec op
exec_took : (text : List ℕ) (exec : ExecOp Text) → exec_of text ≡ Ok exec → exec_mounts_of text ≡ Ok exec.mounts
unfolding exec_of
exec_took text exec e =
    let a = bind_ok (entries_of text) (λ es. optional_of meta_of (joined_body 1 es) >>= λ meta. each_of mount_of (bodies 2 es) >>= λ mounts.
    Ok (record { meta = meta; mounts = mounts; network = int32_in 3 es; security = int32_in 4 es })) exec e in
    let es = a.0 in
    let b = bind_ok (optional_of meta_of (joined_body 1 es)) (λ meta. each_of mount_of (bodies 2 es) >>= λ mounts.
    Ok (record { meta = meta; mounts = mounts; network = int32_in 3 es; security = int32_in 4 es })) exec a.2 in
    let c = bind_ok (each_of mount_of (bodies 2 es)) (λ mounts. Ok (record { meta = b.0; mounts = mounts; network = int32_in 3 es; security = int32_in 4 es })) exec b.2 in
    let made : ExecOp Text = record { meta = b.0; mounts = c.0; network = int32_in 3 es; security = int32_in 4 es } in
    rw (a.1, c.1) (ap (λ (x : ExecOp Text). Ok x.mounts) (ok_is {E = WireRefusal} made exec c.2))

-- what was checked of it
exec_passed : (raw exec : ExecOp Text) → exec_checked raw ≡ Ok exec → each_checked mount_checked raw.mounts ≡ Ok exec.mounts
unfolding exec_checked
exec_passed raw exec e =
    let a = bind_ok (optional_checked meta_checked raw.meta) (λ meta. each_checked mount_checked raw.mounts >>= λ mounts.
    Ok (record { meta = meta; mounts = mounts; network = raw.network; security = raw.security })) exec e in
    let b = bind_ok (each_checked mount_checked raw.mounts) (λ mounts. Ok (record { meta = a.0; mounts = mounts; network = raw.network; security = raw.security })) exec a.2 in
    let made : ExecOp Text = record { meta = a.0; mounts = b.0; network = raw.network; security = raw.security } in
    b.1 ∙ ap (λ (x : ExecOp Text). Ok x.mounts) (ok_is {E = OpRefusal} made exec b.2)

abbrev checked_mounts : Result (List (Mount Text)) WireRefusal → Result (List (Mount Text)) OpRefusal
checked_mounts read = wire read >>= λ mounts. each_checked mount_checked mounts

-- the mounts of the member that counts
exec_is : (body : List ℕ) (raw kind : Kind Text) → (exec_of body >>= λ exec. Ok (Exec exec)) ≡ Ok raw → kind_checked raw ≡ Ok kind → checked_mounts (exec_mounts_of body) ≡ Ok (mounts_in kind)
exec_is body raw kind read passed =
    let a = bind_ok (exec_of body) (λ exec. Ok (Exec exec)) raw read in
    let is : Exec a.0 ≡ raw = ok_is {E = WireRefusal} (Exec a.0) raw a.2 in
    let b = bind_ok (exec_checked a.0) (λ checked. Ok (Exec checked)) kind (ap (λ (k : Kind Text). kind_checked k) is ∙ passed) in
    let same : Exec b.0 ≡ kind = ok_is {E = OpRefusal} (Exec b.0) kind b.2 in
    rw (exec_took body a.0 a.1) (exec_passed a.0 b.0 b.1 ∙ ap (λ (k : Kind Text). Ok (mounts_in k)) same)

opaque_is : (number : ℕ) (raw kind : Kind Text) → ◌≡◌ {A = Result (Kind Text) WireRefusal} (Ok (Opaque number)) (Ok raw) → kind_checked raw ≡ Ok kind → ◌≡◌ {A = Result (List (Mount Text)) OpRefusal} (Ok []) (Ok (mounts_in kind))
opaque_is number raw kind read passed =
    let is : Opaque number ≡ raw = ok_is {E = WireRefusal} (Opaque number) raw read in
    let same : Opaque number ≡ kind = ok_is {E = OpRefusal} (Opaque number) kind (ap (λ (k : Kind Text). kind_checked k) is ∙ passed) in
    ap (λ (k : Kind Text). Ok (mounts_in k)) same

bare_is : (raw kind : Kind Text) → ◌≡◌ {A = Result (Kind Text) WireRefusal} (Ok Bare) (Ok raw) → kind_checked raw ≡ Ok kind → ◌≡◌ {A = Result (List (Mount Text)) OpRefusal} (Ok []) (Ok (mounts_in kind))
bare_is raw kind read passed =
    let is : Bare ≡ raw = ok_is {E = WireRefusal} Bare raw read in
    let same : Bare ≡ kind = ok_is {E = OpRefusal} Bare kind (ap (λ (k : Kind Text). kind_checked k) is ∙ passed) in
    ap (λ (k : Kind Text). Ok (mounts_in k)) same

member_is : (found : Option Member) (raw kind : Kind Text) → kind_of found ≡ Ok raw → kind_checked raw ≡ Ok kind → checked_mounts (member_mounts_of found) ≡ Ok (mounts_in kind)
member_is None raw kind read passed = bare_is raw kind read passed
member_is (Some m) raw kind read passed = by_number (eqb m.0 2) read
  where
    by_number : (b : Bool) → cond b (exec_of m.1 >>= λ exec. Ok (Exec exec)) (Ok (Opaque m.0)) ≡ Ok raw → checked_mounts (cond b (exec_mounts_of m.1) (Ok [])) ≡ Ok (mounts_in kind)
    by_number true is = exec_is m.1 raw kind is passed
    by_number false is = opaque_is m.0 raw kind is passed

-- the mounts of the op of some bytes
pub mounts_are : (text : List ℕ) → IsOk (op_at text) → mounts_read text ≡ Ok (mounts_in (op_in text).kind)
unfolding entries_of
mounts_are text h =
    let held = op_held text (op_in text) (spells text h) in
    let fields = held.took.fields in
    rw (fields_again text fields held.took.are) (member_is (last_member members (says fields)) held.raw.kind (op_in text).kind held.took.kind held.kind)
