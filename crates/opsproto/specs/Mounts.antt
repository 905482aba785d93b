-- The mounts of an op, read without the rest of it (ops.proto).
use Rattle.std.specs.Prelude.{ℕ, ◌==◌, if◌then◌else◌, List, [], Option, Some, None, Result, Ok}
use Rattle.codec.specs.Steps.{◌>>=◌}
use Rattle.protowire.specs.declared.refusal.WireRefusal.{WireRefusal}
use Rattle.protowire.specs.Lookups.{Member, bodies, last_member}
use Rattle.opsproto.specs.declared.refusal.OpRefusal.{OpRefusal}
use Rattle.opsproto.specs.declared.exec.Mount.{Mount}
use Rattle.opsproto.specs.declared.op.Kind.{Kind}
use Rattle.opsproto.specs.declared.op.Kind.TheVariants.{Exec, Opaque, Bare}
use Rattle.opsproto.specs.Refusals.{wire}
use Rattle.opsproto.specs.Scalars.{Text}
use Rattle.opsproto.specs.Reading.{entries_of, each_of, mount_of}
use Rattle.opsproto.specs.Texts.{each_checked, mount_checked}
use Rattle.opsproto.specs.Ops.{members}

-- the mounts of an op; one that isn't an exec op has none
abbrev pub mounts_in : Kind Text → List (Mount Text)
mounts_in (Exec exec) = exec.mounts
mounts_in (Opaque number) = []
mounts_in Bare = []

-- repeated Mount mounts = 2, of an exec op (ops.proto)
abbrev pub exec_mounts_of : List ℕ → Result (List (Mount Text)) WireRefusal
exec_mounts_of text = entries_of text >>= λ es. each_of mount_of (bodies 2 es)

-- those of the member that counts
abbrev pub member_mounts_of : Option Member → Result (List (Mount Text)) WireRefusal
member_mounts_of None = Ok []
member_mounts_of (Some m) = if m.0 == 2 then exec_mounts_of m.1 else Ok []

-- those of an op
abbrev pub mounts_read : List ℕ → Result (List (Mount Text)) OpRefusal
mounts_read text = wire (entries_of text >>= λ es. member_mounts_of (last_member members es)) >>= λ mounts. each_checked mount_checked mounts
