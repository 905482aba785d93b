-- The line that says why there is no answer (this project's own).
use Rattle.std.specs.Prelude.{ℕ, List, ◌++◌, codes, decimal}
use Rattle.std.specs.Fmt.{signed_decimal}
use Rattle.protowire.specs.declared.refusal.WireRefusal.{WireRefusal}
use Rattle.protowire.specs.declared.refusal.WireRefusal.TheVariants as wire
use Rattle.opsproto.specs.declared.refusal.OpRefusal.{OpRefusal}
use Rattle.opsproto.specs.declared.refusal.OpRefusal.TheVariants as read
use Rattle.vertices.specs.declared.refusal.LoadRefusal.{LoadRefusal}
use Rattle.vertices.specs.declared.refusal.LoadRefusal.TheVariants as load
use Rattle.schedule.specs.declared.refusal.ScheduleRefusal.{ScheduleRefusal}
use Rattle.schedule.specs.declared.refusal.ScheduleRefusal.TheVariants as schedule
use Rattle.recordparts.specs.declared.refusal.Flaw.{Flaw}
use Rattle.recordparts.specs.declared.refusal.Flaw.TheVariants as flaw
use Rattle.recordparts.specs.declared.refusal.RecordRefusal.{RecordRefusal}
use Rattle.recordparts.specs.declared.refusal.RecordRefusal.TheVariants as saved
use Rattle.answers.specs.declared.failure.Failure.{Failure}
use Rattle.answers.specs.declared.failure.Failure.TheVariants as failure

-- the name of a fault of the wire form
abbrev pub wire_name : WireRefusal → List ℕ
wire_name wire.Truncated = codes "Truncated"
wire_name wire.VarintTooLong = codes "VarintTooLong"
wire_name wire.BadWireType = codes "BadWireType"
wire_name wire.BadFieldNumber = codes "BadFieldNumber"
wire_name wire.OutOfMemory = codes "OutOfMemory"

-- the name of a refusal and its numbers; for a refusal within another, the inner name
abbrev pub read_text : OpRefusal → List ℕ
read_text (read.Wire inner) = wire_name inner
read_text (read.NotUtf8 number) = codes "NotUtf8 " ++ decimal number
read_text read.TooLarge = codes "TooLarge"
read_text read.OutOfMemory = codes "OutOfMemory"

abbrev pub load_text : LoadRefusal → List ℕ
load_text load.EmptyDefinition = codes "EmptyDefinition"
load_text (load.BadOp place) = codes "BadOp " ++ decimal place
load_text load.NoResult = codes "NoResult"
load_text (load.BadInputDigest place) = codes "BadInputDigest " ++ decimal place
load_text (load.MissingInput place) = codes "MissingInput " ++ decimal place
load_text (load.NegativeIndex place) = codes "NegativeIndex " ++ decimal place
load_text (load.NoOp place) = codes "NoOp " ++ decimal place
load_text (load.NoMeta place) = codes "NoMeta " ++ decimal place
load_text (load.NoArgs place) = codes "NoArgs " ++ decimal place
load_text (load.NoMounts place) = codes "NoMounts " ++ decimal place
load_text (load.NoRoot place) = codes "NoRoot " ++ decimal place
load_text (load.BadMountInput place) = codes "BadMountInput " ++ decimal place
load_text (load.NoCacheOpt place) = codes "NoCacheOpt " ++ decimal place
load_text (load.UnknownSharing place value) =
    codes "UnknownSharing " ++ decimal place ++ codes " " ++ signed_decimal value
load_text (load.TooManyCacheMounts place) = codes "TooManyCacheMounts " ++ decimal place
load_text load.Cycle = codes "Cycle"
load_text load.OutOfMemory = codes "OutOfMemory"

abbrev pub schedule_text : ScheduleRefusal → List ℕ
schedule_text (schedule.BadLine number) = codes "BadLine " ++ decimal number
schedule_text schedule.TooManyEvents = codes "TooManyEvents"
schedule_text schedule.OutOfMemory = codes "OutOfMemory"
schedule_text schedule.TooLarge = codes "TooLarge"

-- why bytes are not the one text of a record
abbrev pub flaw_name : Flaw → List ℕ
flaw_name flaw.Order = codes "Order"
flaw_name flaw.Range = codes "Range"
flaw_name flaw.Utf8 = codes "Utf8"
flaw_name flaw.Trailing = codes "Trailing"
flaw_name flaw.Relation = codes "Relation"

abbrev pub saved_text : RecordRefusal → List ℕ
saved_text saved.Truncated = codes "Truncated"
saved_text saved.BadMagic = codes "BadMagic"
saved_text saved.BadDigest = codes "BadDigest"
saved_text (saved.NotCanonical why) = codes "NotCanonical " ++ flaw_name why
saved_text saved.OutOfMemory = codes "OutOfMemory"

-- a refused entry of a log, and its place
abbrev pub entry_text : ℕ → RecordRefusal → List ℕ
entry_text place refusal = saved_text refusal ++ codes " " ++ decimal place

-- `refused`, and the refusal
abbrev pub refused : List ℕ → List ℕ
refused text = codes "refused " ++ text ++ codes "\n"

abbrev pub failure_line : Failure → List ℕ
failure_line (failure.Read refusal) = refused (read_text refusal)
failure_line (failure.Load refusal) = refused (load_text refusal)
failure_line (failure.Schedule refusal) = refused (schedule_text refusal)
failure_line (failure.Record refusal) = refused (saved_text refusal)
failure_line (failure.Entry place refusal) = refused (entry_text place refusal)
failure_line (failure.BadHead place) = refused (codes "BadHead " ++ decimal place)
failure_line failure.Memory = codes "out of memory\n"
