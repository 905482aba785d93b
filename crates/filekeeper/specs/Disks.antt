-- What clauses see of a disk, and what a crash may leave of its files (this project's own; docs/FORMATS.md, "What a crash leaves").
use Rattle.std.specs.Prelude.{◌≡◌, ◌⊎◌, ℕ, true, false, List, [], ◌∷◌, ◌++◌, take, ⊤}
use Rattle.filekeeper.specs.Calls.{Called}
use Rattle.filekeeper.specs.declared.device_call.DeviceCall.TheVariants.{ReadRecord, ReadLog, WriteDraft, RenameDraft, SyncNames, Append, Cut, SyncLog}
use Rattle.filekeeper.specs.declared.disk.Disk.{Disk}

-- the calls that were made of it, the newest first
abbrev pub calls_of : {D : Type 0} → Disk D → List Called
calls_of disk = disk.history.calls

-- the bytes of a record's file and of its log's. A file that isn't there has none
pub record Files : Type 0 where
  pub whole : List ℕ
  pub log : List ℕ

abbrev pub with_whole : List ℕ → Files → Files
with_whole bytes f = record f { whole = bytes }

abbrev pub with_log : List ℕ → Files → Files
with_log bytes f = record f { log = bytes }

-- the log cut to its first bytes
abbrev pub cut_to : ℕ → Files → Files
cut_to len f = with_log (take len f.log) f

-- the files are some that are so, once this was done to them
abbrev pub Done : (Files → Type 0) → (Files → Files) → Files → Type 0
Done before change f = (d : Files) × before d × (f ≡ change d)

-- the draft's file has these bytes, and the device has them
abbrev pub HasDraft : List Called → List ℕ → Type 0
HasDraft [] bytes = ⊥
HasDraft ((ReadRecord, read) ∷ earlier) bytes = HasDraft earlier bytes
HasDraft ((ReadLog, read) ∷ earlier) bytes = HasDraft earlier bytes
HasDraft ((WriteDraft true, written) ∷ earlier) bytes = written ≡ bytes
HasDraft ((WriteDraft false, written) ∷ earlier) bytes = ⊥
HasDraft ((RenameDraft done, none) ∷ earlier) bytes = ⊥
HasDraft ((SyncNames done, none) ∷ earlier) bytes = HasDraft earlier bytes
HasDraft ((Append done, added) ∷ earlier) bytes = HasDraft earlier bytes
HasDraft ((Cut len done, none) ∷ earlier) bytes = HasDraft earlier bytes
HasDraft ((SyncLog done, none) ∷ earlier) bytes = HasDraft earlier bytes

-- the draft has taken the record's name
abbrev pub Renamed : List Called → (Files → Type 0) → Files → Type 0
Renamed earlier before f = (whole : List ℕ) × ((bytes : List ℕ) → HasDraft earlier bytes → whole ≡ bytes) × Done before (with_whole whole) f

-- the files that a read may give after these calls. A call that failed may have been carried out, and of what was to be added to the log
-- the first bytes may be there
abbrev pub MaySee : List Called → Files → Type 0
MaySee [] f = ⊤
MaySee ((ReadRecord, bytes) ∷ earlier) f = Done (MaySee earlier) (with_whole bytes) f
MaySee ((ReadLog, bytes) ∷ earlier) f = Done (MaySee earlier) (with_log bytes) f
MaySee ((WriteDraft done, bytes) ∷ earlier) f = MaySee earlier f
MaySee ((RenameDraft true, none) ∷ earlier) f = Renamed earlier (MaySee earlier) f
MaySee ((RenameDraft false, none) ∷ earlier) f = MaySee earlier f ⊎ Renamed earlier (MaySee earlier) f
MaySee ((SyncNames done, none) ∷ earlier) f = MaySee earlier f
MaySee ((Append true, bytes) ∷ earlier) f = Done (MaySee earlier) (λ d. with_log (d.log ++ bytes) d) f
MaySee ((Append false, bytes) ∷ earlier) f = (n : ℕ) × Done (MaySee earlier) (λ d. with_log (d.log ++ take n bytes) d) f
MaySee ((Cut len true, none) ∷ earlier) f = Done (MaySee earlier) (cut_to len) f
MaySee ((Cut len false, none) ∷ earlier) f = MaySee earlier f ⊎ Done (MaySee earlier) (cut_to len) f
MaySee ((SyncLog done, none) ∷ earlier) f = MaySee earlier f

-- the files that a crash after these calls may leave. Before the first call these may be any. What was changed since may be there or not:
-- a draft has the record's name or hasn't, the log is cut or isn't, and of what was added to it the first bytes may be there. After a sync
-- that was done there is what a read gives: of the record, where it was of the names, and else of the log
abbrev pub MayLeave : List Called → Files → Type 0
MayLeave [] f = ⊤
MayLeave ((ReadRecord, bytes) ∷ earlier) f = MayLeave earlier f
MayLeave ((ReadLog, bytes) ∷ earlier) f = MayLeave earlier f
MayLeave ((WriteDraft done, bytes) ∷ earlier) f = MayLeave earlier f
MayLeave ((RenameDraft done, none) ∷ earlier) f = MayLeave earlier f ⊎ Renamed earlier (MayLeave earlier) f
MayLeave ((SyncNames true, none) ∷ earlier) f = MayLeave earlier f × ((g : Files) × MaySee earlier g × (f.whole ≡ g.whole))
MayLeave ((SyncNames false, none) ∷ earlier) f = MayLeave earlier f
MayLeave ((Append done, bytes) ∷ earlier) f = MayLeave earlier f ⊎ ((g : Files) × (n : ℕ) × MaySee earlier g × Done (MayLeave earlier) (with_log (g.log ++ take n bytes)) f)
MayLeave ((Cut len done, none) ∷ earlier) f = MayLeave earlier f ⊎ Done (MayLeave earlier) (cut_to len) f
MayLeave ((SyncLog true, none) ∷ earlier) f = MayLeave earlier f × ((g : Files) × MaySee earlier g × (f.log ≡ g.log))
MayLeave ((SyncLog false, none) ∷ earlier) f = MayLeave earlier f

-- what these calls may leave; or, where a read gives the record that it has, the same with its log cut
abbrev pub IsTidied : ℕ → List Called → Files → Type 0
IsTidied len calls f = MayLeave calls f ⊎ ((d : Files) × (g : Files) × MayLeave calls d × MaySee calls g × (d.whole ≡ g.whole) × (f ≡ cut_to len d))

-- once these calls were made, from the first ones on and up to the last ones
pub record IsAmid (first moment last : List Called) : Type 0 where
  pub before : List Called
  pub since : List Called
  pub moment_is : moment ≡ before ++ first
  pub last_is : last ≡ since ++ moment

-- from the first calls on, at each moment up to the last ones: whatever a crash leaves then is so
pub data Leaves (P : Files → Type 0) (first : List Called) : List Called → Type 0 where
  Begins : ((f : Files) → MayLeave first f → P f) → Leaves P first first
  Goes_on : (call : Called) (earlier : List Called) → Leaves P first earlier → ((f : Files) → MayLeave (call ∷ earlier) f → P f) → Leaves P first (call ∷ earlier)
