-- A coordinator's filter is the coordinator of protocol's processes: it does with lines only what the rules allow.
use Rattle.std.specs.Prelude.{◌≡◌, ◌⊎◌, ℕ, Bool, true, false, List, [], ◌∷◌, ◌++◌, map, Option, Some, None, Result, Ok, Err, ⊤}
use mathlib.Core.Logic.{inl, inr}
use Rattle.ledger.specs.declared.handled.Handled.{Handled}
use Rattle.coordinator.specs.Held.{ledger}
use Rattle.coordinator.specs.Seen.{Seen}
use Rattle.coordinator.specs.Settling.{TakesUp}
use Rattle.names.specs.declared.digest.Digest.{Digest}
use Rattle.names.specs.declared.limits.TheConstants.{NODES}
use Rattle.farm_base.specs.declared.message.Message.{Message}
use Rattle.filekeeper.specs.Disks.{Leaves}
use Rattle.filekeeper.specs.Keepers.{Filed, GatherSaves, FileGathers, FileSaves, FileLoads, FileSyncs, IsDurable, IsLeft, file_texts}
use Rattle.filekeeper.specs.Settled.{HoldsAny}
use Rattle.protocol.specs.Farm.{farm_limits}
use Rattle.protocol.specs.Ledger.{Ledger}
use Rattle.protocol.specs.Machine.{Told}
use Rattle.events.specs.declared.answer.CoordRefusal.{CoordRefusal}
use Rattle.protocol.specs.HostileProcesses.{RaidRuns}
use Rattle.protocol.specs.Processes.{Coordinator, Processes}
use Rattle.saverecord.specs.Logs.{saved_in}
use Rattle.saverecord.specs.Texts.{Texts, with_text}
use Rattle.saverecord.specs.declared.refusal.KeeperRefusal.{KeeperRefusal}
use Rattle.services.specs.declared.lost.Lost.{Lost}
use Rattle.services.specs.declared.settled.Settled.{Settled}
use Rattle.services.specs.declared.settled.Settled.TheVariants.{Lasts, Failed}
use Rattle.coordinatorfilter.specs.Carried.{Saving, Loading, Syncing}
use Rattle.services.specs.Says.{Says, AreOfTheFarm}
use Rattle.services.specs.Served.{Steps, Settling, Answers, Batch}
use Rattle.coordinatorfilter.specs.Written.{Filters, MakesLast}
use Rattle.coordinatorfilter.specs.Written.Filters.{Calls, Stops, Shows, Drops}
use Rattle.farmwire.specs.Sealed.{Keys}

-- an entry is kept behind all others, and as much lasts as before
pub record AddsEntry (old_kept old_lasting new_kept new_lasting : Texts) : Type 0 where
  pub entry : List ℕ
  pub kept : new_kept ≡ with_text entry old_kept
  pub lasts : new_lasting ≡ old_lasting

module _ {K : Type 0} (kept lasting : K → Texts) (old new : K) where
  -- the same texts are kept, and the same last
  abbrev pub IsUnchanged : Type 0
  IsUnchanged = (kept new ≡ kept old) × (lasting new ≡ lasting old)

  -- these texts are kept, and all of them last
  abbrev pub AllLast : Texts → Type 0
  AllLast texts = (kept new ≡ texts) × (lasting new ≡ texts)

-- a keeper's relations say of the texts that are kept, and of those of them that last, what their names say
pub record IsHonest {K : Type 0} (saving : Saving K) (loading : Loading K) (syncing : Syncing K)
    (kept lasting : K → Texts) : Type 0 where
  -- what is saved lasts, or it is one more entry that is gathered only
  pub saves : (old : K) (texts : Texts) (new : K) → saving old texts true new → (kept new ≡ texts)
      × ((lasting new ≡ texts) ⊎ AddsEntry (kept old) (lasting old) texts (lasting new))
  -- where a save fails all is as before, or what was to be saved lasts
  pub fails : (old : K) (texts : Texts) (new : K) → saving old texts false new
      → IsUnchanged kept lasting old new ⊎ AllLast kept lasting old new texts
  -- a load that succeeds makes all last, and another one may
  pub loaded : (old new : K) → loading old None new → AllLast kept lasting old new (kept old)
  pub loads : (old : K) (refusal : Option KeeperRefusal) (new : K) → loading old refusal new
      → IsUnchanged kept lasting old new ⊎ AllLast kept lasting old new (kept old)
  pub syncs : (old : K) (ok : Bool) (new : K) → syncing old ok new → kept new ≡ kept old

-- a coordinator that is down has no ledger
abbrev pub memory_of : Bool → Ledger → Option Ledger
memory_of true q = None
memory_of false q = Some q

-- a process that is gone, and these texts are on its disk
abbrev pub gone_with : Texts → Coordinator
gone_with texts = record { memory = None; disk = saved_in texts }

module _ {K : Type 0} (kept : K → Texts) (seen : Seen K) where
  -- the process that a coordinator is: its ledger while it is up, and on its disk what its keeper's texts hold
  abbrev pub process_of : Coordinator
  process_of = record { memory = memory_of seen.down (ledger seen.held); disk = saved_in (kept seen.keeper) }

  -- while it is up all that is kept lasts
  abbrev pub LastsWhileUp : (K → Texts) → Type 0
  LastsWhileUp lasting = seen.down ≡ false → lasting seen.keeper ≡ kept seen.keeper

-- these processes, whose coordinator is this one now and wrote these messages
abbrev pub with_coordinator : Processes → Coordinator → List Message → Processes
with_coordinator p coordinator messages = record p { coordinator = coordinator; written = p.written ++ messages }

-- whatever nodes were taken over, the rules let the processes become these
abbrev pub MayBecome : (List ℕ → Digest) → Processes → Processes → Type 0
MayBecome sha p later = (taken : ℕ → Bool) → RaidRuns taken sha farm_limits NODES p later

-- a step of the filter, with these keys
abbrev pub filter_steps : {K : Type 0} → Saving K → Loading K → (K → Texts) → Keys → Steps (Seen K)
filter_steps saving loading kept keys old given answer new = Filters saving loading kept keys given answer old new

-- ---- the messages of what is written

abbrev pub sends_of : Result Handled CoordRefusal → List Message
sends_of (Ok handled) = map Told handled.sends
sends_of (Err refusal) = []

-- those of a line's answer
abbrev pub line_messages : {K : Type 0} {saving : Saving K} {loading : Loading K} {kept : K → Texts} {keys : Keys}
    {given : Result (List ℕ) Lost} {answer : List ℕ} {old new : Seen K}
    → Filters saving loading kept keys given answer old new → List Message
line_messages (Calls call reply asks done (inl written)) = sends_of reply.answer
line_messages (Calls call reply asks done (inr lost)) = []
line_messages (Stops call asks restarts out) = []
line_messages (Shows question asks same shown) = []
line_messages (Drops why asks same unread) = []

-- those of the answers of some lines
abbrev pub messages_of : {K : Type 0} (saving : Saving K) (loading : Loading K) (kept : K → Texts) (keys : Keys)
    (limit : ℕ) (old new : Seen K) (lines answers : List (List ℕ))
    → Answers (filter_steps saving loading kept keys) limit old lines answers new → List Message
messages_of saving loading kept keys limit old new [] [] h = []
messages_of saving loading kept keys limit old new [] (answer ∷ answers) h = []
messages_of saving loading kept keys limit old new (line ∷ lines) [] h = []
messages_of saving loading kept keys limit old new (line ∷ lines) (answer ∷ answers) h =
    line_messages h.3 ++ messages_of saving loading kept keys limit h.1 new lines answers h.4

-- of lines that were answered together all, or none where the answers don't last
abbrev pub settled_messages : Settled → List Message → List Message
settled_messages Lasts messages = messages
settled_messages (Failed restart) messages = []

abbrev pub batch_messages : {K : Type 0} (saving : Saving K) (loading : Loading K) (syncing : Syncing K)
    (kept lasting : K → Texts) (keys : Keys) (limit : ℕ) (lines : List (List ℕ)) (text : List ℕ) (old new : Seen K)
    → Batch (filter_steps saving loading kept keys) (MakesLast syncing loading kept lasting) limit lines text old new
    → List Message
batch_messages saving loading syncing kept lasting keys limit lines text old new b =
    settled_messages b.settled (messages_of saving loading kept keys limit old b.answered_to lines b.answers b.answered)

-- ---- the rules

-- what a filter does with lines that come together the coordinator of processes may do, and what it writes it may
-- write. What its disk has then lasts
abbrev pub ABatchIsARun : {K : Type 0} → Saving K → Loading K → Syncing K → (K → Texts) → (K → Texts) → Type 0
ABatchIsARun {K} saving loading syncing kept lasting =
    (sha : List ℕ → Digest) (keys : Keys) (limit : ℕ) (lines : List (List ℕ)) (text : List ℕ) (old new : Seen K)
    (p : Processes)
    → p.coordinator ≡ process_of kept old → AreOfTheFarm keys lines p.written
    → (b : Batch (filter_steps saving loading kept keys) (MakesLast syncing loading kept lasting) limit lines text old new) →
    let messages : List Message = batch_messages saving loading syncing kept lasting keys limit lines text old new b in
    MayBecome sha p (with_coordinator p (process_of kept new) messages) × LastsWhileUp kept new lasting
    × Says keys messages text

-- where a filter is killed amid a batch, of which it answered these lines and wrote nothing, the rules let the
-- coordinator be killed so: its disk may have what was decided of any of them
abbrev pub AKillIsARun : {K : Type 0} → Saving K → Loading K → (K → Texts) → Type 0
AKillIsARun {K} saving loading kept =
    (sha : List ℕ → Digest) (keys : Keys) (limit : ℕ) (lines answers : List (List ℕ)) (old new : Seen K)
    (p : Processes)
    → p.coordinator ≡ process_of kept old → AreOfTheFarm keys lines p.written
    → Answers (filter_steps saving loading kept keys) limit old lines answers new
    → MayBecome sha p (with_coordinator p (gone_with (kept new.keeper)) [])

-- where the power fails there, or in the sync that follows, what is left is what was decided of the first of the lines:
-- at the batch's beginning all that was kept lasted
abbrev pub APowerFailureIsARun : {K : Type 0} → Saving K → Loading K → (K → Texts) → (K → Texts) → Type 0
APowerFailureIsARun {K} saving loading kept lasting =
    (sha : List ℕ → Digest) (keys : Keys) (limit : ℕ) (lines answers : List (List ℕ)) (old new : Seen K)
    (left : Texts) (p : Processes)
    → p.coordinator ≡ process_of kept old → lasting old.keeper ≡ kept old.keeper → AreOfTheFarm keys lines p.written
    → Answers (filter_steps saving loading kept keys) limit old lines answers new
    → IsLeft (lasting new.keeper) (kept new.keeper) left
    → MayBecome sha p (with_coordinator p (gone_with left) [])

-- a coordinator that takes up what a keeper's texts hold is one that starts from its disk. All of that lasts
abbrev pub AStartIsARun : {K : Type 0} → Loading K → (K → Texts) → (K → Texts) → Type 0
AStartIsARun {K} loading kept lasting = (sha : List ℕ → Digest) (keeper : K) (new : Seen K) (p : Processes)
    → p.coordinator.disk ≡ saved_in (kept keeper) → TakesUp loading (kept keeper) keeper new
    → MayBecome sha p (with_coordinator p (process_of kept new) []) × LastsWhileUp kept new lasting

-- the saves of a keeper in files that gathers
abbrev pub file_saves : Saving Filed
file_saves = GatherSaves (λ f. f.texts) FileGathers FileSaves

-- the same over such a keeper
abbrev pub ABatchOverFilesIsARun : Type 0
ABatchOverFilesIsARun = ABatchIsARun file_saves FileLoads FileSyncs (λ f. f.texts) file_texts

abbrev pub AKillOverFilesIsARun : Type 0
AKillOverFilesIsARun = AKillIsARun file_saves FileLoads (λ f. f.texts)

abbrev pub APowerFailureOverFilesIsARun : Type 0
APowerFailureOverFilesIsARun = APowerFailureIsARun file_saves FileLoads (λ f. f.texts) file_texts

abbrev pub AStartOverFilesIsARun : Type 0
AStartOverFilesIsARun = AStartIsARun FileLoads (λ f. f.texts) file_texts

-- ---- crashes, over files

-- a step over such a keeper, and what makes answers last there
abbrev pub file_steps : Keys → Steps (Seen Filed)
file_steps keys = filter_steps file_saves FileLoads (λ f. f.texts) keys

abbrev pub file_settles : Settling (Seen Filed)
file_settles = MakesLast FileSyncs FileLoads (λ f. f.texts) file_texts

-- from the first of these coordinators to the last it answered batches, but could make none of their answers last, and
-- wrote none
pub data Falters (Hears : List (List ℕ) → Type 0) (keys : Keys) (first : Seen Filed) : Seen Filed → Type 0 where
  Not_yet : Falters Hears keys first first
  Once_more : (limit : ℕ) (lines : List (List ℕ)) (text : List ℕ) (old new : Seen Filed) (restart : Result ⊤ CoordRefusal)
      → Falters Hears keys first old → Hears lines
      → (b : Batch (file_steps keys) file_settles limit lines text old new) → b.settled ≡ Failed restart
      → Falters Hears keys first new

-- and then it answers one batch more, whose answers last or don't: what it does in all of them the coordinator of
-- processes may do, with the messages of the last. While it is up whatever files a crash leaves hold all that it keeps
abbrev pub AReturnOverFilesIsARun : Type 0
AReturnOverFilesIsARun =
    (sha : List ℕ → Digest) (keys : Keys) (limit : ℕ) (lines : List (List ℕ)) (text : List ℕ)
    (first old new : Seen Filed) (p : Processes)
    → p.coordinator ≡ process_of (λ f. f.texts) first
    → Falters (λ heard. AreOfTheFarm keys heard p.written) keys first old → AreOfTheFarm keys lines p.written
    → (b : Batch (file_steps keys) file_settles limit lines text old new) →
    let messages : List Message =
    batch_messages file_saves FileLoads FileSyncs (λ f. f.texts) file_texts keys limit lines text old new b in
    MayBecome sha p (with_coordinator p (process_of (λ f. f.texts) new) messages) × Says keys messages text
    × (new.down ≡ false → (file_texts new.keeper ≡ new.keeper.texts) × IsDurable new.keeper)

-- a kill or a power failure, at any moment: at first all that it kept lasted, since then it could make no answers last,
-- and now it is idle or answers lines. Whatever files a crash leaves at a moment up to the end of these lines, opening
-- them gives texts that the rules let the coordinator be gone with. So a save that failed may have kept either record,
-- whichever of them the keeper takes it for
abbrev pub ACrashOverFilesIsARun : Type 0
ACrashOverFilesIsARun =
    (sha : List ℕ → Digest) (keys : Keys) (limit : ℕ) (lines : List (List ℕ)) (text : List ℕ)
    (first old new : Seen Filed) (p : Processes)
    → p.coordinator ≡ process_of (λ f. f.texts) first
    → file_texts first.keeper ≡ first.keeper.texts → IsDurable first.keeper
    → Falters (λ heard. AreOfTheFarm keys heard p.written) keys first old → AreOfTheFarm keys lines p.written
    → (new ≡ old) ⊎ Batch (file_steps keys) file_settles limit lines text old new
    → Leaves (HoldsAny (λ left. MayBecome sha p (with_coordinator p (gone_with left) [])))
    first.keeper.calls new.keeper.calls
