-- What a look at a coordinator's files finds (this project's own).
use Rattle.std.specs.Prelude.{◌≡◌, ℕ, nat_le, Bool, true, false, ◌&&◌, not, ◌==◌, List, [], length, take, Option, Some, None, is_ok}
use Rattle.std.specs.List.{list_any}
use Rattle.filekeeper.specs.Framing.{HasDamagedHead, AreTextsOf}
use Rattle.processes.specs.declared.fault.Cause.{Cause}
use Rattle.processes.specs.declared.fault.Cause.TheVariants.{BadRecord, LogAlone, OutOfMemory}
use Rattle.saverecord.specs.Logs.{ledger_in}
use Rattle.saverecord.specs.Texts.{Texts}

-- these bytes name a record, and not the beginning of a farm
abbrev pub is_name : List ℕ → Bool
is_name name = list_any (λ byte. not (byte == 0)) name

-- the first entry of a log names a record
abbrev pub follows_record : List ℕ → Bool
follows_record log = nat_le 8 (length log) && is_name (take 8 log)

-- why these texts hold no ledger, if they don't
abbrev pub IsFlawIn : Texts → Option Cause → Type 0
IsFlawIn texts None = is_ok (ledger_in texts) ≡ true
IsFlawIn texts (Some BadRecord) = is_ok (ledger_in texts) ≡ false
IsFlawIn texts (Some OutOfMemory) = Unit {0}
IsFlawIn texts (Some other) = ⊥

-- the flaw, if any, of these bytes of a record's file and of its log's
pub data IsFlawOf (whole log : List ℕ) (flaw : Option Cause) : Type 0 where
  -- a log that follows a record stands there without it
  Alone : whole ≡ [] → follows_record log ≡ true → flaw ≡ Some LogAlone → IsFlawOf whole log flaw
  -- the head of an entry is damaged
  Broken : (place : ℕ) → HasDamagedHead whole log place → flaw ≡ Some BadRecord → IsFlawOf whole log flaw
  -- they hold texts, which are read
  Reads : (texts : Texts) → AreTextsOf whole log texts → IsFlawIn texts flaw → IsFlawOf whole log flaw
  Stops : flaw ≡ Some OutOfMemory → IsFlawOf whole log flaw
