-- What the files of a record hold, and what a crash may leave of them while they are written (this project's own; docs/FORMATS.md, "What
-- a crash leaves").
use Rattle.std.specs.Prelude.{◌≡◌, ◌≢◌, ◌⊎◌, ℕ, List, [], ◌∷◌, ◌++◌, length, take}
use Rattle.protocol.specs.Lists.{In}
use Rattle.filekeeper.specs.Calls.{Called}
use Rattle.filekeeper.specs.Disks.{Files, with_whole, cut_to, MaySee, MayLeave}
use Rattle.filekeeper.specs.Framing.{name_of, log_bytes, HasNone, AreTextsOf}
use Rattle.saverecord.specs.Texts.{Texts, with_texts}
use Rattle.filekeeper.specs.declared.device_call.DeviceCall.TheVariants.{ReadRecord, ReadLog}

-- the bytes that hold these texts and nothing else
abbrev pub files_of : Texts → Files
files_of texts = record { whole = texts.whole; log = log_bytes texts.whole texts.entries }

-- opening these files gives these texts
abbrev pub Holds : Texts → Files → Type 0
Holds texts f = AreTextsOf f.whole f.log texts

-- opening gives some texts of this kind
abbrev pub HoldsAny : (Texts → Type 0) → Files → Type 0
HoldsAny Are f = (texts : Texts) × Are texts × Holds texts f

-- files that hold some texts give these and no others
abbrev pub WhatIsHeldIsGiven : Type 0
WhatIsHeldIsGiven = (f : Files) (held texts : Texts) → Holds held f → AreTextsOf f.whole f.log texts → texts ≡ held

-- a read gives these texts and nothing else, and so does what a crash leaves
pub record IsSettled (calls : List Called) (texts : Texts) : Type 0 where
  pub seen : (f : Files) → MaySee calls f → f ≡ files_of texts
  pub left : (f : Files) → MayLeave calls f → f ≡ files_of texts

-- ---- while files are taken up

-- the texts are those of the bytes that the first two calls read
abbrev pub HasRead : List Called → Texts → List Called → Type 0
HasRead old texts new = (whole : List ℕ) × (log : List ℕ) × (later : List Called) × (new ≡ later ++ (ReadLog, log) ∷ (ReadRecord, whole) ∷ old) × AreTextsOf whole log texts

-- files that might be left before; or such files whose log was cut behind the entries of it that were read
abbrev pub IsTakenUp : List Called → List Called → Files → Type 0
IsTakenUp old new f =
    (d : Files) × MayLeave old d × ((f ≡ d) ⊎ ((entries : List (List ℕ)) × (behind : List ℕ) × In (ReadLog, log_bytes d.whole entries ++ behind) new × HasNone d.whole behind × (f ≡ cut_to (length (log_bytes d.whole entries)) d)))

-- ---- while entries are added

-- the log has these entries, and the first bytes of more
abbrev pub IsAddedTo : Texts → List (List ℕ) → Files → Type 0
IsAddedTo old more f = (f.whole ≡ old.whole) × ((n : ℕ) × (f.log ≡ log_bytes old.whole old.entries ++ take n (log_bytes old.whole more)))

-- opening gives these texts, and of more entries the first ones
abbrev pub HoldsSome : Texts → List (List ℕ) → Files → Type 0
HoldsSome old more f = (k : ℕ) × Holds (with_texts (take k more) old) f

-- ---- while a record takes another one's place

-- entries of these texts would be taken for entries of these other bytes, which have their record's name
abbrev pub Clashes : List ℕ → Texts → Type 0
Clashes bytes texts = (bytes ≢ texts.whole) × (name_of bytes ≡ name_of texts.whole) × (texts.entries ≢ [])

-- opening gives these texts or those
abbrev pub HoldsOneOf : Texts → Texts → Files → Type 0
HoldsOneOf old new f = Holds old f ⊎ Holds new f

-- files that might be left before; or such files with this record, and with their log or with none
abbrev pub IsPutOver : List ℕ → List Called → Files → Type 0
IsPutOver bytes old f = (d : Files) × MayLeave old d × ((f ≡ d) ⊎ ((f ≡ with_whole bytes d) ⊎ (f ≡ record { whole = bytes; log = [] })))

-- ---- while the files are read again

-- the texts stand in these bytes of the record's file and of its log's, and more may follow them
abbrev pub StandsIn : Texts → List ℕ → List ℕ → Type 0
StandsIn texts whole log = (whole ≡ texts.whole) × ((rest : List ℕ) × (log ≡ log_bytes texts.whole texts.entries ++ rest))

-- whatever a crash after these calls leaves of the texts' record, these stand first in its log
abbrev pub AreStanding : List Called → Texts → Type 0
AreStanding calls texts = (f : Files) → MayLeave calls f → f.whole ≡ texts.whole → cut_to (length (log_bytes texts.whole texts.entries)) f ≡ files_of texts

-- since the first calls the files were read, and these texts stood there
abbrev pub WereRead : Texts → List Called → List Called → Type 0
WereRead texts old new = (whole : List ℕ) × (log : List ℕ) × (before : List Called) × (since : List Called)
    × (new ≡ since ++ (ReadLog, log) ∷ (ReadRecord, whole) ∷ (before ++ old)) × StandsIn texts whole log

-- files that might be left before; or such files of this record, with the log cut behind these entries
abbrev pub IsCut : Texts → List Called → Files → Type 0
IsCut texts old f = (d : Files) × MayLeave old d × ((f ≡ d) ⊎ ((d.whole ≡ texts.whole) × (f ≡ cut_to (length (log_bytes texts.whole texts.entries)) d)))
