-- How entries lie in the file of a log (this project's own; docs/FORMATS.md, "The log").
use Rattle.std.specs.Prelude.{◌≡◌, ◌≢◌, ◌⊎◌, ℕ, ◌<◌, ◌+◌, ◌-◌, ◌^◌, nat_le, if◌then◌else◌, List, [], ◌∷◌, ◌++◌, length, take, drop, All, Option, Some, None, ⊤}
use denote.Ref.{Bor}
use Rattle.std.specs.Int.{w64, from_be_bytes}
use Rattle.std.specs.List.{flat_map}
use Rattle.sha2.specs.Sha256.{sha256}
use Rattle.filekeeper.specs.declared.framing.LogFault.{LogFault}
use Rattle.filekeeper.specs.declared.framing.LogFault.TheVariants.{BadHead, OutOfMemory}
use Rattle.recordparts.specs.Spelling.{number64}
use Rattle.saverecord.specs.Texts.{Texts, with_texts}

-- the name of a record in its log: its last eight bytes, which are of its digest
abbrev pub name_of : List ℕ → List ℕ
name_of whole = if nat_le 8 (length whole) then drop (length whole - 8) whole else 0 ∷ 0 ∷ 0 ∷ 0 ∷ 0 ∷ 0 ∷ 0 ∷ 0 ∷ []

-- what is checked of an entry: the name of the record that it follows, and its length
abbrev pub check_of : List ℕ → List ℕ → List ℕ
check_of name len = take 8 (sha256 (name ++ len))

-- what stands before an entry that follows this record
abbrev pub head_of : List ℕ → List ℕ → List ℕ
head_of whole entry = name_of whole ++ (number64 (length entry) ++ check_of (name_of whole) (number64 (length entry)))

-- an entry that follows this record, in the file
abbrev pub framed : List ℕ → List ℕ → List ℕ
framed whole entry = name_of whole ++ (number64 (length entry) ++ (check_of (name_of whole) (number64 (length entry)) ++ entry))

-- the file of a log
abbrev pub log_bytes : List ℕ → List (List ℕ) → List ℕ
log_bytes whole entries = flat_map (framed whole) entries

-- these bytes begin with a head
pub record HasHead (bytes name len check behind : List ℕ) : Type 0 where
  pub bytes_are : bytes ≡ name ++ (len ++ (check ++ behind))
  pub name_len : length name ≡ 8
  pub len_len : length len ≡ 8
  pub check_len : length check ≡ 8

-- they begin with the head of an entry of another record, or of one that was cut short
pub record IsOther (whole bytes : List ℕ) : Type 0 where
  pub name : List ℕ
  pub len : List ℕ
  pub behind : List ℕ
  pub head : HasHead bytes name len (check_of name len) behind
  pub other : (name ≢ name_of whole) ⊎ (length behind < from_be_bytes w64 len)

-- no entry of this record begins here
abbrev pub HasNone : List ℕ → List ℕ → Type 0
HasNone whole bytes = (length bytes < 24) ⊎ IsOther whole bytes

-- an entry begins here, with these bytes behind it
abbrev pub IsEntry : List ℕ → List ℕ → Option (Bor (List ℕ) × Bor (List ℕ)) → Type 0
IsEntry whole bytes None = ⊤
IsEntry whole bytes (Some taken) = bytes ≡ framed whole taken.0.now ++ taken.1.now

-- they begin with a head whose check is wrong
pub record IsDamaged (bytes : List ℕ) : Type 0 where
  pub name : List ℕ
  pub len : List ℕ
  pub check : List ℕ
  pub behind : List ℕ
  pub head : HasHead bytes name len check behind
  pub wrong : check ≢ check_of name len

abbrev pub IsFault : List ℕ → ℕ → LogFault → Type 0
IsFault bytes number (BadHead damaged) = IsDamaged bytes × (damaged ≡ number)
IsFault bytes number OutOfMemory = ⊤

-- the entry's length is one that its head can tell
abbrev pub IsTold : List ℕ → Type 0
IsTold entry = length entry < 2 ^ 64

-- these bytes are a record's entries, and behind them no further one begins
pub record HasEntries (whole bytes : List ℕ) (entries : List (List ℕ)) (behind : List ℕ) : Type 0 where
  pub told : All IsTold entries
  pub bytes_are : bytes ≡ log_bytes whole entries ++ behind
  pub ends : HasNone whole behind

-- the entries of these bytes were added, and `left` bytes stand behind them
pub record AreTaken (old : Texts) (bytes : List ℕ) (new : Texts) (left : ℕ) : Type 0 where
  pub entries : List (List ℕ)
  pub behind : List ℕ
  pub has : HasEntries old.whole bytes entries behind
  pub new_is : new ≡ with_texts entries old
  pub left_is : left ≡ length behind

-- these bytes are a record's entries, and behind them stands a head that is damaged
pub record BreaksBehind (whole bytes : List ℕ) (entries : List (List ℕ)) : Type 0 where
  pub behind : List ℕ
  pub told : All IsTold entries
  pub bytes_are : bytes ≡ log_bytes whole entries ++ behind
  pub damaged : IsDamaged behind

-- the head of this entry, from 1, is damaged, and those before it are a record's
abbrev pub HasDamagedHead : List ℕ → List ℕ → ℕ → Type 0
HasDamagedHead whole bytes place = (entries : List (List ℕ)) × BreaksBehind whole bytes entries × (place ≡ length entries + 1)

-- why these bytes tell no entries of a record
abbrev pub TellNone : List ℕ → List ℕ → LogFault → Type 0
TellNone whole bytes (BadHead place) = HasDamagedHead whole bytes place
TellNone whole bytes OutOfMemory = ⊤

-- the texts of a record's file and of its log's
pub record AreTextsOf (whole bytes : List ℕ) (texts : Texts) : Type 0 where
  pub behind : List ℕ
  pub whole_is : texts.whole ≡ whole
  pub has : HasEntries whole bytes texts.entries behind
