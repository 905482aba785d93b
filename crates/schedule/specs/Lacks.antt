-- What a word lacks that doesn't stand for what is wanted.
use Rattle.std.specs.Prelude.{◌≡◌, ◌||◌, ◌&&◌, ℕ, Bool, if◌then◌else◌, List, ◌∷◌, ◌++◌, Option, Some, None, nat_le}
use Rattle.std.specs.Char.{is_ascii_digit}
use Rattle.std.specs.List.{list_all}
use Rattle.names.specs.Decimals.{Lacks}
use Rattle.names.specs.Names.{folder_text, IsName}
use Rattle.schedule.specs.declared.fault.WordFault.{WordFault}
use Rattle.schedule.specs.declared.fault.WordFault.TheVariants.{NoNode, NoMessage, NoTicket, NoFolder, NotShared, NoSlot, NoInstance, NoLeft, NoDigits, OddDigits, NoDigest, NotKept}
use Rattle.schedule.specs.declared.verb.Wanted.{Wanted}
use Rattle.schedule.specs.declared.verb.Wanted.TheVariants as wanted
use Rattle.schedule.specs.Forms.{IsTextOfSome, StandsFor}

-- the word is a folder, without `ro=`
abbrev pub IsFolder : List ℕ → Type 0
IsFolder word = IsTextOfSome IsName folder_text word

-- one fault of a word that is a folder, and another of a word that is none
pub record IsByFolder (of_folder of_other : WordFault) (word : List ℕ) (fault : WordFault) : Type 0 where
  pub folder : IsFolder word → fault ≡ of_folder
  pub other : (IsFolder word → ⊥) → fault ≡ of_other

-- a folder that is no slot is PRIVATE, and lacks its instance
abbrev pub IsSlotLack : List ℕ → WordFault → Type 0
IsSlotLack word fault = IsByFolder NoInstance NoSlot word fault

-- 0 to 9 or a to f
abbrev pub is_lower_digit : ℕ → Bool
is_lower_digit b = is_ascii_digit b || (nat_le 97 b && nat_le b 102)

-- digits that spell no bytes are odd in number
abbrev pub content_lack : List ℕ → WordFault
content_lack word = if list_all is_lower_digit word then OddDigits else NoDigits

-- the slot's fault, or that of the digits if it is one
pub record IsPartsLack (slot digits : List ℕ) (fault : WordFault) : Type 0 where
  pub no_slot : (StandsFor wanted.Slot slot → ⊥) → IsSlotLack slot fault
  pub is_slot : StandsFor wanted.Slot slot → fault ≡ content_lack digits

-- the last `=` parts the slot and the digits
pub record IsLeftLack (word : List ℕ) (fault : WordFault) : Type 0 where
  pub whole : Lacks 61 word → fault ≡ NoLeft
  pub parts : (slot digits : List ℕ) → word ≡ slot ++ 61 ∷ digits → Lacks 61 digits → IsPartsLack slot digits fault

-- what the word lacks
abbrev pub IsLack : Wanted → List ℕ → WordFault → Type 0
IsLack wanted.Node word fault = fault ≡ NoNode
IsLack wanted.NodeOrCoordinator word fault = fault ≡ NoNode
IsLack wanted.Message word fault = fault ≡ NoMessage
IsLack wanted.Ticket word fault = fault ≡ NoTicket
IsLack wanted.Folder word fault = fault ≡ NoFolder
IsLack wanted.SharedFolder word fault = IsByFolder NotShared NoFolder word fault
IsLack wanted.Slot word fault = IsSlotLack word fault
IsLack wanted.Left word fault = IsLeftLack word fault
IsLack wanted.Content word fault = fault ≡ content_lack word
IsLack wanted.Digest word fault = fault ≡ NoDigest
IsLack wanted.Kept word fault = fault ≡ NotKept

-- the word doesn't stand for what is wanted, and this is why
pub record IsWordFault (kind : Wanted) (word : List ℕ) (fault : WordFault) : Type 0 where
  pub bad : StandsFor kind word → ⊥
  pub lack : IsLack kind word fault

-- whether the word stands for what is wanted, or why it doesn't
abbrev pub Judges : Wanted → List ℕ → Option WordFault → Type 0
Judges kind word None = StandsFor kind word
Judges kind word (Some fault) = IsWordFault kind word fault
