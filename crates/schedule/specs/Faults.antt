-- What is wrong with a line of a schedule that can't be read.
use Rattle.std.specs.Prelude.{◌≡◌, ◌≢◌, ℕ, ◌<◌, ◌≤◌, List, [], ◌∷◌, ◌++◌, Option, Some, None, Contains, codes, drop, length, map, slice_index_or}
use Rattle.std.specs.List.{All, IsDistinct}
use Rattle.std.specs.List.Sorted.{IsStrictlySortedBy}
use Rattle.std.specs.Str.{IsUtf8}
use Rattle.farm_base.specs.declared.want.Want.{Want}
use Rattle.names.specs.Folders.{folder_eq}
use Rattle.names.specs.Slots.{slot_cmp}
use Rattle.farm_base.specs.Wanted.{folders}
use Rattle.events.specs.declared.event.Event.{Event}
use Rattle.words.specs.Words.{words, want_text, IsWant}
use Rattle.schedule.specs.declared.fault.FormFault.{FormFault}
use Rattle.schedule.specs.declared.fault.FormFault.TheVariants.{BadWord, ExtraWord, MissingWord, TooManyFolders, SameFolderTwice, SlotsDontRise}
use Rattle.schedule.specs.declared.fault.WordFault.{WordFault}
use Rattle.schedule.specs.declared.fault.LineFault.{LineFault}
use Rattle.schedule.specs.declared.fault.LineFault.TheVariants.{NotUtf8, NoSetup, NoEvent, Form}
use Rattle.schedule.specs.declared.fault.LineFault.TheVariants as fault
use Rattle.schedule.specs.declared.fault.Spacing.{Spacing}
use Rattle.schedule.specs.declared.fault.Spacing.TheVariants.{CarriageReturn, Tab, ExtraSpace}
use Rattle.schedule.specs.declared.setup.Setup.{Setup}
use Rattle.schedule.specs.declared.verb.Verb.{Verb}
use Rattle.schedule.specs.declared.verb.Verb.TheVariants.{Ask, Finish}
use Rattle.schedule.specs.declared.verb.Wanted.{Wanted}
use Rattle.schedule.specs.Forms.{Fit, FitUpTo, wanted_at, first_words}
use Rattle.schedule.specs.Lacks.{IsWordFault}
use Rattle.schedule.specs.Lines.{left_slots, left_text, IsLeft, IsSpelled, Left}
use Rattle.schedule.specs.Schedules.{IsSetup}
use Rattle.schedule.specs.Words.{verb_text}

-- the line of this number can be read: the first says a setup, and a later one an event, unless it is empty
pub record IsRead (number : ℕ) (line : List ℕ) : Type 0 where
  pub first : number ≡ 1 → (setup : Setup) × IsSetup line setup
  pub later : number ≢ 1 → line ≢ [] → (e : Event) × IsSpelled line e

-- the words before this index stand for what is wanted there, and the one at it does not
pub record IsFirstBad (verb : Verb) (ws : List (List ℕ)) (index : ℕ) (kind : Wanted) (fault : WordFault) : Type 0 where
  pub inside : index < length ws
  pub before : FitUpTo verb ws index
  pub wanted : wanted_at verb index ≡ Some kind
  pub bad : (d : List ℕ) → IsWordFault kind (slice_index_or ws index d) fault

-- no word may stand at this index, and those before it stand for what is wanted there
pub record IsFirstExtra (verb : Verb) (ws : List (List ℕ)) (index : ℕ) : Type 0 where
  pub inside : index < length ws
  pub before : FitUpTo verb ws index
  pub ended : wanted_at verb index ≡ None

-- each word stands for what is wanted there, but there are too few
pub record IsTooShort (verb : Verb) (ws : List (List ℕ)) : Type 0 where
  pub each : FitUpTo verb ws (length ws)
  pub short : length ws < length (first_words verb)

-- the words are folders
pub record AreFolders (ws : List (List ℕ)) (given : List Want) : Type 0 where
  pub each : All IsWant given
  pub text : ws ≡ map want_text given

-- at most 16 folders, of which two are the same
pub record AreFoldersTwice (ws : List (List ℕ)) : Type 0 where
  pub given : List Want
  pub are : AreFolders ws given
  pub few : length given ≤ 16
  pub twice : IsDistinct folder_eq (folders given) → ⊥

-- more than 16 folders
pub record AreManyFolders (ws : List (List ℕ)) : Type 0 where
  pub given : List Want
  pub are : AreFolders ws given
  pub many : 16 < length given

-- what was left, and the slots don't rise
pub record AreFallingLefts (ws : List (List ℕ)) : Type 0 where
  pub lefts : List Left
  pub each : All IsLeft lefts
  pub text : ws ≡ map left_text lefts
  pub falling : IsStrictlySortedBy slot_cmp (left_slots lefts) → ⊥

-- why the words behind a verb say no event
abbrev pub IsFormFault : Verb → List (List ℕ) → FormFault → Type 0
IsFormFault verb ws (BadWord index kind fault) = IsFirstBad verb ws index kind fault
IsFormFault verb ws (ExtraWord index) = IsFirstExtra verb ws index
IsFormFault verb ws MissingWord = IsTooShort verb ws
IsFormFault verb ws TooManyFolders = (verb ≡ Ask) × Fit verb ws × AreManyFolders (drop 1 ws)
IsFormFault verb ws SameFolderTwice = (verb ≡ Ask) × Fit verb ws × AreFoldersTwice (drop 1 ws)
IsFormFault verb ws SlotsDontRise = (verb ≡ Finish) × Fit verb ws × AreFallingLefts (drop 2 ws)

-- the first word is this verb, and those behind it say no event, for this reason
pub record HasFormFault (ws : List (List ℕ)) (verb : Verb) (fault : FormFault) : Type 0 where
  pub behind : List (List ℕ)
  pub text : ws ≡ verb_text verb ∷ behind
  pub why : IsFormFault verb behind fault

-- why the words of a line spell no event
abbrev pub IsWordsFault : List (List ℕ) → LineFault → Type 0
IsWordsFault ws NoEvent = (verb : Verb) (behind : List (List ℕ)) → ws ≢ verb_text verb ∷ behind
IsWordsFault ws (Form verb fault) = HasFormFault ws verb fault
IsWordsFault ws fault = ⊥

-- how the words of a line are parted otherwise than by one space
abbrev pub IsMisspaced : List ℕ → Spacing → Type 0
IsMisspaced line CarriageReturn = (front : List ℕ) × (line ≡ front ++ codes "\r")
IsMisspaced line Tab = Contains line 9
IsMisspaced line ExtraSpace = (line ≢ []) × Contains (words line) []

-- the first of these that holds, if one does
abbrev pub IsSpacing : List ℕ → Option Spacing → Type 0
IsSpacing line None = (spacing : Spacing) → IsMisspaced line spacing → ⊥
IsSpacing line (Some CarriageReturn) = IsMisspaced line CarriageReturn
IsSpacing line (Some Tab) = IsMisspaced line Tab × (IsMisspaced line CarriageReturn → ⊥)
IsSpacing line (Some ExtraSpace) = IsMisspaced line ExtraSpace × (IsMisspaced line CarriageReturn → ⊥)
    × (IsMisspaced line Tab → ⊥)

-- why the line of this number can't be read
abbrev pub IsLineFault : ℕ → List ℕ → LineFault → Type 0
IsLineFault number line NotUtf8 = IsUtf8 line → ⊥
IsLineFault number line (fault.Spacing spacing) = IsSpacing line (Some spacing)
IsLineFault number line NoSetup = (number ≡ 1) × IsSpacing line None
IsLineFault number line fault = (number ≢ 1) × IsSpacing line None × IsWordsFault (words line) fault

-- the line of this number can't be read, and this is why
pub record IsFaultOf (number : ℕ) (line : List ℕ) (fault : LineFault) : Type 0 where
  pub unread : IsRead number line → ⊥
  pub why : IsLineFault number line fault
