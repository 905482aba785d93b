-- How the line of each event is written: what the words behind its verb stand for.
use Rattle.std.specs.Prelude.{◌≡◌, ◌⊎◌, ℕ, ◌<◌, ◌≤◌, ◌^◌, List, [], ◌∷◌, Option, Some, None, map, length, codes, decimal, slice_index_or}
use Rattle.hex.specs.Hex.{IsBytes, encode_lower}
use Rattle.names.specs.Digests.{IsDigest}
use Rattle.names.specs.declared.folder.FolderName.{FolderName}
use Rattle.names.specs.declared.folder.Mode.TheVariants.{Shared}
use Rattle.names.specs.Names.{folder_text, slot_text, IsName, IsSlot}
use Rattle.words.specs.Words.{words, node_text, ticket_text, digits_text, want_text, IsNode, IsTicket, IsWant}
use Rattle.schedule.specs.declared.verb.Verb.{Verb}
use Rattle.schedule.specs.declared.verb.Verb.TheVariants.{Ask, Tenure, Deliver, Begin, Finish, Abort, Resend, Restart, Forge, Forget, Nudge, Withdraw, Prune, Retire, Fail}
use Rattle.schedule.specs.declared.verb.Wanted.{Wanted}
use Rattle.schedule.specs.declared.verb.Wanted.TheVariants as wanted
use Rattle.schedule.specs.Lines.{kept_text, left_text, IsLeft}
use Rattle.schedule.specs.Words.{verb_text}

-- ---- words

-- the word is the text of a lawful value
abbrev pub IsTextOfSome : {X : Type 0} → (X → Type 0) → (X → List ℕ) → List ℕ → Type 0
IsTextOfSome {X} IsLawful text word = (x : X) × IsLawful x × (word ≡ text x)

-- holds of each value whose type says enough
abbrev pub IsAny : {X : Type 0} → X → Type 0
IsAny x = Unit {0}

-- the name of a SHARED folder
abbrev pub IsSharedName : FolderName → Type 0
IsSharedName folder = IsName folder × (folder.mode ≡ Shared)

-- holds of each number of a message
abbrev pub IsMessage : ℕ → Type 0
IsMessage number = number < 2 ^ 64

-- the word stands for what is wanted
abbrev pub StandsFor : Wanted → List ℕ → Type 0
StandsFor wanted.Node word = IsTextOfSome IsNode node_text word
StandsFor wanted.NodeOrCoordinator word = IsTextOfSome IsNode node_text word ⊎ (word ≡ codes "coordinator")
StandsFor wanted.Message word = IsTextOfSome IsMessage decimal word
StandsFor wanted.Ticket word = IsTextOfSome IsTicket ticket_text word
StandsFor wanted.Folder word = IsTextOfSome IsWant want_text word
StandsFor wanted.SharedFolder word = IsTextOfSome IsSharedName folder_text word
StandsFor wanted.Slot word = IsTextOfSome IsSlot slot_text word
StandsFor wanted.Left word = IsTextOfSome IsLeft left_text word
StandsFor wanted.Content word = IsTextOfSome IsBytes encode_lower word
StandsFor wanted.Digest word = IsTextOfSome IsDigest digits_text word
StandsFor wanted.Kept word = IsTextOfSome IsAny kept_text word

-- ---- lines

-- what the words behind a verb stand for
abbrev pub first_words : Verb → List Wanted
first_words Ask = wanted.Node ∷ []
first_words Tenure = wanted.Node ∷ wanted.SharedFolder ∷ []
first_words Deliver = wanted.Message ∷ []
first_words Begin = wanted.Node ∷ wanted.Ticket ∷ []
first_words Finish = wanted.Node ∷ wanted.Ticket ∷ []
first_words Abort = wanted.Node ∷ wanted.Ticket ∷ []
first_words Resend = wanted.Node ∷ []
first_words Restart = wanted.NodeOrCoordinator ∷ []
first_words Forge = wanted.Node ∷ wanted.Content ∷ []
first_words Forget = wanted.Node ∷ wanted.Digest ∷ []
first_words Nudge = []
first_words Withdraw = wanted.Ticket ∷ []
first_words Prune = wanted.Slot ∷ []
first_words Retire = wanted.Node ∷ []
first_words Fail = wanted.Kept ∷ []

-- what further words stand for, if there may be some
abbrev pub further_words : Verb → Option Wanted
further_words Ask = Some wanted.Folder
further_words Finish = Some wanted.Left
further_words verb = None

-- what the word at this index behind the verb stands for, if there may be one
abbrev pub wanted_at : Verb → ℕ → Option Wanted
wanted_at verb index = slice_index_or (map Some (first_words verb)) index (further_words verb)

-- the word stands for what is wanted there
abbrev pub Fits : Option Wanted → List ℕ → Type 0
Fits None word = ⊥
Fits (Some wanted) word = StandsFor wanted word

-- the first `count` words behind the verb stand for what is wanted there
abbrev pub FitUpTo : Verb → List (List ℕ) → ℕ → Type 0
FitUpTo verb ws count = (k : ℕ) (d : List ℕ) → k < count → Fits (wanted_at verb k) (slice_index_or ws k d)

-- each word stands for what is wanted there, and there are enough
pub record Fit (verb : Verb) (ws : List (List ℕ)) : Type 0 where
  pub each : FitUpTo verb ws (length ws)
  pub enough : length (first_words verb) ≤ length ws

-- the line is written as the form of its verb says
pub record IsOfForm (line : List ℕ) : Type 0 where
  pub verb : Verb
  pub behind : List (List ℕ)
  pub text : words line ≡ verb_text verb ∷ behind
  pub fit : Fit verb behind
