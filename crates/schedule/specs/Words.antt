-- What the words of a line say: a verb, and after it what the verb takes.
use Rattle.std.specs.Prelude.{◌≡◌, ◌⊎◌, ℕ, ◌<◌, ◌^◌, List, [], ◌∷◌, map, codes, decimal}
use Rattle.std.specs.List.{All}
use Rattle.std.specs.List.Sorted.{IsStrictlySortedBy}
use Rattle.hex.specs.Hex.{IsBytes, encode_lower}
use Rattle.names.specs.Digests.{IsDigest}
use Rattle.names.specs.declared.digest.Digest.{Digest}
use Rattle.names.specs.declared.folder.FolderName.{FolderName}
use Rattle.names.specs.declared.folder.Mode.TheVariants.{Shared}
use Rattle.names.specs.declared.number.NodeId.{NodeId}
use Rattle.names.specs.declared.number.Ticket.{Ticket}
use Rattle.farm_base.specs.declared.want.Want.{Want}
use Rattle.names.specs.Names.{folder_text, slot_text, IsName, IsSlot}
use Rattle.names.specs.Slots.{SlotParts, slot_cmp}
use Rattle.events.specs.declared.answer.Kept.{Kept}
use Rattle.events.specs.declared.event.Event.{Event}
use Rattle.events.specs.declared.event.Event.TheVariants as event
use Rattle.words.specs.Words.{SpellGiven, node_text, ticket_text, digits_text, IsNode, IsTicket}
use Rattle.schedule.specs.declared.verb.Verb.{Verb}
use Rattle.schedule.specs.declared.verb.Verb.TheVariants.{Ask, Tenure, Deliver, Begin, Finish, Abort, Resend, Restart, Forge, Forget, Nudge, Withdraw, Prune, Retire, Fail}
use Rattle.schedule.specs.Lines.{kept_text, left_text, left_slots, IsLeft, Left}

abbrev pub verb_text : Verb → List ℕ
verb_text Ask = codes "ask"
verb_text Tenure = codes "tenure"
verb_text Deliver = codes "deliver"
verb_text Begin = codes "begin"
verb_text Finish = codes "finish"
verb_text Abort = codes "abort"
verb_text Resend = codes "resend"
verb_text Restart = codes "restart"
verb_text Forge = codes "forge"
verb_text Forget = codes "forget"
verb_text Nudge = codes "nudge"
verb_text Withdraw = codes "withdraw"
verb_text Prune = codes "prune"
verb_text Retire = codes "retire"
verb_text Fail = codes "fail"

-- SLOT=HEX..: the slots rise
pub record SpellLefts (ws : List (List ℕ)) (lefts : List Left) : Type 0 where
  pub each : All IsLeft lefts
  pub text : ws ≡ map left_text lefts
  pub rising : IsStrictlySortedBy slot_cmp (left_slots lefts)

-- ---- what the words after a verb say

-- N FOLDER..
pub record Asks (ws : List (List ℕ)) (e : Event) : Type 0 where
  pub node : NodeId
  pub folders : List (List ℕ)
  pub wants : List Want
  pub is_node : IsNode node
  pub spelled : SpellGiven folders wants
  pub text : ws ≡ node_text node ∷ folders
  pub event : e ≡ event.Ask node wants

-- N FOLDER, which is SHARED
pub record AsksTenure (ws : List (List ℕ)) (e : Event) : Type 0 where
  pub node : NodeId
  pub folder : FolderName
  pub is_node : IsNode node
  pub is_name : IsName folder
  pub shared : folder.mode ≡ Shared
  pub text : ws ≡ node_text node ∷ folder_text folder ∷ []
  pub event : e ≡ event.Tenure node folder

-- K
pub record Delivers (ws : List (List ℕ)) (e : Event) : Type 0 where
  pub number : ℕ
  pub fits : number < 2 ^ 64
  pub text : ws ≡ decimal number ∷ []
  pub event : e ≡ event.Deliver number

-- N
pub record OfNode (make : NodeId → Event) (ws : List (List ℕ)) (e : Event) : Type 0 where
  pub node : NodeId
  pub is_node : IsNode node
  pub text : ws ≡ node_text node ∷ []
  pub event : e ≡ make node

-- N T
pub record OfLease (make : NodeId → Ticket → Event) (ws : List (List ℕ)) (e : Event) : Type 0 where
  pub node : NodeId
  pub ticket : Ticket
  pub is_node : IsNode node
  pub is_ticket : IsTicket ticket
  pub text : ws ≡ node_text node ∷ ticket_text ticket ∷ []
  pub event : e ≡ make node ticket

-- N T SLOT=HEX..
pub record Finishes (ws : List (List ℕ)) (e : Event) : Type 0 where
  pub node : NodeId
  pub ticket : Ticket
  pub slots : List (List ℕ)
  pub lefts : List Left
  pub is_node : IsNode node
  pub is_ticket : IsTicket ticket
  pub spelled : SpellLefts slots lefts
  pub text : ws ≡ node_text node ∷ ticket_text ticket ∷ slots
  pub event : e ≡ event.Finish node ticket lefts

-- N HEX
pub record Forges (ws : List (List ℕ)) (e : Event) : Type 0 where
  pub node : NodeId
  pub content : List ℕ
  pub is_node : IsNode node
  pub is_content : IsBytes content
  pub text : ws ≡ node_text node ∷ encode_lower content ∷ []
  pub event : e ≡ event.Forge node content

-- N DIGEST
pub record Forgets (ws : List (List ℕ)) (e : Event) : Type 0 where
  pub node : NodeId
  pub digest : Digest
  pub is_node : IsNode node
  pub is_digest : IsDigest digest
  pub text : ws ≡ node_text node ∷ digits_text digest ∷ []
  pub event : e ≡ event.Forget node digest

-- `coordinator`
pub record RestartsCoordinator (ws : List (List ℕ)) (e : Event) : Type 0 where
  pub text : ws ≡ codes "coordinator" ∷ []
  pub event : e ≡ event.RestartCoordinator

-- N or `coordinator`
abbrev pub Restarts : List (List ℕ) → Event → Type 0
Restarts ws e = OfNode event.RestartNode ws e ⊎ RestartsCoordinator ws e

-- nothing
pub record Nudges (ws : List (List ℕ)) (e : Event) : Type 0 where
  pub text : ws ≡ []
  pub event : e ≡ event.Nudge

-- T
pub record Withdraws (ws : List (List ℕ)) (e : Event) : Type 0 where
  pub ticket : Ticket
  pub is_ticket : IsTicket ticket
  pub text : ws ≡ ticket_text ticket ∷ []
  pub event : e ≡ event.Withdraw ticket

-- SLOT
pub record Prunes (ws : List (List ℕ)) (e : Event) : Type 0 where
  pub slot : SlotParts
  pub is_slot : IsSlot slot
  pub text : ws ≡ slot_text slot ∷ []
  pub event : e ≡ event.Prune slot

-- `old` or `new`
pub record Fails (ws : List (List ℕ)) (e : Event) : Type 0 where
  pub kept : Kept
  pub text : ws ≡ kept_text kept ∷ []
  pub event : e ≡ event.FailSave kept

-- the words after the verb say this event
abbrev pub Says : Verb → List (List ℕ) → Event → Type 0
Says Ask = Asks
Says Tenure = AsksTenure
Says Deliver = Delivers
Says Begin = OfLease event.Begin
Says Finish = Finishes
Says Abort = OfLease event.Abort
Says Resend = OfNode event.Resend
Says Restart = Restarts
Says Forge = Forges
Says Forget = Forgets
Says Nudge = Nudges
Says Withdraw = Withdraws
Says Prune = Prunes
Says Retire = OfNode event.Retire
Says Fail = Fails

-- the words of a line spell this event
pub record SpelledBy (ws : List (List ℕ)) (e : Event) : Type 0 where
  pub verb : Verb
  pub behind : List (List ℕ)
  pub text : ws ≡ verb_text verb ∷ behind
  pub says : Says verb behind e
