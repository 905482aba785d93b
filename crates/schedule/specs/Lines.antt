-- The lines of a schedule's events. Each event has one line, except that its wants may stand in any order.
use Rattle.std.specs.Prelude.{◌≡◌, ℕ, ◌<◌, ◌^◌, List, [], ◌∷◌, map, codes, decimal, IsPermutation}
use Rattle.std.specs.List.{All, join_with_byte}
use Rattle.std.specs.List.Sorted.{IsStrictlySortedBy}
use Rattle.hex.specs.Hex.{IsBytes, encode_lower}
pub use Rattle.protocol.specs.Nodes.{Left}
use Rattle.names.specs.Digests.{IsDigest}
use Rattle.names.specs.declared.folder.Mode.TheVariants.{Shared}
use Rattle.farm_base.specs.declared.want.Want.{Want}
use Rattle.names.specs.Names.{folder_text, slot_text, IsName, IsSlot}
use Rattle.names.specs.Slots.{SlotParts, slot_cmp}
use Rattle.words.specs.Words.{node_text, ticket_text, digits_text, want_text, slot_with, IsNode, IsTicket, AreWants}
use Rattle.events.specs.declared.answer.Kept.{Kept}
use Rattle.events.specs.declared.answer.Kept.TheVariants.{Old, New}
use Rattle.events.specs.declared.event.Event.{Event}
use Rattle.events.specs.declared.event.Event.TheVariants.{Ask, Tenure, Deliver, Begin, Finish, Abort, Resend, Nudge, Withdraw, Prune, Retire, RestartNode, RestartCoordinator, Forge, Forget, FailSave}

-- ---- words

-- no digit is `=`, so the last `=` separates the slot from the content's digits, which are lower case
abbrev pub left_text : Left → List ℕ
left_text left = slot_with left.slot (encode_lower left.content)

pub record IsLeft (left : Left) : Type 0 where
  pub slot : IsSlot left.slot
  pub content : IsBytes left.content

-- what the record holds after a save that failed: what it held before, or what was to be saved
abbrev pub kept_text : Kept → List ℕ
kept_text Old = codes "old"
kept_text New = codes "new"

-- what was left, by rising slot
abbrev pub left_slots : List Left → List SlotParts
left_slots lefts = map (λ left. left.slot) lefts

abbrev pub AreLefts : List Left → Type 0
AreLefts lefts = All IsLeft lefts × IsStrictlySortedBy slot_cmp (left_slots lefts)

-- ---- events

-- the words of an event's line
abbrev pub event_words : Event → List (List ℕ)
event_words (Ask n wants) = codes "ask" ∷ node_text n ∷ map want_text wants
event_words (Tenure n folder) = codes "tenure" ∷ node_text n ∷ folder_text folder ∷ []
event_words (Deliver number) = codes "deliver" ∷ decimal number ∷ []
event_words (Begin n t) = codes "begin" ∷ node_text n ∷ ticket_text t ∷ []
event_words (Finish n t lefts) = codes "finish" ∷ node_text n ∷ ticket_text t ∷ map left_text lefts
event_words (Abort n t) = codes "abort" ∷ node_text n ∷ ticket_text t ∷ []
event_words (Resend n) = codes "resend" ∷ node_text n ∷ []
event_words Nudge = codes "nudge" ∷ []
event_words (Withdraw t) = codes "withdraw" ∷ ticket_text t ∷ []
event_words (Prune slot) = codes "prune" ∷ slot_text slot ∷ []
event_words (Retire n) = codes "retire" ∷ node_text n ∷ []
event_words (RestartNode n) = codes "restart" ∷ node_text n ∷ []
event_words RestartCoordinator = codes "restart" ∷ codes "coordinator" ∷ []
event_words (Forge n content) = codes "forge" ∷ node_text n ∷ encode_lower content ∷ []
event_words (Forget n digest) = codes "forget" ∷ node_text n ∷ digits_text digest ∷ []
event_words (FailSave kept) = codes "fail" ∷ kept_text kept ∷ []

-- the words, separated by spaces
abbrev pub event_text : Event → List ℕ
event_text e = join_with_byte 32 (event_words e)

-- holds of each event of a schedule
abbrev pub IsEvent : Event → Type 0
IsEvent (Ask n wants) = IsNode n × AreWants wants
IsEvent (Tenure n folder) = IsNode n × IsName folder × (folder.mode ≡ Shared)
IsEvent (Deliver number) = number < 2 ^ 64
IsEvent (Begin n t) = IsNode n × IsTicket t
IsEvent (Finish n t lefts) = IsNode n × IsTicket t × AreLefts lefts
IsEvent (Abort n t) = IsNode n × IsTicket t
IsEvent (Resend n) = IsNode n
IsEvent Nudge = Unit {0}
IsEvent (Withdraw t) = IsTicket t
IsEvent (Prune slot) = IsSlot slot
IsEvent (Retire n) = IsNode n
IsEvent (RestartNode n) = IsNode n
IsEvent RestartCoordinator = Unit {0}
IsEvent (Forge n content) = IsNode n × IsBytes content
IsEvent (Forget n digest) = IsNode n × IsDigest digest
IsEvent (FailSave kept) = Unit {0}

-- the line is the event's text, with its wants in some order
abbrev pub IsTextOf : Event → List ℕ → Type 0
IsTextOf (Ask n wants) line = (given : List Want) × IsPermutation given wants × (line ≡ event_text (Ask n given))
IsTextOf e line = line ≡ event_text e

-- the line spells the event
pub record IsSpelled (line : List ℕ) (e : Event) : Type 0 where
  pub lawful : IsEvent e
  pub text : IsTextOf e line
