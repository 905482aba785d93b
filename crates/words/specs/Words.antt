-- The words of a text, and what single words spell (this project's own). A value has one spelling.
use Rattle.std.specs.Prelude.{◌≡◌, ℕ, ◌<◌, ◌^◌, ◌==◌, Bool, true, false, List, ◌∷◌, [], ◌++◌, map, codes, decimal, IsPermutation}
use Rattle.std.specs.List.{All, slice_split}
use Rattle.std.specs.Borrow.{Bor}
use Rattle.hex.specs.Hex.{encode_lower}
use Rattle.names.specs.declared.digest.Digest.{Digest}
use Rattle.farm_base.specs.declared.message.Why.{Why}
use Rattle.farm_base.specs.declared.message.Why.TheVariants.{InstancesSpent, TicketsSpent}
use Rattle.names.specs.declared.number.NodeId.{NodeId}
use Rattle.names.specs.declared.number.Ticket.{Ticket}
use Rattle.farm_base.specs.declared.want.Want.{Want}
use Rattle.names.specs.Names.{folder_text, slot_text, IsName}
use Rattle.names.specs.Slots.{SlotParts}
use Rattle.farm_base.specs.Wanted.{IsWants}

-- the words of a text: what stands between its spaces
abbrev pub words : List ℕ → List (List ℕ)
words text = slice_split (λ b. b == 32) text

-- the words as texts, wherever they lie in memory
abbrev pub texts : List (Bor (List ℕ)) → List (List ℕ)
texts ws = map (λ w. w.now) ws

-- ---- single words

-- N
abbrev pub node_text : NodeId → List ℕ
node_text node = decimal node.0

-- T
abbrev pub ticket_text : Ticket → List ℕ
ticket_text ticket = decimal ticket.0

-- holds of each node and each ticket of the program
abbrev pub IsNode : NodeId → Type 0
IsNode node = node.0 < 2 ^ 32

abbrev pub IsTicket : Ticket → Type 0
IsTicket ticket = ticket.0 < 2 ^ 64

-- DIGEST: 64 lower-case digits
abbrev pub digits_text : Digest → List ℕ
digits_text digest = encode_lower digest.0

-- why an ask is denied
abbrev pub why_text : Why → List ℕ
why_text InstancesSpent = codes "InstancesSpent"
why_text TicketsSpent = codes "TicketsSpent"

-- SLOT=..; what stands behind it has no `=`, so the slot ends at the last `=` of the word
abbrev pub slot_with : SlotParts → List ℕ → List ℕ
slot_with slot behind = slot_text slot ++ 61 ∷ behind

-- ---- wants

-- `ro=` stands before what is only read
abbrev pub access_text : Bool → List ℕ
access_text true = []
access_text false = codes "ro="

-- [ro=]FOLDER
abbrev pub want_text : Want → List ℕ
want_text want = access_text want.writable ++ folder_text want.folder

-- holds of each want of the program
abbrev pub IsWant : Want → Type 0
IsWant want = IsName want.folder

-- at most 16 folders, rising
abbrev pub AreWants : List Want → Type 0
AreWants wants = All IsWant wants × IsWants wants

-- FOLDER.., in any order: the wants by rising folder
pub record SpellGiven (ws : List (List ℕ)) (wants : List Want) : Type 0 where
  pub given : List Want
  pub each : All IsWant given
  pub text : ws ≡ map want_text given
  pub sorted : IsPermutation given wants
  pub lawful : IsWants wants
