-- The line of a message, without its end: what goes between a node and the coordinator is sealed under the key of that node
-- (this project's own).
use Rattle.std.specs.Prelude.{◌≡◌, ◌≢◌, ℕ, ◌*◌, ◌^◌, ◌<◌, ◌≤◌, ◌⊎◌, List, ◌∷◌, ◌++◌, codes, length, Option, Some, None}
use Rattle.std.specs.Str.{IsUtf8}
use Rattle.farm_base.specs.declared.message.Message.{Message}
use Rattle.farmwire.specs.declared.refusal.LineFault.{LineFault}
use Rattle.farmwire.specs.declared.refusal.LineFault.TheVariants.{TooLong, BadMac, BadForm, OutOfMemory}
use Rattle.farmwire.specs.Lawful.{IsLawful, IsNode}
use Rattle.farmwire.specs.Lines.{message_text}
use Rattle.names.specs.Decimals.{Lacks}
use Rattle.names.specs.declared.number.NodeId.{NodeId}
use Rattle.protocol.specs.Hostile.{key_of}
pub use Rattle.seals.specs.Keyrings.{Keys, HasMac, key_in}
use Rattle.words.specs.Words.{node_text}

-- the line is the text of a lawful message
pub record IsSpelled (line : List ℕ) (m : Message) : Type 0 where
  pub lawful : IsLawful m
  pub text : line ≡ message_text m

-- with its end the line is at most 24 MiB long
abbrev pub IsShort : List ℕ → Type 0
IsShort line = length line < 24 * 2 ^ 20

-- a text under no key: a dash stands where a MAC would
abbrev pub unsealed : List ℕ → List ℕ
unsealed text = text ++ codes " -"

-- the line is this text under the key of the node, or under none
abbrev pub IsUnder : Keys → Option NodeId → List ℕ → List ℕ → Type 0
IsUnder keys (Some node) text line = HasMac keys node text line
IsUnder keys None text line = line ≡ unsealed text

-- the line is that of a lawful message
pub record IsSealed (keys : Keys) (line : List ℕ) (m : Message) : Type 0 where
  pub short : IsShort line
  pub lawful : IsLawful m
  pub text : IsUnder keys (key_of m) (message_text m) line

-- ---- lines that are none

-- the second word of the text is the number of this node of a farm, and there are more behind it
pub record Names (text : List ℕ) (node : NodeId) : Type 0 where
  pub verb : List ℕ
  pub behind : List ℕ
  pub utf8 : IsUtf8 text
  pub is_node : IsNode node
  pub first : Lacks 32 verb
  pub text_is : text ≡ verb ++ 32 ∷ (node_text node ++ 32 ∷ behind)

-- the line has the MAC of this text, under the key of the node that the text names
pub record IsGenuine (keys : Keys) (line text : List ℕ) : Type 0 where
  pub node : NodeId
  pub named : Names text node
  pub sealed : HasMac keys node text line

-- the line has this fault, and none that comes before it
abbrev pub IsFault : Keys → List ℕ → LineFault → Type 0
IsFault keys line TooLong = 24 * 2 ^ 20 ≤ length line
IsFault keys line BadMac = IsShort line × ((text : List ℕ) → line ≢ unsealed text)
    × ((text : List ℕ) → IsGenuine keys line text → ⊥)
IsFault keys line BadForm = IsShort line × (text : List ℕ) × ((line ≡ unsealed text) ⊎ IsGenuine keys line text)
    × ((m : Message) → IsSealed keys line m → ⊥)
IsFault keys line OutOfMemory = IsShort line
