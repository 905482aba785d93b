-- What a text says to others (this project's own).
use Rattle.std.specs.Prelude.{◌≡◌, ◌≢◌, ◌⊎◌, ℕ, List, [], ◌∷◌, ◌++◌}
use Rattle.names.specs.Decimals.{Lacks}
use Rattle.farm_base.specs.declared.message.Message.{Message}
use Rattle.farmwire.specs.Sealed.{IsSealed, Keys}
use Rattle.protocol.specs.Lists.{In}
use Rattle.services.specs.Lines.{lines_behind}
use Rattle.services.specs.Outside.{from_outside, IsSent}

-- a line that nobody takes for a message: it doesn't begin with `m`, and its only LF ends it
pub record IsNote (line : List ℕ) : Type 0 where
  pub mark : ℕ
  pub rest : List ℕ
  pub other : mark ≢ 109
  pub one : Lacks 10 (mark ∷ rest)
  pub line_is : line ≡ mark ∷ rest ++ 10 ∷ []

-- the text has the sealed lines of these messages, in their order, and notes, and nothing else
pub data Says (keys : Keys) : List Message → List ℕ → Type 0 where
  Says_nothing : Says keys [] []
  Says_message : (message : Message) (messages : List Message) (text more : List ℕ) → IsSent keys message text
      → Says keys messages more → Says keys (message ∷ messages) (text ++ more)
  Says_note : (messages : List Message) (line more : List ℕ) → IsNote line → Says keys messages more
      → Says keys messages (line ++ more)

-- one of its lines is for others, and this stands in it
abbrev pub Offers : List ℕ → List ℕ → Type 0
Offers text sealed = In (from_outside sealed) (lines_behind [] text)

-- what opens in one of these lines from outside is a message that was written
abbrev pub AreOfTheFarm : Keys → List (List ℕ) → List Message → Type 0
AreOfTheFarm keys lines written = (sealed : List ℕ) (message : Message) → In (from_outside sealed) lines
    → IsSealed keys sealed message → In message written

-- it stands in one of these texts, or is one of these messages, which others wrote under the keys that they have
abbrev pub AreWritten : Keys → List (List ℕ) → List (List ℕ) → List Message → Type 0
AreWritten keys lines texts forged = (sealed : List ℕ) (message : Message) → In (from_outside sealed) lines
    → IsSealed keys sealed message
    → ((text : List ℕ) × In text texts × Offers text sealed) ⊎ In message forged
