-- What goes between a process and others, a line each with `m ` at its front (this project's own).
use Rattle.std.specs.Prelude.{◌≡◌, ℕ, List, [], ◌∷◌, ◌++◌, codes}
use Rattle.farmwire.specs.Sealed.{IsSealed, Keys}
use Rattle.protocol.specs.Machine.{Message}
use Rattle.services.specs.Served.{joined}

-- a line from outside
abbrev pub from_outside : List ℕ → List ℕ
from_outside sealed = codes "m " ++ sealed

-- a line to others, with its end
abbrev pub message_line : List ℕ → List ℕ
message_line line = codes "m " ++ (line ++ codes "\n")

abbrev pub HasNoLine : Keys → Message → Type 0
HasNoLine keys message = (line : List ℕ) → IsSealed keys line message → ⊥

-- what is written of a message: its sealed line; or nothing where it has none, as if the network had lost it
pub data IsSent (keys : Keys) (message : Message) (text : List ℕ) : Type 0 where
  Sealed : (line : List ℕ) → IsSealed keys line message → text ≡ message_line line → IsSent keys message text
  Unsent : HasNoLine keys message → text ≡ [] → IsSent keys message text

-- behind what was written before, this message is
pub record Adds (keys : Keys) (message : Message) (before after : List ℕ) : Type 0 where
  pub text : List ℕ
  pub sent : IsSent keys message text
  pub written : after ≡ before ++ text

-- what is written of these messages, in order
abbrev pub AreSent : Keys → List Message → List (List ℕ) → Type 0
AreSent keys [] [] = Unit {0}
AreSent keys [] (text ∷ texts) = ⊥
AreSent keys (message ∷ messages) [] = ⊥
AreSent keys (message ∷ messages) (text ∷ texts) = IsSent keys message text × AreSent keys messages texts

-- behind what was written before, these messages are
pub record Sends (keys : Keys) (messages : List Message) (before after : List ℕ) : Type 0 where
  pub texts : List (List ℕ)
  pub each : AreSent keys messages texts
  pub written : after ≡ before ++ joined texts
