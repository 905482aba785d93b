-- What the text of a schedule says: a farm's setup and its events, or the first fault from the top.
use Rattle.std.specs.Prelude.{◌≡◌, ◌≢◌, ℕ, ◌+◌, ◌*◌, ◌^◌, ◌<◌, ◌≤◌, ◌==◌, Bool, true, false, List, [], ◌∷◌, ◌++◌, length, filter, codes, decimal}
use Rattle.std.specs.List.{AllZip, slice_split}
pub use Rattle.names.specs.declared.limits.TheConstants.{EVENTS, NODES}
use Rattle.events.specs.declared.event.Event.{Event}
use Rattle.schedule.specs.declared.setup.Setup.{Setup}
use Rattle.schedule.specs.declared.refusal.ScheduleRefusal.{ScheduleRefusal}
use Rattle.schedule.specs.declared.refusal.ScheduleRefusal.TheVariants.{BadLine, TooManyEvents, OutOfMemory, TooLarge}
use Rattle.schedule.specs.Lines.{IsSpelled}

-- 16 MiB
abbrev pub most_bytes : ℕ
most_bytes = 16 * 2 ^ 20

-- the lines of a text: what stands between its line feeds
abbrev pub lines : List ℕ → List (List ℕ)
lines text = slice_split (λ b. b == 10) text

abbrev pub is_filled : List ℕ → Bool
is_filled [] = false
is_filled (b ∷ line) = true

-- the lines that aren't empty
abbrev pub filled : List (List ℕ) → List (List ℕ)
filled ls = filter is_filled ls

-- `nodes N`
pub record IsSetup (line : List ℕ) (setup : Setup) : Type 0 where
  pub some : 1 ≤ setup.nodes
  pub few : setup.nodes ≤ NODES
  pub text : line ≡ codes "nodes " ++ decimal setup.nodes

-- each line that isn't empty spells an event, and there are at most EVENTS
pub record AreEvents (ls : List (List ℕ)) (events : List Event) : Type 0 where
  pub few : length events ≤ EVENTS
  pub spelled : AllZip IsSpelled (filled ls) events

-- the lines say the setup, and these events
abbrev pub Say : List (List ℕ) → Setup → List Event → Type 0
Say [] setup events = ⊥
Say (first ∷ others) setup events = IsSetup first setup × AreEvents others events

-- the text says the setup, and these events
pub record IsSchedule (text : List ℕ) (setup : Setup) (events : List Event) : Type 0 where
  pub small : length text ≤ most_bytes
  pub say : Say (lines text) setup events

-- P holds of one of these lines and the lines before it
pub record HasLine (ls : List (List ℕ)) (P : List (List ℕ) → List ℕ → Type 0) : Type 0 where
  pub front : List (List ℕ)
  pub line : List ℕ
  pub behind : List (List ℕ)
  pub split : ls ≡ front ++ line ∷ behind
  pub holds : P front line

-- after these lines of events, where there is room for one more, a line spells none
pub record IsNoEventBehind (others : List (List ℕ)) (line : List ℕ) : Type 0 where
  pub events : List Event
  pub before : AreEvents others events
  pub room : length events < EVENTS
  pub filled : line ≢ []
  pub unspelled : (e : Event) → IsSpelled line e → ⊥

-- after these lines of events a line would be one event too many
pub record IsTooManyBehind (others : List (List ℕ)) (line : List ℕ) : Type 0 where
  pub events : List Event
  pub before : AreEvents others events
  pub full : length events ≡ EVENTS
  pub filled : line ≢ []

-- the first line is a setup, and P holds of a line and the others before it
abbrev pub BehindSetup : (List (List ℕ) → List ℕ → Type 0) → List (List ℕ) → List ℕ → Type 0
BehindSetup P [] line = ⊥
BehindSetup P (first ∷ others) line = (setup : Setup) × IsSetup first setup × P others line

-- the line can't be read, and those before it can
abbrev pub IsBadBehind : List (List ℕ) → List ℕ → Type 0
IsBadBehind [] line = (setup : Setup) → IsSetup line setup → ⊥
IsBadBehind (first ∷ others) line = BehindSetup IsNoEventBehind (first ∷ others) line

-- why the text is refused: its first fault. Lines are counted from 1; memory may run out at any text
abbrev pub IsRefused : List ℕ → ScheduleRefusal → Type 0
IsRefused text TooLarge = most_bytes < length text
IsRefused text (BadLine number) = (length text ≤ most_bytes)
    × HasLine (lines text) (λ front line. (number ≡ length front + 1) × IsBadBehind front line)
IsRefused text TooManyEvents = (length text ≤ most_bytes) × HasLine (lines text) (BehindSetup IsTooManyBehind)
IsRefused text OutOfMemory = Unit {0}
