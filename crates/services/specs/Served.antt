-- What a process writes: its greeting, and the answer to each whole line (this project's own).
use Rattle.std.specs.Prelude.{◌≡◌, ℕ, List, [], ◌∷◌, ◌++◌, ◌⊎◌, codes, map, Option, Result, Ok, Err, ⊤}
use Rattle.std.specs.String.{string_bytes}
use Rattle.std.specs.declared.alloc.AllocError.{AllocError}
use Rattle.std.specs.declared.alloc.Global.{Global}
use Rattle.std.specs.declared.string.String.{String}
use Rattle.std.specs.Io.KnownBytes.{Appends}
use Rattle.events.specs.declared.answer.CoordRefusal.{CoordRefusal}
use Rattle.schedule.specs.RefusalNames.{coord_refusal_text}
use Rattle.services.specs.declared.lost.Lost.{Lost}
use Rattle.services.specs.declared.settled.Settled.{Settled}
use Rattle.services.specs.declared.settled.Settled.TheVariants.{Lasts, Failed}
use Rattle.services.specs.Buffers.{BufferParts, HasRead, IsKept}
use Rattle.services.specs.Lines.{lines_behind}

-- what is answered where memory ran out
abbrev pub out_of_memory : List ℕ
out_of_memory = codes "= refused OutOfMemory\n"

-- the fact of a restart
abbrev pub restart_line : Result ⊤ CoordRefusal → List ℕ
restart_line (Ok done) = codes ": restarted\n"
restart_line (Err refusal) = codes ": down " ++ (coord_refusal_text refusal ++ codes "\n")

-- what is answered where a save fails
abbrev pub refused_save : List ℕ
refused_save = codes "= refused SaveFault\n"

-- what is written of an answer
abbrev pub answer_text : Result (String Global) AllocError → List ℕ
answer_text (Ok text) = string_bytes text
answer_text (Err e) = out_of_memory

-- a step from a state: what is handed on for a line, the answer, and the state after it
abbrev pub Steps : Type 0 → Type 1
Steps S = S → Result (List ℕ) Lost → List ℕ → S → Type 0

-- one line after the other is answered: each that fits is handed on, or else why it was lost
abbrev pub Answers : {S : Type 0} → Steps S → ℕ → S → List (List ℕ) → List (List ℕ) → S → Type 0
Answers steps limit old [] [] new = old ≡ new
Answers steps limit old [] (answer ∷ answers) new = ⊥
Answers steps limit old (line ∷ lines) [] new = ⊥
Answers {S} steps limit old (line ∷ lines) (answer ∷ answers) new =
    (given : Result (List ℕ) Lost) × (next : S) × IsKept limit line given × steps old given answer next
    × Answers steps limit next lines answers new

-- the answers, one behind the other
abbrev pub joined : List (List ℕ) → List ℕ
joined [] = []
joined (answer ∷ answers) = answer ++ joined answers

-- what makes answers last: the state before, whether they do, and the state after it
abbrev pub Settling : Type 0 → Type 1
Settling S = S → Settled → S → Type 0

-- a refusal for each answer
abbrev pub refusals : List (List ℕ) → List (List ℕ)
refusals answers = map (λ answer. refused_save) answers

-- what is written of lines that were answered together: their answers, or else the fact of the restart, and then each
-- is refused
abbrev pub settled_text : Settled → List (List ℕ) → List ℕ
settled_text Lasts answers = joined answers
settled_text (Failed restart) answers = restart_line restart ++ joined (refusals answers)

-- these lines were answered together: then what was answered was made to last, and then this text was written
pub record Batch {S : Type 0} (steps : Steps S) (settles : Settling S) (limit : ℕ) (lines : List (List ℕ))
    (text : List ℕ) (old new : S) : Type 0 where
  pub answered_to : S
  pub answers : List (List ℕ)
  pub settled : Settled
  pub answered : Answers steps limit old lines answers answered_to
  pub made : settles answered_to settled new
  pub text_is : text ≡ settled_text settled answers

-- lines were answered, some together and one batch after the other, and of all of them this text was written
pub data Batches {S : Type 0} (steps : Steps S) (settles : Settling S) (limit : ℕ)
    (old : S) : List (List ℕ) → List ℕ → S → Type 0 where
  Begins : Batches steps settles limit old [] [] old
  Goes_on : (lines more : List (List ℕ)) (text added : List ℕ) (mid new : S)
      → Batches steps settles limit old lines text mid
      → Batch steps settles limit more added mid new
      → Batches steps settles limit old (lines ++ more) (text ++ added) new

-- these lines were answered, and the greeting and the answers written
pub record Serves {S : Type 0} (steps : Steps S) (settles : Settling S) (limit : ℕ) (greeting : List ℕ)
    (lines : List (List ℕ)) (old new : S) (before after : Option (List ℕ)) : Type 0 where
  pub text : List ℕ
  pub answered : Batches steps settles limit old lines text new
  pub written : Appends before after (greeting ++ text)

-- ---- of some bytes

-- the lines that these bytes end were answered: what stood before them is the front of the first, and this is left of
-- the last
pub record Takes {S : Type 0} (steps : Steps S) (settles : Settling S) (limit : ℕ) (bytes : List ℕ) (old new : S)
    (later : BufferParts)
    (before after : Option (List ℕ)) (front : List ℕ) : Type 0 where
  pub lines : List (List ℕ)
  pub text : List ℕ
  pub rest : List ℕ
  pub split : (more : List ℕ) → lines_behind front (bytes ++ more) ≡ lines ++ lines_behind rest more
  pub read : HasRead later rest
  pub answered : Batches steps settles limit old lines text new
  pub written : Appends before after text

-- the answers were settled, and the text of it written
pub record Writes {S : Type 0} (settles : Settling S) (answers : List (List ℕ)) (old new : S)
    (before after : Option (List ℕ)) : Type 0 where
  pub settled : Settled
  pub made : settles old settled new
  pub written : Appends before after (settled_text settled answers)

-- the answer is such a text, or memory ran out for it: then its messages are lost
abbrev pub OrLost : (List ℕ → Type 0) → List ℕ → Type 0
OrLost Is answer = Is answer ⊎ (answer ≡ out_of_memory)
