-- What a node's filter writes (this project's own). The words of notes and refusals are those of a replay, with what
-- they are about.
use Rattle.std.specs.Prelude.{◌≡◌, ℕ, List, [], ◌∷◌, ◌++◌, map, codes, Option, Some, None, Result, Ok, Err}
use Rattle.names.specs.declared.digest.Digest.{Digest}
use Rattle.names.specs.declared.number.Ask.{Ask}
use Rattle.words.specs.Words.{ticket_text, digits_text, why_text}
use Rattle.farmwire.specs.Lines.{ask_text, confirmed_text, grant_words}
use Rattle.farmwire.specs.Words.{spaced}
use Rattle.nodeasks.specs.declared.ask_state.AskState.{AskState}
use Rattle.nodeasks.specs.declared.ask_state.AskState.TheVariants as state
use Rattle.nodecore.specs.declared.message.NodeDone.{NodeDone}
use Rattle.events.specs.declared.answer.How.{How}
use Rattle.events.specs.declared.answer.How.TheVariants as how
use Rattle.events.specs.declared.answer.NodeNote.{NodeNote}
use Rattle.events.specs.declared.answer.NodeNote.TheVariants as note
use Rattle.events.specs.declared.answer.NodeRefusal.{NodeRefusal}
use Rattle.schedule.specs.Notes.{node_note_text}
use Rattle.schedule.specs.RefusalNames.{node_refusal_text}
use Rattle.services.specs.Outside.{Sends}
use Rattle.nodelines.specs.declared.about.About.{About}
use Rattle.nodelines.specs.declared.about.About.TheVariants as about
use Rattle.farmwire.specs.Sealed.{Keys}

-- `= `, a note, and the end of the line
abbrev pub noted : List ℕ → List ℕ
noted text = codes "= " ++ (text ++ codes "\n")

-- ` SLOT=NUMBER:DIGEST..`
abbrev pub versions_text : About → List ℕ
versions_text (about.Versions versions) = spaced (map confirmed_text versions)
versions_text (about.OfAsk ask) = []
versions_text about.Nothing = []

-- ` A`
abbrev pub denied_ask : About → List ℕ
denied_ask (about.Versions versions) = []
denied_ask (about.OfAsk ask) = spaced (ask_text ask ∷ [])
denied_ask about.Nothing = []

-- a note, with what it is about
abbrev pub told_note : About → NodeNote → List ℕ
told_note it (note.Took grant) = codes "took" ++ spaced (grant_words grant)
told_note it (note.Learned ticket) = codes "learned" ++ spaced (ticket_text ticket ∷ []) ++ versions_text it
told_note it (note.Denied why) = codes "denied" ++ denied_ask it ++ spaced (why_text why ∷ [])
told_note it other = node_note_text other

abbrev pub note_line : About → NodeNote → List ℕ
note_line it done = noted (told_note it done)

abbrev pub refused_line : NodeRefusal → List ℕ
refused_line refusal = codes "= refused " ++ (node_refusal_text refusal ++ codes "\n")

-- the messages, then facts, then the note
pub record IsDone (keys : Keys) (facts : List ℕ) (it : About) (done : NodeDone) (text : List ℕ) : Type 0 where
  pub sent : List ℕ
  pub sends : Sends keys done.sends [] sent
  pub text_is : text ≡ sent ++ (facts ++ note_line it done.note)

-- what was done, or the refusal
abbrev pub IsWritten : Keys → About → Result NodeDone NodeRefusal → List ℕ → Type 0
IsWritten keys it (Ok done) text = IsDone keys [] it done text
IsWritten keys it (Err refusal) text = text ≡ refused_line refusal

-- the content was put in the file
abbrev pub content_line : Digest → List ℕ
content_line digest = noted (codes "content" ++ spaced (digits_text digest ∷ []))

-- ---- how an ask stands

abbrev pub over_text : Ask → How → List ℕ
over_text ask (how.Denied why) = codes "denied" ++ spaced (ask_text ask ∷ why_text why ∷ [])
over_text ask (how.Committed ticket versions) =
    codes "committed" ++ spaced (ticket_text ticket ∷ map confirmed_text versions)
over_text ask (how.Fenced ticket) = codes "fenced" ++ spaced (ticket_text ticket ∷ [])
over_text ask (how.Released ticket) = codes "released" ++ spaced (ticket_text ticket ∷ [])

abbrev pub state_text : Ask → Option AskState → List ℕ
state_text ask None = codes "none"
state_text ask (Some state.Pending) = codes "pending"
state_text ask (Some (state.Granted grant)) = codes "granted" ++ spaced (grant_words grant)
state_text ask (Some (state.Running grant)) = codes "running" ++ spaced (grant_words grant)
state_text ask (Some (state.Finished ticket)) = codes "finished" ++ spaced (ticket_text ticket ∷ [])
state_text ask (Some (state.Over how)) = over_text ask how
state_text ask (Some state.Forgotten) = codes "none"
