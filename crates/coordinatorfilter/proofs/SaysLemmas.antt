-- What a coordinator's filter writes says the messages of its answers, and no others.
use Rattle.std.proofs.Common.{ℕ, Bool, true, false, List, [], ◌++◌, codes, map, Option, Some, None, Result, Ok, Err, refl, sym, subst}
use Rattle.std.specs.Prelude.{⊤}
use Rattle.std.specs.List.{enumerate_from}
use Rattle.ledger.specs.declared.handled.Handled.{Handled}
use Rattle.coordinator.specs.Held.{Held, line_at}
use Rattle.names.specs.declared.digest.Digest.{Digest}
use Rattle.names.specs.declared.number.NodeId.{NodeId}
use Rattle.names.specs.Names.{slot_text}
use Rattle.names.specs.Slots.{SlotParts}
use Rattle.names.proofs.TextLemmas.{Lacks-from_test}
use Rattle.farm_base.specs.Kinds.{kind_of}
use Rattle.farm_base.specs.declared.lease.NodeLife.{NodeLife}
use Rattle.farm_base.specs.declared.message.LineVersion.{LineVersion}
use Rattle.words.specs.Words.{access_text, digits_text, want_text}
use Rattle.events.specs.declared.answer.CoordRefusal.{CoordRefusal}
use Rattle.farmwire.specs.Lines.{kind_text}
use Rattle.farmwire.specs.Words.{spaced}
use Rattle.farmwire.proofs.EndLemmas.{NoEnd, slot_ends, access_ends, digest_ends, kind_ends, want_words_end, spaced_ends, each_ends}
use Rattle.protocol.specs.Ledger.{Lease}
use Rattle.protocol.specs.Machine.{Parked}
use Rattle.schedule.specs.Notes.{coord_note_text}
use Rattle.schedule.specs.RefusalNames.{coord_refusal_text}
use Rattle.coordinatorlines.specs.declared.call.Question.{Question}
use Rattle.coordinatorlines.specs.declared.call.Question.TheVariants.{Line, Status, Needed}
use Rattle.coordinatorfilter.specs.declared.reply.Ended.{Ended}
use Rattle.coordinatorfilter.specs.declared.reply.Over.{Over}
use Rattle.coordinatorfilter.specs.declared.reply.Over.TheVariants.{Outdated, Gone}
use Rattle.coordinatorfilter.specs.declared.reply.Reply.{Reply}
use Rattle.coordinatorfilter.specs.Rules.{sends_of}
use Rattle.coordinatorfilter.specs.Shown.{version_line, line_answer, leased_text, lease_fact, asked_text, parked_fact, life_fact, gone_fact, retired_fact, last_of, last_fact, last_at, tickets_fact, needed_fact, last_needed, base_needed, bases_needed, IsShown}
use Rattle.coordinatorfilter.specs.Written.{restart_lines, over_lines, ended_line, ended_lines, fact_lines, note_line, refused_line, IsAnswered}
use Rattle.services.specs.Says.{Says}
use Rattle.services.specs.Says.Says.{Says_nothing}
use Rattle.services.proofs.SaysLemmas.{both_say, sends_say}
use Rattle.services.proofs.NoteLemmas.{Clean, clean, word, number, ◌⊕◌, fact_says, Notes, notes, ◌⊞◌, of_each, coord_note_ends, coord_refusal_ends, fixed, noted_says, refused_says, restart_says}
use Rattle.versions.specs.declared.lines.SlotLine.{SlotLine}
use Rattle.versions.specs.Lines.{line_shown}
use Rattle.farmwire.specs.Sealed.{Keys}

abbrev space : Clean
space = word (codes " ") refl

module _ (keys : Keys) where
  -- ---- what is shown

  version_says : (v : ℕ × LineVersion) → Says keys [] (version_line v)
  version_says (n, v) = fact_says keys (word (codes ": ") refl ⊕ number n ⊕ space ⊕ number v.ticket.0 ⊕ space ⊕ clean (digits_text v.digest) (digest_ends v.digest)) refl

  line_says : (o : Option (List LineVersion)) → Says keys [] (line_answer o)
  line_says None = fixed keys (codes " line") (Lacks-from_test 10 (codes " line") refl)
  line_says (Some versions) =
      (of_each version_line version_says (enumerate_from 1 versions) ⊞ notes (codes "= line\n") (fixed keys (codes " line") (Lacks-from_test 10 (codes " line") refl))).says

  leased_ends : (leased : SlotParts × Bool) → NoEnd (leased_text leased)
  leased_ends (slot, writable) = (space ⊕ clean (access_text writable) (access_ends writable) ⊕ clean (slot_text slot) (slot_ends slot)).lacks

  lease_says : (lease : Lease) → Says keys [] (lease_fact lease)
  lease_says lease =
      let kind = kind_of lease.shared lease.tenure in
      let holder : Clean = word (codes ": lease ") refl ⊕ number lease.ticket.0 ⊕ space ⊕ number lease.node.0 ⊕ space ⊕ number lease.life.0 ⊕ space ⊕ number lease.ask.0 ⊕ space in
      fact_says keys (holder ⊕ clean (kind_text kind) (kind_ends kind) ⊕ clean _ (each_ends leased_text leased_ends lease.slots)) refl

  asked_ends : (tenure : Bool) → NoEnd (asked_text tenure)
  asked_ends true = Lacks-from_test 10 (asked_text true) refl
  asked_ends false = Lacks-from_test 10 (asked_text false) refl

  parked_says : (parked : Parked) → Says keys [] (parked_fact parked)
  parked_says parked =
      fact_says keys (word (codes ": parked ") refl ⊕ clean (asked_text parked.tenure) (asked_ends parked.tenure) ⊕ space ⊕ number parked.node.0 ⊕ space ⊕ number parked.life.0 ⊕ space ⊕ number parked.ask.0
      ⊕ clean (spaced (map want_text parked.wants)) (spaced_ends (map want_text parked.wants) (want_words_end parked.wants))) refl

  life_says : (seen : NodeLife) → Says keys [] (life_fact seen)
  life_says seen = fact_says keys (word (codes ": life ") refl ⊕ number seen.node.0 ⊕ space ⊕ number seen.life.0) refl

  gone_says : (node : NodeId) → Says keys [] (gone_fact node)
  gone_says node = fact_says keys (word (codes ": gone ") refl ⊕ number node.0) refl

  retired_says : (slot : SlotParts) → Says keys [] (retired_fact slot)
  retired_says slot = fact_says keys (word (codes ": retired ") refl ⊕ clean (slot_text slot) (slot_ends slot)) refl

  abbrev shown_version : (n : ℕ) (v : LineVersion) → Clean
  shown_version n v = space ⊕ number n ⊕ word (codes ":") refl ⊕ number v.ticket.0 ⊕ word (codes ":") refl ⊕ clean (digits_text v.digest) (digest_ends v.digest)

  last_says : (slot : SlotParts) (o : Option (List LineVersion)) → Says keys [] (last_fact slot o)
  last_says slot None = Says_nothing
  last_says slot (Some versions) = by _ _
    where
      by : (n : ℕ) (o : Option LineVersion) → Says keys [] (last_of slot n o)
      by n None = Says_nothing
      by n (Some v) = fact_says keys (word (codes ": last ") refl ⊕ clean (slot_text slot) (slot_ends slot) ⊕ shown_version n v) refl

  last_at_says : (lines : List SlotLine) (slot : SlotParts) → Says keys [] (last_at lines slot)
  last_at_says lines slot = last_says slot (line_shown (line_at lines slot))

  tickets_says : (last : ℕ) → Says keys [] (tickets_fact last)
  tickets_says last = fact_says keys (word (codes ": tickets ") refl ⊕ number last) refl

  needed_says : (d : Digest) → Says keys [] (needed_fact d)
  needed_says d = fact_says keys (word (codes ": ") refl ⊕ clean (digits_text d) (digest_ends d)) refl

  bases_says : (lines : List SlotLine) (lease : Lease) → Says keys [] (bases_needed lines lease)
  bases_says lines lease = (of_each (base_needed lines) (λ leased. needed_says _) lease.slots).says

  pub shown_says : (held : Held) (question : Question) (text : List ℕ) → IsShown held question text → Says keys [] text
  shown_says held (Line slot) text is = subst (Says keys []) (sym is) (line_says (line_shown (line_at held.lines slot)))
  shown_says held Status text is =
      let notes : Notes keys = of_each lease_fact lease_says held.live ⊞ of_each parked_fact parked_says held.parked ⊞ of_each life_fact life_says held.lives ⊞ of_each gone_fact gone_says held.gone
      ⊞ of_each retired_fact retired_says is.retired ⊞ of_each (last_at held.lines) (last_at_says held.lines) is.slots ⊞ notes (tickets_fact held.last) (tickets_says held.last)
      ⊞ notes (codes "= status\n") (fixed keys (codes " status") (Lacks-from_test 10 (codes " status") refl)) in
      subst (Says keys []) (sym is.written) notes.says
  shown_says held Needed text is =
      let notes : Notes keys = of_each (last_needed held.lines) (λ slot. needed_says _) is.slots ⊞ of_each (bases_needed held.lines) (bases_says held.lines) held.live
      ⊞ notes (codes "= needed\n") (fixed keys (codes " needed") (Lacks-from_test 10 (codes " needed") refl)) in
      subst (Says keys []) (sym is.written) notes.says

  -- ---- what is written of a call

  restarts_say : (o : Option (Result ⊤ CoordRefusal)) → Says keys [] (restart_lines o)
  restarts_say None = Says_nothing
  restarts_say (Some restart) = restart_says keys restart

  over_says : (o : Option Over) → Says keys [] (over_lines o)
  over_says None = Says_nothing
  over_says (Some (Outdated node life)) = fact_says keys (word (codes ": outdated ") refl ⊕ number node.0 ⊕ space ⊕ number life.0) refl
  over_says (Some (Gone node)) = fact_says keys (word (codes ": gone ") refl ⊕ number node.0) refl

  ended_says : (ended : Ended) → Says keys [] (ended_line ended)
  ended_says ended = fact_says keys (word (codes ": ended ") refl ⊕ number ended.ticket.0 ⊕ space ⊕ number ended.node.0) refl

  endeds_say : (answer : Result Handled CoordRefusal) (ended : List Ended) → Says keys [] (ended_lines answer ended)
  endeds_say (Ok handled) ended = (of_each ended_line ended_says ended).says
  endeds_say (Err refusal) ended = Says_nothing

  pub facts_say : (reply : Reply) → Says keys [] (fact_lines reply)
  facts_say reply =
      let behind : Notes keys = notes (over_lines reply.over) (over_says reply.over) ⊞ notes (restart_lines reply.after) (restarts_say reply.after) in
      let ended : Notes keys = notes (ended_lines reply.answer reply.ended) (endeds_say reply.answer reply.ended) ⊞ behind in
      (notes (restart_lines reply.before) (restarts_say reply.before) ⊞ ended).says

  pub answer_says : (facts : List ℕ) (result : Result Handled CoordRefusal) (answer : List ℕ) → Says keys [] facts → IsAnswered keys facts result answer
      → Says keys (sends_of result) answer
  answer_says facts (Err e) answer say is =
      subst (Says keys []) (sym is) (both_say keys [] [] facts (refused_line e) say (refused_says keys (coord_refusal_text e) (coord_refusal_ends e)))
  answer_says facts (Ok h) answer say is =
      subst (Says keys (sends_of (Ok h))) (sym is.2) (sends_say keys (sends_of (Ok h)) is.0 (facts ++ note_line h.note) is.1
      (both_say keys [] [] facts (note_line h.note) say (noted_says keys (coord_note_text h.note) (coord_note_ends h.note))))
