-- What a node's filter writes says the messages of its answers, and no others.
use Rattle.std.proofs.Common.{◌≡◌, ℕ, Bool, true, false, List, [], ◌∷◌, ◌++◌, codes, map, Option, Some, None, Result, Ok, Err, inl, inr, refl, sym, subst}
use Rattle.std.specs.List.{All, flat_map}
use Rattle.std.proofs.lemmas.List.Elements.{All-nil}
use Rattle.names.specs.declared.digest.Digest.{Digest}
use Rattle.names.specs.declared.number.Ask.{Ask}
use Rattle.names.proofs.TextLemmas.{Lacks-nil, Lacks-from_test}
use Rattle.words.specs.Words.{ticket_text, digits_text, why_text}
use Rattle.events.specs.declared.answer.How.{How}
use Rattle.events.specs.declared.answer.How.TheVariants as how
use Rattle.events.specs.declared.answer.NodeNote.{NodeNote}
use Rattle.events.specs.declared.answer.NodeNote.TheVariants as note
use Rattle.events.specs.declared.answer.NodeRefusal.{NodeRefusal}
use Rattle.farmwire.specs.Lines.{ask_text, confirmed_text, grant_words}
use Rattle.farmwire.specs.Words.{spaced}
use Rattle.farmwire.proofs.EndLemmas.{NoEnd, digest_ends, why_ends, one_word, number_word, confirmed_words_end, grant_words_end, spaced_ends}
use Rattle.nodeasks.specs.declared.ask_state.AskState.{AskState}
use Rattle.nodeasks.specs.declared.ask_state.AskState.TheVariants as state
use Rattle.nodecore.specs.declared.message.NodeDone.{NodeDone}
use Rattle.nodelines.specs.declared.about.About.{About}
use Rattle.nodelines.specs.declared.about.About.TheVariants as about
use Rattle.nodelines.specs.declared.order.Call.{Call}
use Rattle.nodelines.specs.declared.order.Order.{Order}
use Rattle.nodelines.specs.Written.{versions_text, denied_ask, told_note, note_line, IsDone, content_line, over_text, state_text}
use Rattle.nodefilter.specs.Carried.{about_call}
use Rattle.nodefilter.specs.Filters.{store_fault, file_fault, too_large, no_content, IsAnswered, Makes, Follows}
use Rattle.nodefilter.specs.Filters.Follows.{Calls, Misses, Is_large, Hands, Has_not, Tells}
use Rattle.nodefilter.specs.Filters.Makes.{Made, Stopped}
use Rattle.nodefilter.specs.Rules.{sends_of, made_messages, followed_messages}
use Rattle.nodefilter.specs.Starts.{skipped_fact}
use Rattle.nodefilter.specs.States.{Seen}
use Rattle.nodestore.specs.Stores.{Kept, HadBytes}
use Rattle.schedule.specs.RefusalNames.{node_refusal_text}
use Rattle.services.specs.Says.{Says}
use Rattle.services.specs.Says.Says.{Says_nothing}
use Rattle.services.specs.Served.{OrLost}
use Rattle.services.proofs.SaysLemmas.{both_say, sends_say}
use Rattle.services.proofs.NoteLemmas.{clean, word, ◌⊕◌, fact_says, of_each, node_note_ends, node_refusal_ends, fixed, noted_says, refused_says, lost_says}
use Rattle.farmwire.specs.Sealed.{Keys}

-- ---- texts

-- a word, and words behind it
worded : (text : List ℕ) (ws : List (List ℕ)) → NoEnd text → All NoEnd ws → NoEnd (text ++ spaced ws)
worded text ws h hs = (clean text h ⊕ clean (spaced ws) (spaced_ends ws hs)).lacks

ask_word : (ask : Ask) → All NoEnd (ask_text ask ∷ [])
ask_word ask = number_word ask.0 [] (All-nil NoEnd)

versions_ends : (it : About) → NoEnd (versions_text it)
versions_ends (about.Versions versions) = spaced_ends (map confirmed_text versions) (confirmed_words_end versions)
versions_ends (about.OfAsk ask) = Lacks-nil 10
versions_ends about.Nothing = Lacks-nil 10

denied_ends : (it : About) → NoEnd (denied_ask it)
denied_ends (about.Versions versions) = Lacks-nil 10
denied_ends (about.OfAsk ask) = spaced_ends (ask_text ask ∷ []) (ask_word ask)
denied_ends about.Nothing = Lacks-nil 10

told_ends : (it : About) (n : NodeNote) → NoEnd (told_note it n)
told_ends it (note.Took grant) = worded (codes "took") (grant_words grant) (Lacks-from_test 10 (codes "took") refl) (grant_words_end grant)
told_ends it (note.Learned ticket) =
    (word (codes "learned") refl ⊕ clean (spaced (ticket_text ticket ∷ [])) (spaced_ends (ticket_text ticket ∷ []) (number_word ticket.0 [] (All-nil NoEnd))) ⊕ clean (versions_text it) (versions_ends it)).lacks
told_ends it (note.Denied why) =
    (word (codes "denied") refl ⊕ clean (denied_ask it) (denied_ends it) ⊕ clean (spaced (why_text why ∷ [])) (spaced_ends (why_text why ∷ []) (one_word (why_text why) (why_ends why)))).lacks
told_ends it (note.Asked a) = node_note_ends (note.Asked a)
told_ends it (note.Begun t) = node_note_ends (note.Begun t)
told_ends it (note.Finished t) = node_note_ends (note.Finished t)
told_ends it (note.Aborted t) = node_note_ends (note.Aborted t)
told_ends it note.Resent = node_note_ends note.Resent
told_ends it (note.Life l) = node_note_ends (note.Life l)
told_ends it (note.GaveBack t) = node_note_ends (note.GaveBack t)
told_ends it (note.Dropped t) = node_note_ends (note.Dropped t)
told_ends it (note.Recalled t) = node_note_ends (note.Recalled t)
told_ends it note.SentBlob = node_note_ends note.SentBlob
told_ends it note.BlobTaken = node_note_ends note.BlobTaken
told_ends it note.Forgot = node_note_ends note.Forgot
told_ends it note.OldLife = node_note_ends note.OldLife
told_ends it note.Nothing = node_note_ends note.Nothing

over_ends : (ask : Ask) (h : How) → NoEnd (over_text ask h)
over_ends ask (how.Denied why) = worded (codes "denied") (ask_text ask ∷ why_text why ∷ []) (Lacks-from_test 10 (codes "denied") refl) (number_word ask.0 (why_text why ∷ []) (one_word (why_text why) (why_ends why)))
over_ends ask (how.Committed ticket versions) =
    worded (codes "committed") (ticket_text ticket ∷ map confirmed_text versions) (Lacks-from_test 10 (codes "committed") refl) (number_word ticket.0 (map confirmed_text versions) (confirmed_words_end versions))
over_ends ask (how.Fenced ticket) = worded (codes "fenced") (ticket_text ticket ∷ []) (Lacks-from_test 10 (codes "fenced") refl) (number_word ticket.0 [] (All-nil NoEnd))
over_ends ask (how.Released ticket) = worded (codes "released") (ticket_text ticket ∷ []) (Lacks-from_test 10 (codes "released") refl) (number_word ticket.0 [] (All-nil NoEnd))

state_ends : (ask : Ask) (o : Option AskState) → NoEnd (state_text ask o)
state_ends ask None = Lacks-from_test 10 (codes "none") refl
state_ends ask (Some state.Pending) = Lacks-from_test 10 (codes "pending") refl
state_ends ask (Some (state.Granted grant)) = worded (codes "granted") (grant_words grant) (Lacks-from_test 10 (codes "granted") refl) (grant_words_end grant)
state_ends ask (Some (state.Running grant)) = worded (codes "running") (grant_words grant) (Lacks-from_test 10 (codes "running") refl) (grant_words_end grant)
state_ends ask (Some (state.Finished ticket)) = worded (codes "finished") (ticket_text ticket ∷ []) (Lacks-from_test 10 (codes "finished") refl) (number_word ticket.0 [] (All-nil NoEnd))
state_ends ask (Some (state.Over h)) = over_ends ask h
state_ends ask (Some state.Forgotten) = Lacks-from_test 10 (codes "none") refl

-- ---- lines

module _ (keys : Keys) where
  pub note_says : (it : About) (n : NodeNote) → Says keys [] (note_line it n)
  note_says it n = noted_says keys (told_note it n) (told_ends it n)

  pub store_fault_says : Says keys [] store_fault
  store_fault_says = fixed keys (codes " refused StoreFault") (Lacks-from_test 10 (codes " refused StoreFault") refl)

  file_fault_says : Says keys [] file_fault
  file_fault_says = fixed keys (codes " refused FileFault") (Lacks-from_test 10 (codes " refused FileFault") refl)

  too_large_says : Says keys [] too_large
  too_large_says = fixed keys (codes " refused TooLarge") (Lacks-from_test 10 (codes " refused TooLarge") refl)

  no_content_says : Says keys [] no_content
  no_content_says = fixed keys (codes " refused NoSuchContent") (Lacks-from_test 10 (codes " refused NoSuchContent") refl)

  content_says : (d : Digest) → Says keys [] (content_line d)
  content_says d = noted_says keys (codes "content" ++ spaced (digits_text d ∷ [])) (worded (codes "content") (digits_text d ∷ []) (Lacks-from_test 10 (codes "content") refl) (one_word (digits_text d) (digest_ends d)))

  -- a text that says nothing, or that memory ran out
  or_lost_says : (text answer : List ℕ) → Says keys [] text → OrLost (λ t. t ≡ text) answer → Says keys [] answer
  or_lost_says text answer says (inl is) = subst (Says keys []) (sym is) says
  or_lost_says text answer says (inr out) = subst (Says keys []) (sym out) (lost_says keys)

  -- messages, these facts, and the note
  done_says : (facts : List ℕ) (it : About) (done : NodeDone) (text : List ℕ) → Says keys [] facts → IsDone keys facts it done text → Says keys done.sends text
  done_says facts it done text say is =
      subst (Says keys done.sends) (sym is.text_is) (sends_say keys done.sends is.sent (facts ++ note_line it done.note) is.sends (both_say keys [] [] facts (note_line it done.note) say (note_says it done.note)))

  answer_says : (down : Bool) (it : About) (result : Result NodeDone NodeRefusal) (answer : List ℕ) → IsAnswered down keys it result answer → Says keys (sends_of down result) answer
  answer_says true it result answer is = subst (Says keys []) (sym is) store_fault_says
  answer_says false it (Err e) answer is = subst (Says keys []) (sym is) (refused_says keys (node_refusal_text e) (node_refusal_ends e))
  answer_says false it (Ok done) answer is = done_says [] it done answer Says_nothing is

  -- ---- a greeting

  skipped_says : (d : Digest) → Says keys [] (skipped_fact d)
  skipped_says d = fact_says keys (word (codes ": skipped ") refl ⊕ clean (digits_text d) (digest_ends d)) refl

  pub greeting_says : (skipped : List Digest) (done : NodeDone) (text : List ℕ) → IsDone keys (flat_map skipped_fact skipped) about.Nothing done text → Says keys done.sends text
  greeting_says skipped done text is = done_says (flat_map skipped_fact skipped) about.Nothing done text (of_each skipped_fact skipped_says skipped).says is

made_says : {S : Type 0} (kept : Kept S) (last_life : S → ℕ) (c : Call) (answer : List ℕ) (old new : Seen S) → (f : Makes kept last_life c old new answer) → Says old.keys (made_messages f) answer
made_says kept last_life c answer old new (Made done carries (inl written)) = answer_says old.keys new.down (about_call c) done answer written
made_says kept last_life c answer old new (Made done carries (inr out)) = subst (Says old.keys []) (sym out) (lost_says old.keys)
made_says kept last_life c answer old new (Stopped same out) = subst (Says old.keys []) (sym out) (lost_says old.keys)

pub followed_says : {S : Type 0} (kept : Kept S) (last_life : S → ℕ) (had : HadBytes S) (o : Order) (answer : List ℕ) (old new : Seen S) → (f : Follows kept last_life had o old new answer) → Says old.keys (followed_messages f) answer
followed_says kept last_life had o answer old new (Calls c is makes) = made_says kept last_life c answer old new makes
followed_says kept last_life had o answer old new (Misses file same text) = or_lost_says old.keys file_fault answer (file_fault_says old.keys) text
followed_says kept last_life had o answer old new (Is_large large same text) = or_lost_says old.keys too_large answer (too_large_says old.keys) text
followed_says kept last_life had o answer old new (Hands digest file content is stored written same text) = or_lost_says old.keys (content_line digest) answer (content_says old.keys digest) text
followed_says kept last_life had o answer old new (Has_not digest file is none same text) = or_lost_says old.keys no_content answer (no_content_says old.keys) text
followed_says kept last_life had o answer old new (Tells ask is same text) = or_lost_says old.keys _ answer (noted_says old.keys _ (state_ends ask _)) text
