-- The words of a line say the event that the line spells.
use Rattle.std.proofs.Common.{◌≡◌, ℕ, List, [], ◌∷◌, map, refl, sym, ap, ◌∙◌, subst, inl, inr}
use Rattle.std.specs.Prelude.{codes, decimal}
use Rattle.std.specs.List.{All, join_with_byte}
use Rattle.std.specs.Str.{IsUtf8}
use Rattle.std.proofs.lemmas.List.Elements.{All-nil, All-cons}
use Rattle.std.proofs.lemmas.List.Sorted.{All-permutation, IsPermutation-sym}
use Rattle.std.proofs.lemmas.List.Splits.{join_with_byte-slice_split}
use Rattle.hex.specs.Hex.{encode_lower}
use Rattle.names.specs.declared.number.Ticket.{Ticket}
use Rattle.names.specs.Names.{folder_text, slot_text}
use Rattle.events.specs.declared.answer.Kept.{Kept}
use Rattle.events.specs.declared.answer.Kept.TheVariants.{Old, New}
use Rattle.events.specs.declared.event.Event.{Event}
use Rattle.events.specs.declared.event.Event.TheVariants as event
use Rattle.schedule.specs.declared.verb.Verb.{Verb}
use Rattle.schedule.specs.declared.verb.Verb.TheVariants.{Ask, Tenure, Deliver, Begin, Finish, Abort, Resend, Restart, Forge, Forget, Nudge, Withdraw, Prune, Retire, Fail}
use Rattle.words.specs.Words.{node_text, ticket_text, want_text, digits_text, IsTicket, IsWant, words}
use Rattle.schedule.specs.Lines.{kept_text, left_text, IsEvent, IsTextOf, IsSpelled}
use Rattle.schedule.specs.Words.{verb_text, Says, SpelledBy}
use Rattle.words.proofs.PlainLemmas.{IsWord, IsWord-from_test, decimal_word, hex_word, folder_word, slot_word, want_words, words-joined, joined_utf8, last_word, node_words}
use Rattle.schedule.proofs.PlainLemmas.{left_words}

-- ---- words of a text

ticket_words : (t : Ticket) (ws : List (List ℕ)) → IsTicket t → All IsWord ws → All IsWord (ticket_text t ∷ ws)
ticket_words t ws h hs = All-cons IsWord (ticket_text t) ws (decimal_word t.0 h) hs

verb_word : (v : Verb) → IsWord (verb_text v)
verb_word Ask = IsWord-from_test (verb_text Ask) refl
verb_word Tenure = IsWord-from_test (verb_text Tenure) refl
verb_word Deliver = IsWord-from_test (verb_text Deliver) refl
verb_word Begin = IsWord-from_test (verb_text Begin) refl
verb_word Finish = IsWord-from_test (verb_text Finish) refl
verb_word Abort = IsWord-from_test (verb_text Abort) refl
verb_word Resend = IsWord-from_test (verb_text Resend) refl
verb_word Restart = IsWord-from_test (verb_text Restart) refl
verb_word Forge = IsWord-from_test (verb_text Forge) refl
verb_word Forget = IsWord-from_test (verb_text Forget) refl
verb_word Nudge = IsWord-from_test (verb_text Nudge) refl
verb_word Withdraw = IsWord-from_test (verb_text Withdraw) refl
verb_word Prune = IsWord-from_test (verb_text Prune) refl
verb_word Retire = IsWord-from_test (verb_text Retire) refl
verb_word Fail = IsWord-from_test (verb_text Fail) refl

kept_word : (k : Kept) → IsWord (kept_text k)
kept_word Old = IsWord-from_test (kept_text Old) refl
kept_word New = IsWord-from_test (kept_text New) refl

coordinator_word : IsWord (codes "coordinator")
coordinator_word = IsWord-from_test (codes "coordinator") refl

-- the words after a verb
said_words : (v : Verb) (ws : List (List ℕ)) (e : Event) → Says v ws e → All IsWord ws
said_words Ask ws e h =
    let folders = subst (All IsWord) (sym h.spelled.text) (want_words h.spelled.given h.spelled.each) in
    subst (All IsWord) (sym h.text) (node_words h.node h.folders h.is_node folders)
said_words Tenure ws e h =
    subst (All IsWord) (sym h.text) (node_words h.node (folder_text h.folder ∷ []) h.is_node (last_word (folder_text h.folder) (folder_word h.folder h.is_name)))
said_words Deliver ws e h = subst (All IsWord) (sym h.text) (last_word (decimal h.number) (decimal_word h.number h.fits))
said_words Begin ws e h = subst (All IsWord) (sym h.text) (node_words h.node (ticket_text h.ticket ∷ []) h.is_node (ticket_words h.ticket [] h.is_ticket (All-nil IsWord)))
said_words Finish ws e h =
    let slots = subst (All IsWord) (sym h.spelled.text) (left_words h.lefts h.spelled.each) in
    subst (All IsWord) (sym h.text) (node_words h.node (ticket_text h.ticket ∷ h.slots) h.is_node (ticket_words h.ticket h.slots h.is_ticket slots))
said_words Abort ws e h = subst (All IsWord) (sym h.text) (node_words h.node (ticket_text h.ticket ∷ []) h.is_node (ticket_words h.ticket [] h.is_ticket (All-nil IsWord)))
said_words Resend ws e h = subst (All IsWord) (sym h.text) (node_words h.node [] h.is_node (All-nil IsWord))
said_words Restart ws e (inl h) = subst (All IsWord) (sym h.text) (node_words h.node [] h.is_node (All-nil IsWord))
said_words Restart ws e (inr h) = subst (All IsWord) (sym h.text) (last_word (codes "coordinator") coordinator_word)
said_words Forge ws e h =
    subst (All IsWord) (sym h.text) (node_words h.node (encode_lower h.content ∷ []) h.is_node (last_word (encode_lower h.content) (hex_word h.content h.is_content)))
said_words Forget ws e h =
    subst (All IsWord) (sym h.text) (node_words h.node (digits_text h.digest ∷ []) h.is_node (last_word (digits_text h.digest) (hex_word h.digest.0 h.is_digest.1)))
said_words Nudge ws e h = subst (All IsWord) (sym h.text) (All-nil IsWord)
said_words Withdraw ws e h = subst (All IsWord) (sym h.text) (ticket_words h.ticket [] h.is_ticket (All-nil IsWord))
said_words Prune ws e h = subst (All IsWord) (sym h.text) (last_word (slot_text h.slot) (slot_word h.slot h.is_slot))
said_words Retire ws e h = subst (All IsWord) (sym h.text) (node_words h.node [] h.is_node (All-nil IsWord))
said_words Fail ws e h = subst (All IsWord) (sym h.text) (last_word (kept_text h.kept) (kept_word h.kept))

-- ---- from the words to the line

-- the line of a verb and the words after it
abbrev pub line_of : Verb → List (List ℕ) → List ℕ
line_of v ws = join_with_byte 32 (verb_text v ∷ ws)

-- the line that says an event spells it
said_spelled : (v : Verb) (ws : List (List ℕ)) (e : Event) → Says v ws e → IsSpelled (line_of v ws) e
said_spelled Ask ws e h =
    let wants = All-permutation IsWant h.spelled.given h.wants h.spelled.sorted h.spelled.each in
    let ws_are = h.text ∙ ap (λ folders. node_text h.node ∷ folders) h.spelled.text in
    subst (IsSpelled (line_of Ask ws)) (sym h.event) (record {
      lawful = (h.is_node, (wants, h.spelled.lawful));
      text = (h.spelled.given, h.spelled.sorted, ap (line_of Ask) ws_are);
    })
said_spelled Tenure ws e h =
    subst (IsSpelled (line_of Tenure ws)) (sym h.event) (record { lawful = (h.is_node, h.is_name, h.shared); text = ap (line_of Tenure) h.text })
said_spelled Deliver ws e h = subst (IsSpelled (line_of Deliver ws)) (sym h.event) (record { lawful = h.fits; text = ap (line_of Deliver) h.text })
said_spelled Begin ws e h = subst (IsSpelled (line_of Begin ws)) (sym h.event) (record { lawful = (h.is_node, h.is_ticket); text = ap (line_of Begin) h.text })
said_spelled Finish ws e h =
    let ws_are = h.text ∙ ap (λ slots. node_text h.node ∷ ticket_text h.ticket ∷ slots) h.spelled.text in
    subst (IsSpelled (line_of Finish ws)) (sym h.event) (record {
      lawful = (h.is_node, h.is_ticket, (h.spelled.each, h.spelled.rising));
      text = ap (line_of Finish) ws_are;
    })
said_spelled Abort ws e h = subst (IsSpelled (line_of Abort ws)) (sym h.event) (record { lawful = (h.is_node, h.is_ticket); text = ap (line_of Abort) h.text })
said_spelled Resend ws e h = subst (IsSpelled (line_of Resend ws)) (sym h.event) (record { lawful = h.is_node; text = ap (line_of Resend) h.text })
said_spelled Restart ws e (inl h) = subst (IsSpelled (line_of Restart ws)) (sym h.event) (record { lawful = h.is_node; text = ap (line_of Restart) h.text })
said_spelled Restart ws e (inr h) = subst (IsSpelled (line_of Restart ws)) (sym h.event) (record { lawful = tt; text = ap (line_of Restart) h.text })
said_spelled Forge ws e h = subst (IsSpelled (line_of Forge ws)) (sym h.event) (record { lawful = (h.is_node, h.is_content); text = ap (line_of Forge) h.text })
said_spelled Forget ws e h = subst (IsSpelled (line_of Forget ws)) (sym h.event) (record { lawful = (h.is_node, h.is_digest); text = ap (line_of Forget) h.text })
said_spelled Nudge ws e h = subst (IsSpelled (line_of Nudge ws)) (sym h.event) (record { lawful = tt; text = ap (line_of Nudge) h.text })
said_spelled Withdraw ws e h = subst (IsSpelled (line_of Withdraw ws)) (sym h.event) (record { lawful = h.is_ticket; text = ap (line_of Withdraw) h.text })
said_spelled Prune ws e h = subst (IsSpelled (line_of Prune ws)) (sym h.event) (record { lawful = h.is_slot; text = ap (line_of Prune) h.text })
said_spelled Retire ws e h = subst (IsSpelled (line_of Retire ws)) (sym h.event) (record { lawful = h.is_node; text = ap (line_of Retire) h.text })
said_spelled Fail ws e h = subst (IsSpelled (line_of Fail ws)) (sym h.event) (record { lawful = tt; text = ap (line_of Fail) h.text })

-- a line whose words spell an event spells it
pub spelled-from_words : (line : List ℕ) (e : Event) → SpelledBy (words line) e → IsSpelled line e
spelled-from_words line e h =
    let whole : line_of h.verb h.behind ≡ line = ap (join_with_byte 32) (sym h.text) ∙ join_with_byte-slice_split 32 line in
    subst (λ l. IsSpelled l e) whole (said_spelled h.verb h.behind e h.says)

-- ---- from the line to the words

-- a verb and what it takes
pub record Saying (e : Event) : Type 0 where
  pub verb : Verb
  pub behind : List (List ℕ)
  pub says : Says verb behind e

-- a line that spells an event is a verb and words after it that say the event
said_by_text : (line : List ℕ) (e : Event) → IsEvent e → IsTextOf e line → (s : Saying e) × (line ≡ line_of s.verb s.behind)
said_by_text line (event.Ask n wants) h text =
    let each = All-permutation IsWant wants text.0 (IsPermutation-sym text.0 wants text.1) h.1.0 in (
      record {
        verb = Ask;
        behind = node_text n ∷ map want_text text.0;
        says = record {
          node = n;
          folders = map want_text text.0;
          wants = wants;
          is_node = h.0;
          spelled = record { given = text.0; each = each; text = refl; sorted = text.1; lawful = h.1.1 };
          text = refl;
          event = refl;
        };
      },
      text.2,
    )
said_by_text line (event.Tenure n folder) h text = (
  record {
    verb = Tenure;
    behind = node_text n ∷ folder_text folder ∷ [];
    says = record { node = n; folder = folder; is_node = h.0; is_name = h.1; shared = h.2; text = refl; event = refl };
  },
  text,
)
said_by_text line (event.Deliver number) h text =
    (record { verb = Deliver; behind = decimal number ∷ []; says = record { number = number; fits = h; text = refl; event = refl } }, text)
said_by_text line (event.Begin n t) h text = (
  record {
    verb = Begin;
    behind = node_text n ∷ ticket_text t ∷ [];
    says = record { node = n; ticket = t; is_node = h.0; is_ticket = h.1; text = refl; event = refl };
  },
  text,
)
said_by_text line (event.Finish n t lefts) h text = (
  record {
    verb = Finish;
    behind = node_text n ∷ ticket_text t ∷ map left_text lefts;
    says = record {
      node = n;
      ticket = t;
      slots = map left_text lefts;
      lefts = lefts;
      is_node = h.0;
      is_ticket = h.1;
      spelled = record { each = h.2.0; text = refl; rising = h.2.1 };
      text = refl;
      event = refl;
    };
  },
  text,
)
said_by_text line (event.Abort n t) h text = (
  record {
    verb = Abort;
    behind = node_text n ∷ ticket_text t ∷ [];
    says = record { node = n; ticket = t; is_node = h.0; is_ticket = h.1; text = refl; event = refl };
  },
  text,
)
said_by_text line (event.Resend n) h text =
    (record { verb = Resend; behind = node_text n ∷ []; says = record { node = n; is_node = h; text = refl; event = refl } }, text)
said_by_text line event.Nudge h text = (record { verb = Nudge; behind = []; says = record { text = refl; event = refl } }, text)
said_by_text line (event.Withdraw t) h text =
    (record { verb = Withdraw; behind = ticket_text t ∷ []; says = record { ticket = t; is_ticket = h; text = refl; event = refl } }, text)
said_by_text line (event.Prune slot) h text =
    (record { verb = Prune; behind = slot_text slot ∷ []; says = record { slot = slot; is_slot = h; text = refl; event = refl } }, text)
said_by_text line (event.Retire n) h text =
    (record { verb = Retire; behind = node_text n ∷ []; says = record { node = n; is_node = h; text = refl; event = refl } }, text)
said_by_text line (event.RestartNode n) h text =
    (record { verb = Restart; behind = node_text n ∷ []; says = inl (record { node = n; is_node = h; text = refl; event = refl }) }, text)
said_by_text line event.RestartCoordinator h text =
    (record { verb = Restart; behind = codes "coordinator" ∷ []; says = inr (record { text = refl; event = refl }) }, text)
said_by_text line (event.Forge n content) h text = (
  record {
    verb = Forge;
    behind = node_text n ∷ encode_lower content ∷ [];
    says = record { node = n; content = content; is_node = h.0; is_content = h.1; text = refl; event = refl };
  },
  text,
)
said_by_text line (event.Forget n digest) h text = (
  record {
    verb = Forget;
    behind = node_text n ∷ digits_text digest ∷ [];
    says = record { node = n; digest = digest; is_node = h.0; is_digest = h.1; text = refl; event = refl };
  },
  text,
)
said_by_text line (event.FailSave kept) h text =
    (record { verb = Fail; behind = kept_text kept ∷ []; says = record { kept = kept; text = refl; event = refl } }, text)

saying_words : {e : Event} (s : Saying e) → All IsWord (verb_text s.verb ∷ s.behind)
saying_words {e} s = All-cons IsWord (verb_text s.verb) s.behind (verb_word s.verb) (said_words s.verb s.behind e s.says)

-- the words of a line that spells an event spell it
pub words-from_spelled : (line : List ℕ) (e : Event) → IsSpelled line e → SpelledBy (words line) e
words-from_spelled line e h =
    let said = said_by_text line e h.lawful h.text in
    let s = said.0 in
    record {
      verb = s.verb;
      behind = s.behind;
      text = ap words said.1 ∙ words-joined (verb_text s.verb) s.behind (saying_words s);
      says = s.says;
    }

-- a line that spells an event is UTF-8
pub utf8-from_spelled : (line : List ℕ) (e : Event) → IsSpelled line e → IsUtf8 line
utf8-from_spelled line e h =
    let said = said_by_text line e h.lawful h.text in
    subst IsUtf8 (sym said.1) (joined_utf8 (verb_text said.0.verb ∷ said.0.behind) (saying_words said.0))
