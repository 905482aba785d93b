-- A line spells one event.
use Rattle.std.proofs.Common.{◌≡◌, ℕ, inl, inr, List, Option, Some, None, refl, sym, ap, ◌∙◌, subst, get_or, arith}
use Rattle.std.specs.Prelude.{codes, if◌then◌else◌}
use Rattle.std.specs.Str.{bytes_eq}
use Rattle.std.specs.Str.Parse.{AllDigits}
use Rattle.std.proofs.lemmas.Fmt.{decimal_injective}
use Rattle.std.proofs.lemmas.Str.Parse.{digit_at}
use Rattle.names.specs.declared.number.NodeId.{NodeId}
use Rattle.names.specs.declared.number.Ticket.{Ticket}
use Rattle.names.proofs.NameLaws.{folder_text-injective, slot_text-injective}
use Rattle.names.proofs.TextLemmas.{encode-injective}
use Rattle.events.specs.declared.answer.Kept.{Kept}
use Rattle.events.specs.declared.answer.Kept.TheVariants.{Old, New}
use Rattle.events.specs.declared.event.Event.{Event}
use Rattle.events.specs.declared.event.Event.TheVariants as event
use Rattle.schedule.specs.declared.verb.Verb.{Verb}
use Rattle.schedule.specs.declared.verb.Verb.TheVariants.{Ask, Tenure, Deliver, Begin, Finish, Abort, Resend, Restart, Forge, Forget, Nudge, Withdraw, Prune, Retire, Fail}
use Rattle.words.specs.Words.{node_text, IsNode, SpellGiven}
use Rattle.schedule.specs.Lines.{kept_text, left_text, IsLeft, Left, IsSpelled}
use Rattle.schedule.specs.Words.{verb_text, Says, SpellLefts, OfNode, OfLease, Restarts}
use Rattle.words.proofs.ListLemmas.{map-injective, read_back-injective}
use Rattle.words.proofs.PlainLemmas.{decimal_digits}
use Rattle.schedule.proofs.Spelling.{left_text-injective}
use Rattle.words.proofs.Spelling.{node_same, ticket_same}
use Rattle.words.proofs.WantLemmas.{given_same}
use Rattle.schedule.proofs.SpelledLemmas.{words-from_spelled}

-- ---- verbs

-- the verb of a text
abbrev event_verb : List ℕ → Option Verb
event_verb text =
    if bytes_eq text (verb_text Ask) then Some Ask
    else if bytes_eq text (verb_text Tenure) then Some Tenure
    else if bytes_eq text (verb_text Deliver) then Some Deliver
    else if bytes_eq text (verb_text Begin) then Some Begin
    else if bytes_eq text (verb_text Finish) then Some Finish
    else if bytes_eq text (verb_text Abort) then Some Abort
    else if bytes_eq text (verb_text Resend) then Some Resend
    else if bytes_eq text (verb_text Restart) then Some Restart
    else if bytes_eq text (verb_text Forge) then Some Forge
    else if bytes_eq text (verb_text Forget) then Some Forget
    else if bytes_eq text (verb_text Nudge) then Some Nudge
    else if bytes_eq text (verb_text Withdraw) then Some Withdraw
    else if bytes_eq text (verb_text Prune) then Some Prune
    else if bytes_eq text (verb_text Retire) then Some Retire
    else if bytes_eq text (verb_text Fail) then Some Fail
    else None

event_verb-text : (v : Verb) → event_verb (verb_text v) ≡ Some v
event_verb-text Ask = refl
event_verb-text Tenure = refl
event_verb-text Deliver = refl
event_verb-text Begin = refl
event_verb-text Finish = refl
event_verb-text Abort = refl
event_verb-text Resend = refl
event_verb-text Restart = refl
event_verb-text Forge = refl
event_verb-text Forget = refl
event_verb-text Nudge = refl
event_verb-text Withdraw = refl
event_verb-text Prune = refl
event_verb-text Retire = refl
event_verb-text Fail = refl

-- ---- nodes

-- a node's text has only digits
node_no_coordinator : (n : NodeId) → IsNode n → node_text n ≡ codes "coordinator" → ⊥
node_no_coordinator n h e =
    let digit = digit_at (codes "coordinator") 0 (subst (AllDigits 10) e (decimal_digits n.0 (omega arith))) (omega arith) in
    omega arith

-- ---- what a record holds after a save that failed

kept_text-injective : (j k : Kept) → kept_text j ≡ kept_text k → j ≡ k
kept_text-injective Old Old e = refl
kept_text-injective Old New e = let first = ap (λ t. get_or t 0 0) e in absurd (omega arith)
kept_text-injective New Old e = let first = ap (λ t. get_or t 0 0) e in absurd (omega arith)
kept_text-injective New New e = refl

-- ---- what was left

lefts_same : (ws : List (List ℕ)) (a b : List Left) → SpellLefts ws a → SpellLefts ws b → a ≡ b
lefts_same ws a b ha hb = map-injective left_text IsLeft left_text-injective a b ha.each hb.each (sym ha.text ∙ hb.text)

-- ---- events

of_node_same : (make : NodeId → Event) (ws : List (List ℕ)) (a b : Event) → OfNode make ws a → OfNode make ws b → a ≡ b
of_node_same make ws a b ha hb =
    let n = node_same ha.node hb.node ha.is_node hb.is_node (cc (ha.text, hb.text)) in
    ha.event ∙ ap make n ∙ sym hb.event

of_lease_same : (make : NodeId → Ticket → Event) (ws : List (List ℕ)) (a b : Event) → OfLease make ws a → OfLease make ws b → a ≡ b
of_lease_same make ws a b ha hb =
    let n = node_same ha.node hb.node ha.is_node hb.is_node (cc (ha.text, hb.text)) in
    let t = ticket_same ha.ticket hb.ticket ha.is_ticket hb.is_ticket (cc (ha.text, hb.text)) in
    ha.event ∙ cc (n, t) ∙ sym hb.event

restarts_same : (ws : List (List ℕ)) (a b : Event) → Restarts ws a → Restarts ws b → a ≡ b
restarts_same ws a b (inl ha) (inl hb) = of_node_same event.RestartNode ws a b ha hb
restarts_same ws a b (inl ha) (inr hb) = absurd (node_no_coordinator ha.node ha.is_node (cc (ha.text, hb.text)))
restarts_same ws a b (inr ha) (inl hb) = absurd (node_no_coordinator hb.node hb.is_node (cc (ha.text, hb.text)))
restarts_same ws a b (inr ha) (inr hb) = ha.event ∙ sym hb.event

said_same : (v : Verb) (ws : List (List ℕ)) (a b : Event) → Says v ws a → Says v ws b → a ≡ b
said_same Ask ws a b ha hb =
    let n = node_same ha.node hb.node ha.is_node hb.is_node (cc (ha.text, hb.text)) in
    let others : ha.folders ≡ hb.folders = cc (ha.text, hb.text) in
    let wants = given_same hb.folders ha.wants hb.wants (subst (λ ws. SpellGiven ws ha.wants) others ha.spelled) hb.spelled in
    ha.event ∙ cc (n, wants) ∙ sym hb.event
said_same Tenure ws a b ha hb =
    let n = node_same ha.node hb.node ha.is_node hb.is_node (cc (ha.text, hb.text)) in
    let folder = folder_text-injective ha.folder hb.folder ha.is_name hb.is_name (cc (ha.text, hb.text)) in
    ha.event ∙ cc (n, folder) ∙ sym hb.event
said_same Deliver ws a b ha hb =
    let number = decimal_injective ha.number hb.number ha.fits hb.fits (cc (ha.text, hb.text)) in
    ha.event ∙ ap event.Deliver number ∙ sym hb.event
said_same Begin ws a b ha hb = of_lease_same event.Begin ws a b ha hb
said_same Finish ws a b ha hb =
    let n = node_same ha.node hb.node ha.is_node hb.is_node (cc (ha.text, hb.text)) in
    let t = ticket_same ha.ticket hb.ticket ha.is_ticket hb.is_ticket (cc (ha.text, hb.text)) in
    let others : ha.slots ≡ hb.slots = cc (ha.text, hb.text) in
    let lefts = lefts_same hb.slots ha.lefts hb.lefts (subst (λ ws. SpellLefts ws ha.lefts) others ha.spelled) hb.spelled in
    ha.event ∙ cc (n, t, lefts) ∙ sym hb.event
said_same Abort ws a b ha hb = of_lease_same event.Abort ws a b ha hb
said_same Resend ws a b ha hb = of_node_same event.Resend ws a b ha hb
said_same Restart ws a b ha hb = restarts_same ws a b ha hb
said_same Forge ws a b ha hb =
    let n = node_same ha.node hb.node ha.is_node hb.is_node (cc (ha.text, hb.text)) in
    let content = encode-injective ha.content hb.content ha.is_content hb.is_content (cc (ha.text, hb.text)) in
    ha.event ∙ cc (n, content) ∙ sym hb.event
said_same Forget ws a b ha hb =
    let n = node_same ha.node hb.node ha.is_node hb.is_node (cc (ha.text, hb.text)) in
    let bytes = encode-injective ha.digest.0 hb.digest.0 ha.is_digest.1 hb.is_digest.1 (cc (ha.text, hb.text)) in
    let digest : ha.digest ≡ hb.digest = λ i. record { 0 = bytes i } in
    ha.event ∙ cc (n, digest) ∙ sym hb.event
said_same Nudge ws a b ha hb = ha.event ∙ sym hb.event
said_same Withdraw ws a b ha hb =
    let t = ticket_same ha.ticket hb.ticket ha.is_ticket hb.is_ticket (cc (ha.text, hb.text)) in
    ha.event ∙ ap event.Withdraw t ∙ sym hb.event
said_same Prune ws a b ha hb =
    let slot = slot_text-injective ha.slot hb.slot ha.is_slot hb.is_slot (cc (ha.text, hb.text)) in
    ha.event ∙ ap event.Prune slot ∙ sym hb.event
said_same Retire ws a b ha hb = of_node_same event.Retire ws a b ha hb
said_same Fail ws a b ha hb =
    let kept = kept_text-injective ha.kept hb.kept (cc (ha.text, hb.text)) in
    ha.event ∙ ap event.FailSave kept ∙ sym hb.event

-- a line spells one event
pub spelled_same : (line : List ℕ) (a b : Event) → IsSpelled line a → IsSpelled line b → a ≡ b
spelled_same line a b sa sb =
    let ha = words-from_spelled line a sa in
    let hb = words-from_spelled line b sb in
    let verbs = read_back-injective verb_text event_verb event_verb-text ha.verb hb.verb (cc (ha.text, hb.text)) in
    let behind : ha.behind ≡ hb.behind = cc (ha.text, hb.text) in
    let says = subst (λ v. Says v hb.behind a) verbs (subst (λ ws. Says ha.verb ws a) behind ha.says) in
    said_same hb.verb hb.behind a b says hb.says
