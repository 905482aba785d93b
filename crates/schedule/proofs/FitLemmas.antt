-- The words behind the verb of an event stand for what is wanted there.
use Rattle.std.proofs.Common.{◌≡◌, ℕ, zero, suc, ◌<◌, List, [], ◌∷◌, map, length, get_or, refl, inl, inr, sym, subst, arith}
use Rattle.std.specs.List.{All}
use Rattle.std.proofs.lemmas.List.Elements.{All-head, All-tail}
use Rattle.events.specs.declared.event.Event.{Event}
use Rattle.schedule.specs.declared.verb.Verb.{Verb}
use Rattle.schedule.specs.declared.verb.Verb.TheVariants.{Ask, Tenure, Deliver, Begin, Finish, Abort, Resend, Restart, Forge, Forget, Nudge, Withdraw, Prune, Retire, Fail}
use Rattle.schedule.specs.declared.verb.Wanted.{Wanted}
use Rattle.schedule.specs.declared.verb.Wanted.TheVariants as wanted
use Rattle.schedule.specs.Forms.{IsTextOfSome, StandsFor, Fit, FitUpTo, IsOfForm, first_words}
use Rattle.schedule.specs.Lines.{left_text, IsLeft, IsSpelled}
use Rattle.schedule.specs.Words.{Says, Restarts}
use Rattle.words.specs.Words.{want_text, IsWant}
use Rattle.schedule.proofs.SpelledLemmas.{words-from_spelled}

-- ---- one or two words

one_fits : (v : Verb) (word : List ℕ) (kind : Wanted) → first_words v ≡ kind ∷ [] → StandsFor kind word → FitUpTo v (word ∷ []) 1
one_fits v word kind e h zero d lt = rw e h
one_fits v word kind e h (suc k) d lt = absurd (omega arith)

fit_one : (v : Verb) (ws : List (List ℕ)) (word : List ℕ) (kind : Wanted) → first_words v ≡ kind ∷ [] → ws ≡ word ∷ [] → StandsFor kind word → Fit v ws
fit_one v ws word kind e text h = rw text (record { each = one_fits v word kind e h; enough = rw e (omega arith) })

two_fit : (v : Verb) (word last : List ℕ) (first second : Wanted) → first_words v ≡ first ∷ second ∷ [] → StandsFor first word → StandsFor second last
    → FitUpTo v (word ∷ last ∷ []) 2
two_fit v word last first second e h i zero d lt = rw e h
two_fit v word last first second e h i (suc zero) d lt = rw e i
two_fit v word last first second e h i (suc (suc k)) d lt = absurd (omega arith)

fit_two : (v : Verb) (ws : List (List ℕ)) (word last : List ℕ) (first second : Wanted) → first_words v ≡ first ∷ second ∷ [] → ws ≡ word ∷ last ∷ []
    → StandsFor first word → StandsFor second last → Fit v ws
fit_two v ws word last first second e text h i =
    rw text (record { each = two_fit v word last first second e h i; enough = rw e (omega arith) })

-- ---- further words

-- the word at each index is the text of a value
values_stand : {X : Type 0} (IsLawful : X → Type 0) (text : X → List ℕ) (xs : List X) → All IsLawful xs
    → (k : ℕ) (d : List ℕ) → k < length (map text xs) → IsTextOfSome IsLawful text (get_or (map text xs) k d)
values_stand IsLawful text [] each k d lt = absurd (omega arith)
values_stand IsLawful text (x ∷ xs) each zero d lt = (x, All-head IsLawful x xs each, refl)
values_stand IsLawful text (x ∷ xs) each (suc k) d lt = values_stand IsLawful text xs (All-tail IsLawful x xs each) k d (omega arith)

asked_fit : (node : List ℕ) (ws : List (List ℕ)) → StandsFor wanted.Node node
    → ((k : ℕ) (d : List ℕ) → k < length ws → IsTextOfSome IsWant want_text (get_or ws k d)) → FitUpTo Ask (node ∷ ws) (length (node ∷ ws))
asked_fit node ws h each zero d lt = h
asked_fit node ws h each (suc k) d lt = each k d (omega arith)

finished_fit : (node ticket : List ℕ) (ws : List (List ℕ)) → StandsFor wanted.Node node → StandsFor wanted.Ticket ticket
    → ((k : ℕ) (d : List ℕ) → k < length ws → IsTextOfSome IsLeft left_text (get_or ws k d)) → FitUpTo Finish (node ∷ ticket ∷ ws) (length (node ∷ ticket ∷ ws))
finished_fit node ticket ws h i each zero d lt = h
finished_fit node ticket ws h i each (suc zero) d lt = i
finished_fit node ticket ws h i each (suc (suc k)) d lt = each k d (omega arith)

-- ---- events

restarts_fit : (ws : List (List ℕ)) (e : Event) → Restarts ws e → Fit Restart ws
restarts_fit ws e (inl h) = fit_one Restart ws _ wanted.NodeOrCoordinator refl h.text (inl (h.node, h.is_node, refl))
restarts_fit ws e (inr h) = fit_one Restart ws _ wanted.NodeOrCoordinator refl h.text (inr refl)

said_fits : (v : Verb) (ws : List (List ℕ)) (e : Event) → Says v ws e → Fit v ws
said_fits Ask ws e h =
    let each = subst (λ (folders : List (List ℕ)). (k : ℕ) (d : List ℕ) → k < length folders → IsTextOfSome IsWant want_text (get_or folders k d))
    (sym h.spelled.text) (values_stand IsWant want_text h.spelled.given h.spelled.each) in
    rw h.text (record { each = asked_fit _ h.folders (h.node, h.is_node, refl) each; enough = omega arith })
said_fits Tenure ws e h =
    fit_two Tenure ws _ _ wanted.Node wanted.SharedFolder refl h.text (h.node, h.is_node, refl) (h.folder, (h.is_name, h.shared), refl)
said_fits Deliver ws e h = fit_one Deliver ws _ wanted.Message refl h.text (h.number, h.fits, refl)
said_fits Begin ws e h = fit_two Begin ws _ _ wanted.Node wanted.Ticket refl h.text (h.node, h.is_node, refl) (h.ticket, h.is_ticket, refl)
said_fits Finish ws e h =
    let each = subst (λ (slots : List (List ℕ)). (k : ℕ) (d : List ℕ) → k < length slots → IsTextOfSome IsLeft left_text (get_or slots k d))
    (sym h.spelled.text) (values_stand IsLeft left_text h.lefts h.spelled.each) in
    rw h.text (record { each = finished_fit _ _ h.slots (h.node, h.is_node, refl) (h.ticket, h.is_ticket, refl) each; enough = omega arith })
said_fits Abort ws e h = fit_two Abort ws _ _ wanted.Node wanted.Ticket refl h.text (h.node, h.is_node, refl) (h.ticket, h.is_ticket, refl)
said_fits Resend ws e h = fit_one Resend ws _ wanted.Node refl h.text (h.node, h.is_node, refl)
said_fits Restart ws e h = restarts_fit ws e h
said_fits Forge ws e h = fit_two Forge ws _ _ wanted.Node wanted.Content refl h.text (h.node, h.is_node, refl) (h.content, h.is_content, refl)
said_fits Forget ws e h = fit_two Forget ws _ _ wanted.Node wanted.Digest refl h.text (h.node, h.is_node, refl) (h.digest, h.is_digest, refl)
said_fits Nudge ws e h = rw h.text (record { each = λ k d lt. absurd (omega arith); enough = omega arith })
said_fits Withdraw ws e h = fit_one Withdraw ws _ wanted.Ticket refl h.text (h.ticket, h.is_ticket, refl)
said_fits Prune ws e h = fit_one Prune ws _ wanted.Slot refl h.text (h.slot, h.is_slot, refl)
said_fits Retire ws e h = fit_one Retire ws _ wanted.Node refl h.text (h.node, h.is_node, refl)
said_fits Fail ws e h = fit_one Fail ws _ wanted.Kept refl h.text (h.kept, tt, refl)

-- a line that spells an event is written as its verb's form says
pub of_form : (line : List ℕ) (e : Event) → IsSpelled line e → IsOfForm line
of_form line e h =
    let spelled = words-from_spelled line e h in
    record {
      verb = spelled.verb;
      behind = spelled.behind;
      text = spelled.text;
      fit = said_fits spelled.verb spelled.behind e spelled.says;
    }
