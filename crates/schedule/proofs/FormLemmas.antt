-- Words behind a verb that stand for what is wanted say an event.
use Rattle.std.proofs.Common.{◌≡◌, ◌≢◌, ℕ, suc, ◌+◌, ◌<◌, ◌≤◌, List, [], ◌∷◌, None, map, drop, length, get_or, refl, ap, ◌∙◌, inl, inr, arith}
use Rattle.names.specs.declared.number.NodeId.{NodeId}
use Rattle.names.specs.declared.number.Ticket.{Ticket}
use Rattle.events.specs.declared.event.Event.{Event}
use Rattle.events.specs.declared.event.Event.TheVariants as event
use Rattle.schedule.specs.declared.verb.Verb.{Verb}
use Rattle.schedule.specs.declared.verb.Verb.TheVariants.{Ask, Tenure, Deliver, Begin, Finish, Abort, Resend, Restart, Forge, Forget, Nudge, Withdraw, Prune, Retire, Fail}
use Rattle.schedule.specs.declared.verb.Wanted.{Wanted}
use Rattle.schedule.specs.declared.verb.Wanted.TheVariants as wanted
use Rattle.schedule.specs.Faults.{AreManyFolders, AreFoldersTwice, AreFallingLefts}
use Rattle.schedule.specs.Forms.{IsTextOfSome, StandsFor, Fit, first_words, further_words}
use Rattle.schedule.specs.Lines.{left_text, IsLeft, Left}
use Rattle.schedule.specs.Words.{Says, OfNode, OfLease, SpellLefts}
use Rattle.words.specs.Words.{want_text, IsWant, SpellGiven}
use Rattle.farm_base.specs.declared.want.Want.{Want}
use Rattle.schedule.proofs.OrderLemmas.{in_order}
use Rattle.std.specs.List.{All}
use Rattle.std.proofs.lemmas.List.{length-map}
use Rattle.std.proofs.lemmas.List.Elements.{All-nil, All-cons}
use Rattle.std.proofs.lemmas.List.Sorted.{length_permutation}

-- ---- lines of one word or two behind the verb

record IsOneWord (kind : Wanted) (ws : List (List ℕ)) : Type 0 where
  word : List ℕ
  text : ws ≡ word ∷ []
  stands : StandsFor kind word

record AreTwoWords (first second : Wanted) (ws : List (List ℕ)) : Type 0 where
  word : List ℕ
  last : List ℕ
  text : ws ≡ word ∷ last ∷ []
  stands : StandsFor first word
  stands_last : StandsFor second last

one_word : (v : Verb) (ws : List (List ℕ)) (kind : Wanted) → first_words v ≡ kind ∷ [] → further_words v ≡ None → Fit v ws → IsOneWord kind ws
one_word v [] kind e f fit = let few = rw e at fit.enough in absurd (omega arith)
one_word v (a ∷ []) kind e f fit = record { word = a; text = refl; stands = rw e at (fit.each 0 [] (omega arith)) }
one_word v (a ∷ b ∷ ws) kind e f fit = let none = rw (e, f) at (fit.each 1 [] (omega arith)) in absurd none

two_words : (v : Verb) (ws : List (List ℕ)) (first second : Wanted) → first_words v ≡ first ∷ second ∷ [] → further_words v ≡ None → Fit v ws
    → AreTwoWords first second ws
two_words v [] first second e f fit = let few = rw e at fit.enough in absurd (omega arith)
two_words v (a ∷ []) first second e f fit = let few = rw e at fit.enough in absurd (omega arith)
two_words v (a ∷ b ∷ []) first second e f fit = record {
  word = a;
  last = b;
  text = refl;
  stands = rw e at (fit.each 0 [] (omega arith));
  stands_last = rw e at (fit.each 1 [] (omega arith));
}
two_words v (a ∷ b ∷ c ∷ ws) first second e f fit = let none = rw (e, f) at (fit.each 2 [] (omega arith)) in absurd none

-- ---- events

of_node : (make : NodeId → Event) (ws : List (List ℕ)) → IsOneWord wanted.Node ws → ((e : Event) → OfNode make ws e → ⊥) → ⊥
of_node make ws h none =
    let node = h.stands in
    none (make node.0) (record { node = node.0; is_node = node.1; text = cc (h.text, node.2); event = refl })

of_lease : (make : NodeId → Ticket → Event) (ws : List (List ℕ)) → AreTwoWords wanted.Node wanted.Ticket ws
    → ((e : Event) → OfLease make ws e → ⊥) → ⊥
of_lease make ws h none =
    let node = h.stands in
    let ticket = h.stands_last in
    none (make node.0 ticket.0) (record {
      node = node.0;
      ticket = ticket.0;
      is_node = node.1;
      is_ticket = ticket.1;
      text = cc (h.text, node.2, ticket.2);
      event = refl;
    })

restarts : (ws : List (List ℕ)) (word : List ℕ) → ws ≡ word ∷ [] → StandsFor wanted.NodeOrCoordinator word
    → ((e : Event) → Says Restart ws e → ⊥) → ⊥
restarts ws word text (inl node) none =
    none (event.RestartNode node.0) (inl (record { node = node.0; is_node = node.1; text = cc (text, node.2); event = refl }))
restarts ws word text (inr same) none = none event.RestartCoordinator (inr (record { text = cc (text, same); event = refl }))

nudges : (ws : List (List ℕ)) → Fit Nudge ws → ((e : Event) → Says Nudge ws e → ⊥) → ⊥
nudges [] fit none = none event.Nudge (record { text = refl; event = refl })
nudges (a ∷ ws) fit none = fit.each 0 [] (omega arith)

-- but for an ask and a finish, words that stand for what is wanted say an event
pub said_from_fit : (v : Verb) (ws : List (List ℕ)) → v ≢ Ask → v ≢ Finish → Fit v ws → ((e : Event) → Says v ws e → ⊥) → ⊥
said_from_fit Ask ws no_ask no_finish fit none = no_ask refl
said_from_fit Tenure ws no_ask no_finish fit none =
    let h = two_words Tenure ws wanted.Node wanted.SharedFolder refl refl fit in
    let node = h.stands in
    let folder = h.stands_last in
    none (event.Tenure node.0 folder.0) (record {
      node = node.0;
      folder = folder.0;
      is_node = node.1;
      is_name = folder.1.0;
      shared = folder.1.1;
      text = cc (h.text, node.2, folder.2);
      event = refl;
    })
said_from_fit Deliver ws no_ask no_finish fit none =
    let h = one_word Deliver ws wanted.Message refl refl fit in
    let number = h.stands in
    none (event.Deliver number.0) (record { number = number.0; fits = number.1; text = cc (h.text, number.2); event = refl })
said_from_fit Begin ws no_ask no_finish fit none = of_lease event.Begin ws (two_words Begin ws wanted.Node wanted.Ticket refl refl fit) none
said_from_fit Finish ws no_ask no_finish fit none = no_finish refl
said_from_fit Abort ws no_ask no_finish fit none = of_lease event.Abort ws (two_words Abort ws wanted.Node wanted.Ticket refl refl fit) none
said_from_fit Resend ws no_ask no_finish fit none = of_node event.Resend ws (one_word Resend ws wanted.Node refl refl fit) none
said_from_fit Restart ws no_ask no_finish fit none =
    let h = one_word Restart ws wanted.NodeOrCoordinator refl refl fit in
    restarts ws h.word h.text h.stands none
said_from_fit Forge ws no_ask no_finish fit none =
    let h = two_words Forge ws wanted.Node wanted.Content refl refl fit in
    let node = h.stands in
    let content = h.stands_last in
    none (event.Forge node.0 content.0) (record {
      node = node.0;
      content = content.0;
      is_node = node.1;
      is_content = content.1;
      text = cc (h.text, node.2, content.2);
      event = refl;
    })
said_from_fit Forget ws no_ask no_finish fit none =
    let h = two_words Forget ws wanted.Node wanted.Digest refl refl fit in
    let node = h.stands in
    let digest = h.stands_last in
    none (event.Forget node.0 digest.0) (record {
      node = node.0;
      digest = digest.0;
      is_node = node.1;
      is_digest = digest.1;
      text = cc (h.text, node.2, digest.2);
      event = refl;
    })
said_from_fit Nudge ws no_ask no_finish fit none = nudges ws fit none
said_from_fit Withdraw ws no_ask no_finish fit none =
    let h = one_word Withdraw ws wanted.Ticket refl refl fit in
    let ticket = h.stands in
    none (event.Withdraw ticket.0) (record { ticket = ticket.0; is_ticket = ticket.1; text = cc (h.text, ticket.2); event = refl })
said_from_fit Prune ws no_ask no_finish fit none =
    let h = one_word Prune ws wanted.Slot refl refl fit in
    let slot = h.stands in
    none (event.Prune slot.0) (record { slot = slot.0; is_slot = slot.1; text = cc (h.text, slot.2); event = refl })
said_from_fit Retire ws no_ask no_finish fit none = of_node event.Retire ws (one_word Retire ws wanted.Node refl refl fit) none
said_from_fit Fail ws no_ask no_finish fit none =
    let h = one_word Fail ws wanted.Kept refl refl fit in
    let kept = h.stands in
    none (event.FailSave kept.0) (record { kept = kept.0; text = cc (h.text, kept.2); event = refl })

-- ---- further words

-- the values of these words
record HasValues {X : Type 0} (IsLawful : X → Type 0) (text : X → List ℕ) (ws : List (List ℕ)) : Type 0 where
  pub values : List X
  pub each : All IsLawful values
  pub is : ws ≡ map text values

values_of : {X : Type 0} (IsLawful : X → Type 0) (text : X → List ℕ) (ws : List (List ℕ))
    → ((k : ℕ) (d : List ℕ) → k < length ws → IsTextOfSome IsLawful text (get_or ws k d)) → HasValues IsLawful text ws
values_of IsLawful text [] h = record { values = []; each = All-nil IsLawful; is = refl }
values_of IsLawful text (w ∷ ws) h =
    let first = h 0 w (omega arith) in
    let rest = values_of IsLawful text ws (λ k d lt. h (suc k) d (omega arith)) in
    record {
      values = first.0 ∷ rest.values;
      each = All-cons IsLawful first.0 rest.values first.1 rest.each;
      is = cc (first.2, rest.is);
    }

-- the folders of an ask
given_wants : (ws : List (List ℕ)) → Fit Ask ws → HasValues IsWant want_text (drop 1 ws)
given_wants [] fit = let few = fit.enough in absurd (omega arith)
given_wants (n ∷ ws) fit = values_of IsWant want_text ws (λ k d lt. fit.each (suc k) d (omega arith))

-- what was left at a finish
given_lefts : (ws : List (List ℕ)) → Fit Finish ws → HasValues IsLeft left_text (drop 2 ws)
given_lefts [] fit = let few = fit.enough in absurd (omega arith)
given_lefts (n ∷ []) fit = let few = fit.enough in absurd (omega arith)
given_lefts (n ∷ t ∷ ws) fit = values_of IsLeft left_text ws (λ k d lt. fit.each (suc (suc k)) d (omega arith))

-- an ask of lawful folders is an event
asked : (ws : List (List ℕ)) (wants : List Want) → Fit Ask ws → SpellGiven (drop 1 ws) wants → ((e : Event) → Says Ask ws e → ⊥) → ⊥
asked [] wants fit spelled none = let few = fit.enough in omega arith
asked (n ∷ ws) wants fit spelled none =
    let node = fit.each 0 n (omega arith) in
    none (event.Ask node.0 wants) (record {
      node = node.0;
      folders = ws;
      wants = wants;
      is_node = node.1;
      spelled = spelled;
      text = cc node.2;
      event = refl;
    })

-- a finish of slots that rise is an event
finished : (ws : List (List ℕ)) (lefts : List Left) → Fit Finish ws → SpellLefts (drop 2 ws) lefts → ((e : Event) → Says Finish ws e → ⊥) → ⊥
finished [] lefts fit spelled none = let few = fit.enough in omega arith
finished (n ∷ []) lefts fit spelled none = let few = fit.enough in omega arith
finished (n ∷ t ∷ ws) lefts fit spelled none =
    let node = fit.each 0 n (omega arith) in
    let ticket = fit.each 1 t (omega arith) in
    none (event.Finish node.0 ticket.0 lefts) (record {
      node = node.0;
      ticket = ticket.0;
      slots = ws;
      lefts = lefts;
      is_node = node.1;
      is_ticket = ticket.1;
      spelled = spelled;
      text = cc (node.2, ticket.2);
      event = refl;
    })

folders_len : (ws : List (List ℕ)) (given : List Want) → Fit Ask ws → drop 1 ws ≡ map want_text given → length ws ≡ length given + 1
folders_len [] given fit e = let few = fit.enough in absurd (omega arith)
folders_len (n ∷ ws) given fit e = let len = ap (λ (l : List (List ℕ)). length l) e ∙ length-map given want_text in omega arith

pub many_folders : (ws : List (List ℕ)) → Fit Ask ws → 17 < length ws → AreManyFolders (drop 1 ws)
many_folders ws fit many =
    let given = given_wants ws fit in
    let len = folders_len ws given.values fit given.is in
    record { given = given.values; are = record { each = given.each; text = given.is }; many = omega arith }

pub folder_twice : (ws : List (List ℕ)) → Fit Ask ws → length ws ≤ 17 → ((e : Event) → Says Ask ws e → ⊥) → AreFoldersTwice (drop 1 ws)
folder_twice ws fit few none =
    let given = given_wants ws fit in
    let len = folders_len ws given.values fit given.is in
    record {
      given = given.values;
      are = record { each = given.each; text = given.is };
      few = omega arith;
      twice = λ distinct.
          let sorted = in_order given.values distinct in
          let len' = length_permutation given.values sorted.order sorted.moved in
          asked ws sorted.order fit
          (record {
            given = given.values;
            each = given.each;
            text = given.is;
            sorted = sorted.moved;
            lawful = (omega arith, sorted.rising);
          }) none;
    }

pub falling_lefts : (ws : List (List ℕ)) → Fit Finish ws → ((e : Event) → Says Finish ws e → ⊥) → AreFallingLefts (drop 2 ws)
falling_lefts ws fit none =
    let given = given_lefts ws fit in
    record {
      lefts = given.values;
      each = given.each;
      text = given.is;
      falling = λ rising. finished ws given.values fit (record { each = given.each; text = given.is; rising = rising }) none;
    }
