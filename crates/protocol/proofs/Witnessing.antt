-- What the definitions reach.
use Rattle.std.proofs.Common.{◌≡◌, ℕ, zero, suc, ◌<◌, List, [], ◌∷◌, ◌⊎◌, Bool, true, false, not, ◌||◌, eqb, Option, Some, None, Ok, Err, refl, sym, ◌∙◌, ap, subst, inl, inr, arith}
use Rattle.std.proofs.lemmas.Bool.{cases_Bool, eqb-true}
use Rattle.protocol.specs.Lists.{In, nth}
use Rattle.protocol.specs.Names.{Slot, slot_eq, Mode, Shared, Private, is_private, is_shared, NodeId, Ticket, Digest, Want}
use Rattle.protocol.specs.Machine.{Grant, LineVersion, Confirmed, Made, ticket_of}
use Rattle.events.specs.declared.answer.NodeRefusal.{NodeRefusal}
use Rattle.protocol.specs.World.{Holding, Running, learn, learn_versions}
use Rattle.protocol.specs.Nodes.{NodeWork, NodeAnswer, HeldGrant, guard, held, first, all_stored, beginning}
use Rattle.protocol.specs.Replay.{Event, Tenure, Deliver, Begin, Finish, Abort, Resend, Nudge, Withdraw, Prune, Retire, RestartNode, RestartCoordinator, Forge, Forget, FailSave, Farm, step}
use Rattle.protocol.specs.Replay as replay
use Rattle.protocol.specs.Meaning.{IsAsk, StopsAt}
use Rattle.protocol.specs.Processes.{Executes}
use Rattle.protocol.specs.Witnesses.{RisingIsOfAnyTwo, FallingIsOfAnyTwo, PrivateAndSharedAreAlone, WhatIsWantedIsWantedUnder, EveryEndIsSeen, TheseCallsEndLeases, AnAcceptedBeginExecutes, Spares, WhatIsSparedGoesOn, WhatIsLearnedIsHeld}
use Rattle.names.proofs.CompareLaws.{slot_exact, slot_eq-itself}
use Rattle.protocol.proofs.Base.{none_some, some_is, get_in, nth-set_same, eqb_same}
use Rattle.protocol.proofs.Moving.{found, held_is}

-- ---- orders

pub rising_is_of_any_two : RisingIsOfAnyTwo
rising_is_of_any_two [] rising i j older newer lt at at' = none_some older at
rising_is_of_any_two (v ∷ vs) rising i zero older newer lt at at' = absurd (omega arith)
rising_is_of_any_two (v ∷ vs) rising zero (suc j) older newer lt at at' =
    subst (λ (z : LineVersion). z.ticket.0 < newer.ticket.0) (some_is v older at) (rising.0 newer (get_in vs j newer at'))
rising_is_of_any_two (v ∷ vs) rising (suc i) (suc j) older newer lt at at' = rising_is_of_any_two vs rising.1 i j older newer (omega arith) at at'

pub falling_is_of_any_two : FallingIsOfAnyTwo
falling_is_of_any_two [] falling i j newer older lt at at' = none_some newer at
falling_is_of_any_two (v ∷ vs) falling i zero newer older lt at at' = absurd (omega arith)
falling_is_of_any_two (v ∷ vs) falling zero (suc j) newer older lt at at' =
    subst (λ (z : Made). ticket_of older < ticket_of z) (some_is v newer at) (falling.0 older (get_in vs j older at'))
falling_is_of_any_two (v ∷ vs) falling (suc i) (suc j) newer older lt at at' = falling_is_of_any_two vs falling.1 i j newer older (omega arith) at at'

-- ---- executions

pub private_and_shared_are_alone : PrivateAndSharedAreAlone
private_and_shared_are_alone slot m = elim m [ inl private ↦ by slot.folder.mode (inl private) | inr shared ↦ by slot.folder.mode (inr shared) ]
  where
    by : (m : Mode) → (m ≡ Private) ⊎ (m ≡ Shared) → (is_private m || is_shared m) ≡ true
    by m (inl e) = rw e refl
    by m (inr e) = rw e refl

answer_is : (w v : NodeWork) → ◌≡◌ {A = NodeAnswer} (Ok w) (Ok v) → w ≡ v
answer_is w v e = cc

refused_not : {P : Type 0} (e : NodeRefusal) (w : NodeWork) → ◌≡◌ {A = NodeAnswer} (Err e) (Ok w) → P
refused_not e w h = cc

-- what a guard lets through
through : (b : Bool) (e : NodeRefusal) (r : NodeAnswer) (w : NodeWork) → guard b e r ≡ Ok w → r ≡ Ok w
through true e r w h = refused_not e w h
through false e r w h = h

pub an_accepted_begin_executes : AnAcceptedBeginExecutes
an_accepted_begin_executes x t w ok = by (first (held t) x.asks 0) refl (through x.spent _ _ w ok)
  where
    by : (o : Option (ℕ × HeldGrant)) → first (held t) x.asks 0 ≡ o → beginning t x o ≡ Ok w
        → (number : ℕ) × (wants : List Want) × (grant : Grant) × (recalled : Bool)
        × IsAsk x number (Holding wants grant recalled) × (grant.ticket ≡ t) × Executes w.node grant wants
    by None e h = refused_not _ w h
    by (Some r) e h =
        let f = found (held t) x.asks r e in
        let g : HeldGrant = r.1 in
        let is = held_is t f.0 g f.2 in
        let at : nth x.asks r.0 ≡ Some (Holding g.wants g.grant g.recalled) = f.1 ∙ ap Some is.0 in
        let work = answer_is _ w (through (not (all_stored x g.grant.slots)) _ _ w h) in (
          r.0,
          g.wants,
          g.grant,
          g.recalled,
          at,
          is.1,
          (
            r.0,
            g.recalled,
            subst (λ (z : NodeWork). nth z.node.asks r.0 ≡ Some (Running g.wants g.grant g.recalled)) work (nth-set_same x.asks r.0 (Running g.wants g.grant g.recalled) (Holding g.wants g.grant g.recalled) at),
          ),
        )

-- an event that spares the execution doesn't stop it
not_stopped : (node : NodeId) (t : Ticket) (e : Event) (g : Grant) → Spares node t e → g.ticket ≡ t → StopsAt e node g → ⊥
not_stopped node t (replay.Ask n wants) g spares at stops = stops
not_stopped node t (Tenure n f) g spares at stops = stops
not_stopped node t (Deliver number) g spares at stops = stops
not_stopped node t (Begin n u) g spares at stops = stops
not_stopped node t (Finish n u lefts) g spares at stops = spares.finish lefts (ap (λ z. Finish z u lefts) (sym stops.0) ∙ ap (λ z. Finish node z lefts) (sym stops.1 ∙ at))
not_stopped node t (Abort n u) g spares at stops = spares.abort (ap (λ z. Abort z u) (sym stops.0) ∙ ap (λ z. Abort node z) (sym stops.1 ∙ at))
not_stopped node t (Resend n) g spares at stops = stops
not_stopped node t Nudge g spares at stops = stops
not_stopped node t (Withdraw u) g spares at stops = stops
not_stopped node t (Prune slot) g spares at stops = stops
not_stopped node t (Retire n) g spares at stops = stops
not_stopped node t (RestartNode n) g spares at stops = spares.restart (ap RestartNode (sym stops))
not_stopped node t RestartCoordinator g spares at stops = stops
not_stopped node t (Forge n c) g spares at stops = stops
not_stopped node t (Forget n d) g spares at stops = stops
not_stopped node t (FailSave kept) g spares at stops = stops

pub what_is_spared_goes_on : WhatIsSparedGoesOn
what_is_spared_goes_on sha k node t [] s spares = tt
what_is_spared_goes_on sha k node t (e ∷ es) s spares =
    (λ g o ok at stops. not_stopped node t e g (spares e (inl refl)) at stops, what_is_spared_goes_on sha k node t es (step sha k s e).farm (λ x i. spares x (inr i)))

-- ---- contents

abbrev Known : Type 0
Known = Slot → ℕ → Option Digest

-- no other of the versions is of its slot and number
abbrev Alone : Confirmed → List Confirmed → Type 0
Alone v vs = (other : Confirmed) → In other vs → other.slot ≡ v.slot → other.number ≡ v.number → other ≡ v

-- one more version that is learned leaves this one known
learned_one : (v u : Confirmed) (known : Known) → (u.slot ≡ v.slot → u.number ≡ v.number → u ≡ v) → known v.slot v.number ≡ Some v.digest
    → learn u.slot u.number u.digest known v.slot v.number ≡ Some v.digest
learned_one v u known alone was = elim (cases_Bool (slot_eq v.slot u.slot)) [
  | inr f ↦ rw f was
  | inl t ↦ elim (cases_Bool (eqb v.number u.number)) [
    | inr g ↦ rw (t, g) was
    | inl y ↦ rw (t, y) (ap (λ (z : Confirmed). Some z.digest) (alone (sym (slot_exact v.slot u.slot t)) (sym (eqb-true v.number u.number y))))
  ]
]

stays_known : (vs : List Confirmed) (v : Confirmed) (known : Known) → Alone v vs → known v.slot v.number ≡ Some v.digest → learn_versions vs known v.slot v.number ≡ Some v.digest
stays_known [] v known alone was = was
stays_known (u ∷ us) v known alone was = stays_known us v (learn u.slot u.number u.digest known) (λ x i. alone x (inr i)) (learned_one v u known (alone u (inl refl)) was)

itself : (v : Confirmed) (known : Known) → learn v.slot v.number v.digest known v.slot v.number ≡ Some v.digest
itself v known = (let s : slot_eq v.slot v.slot ≡ true = slot_eq-itself v.slot in let n : eqb v.number v.number ≡ true = eqb_same v.number in rw (s, n) refl)

gets_known : (vs : List Confirmed) (v : Confirmed) (known : Known) → In v vs → Alone v vs → learn_versions vs known v.slot v.number ≡ Some v.digest
gets_known [] v known i alone = absurd i
gets_known (u ∷ us) v known (inl e) alone =
    stays_known us v (learn u.slot u.number u.digest known) (λ x j. alone x (inr j)) (subst (λ (z : Confirmed). learn z.slot z.number z.digest known v.slot v.number ≡ Some v.digest) e (itself v known))
gets_known (u ∷ us) v known (inr i) alone = gets_known us v (learn u.slot u.number u.digest known) i (λ x j. alone x (inr j))

pub what_is_learned_is_held : WhatIsLearnedIsHeld
what_is_learned_is_held x t place sent versions v c i alone stored = (v.digest, gets_known versions v x.known i alone, stored)

-- ---- what ends

pub what_is_wanted_is_wanted_under : WhatIsWantedIsWantedUnder
what_is_wanted_is_wanted_under pool g wants w sent asked i = (g, wants, w, (sent, refl), asked, i, refl)

pub every_end_is_seen : EveryEndIsSeen
every_end_is_seen empty m = record {
  on_line = λ s v i. (s, v, i, refl);
  withdrawn = λ t e. inl e;
  died = λ t e. inr e;
  present = λ n l e. inl e;
}

pub these_calls_end_leases : TheseCallsEndLeases
these_calls_end_leases q g = record { withdrawal = refl; retirement = refl; newer_life = λ y here at newer older. (here, newer, sym at, older) }
