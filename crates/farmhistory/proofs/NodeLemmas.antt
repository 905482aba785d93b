-- What the events of executions do to their node.
use Rattle.std.proofs.Common.{◌≡◌, ℕ, ◌+◌, Bool, true, false, List, [], ◌∷◌, length, Option, Some, None, is_some, Result, Ok, Err, refl, ap, sym, subst, ◌∙◌}
use Rattle.names.specs.Contents.{content_digest}
use Rattle.protocol.specs.Farm.{farm_limits}
use Rattle.protocol.specs.Lists.{nth, set_nth, put}
use Rattle.protocol.specs.Names.{NodeId, Life, Ticket}
use Rattle.protocol.specs.Machine.{Grant}
use Rattle.protocol.specs.World.{Node}
use Rattle.events.specs.declared.ask.KeptAsk.{KeptAsk}
use Rattle.events.specs.declared.ask.KeptAsk.TheVariants.{Open, Holding, Running, Finished, Over}
use Rattle.protocol.specs.Nodes.{NodeWork, NodeAnswer, HeldGrant, first, first_of, held, running, held_or_running, begun, becomes, all_stored, in_use, aborted, aborting, guard}
use Rattle.protocol.specs.Replay.{Farm, Turn, is_node, at, at_node, moved, step}
use Rattle.events.specs.declared.event.Event.{Event}
use Rattle.events.specs.declared.event.Event.TheVariants as event
use Rattle.events.specs.declared.answer.EventNote.TheVariants as note
use Rattle.events.specs.declared.answer.NodeNote.TheVariants as node_note
use Rattle.events.specs.declared.answer.EventRefusal.{EventRefusal}
use Rattle.events.specs.declared.answer.EventRefusal.TheVariants as refusal
use Rattle.events.specs.declared.answer.NodeRefusal.{NodeRefusal}
use Rattle.events.specs.declared.answer.NodeRefusal.TheVariants as node
use Rattle.events.specs.declared.answer.Outcome.{Outcome}
use Rattle.protocol.proofs.Base.{put_same, nth-set_same}
use Rattle.protocol.proofs.Moving.{found, held_is, either_is}
use Rattle.nodecore.specs.Shown.{MayBegin}
use Rattle.nodecore.proofs.NodeLemmas.{begins}
use Rattle.farmhistory.specs.History.{History, farm_of, outcome_of, Took, Did}
use Rattle.farmhistory.proofs.FarmLemmas.{farm_then}
use Rattle.farmhistory.proofs.NoteLemmas.{accepted, note_of, work_note}
use Rattle.world.proofs.FewLemmas.{guarded}

there_ok : (b : Bool) (n : NodeId) (a : NodeAnswer) (w : NodeWork) (s : Farm) → b ≡ true → a ≡ Ok w → at_node b n a s ≡ moved n w s
there_ok b n a w s there ok = rw (there, ok) refl

there_err : (b : Bool) (n : NodeId) (a : NodeAnswer) (e : NodeRefusal) (s : Farm) → b ≡ true → a ≡ Err e → (at_node b n a s).outcome ≡ Err (refusal.Node e)
there_err b n a e s there err = rw (there, err) refl

there_not : (b : Bool) (n : NodeId) (a : NodeAnswer) (s : Farm) → b ≡ false → (at_node b n a s).outcome ≡ Err refusal.NoSuchNode
there_not b n a s gone = rw gone refl

-- the node isn't there
pub begins_nowhere : (h : History) (n : NodeId) (t : Ticket) → is_node (farm_of h) n ≡ false → outcome_of h (event.Begin n t) ≡ Err refusal.NoSuchNode
unfolding outcome_of step
begins_nowhere h n t gone = there_not (is_node (farm_of h) n) n (begun t ((farm_of h).nodes n.0)) (farm_of h) gone

-- the node refuses
pub begins_refused : (h : History) (n : NodeId) (t : Ticket) (e : NodeRefusal) → is_node (farm_of h) n ≡ true → begun t ((farm_of h).nodes n.0) ≡ Err e → outcome_of h (event.Begin n t) ≡ Err (refusal.Node e)
unfolding outcome_of step
begins_refused h n t e there refuses = there_err (is_node (farm_of h) n) n (begun t ((farm_of h).nodes n.0)) e (farm_of h) there refuses

-- the node begins
module _ (h : History) (n : NodeId) (t : Ticket) (g : Grant) (there : is_node (farm_of h) n ≡ true) (may : MayBegin ((farm_of h).nodes n.0) t g) where
  abbrev pub here : Node
  here = (farm_of h).nodes n.0

  abbrev pub ask : HeldGrant
  ask = may.holds.1

  abbrev pub work : NodeWork
  work = record { node = becomes may.holds.0 (Running ask.wants ask.grant ask.recalled) here; sends = []; note = node_note.Begun t }

  stored : all_stored here ask.grant.slots ≡ true
  stored = ap (λ (q : Grant). all_stored here q.slots) may.holds.3 ∙ may.stored

  is_begun : begun t here ≡ Ok work
  is_begun = begins t here work.node may.holds.0 ask [] may.up may.holds.2 stored refl refl

  turn : step content_digest farm_limits (farm_of h) (event.Begin n t) ≡ moved n work (farm_of h)
  unfolding step
  turn = there_ok (is_node (farm_of h) n) n (begun t here) work (farm_of h) there is_begun

  pub begins_here : (o : Outcome) × (outcome_of h (event.Begin n t) ≡ Ok o)
  unfolding outcome_of
  begins_here = (_, ap (λ (u : Turn). u.outcome) turn)

  module _ (new : History) (o : Outcome) (took : Took h (event.Begin n t) new (Ok o)) where
    after : farm_of new ≡ (moved n work (farm_of h)).farm
    after = ap farm_of took.2 ∙ farm_then h (event.Begin n t) ∙ ap (λ (u : Turn). u.farm) turn

    node_after : (farm_of new).nodes n.0 ≡ work.node
    node_after = ap (λ (u : Farm). u.nodes n.0) after ∙ put_same n.0 work.node (farm_of h).nodes

    ok_is : (moved n work (farm_of h)).outcome ≡ Ok o
    unfolding outcome_of
    ok_is = sym (ap (λ (u : Turn). u.outcome) turn) ∙ took.1

    pub did_begin : Did h (event.Begin n t) new (note.Node (node_note.Begun t))
    did_begin = (o, note_of o _ ok_is, took)

    pub still_there : is_node (farm_of new) n ≡ true
    still_there = ap (λ (u : Farm). is_node u n) after ∙ there

    pub same_life : (l : Life) → l ≡ here.life → l ≡ ((farm_of new).nodes n.0).life
    same_life l is = is ∙ ap (λ (x : Node). x.life) (sym node_after)

    pub runs_now : nth ((farm_of new).nodes n.0).asks may.holds.0 ≡ Some (Running ask.wants g ask.recalled)
    runs_now =
        let f = found (held t) here.asks (may.holds.0, ask) may.holds.2 in
        ap (λ (x : Node). nth x.asks may.holds.0) node_after
        ∙ nth-set_same here.asks may.holds.0 (Running ask.wants ask.grant ask.recalled) f.0 f.1
        ∙ ap (λ (q : Grant). Some (Running ask.wants q ask.recalled)) may.holds.3

  pub has_ticket : g.ticket ≡ t
  has_ticket =
      let f = found (held t) here.asks (may.holds.0, ask) may.holds.2 in
      ap (λ (q : Grant). q.ticket) (sym may.holds.3) ∙ (held_is t f.0 ask f.2).1

-- ---- leases that are given back

keep : (k : ℕ) (o : Option HeldGrant) (p q : Option (ℕ × HeldGrant)) → (is_some p ≡ true → is_some q ≡ true) → is_some (first_of k o p) ≡ true → is_some (first_of k o q) ≡ true
keep k None p q f h = f h
keep k (Some x) p q f h = refl

skip : (k : ℕ) (o : Option HeldGrant) (q : Option (ℕ × HeldGrant)) → is_some q ≡ true → is_some (first_of k o q) ≡ true
skip k None q h = h
skip k (Some x) q h = refl

-- an ask that is granted or that runs
pub held_either : (t : Ticket) (asks : List KeptAsk) (k : ℕ) → is_some (first (held t) asks k) ≡ true → is_some (first (held_or_running t) asks k) ≡ true
held_either t [] k h = absurd (cc)
held_either t (Open w b ∷ xs) k h = held_either t xs (k + 1) h
held_either t (Holding w g r ∷ xs) k h = keep (k + 1) (held t (Holding w g r)) (first (held t) xs (k + 1)) (first (held_or_running t) xs (k + 1)) (held_either t xs (k + 1)) h
held_either t (Running w g r ∷ xs) k h = skip (k + 1) (running t (Running w g r)) (first (held_or_running t) xs (k + 1)) (held_either t xs (k + 1) h)
held_either t (Finished w g news ∷ xs) k h = held_either t xs (k + 1) h
held_either t (Over how ∷ xs) k h = held_either t xs (k + 1) h

pub running_either : (t : Ticket) (asks : List KeptAsk) (k : ℕ) → is_some (first (running t) asks k) ≡ true → is_some (first (held_or_running t) asks k) ≡ true
running_either t [] k h = absurd (cc)
running_either t (Open w b ∷ xs) k h = running_either t xs (k + 1) h
running_either t (Holding w g r ∷ xs) k h = skip (k + 1) (held t (Holding w g r)) (first (held_or_running t) xs (k + 1)) (running_either t xs (k + 1) h)
running_either t (Running w g r ∷ xs) k h = keep (k + 1) (running t (Running w g r)) (first (running t) xs (k + 1)) (first (held_or_running t) xs (k + 1)) (running_either t xs (k + 1)) h
running_either t (Finished w g news ∷ xs) k h = running_either t xs (k + 1) h
running_either t (Over how ∷ xs) k h = running_either t xs (k + 1) h

-- the node is there and up, and an ask of it has the ticket
pub record HasTicket (s : Farm) (n : NodeId) (t : Ticket) : Type 0 where
  pub there : is_node s n ≡ true
  pub up : (s.nodes n.0).spent ≡ false
  pub some : is_some (first (held_or_running t) (s.nodes n.0).asks 0) ≡ true

module _ (h : History) (n : NodeId) (t : Ticket) where
  abbrev pub its_node : Node
  its_node = (farm_of h).nodes n.0

  -- an accepted Abort tells its ticket
  pub abort_tells : (o : Outcome) → outcome_of h (event.Abort n t) ≡ Ok o → o.note ≡ note.Node (node_note.Aborted t)
  unfolding outcome_of step
  abort_tells o ok =
      let a = accepted (is_node (farm_of h) n) n (aborted (at (farm_of h) n) t its_node) (farm_of h) o ok in
      let one = guarded its_node.spent node.LivesSpent _ a.work a.answer in
      a.note ∙ by (first (held_or_running t) its_node.asks 0) refl a.work one
    where
      by : (r : Option (ℕ × HeldGrant)) → first (held_or_running t) its_node.asks 0 ≡ r → (w : NodeWork) → aborting (at (farm_of h) n) its_node r ≡ Ok w → note.Node w.note ≡ note.Node (node_note.Aborted t)
      by None e w none = absurd (cc)
      by (Some r) e w one =
          let f = found (held_or_running t) its_node.asks r e in
          let two = guarded (in_use its_node.asks r.0 r.1.wants r.1.grant) node.TenureInUse _ w one in
          ap note.Node (work_note _ w two) ∙ ap (λ (z : Ticket). note.Node (node_note.Aborted z)) (either_is t f.0 r.1 f.2).1

  -- one is refused of a ticket that the node has only where the tenure's folder is used
  pub abort_refused : (r : EventRefusal) → HasTicket (farm_of h) n t → outcome_of h (event.Abort n t) ≡ Err r → r ≡ refusal.Node node.TenureInUse
  unfolding outcome_of step
  abort_refused r has err = by (is_node (farm_of h) n) its_node.spent (first (held_or_running t) its_node.asks 0) has.there has.up has.some err
    where
      used : (b : Bool) (w : NodeWork) → (at_node true n (guard b node.TenureInUse (Ok w)) (farm_of h)).outcome ≡ Err r → r ≡ refusal.Node node.TenureInUse
      used true w e = (let same : refusal.Node node.TenureInUse ≡ r = cc in sym same)
      used false w e = absurd (cc)

      by : (there spent : Bool) (o : Option (ℕ × HeldGrant)) → there ≡ true → spent ≡ false → is_some o ≡ true
          → (at_node there n (guard spent node.LivesSpent (aborting (at (farm_of h) n) its_node o)) (farm_of h)).outcome ≡ Err r → r ≡ refusal.Node node.TenureInUse
      by true false (Some q) a b c e = used (in_use its_node.asks q.0 q.1.wants q.1.grant) _ e
      by true false None a b c e = absurd (cc)
      by true true o a b c e = absurd (cc)
      by false spent o a b c e = absurd (cc)
