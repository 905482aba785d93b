-- What a look at a node says of its tokens, the farm being the one that the schedule leads to.
use Rattle.std.proofs.Common.{◌≡◌, ◌≢◌, Bool, true, false, not, ◌&&◌, is_some, List, ℕ, Result, Ok, Err, refl, ap, sym, subst, ◌∙◌}
use Rattle.std.proofs.lemmas.Bool.{and_parts, not-true}
use Rattle.protocol.specs.Names.{NodeId, Life, Ticket}
use Rattle.protocol.specs.Machine.{Grant}
use Rattle.protocol.specs.World.{Node}
use Rattle.protocol.specs.Nodes.{begun, first, held, running, held_or_running}
use Rattle.protocol.specs.Replay.{Farm, is_node}
use Rattle.events.specs.declared.event.Event.{Event}
use Rattle.events.specs.declared.event.Event.TheVariants as event
use Rattle.events.specs.declared.answer.EventRefusal.{EventRefusal}
use Rattle.events.specs.declared.answer.EventRefusal.TheVariants as refusal
use Rattle.events.specs.declared.answer.NodeRefusal.{NodeRefusal}
use Rattle.events.specs.declared.answer.NodeRefusal.TheVariants as node
use Rattle.events.specs.declared.answer.NodeNote.TheVariants as node_note
use Rattle.events.specs.declared.answer.EventNote.TheVariants as note
use Rattle.events.specs.declared.answer.Outcome.{Outcome}
use Rattle.nodecore.specs.Shown.{MayBegin}
use Rattle.farmboard.specs.declared.tokens.Granted.{Granted}
use Rattle.farmboard.specs.declared.tokens.Look.TheVariants.{Ready, Missing, Gone}
use Rattle.farmboard.specs.declared.tokens.Ended.TheVariants.{Sent}
use Rattle.farmhistory.specs.declared.refusal.BoardRefusal.{BoardRefusal}
use Rattle.farmhistory.specs.declared.refusal.BoardRefusal.TheVariants as board
use Rattle.farmhistory.specs.History.{History, farm_of, outcome_of, Took}
use Rattle.farmboard.specs.Faults.{TookOrNot}
use Rattle.farmboard.specs.Tokens.{is_in_life}
use Rattle.farmboard.specs.Begins.{Looks, Lends, AreBases, is_held, is_running, GivesBack, KeepsLease}
use Rattle.farmhistory.proofs.NodeLemmas.{begins_nowhere, begins_refused, begins_here, HasTicket, held_either, running_either, abort_tells, abort_refused}

module _ (h : History) (n : NodeId) (t : Ticket) (s : Farm) (at : s ≡ farm_of h) where
  pub nowhere : is_node s n ≡ false → outcome_of h (event.Begin n t) ≡ Err refusal.NoSuchNode
  nowhere gone = begins_nowhere h n t (ap (λ (u : Farm). is_node u n) (sym at) ∙ gone)

  module _ (there : is_node s n ≡ true) (x : Node) (is : x ≡ s.nodes n.0) where
    pub there_now : is_node (farm_of h) n ≡ true
    there_now = ap (λ (u : Farm). is_node u n) (sym at) ∙ there

    pub node_now : x ≡ (farm_of h).nodes n.0
    node_now = is ∙ ap (λ (u : Farm). u.nodes n.0) at

    pub may_now : (g : Grant) → MayBegin x t g → MayBegin ((farm_of h).nodes n.0) t g
    may_now g may = subst (λ (y : Node). MayBegin y t g) node_now may

    pub begins_now : (g : Grant) → MayBegin x t g → (o : Outcome) × (outcome_of h (event.Begin n t) ≡ Ok o)
    begins_now g may = begins_here h n t g there_now (may_now g may)

    pub refused_now : (e : NodeRefusal) → begun t x ≡ Err e → outcome_of h (event.Begin n t) ≡ Err (refusal.Node e)
    refused_now e refuses = begins_refused h n t e there_now (ap (begun t) (sym node_now) ∙ refuses)

    pub lends_now : (l : Life) (g : Grant) (bases : List (List ℕ)) → l ≡ x.life → MayBegin x t g → AreBases g bases → Lends (farm_of h) n t l g bases
    lends_now l g bases life may copies = record { there = there_now; life = life ∙ ap (λ (y : Node). y.life) node_now; lease = may_now g may; bases = copies }

pub other_than : (e : NodeRefusal) → (e ≡ node.ContentsMissing → ⊥) → refusal.Node e ≢ refusal.Node node.ContentsMissing
other_than e ne same = ne (let eq : e ≡ node.ContentsMissing = cc in eq)

pub refused_not : (h : History) (e : Event) (r : EventRefusal) → outcome_of h e ≡ Err r → (x : Outcome) → outcome_of h e ≢ Ok x
refused_not h e r no_way x ok = (let bad : ◌≡◌ {A = Result Outcome EventRefusal} (Err r) (Ok x) = sym no_way ∙ ok in cc)

-- ---- leases that are given back

module _ (old new : History) (n : NodeId) (t : Ticket) (has : Bool) (ticket : has ≡ true → HasTicket (farm_of old) n t) (here : has ≡ true) where
  pub sent_back : TookOrNot old (event.Abort n t) new (Ok tt) → GivesBack has old (event.Abort n t) t new Sent
  sent_back took = (here, (took.0, abort_tells old n t took.0 took.1.1, took.1))

  pub kept_back : (r : BoardRefusal) → TookOrNot old (event.Abort n t) new (Err r) → KeepsLease has old (event.Abort n t) new r
  kept_back (board.Event r) took = (here, abort_refused old n t r (ticket here) took.1, took)
  kept_back board.HistoryFull took = (here, took)
  kept_back board.TokenOut took = (here, took)
  kept_back board.OutOfMemory took = (here, took)

pub has_ticket_if : (s : Farm) (n : NodeId) (l : Life) (t : Ticket) (b : Bool) → (b ≡ true → is_some (first (held_or_running t) (s.nodes n.0).asks 0) ≡ true)
    → (is_in_life s n l && (not (s.nodes n.0).spent && b)) ≡ true → HasTicket s n t
has_ticket_if s n l t b either has =
    let one = and_parts (is_in_life s n l) (not (s.nodes n.0).spent && b) has in
    let two = and_parts (not (s.nodes n.0).spent) b one.1 in
    record {
      there = (and_parts (is_node s n) _ one.0).0;
      up = not-true (s.nodes n.0).spent two.0;
      some = either two.1;
    }

pub held_has : (s : Farm) (n : NodeId) (l : Life) (t : Ticket) → is_held s n l t ≡ true → HasTicket s n t
held_has s n l t has = has_ticket_if s n l t (is_some (first (held t) (s.nodes n.0).asks 0)) (held_either t (s.nodes n.0).asks 0) has

pub running_has : (s : Farm) (n : NodeId) (l : Life) (t : Ticket) → is_running s n l t ≡ true → HasTicket s n t
running_has s n l t has = has_ticket_if s n l t (is_some (first (running t) (s.nodes n.0).asks 0)) (running_either t (s.nodes n.0).asks 0) has
