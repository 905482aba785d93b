-- The executions in use are those that nodes execute.
use Rattle.std.proofs.Common.{◌≡◌, ℕ, ◌+◌, inl, inr, Bool, true, false, not, eqb, ◌&&◌, List, [], ◌∷◌, ◌++◌, filter, ◌⊎◌, Option, Some, None, Result, Ok, Err, refl, ap, sym, subst, ◌∙◌, arith}
use Rattle.std.proofs.lemmas.Bool.{and_from, and_parts, eq-eqb, eqb-true}
use Rattle.names.specs.Contents.{content_digest, empty_digest}
use Rattle.protocol.specs.Farm.{farm_limits}
use Rattle.protocol.specs.Lists.{In, nth}
use Rattle.protocol.specs.Names.{NodeId, Ticket, Want}
use Rattle.protocol.specs.Machine.{Grant}
use Rattle.events.specs.declared.ask.KeptAsk.{KeptAsk}
use Rattle.events.specs.declared.ask.KeptAsk.TheVariants.{Running}
use Rattle.protocol.specs.World.{World, Node, Moves, start}
use Rattle.protocol.specs.Safe as safe
use Rattle.protocol.specs.Meaning.{Means, Answered, Did, StopsAt, BeginsAt}
use Rattle.protocol.specs.Follows.{IsFarm, SafeAfter}
use Rattle.protocol.specs.Replay.{Farm, opening, step}
use Rattle.events.specs.declared.event.Event.{Event}
use Rattle.events.specs.declared.event.Event.TheVariants as event
use Rattle.events.specs.declared.answer.EventRefusal.{EventRefusal}
use Rattle.events.specs.declared.answer.Outcome.{Outcome}
use Rattle.protocol.proofs.Base.{in_one, in_left, in_append, in_filter, from_filter, some_is}
use Rattle.protocol.proofs.Schedules.{every_schedule_is_safe, every_event_is_moves}
use Rattle.farmhistory.specs.declared.uses.InUse.{InUse}
use Rattle.farmhistory.specs.History.{History, farm_of, outcome_of, and_then}
use Rattle.farmhistory.specs.Out.{is_on, is_use_of, out_after, out_if, Runs, AreUsed}
use Rattle.farmhistory.proofs.FarmLemmas.{farm_then}
use Rattle.farmhistory.proofs.TicketLemmas.{run_told, one_ask}

is_farm : IsFarm content_digest farm_limits
unfolding empty_digest
is_farm = record { empty = refl; instances = omega arith }

-- ---- what an event lists and strikes

in_end : {A : Type 0} (x : A) (xs : List A) → In x (xs ++ x ∷ [])
in_end x [] = inl refl
in_end x (y ∷ xs) = inr (in_end x xs)

use_is : (n : NodeId) (t : Ticket) (u : InUse) → u.node ≡ n → t ≡ u.ticket → u ≡ record { node = n; ticket = t }
use_is n t u a b = λ j. record { node = a j; ticket = sym b j }

not_true : (b : Bool) → not b ≡ true → b ≡ true → ⊥
not_true true h e = cc
not_true false h e = cc

not_false : (b : Bool) → (b ≡ true → ⊥) → not b ≡ true
not_false true h = absurd (h refl)
not_false false h = refl

of_use : (n : NodeId) (t : Ticket) (u : InUse) → u.node ≡ n → u.ticket ≡ t → is_use_of n t u ≡ true
of_use n t u a b = and_from _ _ (eq-eqb u.node.0 n.0 (ap (λ (z : NodeId). z.0) a)) (eq-eqb u.ticket.0 t.0 (ap (λ (z : Ticket). z.0) b))

on_node : (n : NodeId) (u : InUse) → u.node ≡ n → is_on n u ≡ true
on_node n u a = eq-eqb u.node.0 n.0 (ap (λ (z : NodeId). z.0) a)

-- the event ends the execution
abbrev Struck : Event → InUse → Type 0
Struck e u = (g : Grant) × (g.ticket ≡ u.ticket) × StopsAt e u.node g

-- the event ends an execution of the ticket, or all of the node
abbrev Ends : InUse → Event → Type 0
Ends u (event.Finish n t lefts) = (u.node.0 ≡ n.0) × (u.ticket.0 ≡ t.0)
Ends u (event.Abort n t) = (u.node.0 ≡ n.0) × (u.ticket.0 ≡ t.0)
Ends u (event.RestartNode n) = u.node.0 ≡ n.0
Ends u e = ⊥

-- it begins it
abbrev Listed : Event → InUse → Type 0
Listed e u = e ≡ event.Begin u.node u.ticket

module _ (uses : List InUse) (u : InUse) where
  -- what an accepted event leaves listed
  after_from : (e : Event) → In u (out_after e uses) → (In u uses × (Struck e u → ⊥)) ⊎ Listed e u
  after_from (event.Begin n t) i = elim (in_append u uses (record { node = n; ticket = t } ∷ []) i) [
    | inl o ↦ inl (o, λ s. s.2)
    | inr q ↦ inr (let same : u ≡ record { node = n; ticket = t } = in_one u _ q in λ j. event.Begin (sym same j).node (sym same j).ticket)
  ]
  after_from (event.Finish n t lefts) i =
      let k = from_filter (λ v. not (is_use_of n t v)) u uses i in inl (k.0, λ s. not_true (is_use_of n t u) k.1 (of_use n t u s.2.0 (sym s.1 ∙ s.2.1)))
  after_from (event.Abort n t) i =
      let k = from_filter (λ v. not (is_use_of n t v)) u uses i in inl (k.0, λ s. not_true (is_use_of n t u) k.1 (of_use n t u s.2.0 (sym s.1 ∙ s.2.1)))
  after_from (event.RestartNode n) i = (let k = from_filter (λ v. not (is_on n v)) u uses i in inl (k.0, λ s. not_true (is_on n u) k.1 (on_node n u s.2)))
  after_from (event.Ask n wants) i = inl (i, λ s. s.2)
  after_from (event.Tenure n f) i = inl (i, λ s. s.2)
  after_from (event.Deliver k) i = inl (i, λ s. s.2)
  after_from (event.Resend n) i = inl (i, λ s. s.2)
  after_from event.Nudge i = inl (i, λ s. s.2)
  after_from (event.Withdraw t) i = inl (i, λ s. s.2)
  after_from (event.Prune x) i = inl (i, λ s. s.2)
  after_from (event.Retire n) i = inl (i, λ s. s.2)
  after_from event.RestartCoordinator i = inl (i, λ s. s.2)
  after_from (event.Forge n c) i = inl (i, λ s. s.2)
  after_from (event.Forget n d) i = inl (i, λ s. s.2)
  after_from (event.FailSave k) i = inl (i, λ s. s.2)

  -- what was listed and isn't struck stays so
  after_still : (e : Event) → In u uses → (Ends u e → ⊥) → In u (out_after e uses)
  after_still (event.Begin n t) i goes = in_left u uses (record { node = n; ticket = t } ∷ []) i
  after_still (event.Finish n t lefts) i goes =
      in_filter (λ v. not (is_use_of n t v)) u uses i (not_false (is_use_of n t u) (λ b. (let p = and_parts (eqb u.node.0 n.0) (eqb u.ticket.0 t.0) b in goes (eqb-true u.node.0 n.0 p.0, eqb-true u.ticket.0 t.0 p.1))))
  after_still (event.Abort n t) i goes =
      in_filter (λ v. not (is_use_of n t v)) u uses i (not_false (is_use_of n t u) (λ b. (let p = and_parts (eqb u.node.0 n.0) (eqb u.ticket.0 t.0) b in goes (eqb-true u.node.0 n.0 p.0, eqb-true u.ticket.0 t.0 p.1))))
  after_still (event.RestartNode n) i goes = in_filter (λ v. not (is_on n v)) u uses i (not_false (is_on n u) (λ b. goes (eqb-true u.node.0 n.0 b)))
  after_still (event.Ask n wants) i goes = i
  after_still (event.Tenure n f) i goes = i
  after_still (event.Deliver k) i goes = i
  after_still (event.Resend n) i goes = i
  after_still event.Nudge i goes = i
  after_still (event.Withdraw t) i goes = i
  after_still (event.Prune x) i goes = i
  after_still (event.Retire n) i goes = i
  after_still event.RestartCoordinator i goes = i
  after_still (event.Forge n c) i goes = i
  after_still (event.Forget n d) i goes = i
  after_still (event.FailSave k) i goes = i

  after_new : (e : Event) (g : Grant) → BeginsAt e u.node g → g.ticket ≡ u.ticket → In u (out_after e uses)
  after_new (event.Begin n t) g b at = (let same : u ≡ record { node = n; ticket = t } = use_is n t u b.0 (sym b.1 ∙ at) in subst (λ (z : InUse). In u (uses ++ z ∷ [])) same (in_end u uses))
  after_new (event.Finish n t lefts) g b at = absurd b
  after_new (event.Abort n t) g b at = absurd b
  after_new (event.RestartNode n) g b at = absurd b
  after_new (event.Ask n wants) g b at = absurd b
  after_new (event.Tenure n f) g b at = absurd b
  after_new (event.Deliver k) g b at = absurd b
  after_new (event.Resend n) g b at = absurd b
  after_new event.Nudge g b at = absurd b
  after_new (event.Withdraw t) g b at = absurd b
  after_new (event.Prune x) g b at = absurd b
  after_new (event.Retire n) g b at = absurd b
  after_new event.RestartCoordinator g b at = absurd b
  after_new (event.Forge n c) g b at = absurd b
  after_new (event.Forget n d) g b at = absurd b
  after_new (event.FailSave k) g b at = absurd b

-- ---- worlds

-- the node executes under the ticket, in a world
abbrev Used : World → InUse → Type 0
Used w u = (g : Grant) × (ws : List Want) × safe.InUse w u.node g ws × (g.ticket ≡ u.ticket)

module _ (w : World) (s : Farm) (nodes : (n : ℕ) → w.nodes n ≡ s.nodes n) (u : InUse) where
  shown : Used w u → Runs s u
  shown (g, ws, i, at) = (i.0, ws, g, i.1, ap (λ (x : Node). nth x.asks i.0) (sym (nodes u.node.0)) ∙ i.2, at)

  is_so : Runs s u → Used w u
  is_so (a, ws, g, r, is, at) = (g, ws, (a, r, ap (λ (x : Node). nth x.asks a) (nodes u.node.0) ∙ is), at)

same_node : (n m : NodeId) → n.0 ≡ m.0 → n ≡ m
same_node n m e = λ j. record { 0 = e j }

same_ticket : (t z : Ticket) → t.0 ≡ z.0 → t ≡ z
same_ticket t z e = λ j. record { 0 = e j }

-- no two executions of a node have one ticket
one_use : (w : World) → Moves content_digest (start content_digest) w → safe.Safe content_digest w → (n : NodeId) (g g' : Grant) (ws ws' : List Want) → safe.InUse w n g ws → safe.InUse w n g' ws' → g.ticket ≡ g'.ticket → (g ≡ g') × (ws ≡ ws')
one_use w moves safe_w n g g' ws ws' i i' e =
    let at : i.0 ≡ i'.0 = one_ask w (run_told content_digest w moves) safe_w.tickets n.0 i.0 i'.0 (Running ws g i.1) (Running ws' g' i'.1) g g' i.2 refl i'.2 refl e in
    let same : Running ws g i.1 ≡ Running ws' g' i'.1 = some_is (Running ws g i.1) (Running ws' g' i'.1) (sym i.2 ∙ ap (nth (w.nodes n.0).asks) at ∙ i'.2) in
    (cc, cc)

-- what a world that the event leads to says
module _ (size : ℕ) (w v : World) (moves : Moves content_digest (start content_digest) w) (safe_w : safe.Safe content_digest w) (e : Event) where
  module _ (o : Outcome) (a : Answered content_digest farm_limits size w e o v) (u : InUse) where
    goes_on : Used w u → (Struck e u → ⊥) → Used v u
    goes_on (g, ws, i, at) spared = elim (a.used.stopped u.node g ws i) [ inl now ↦ (g, ws, now, at) | inr gone ↦ absurd (spared (g, at, gone)) ]

    ended : (d : Event) → Did w d o.note v → Ends u d → Used v u → ((g : Grant) (ws : List Want) → safe.InUse v u.node g ws → safe.InUse w u.node g ws ⊎ BeginsAt d u.node g) → ⊥
    ended (event.Finish n t lefts) did (en, et) (g, ws, i, at) began =
        let node : u.node ≡ n = same_node u.node n en in
        let ticket : u.ticket ≡ t = same_ticket u.ticket t et in
        let was = did.1 in
        elim (began g ws i) [
          | inl old ↦ (let same = one_use w moves safe_w n g was.0 ws was.1 (subst (λ (z : NodeId). safe.InUse w z g ws) node old) was.3 (at ∙ ticket ∙ sym was.2) in
              was.4 (subst (λ (z : List Want). safe.InUse v n was.0 z) same.1 (subst (λ (z : Grant). safe.InUse v n z ws) same.0 (subst (λ (z : NodeId). safe.InUse v z g ws) node i))))
          | inr b ↦ b
        ]
    ended (event.Abort n t) did (en, et) (g, ws, i, at) began = did.1 g ws (at ∙ same_ticket u.ticket t et) (subst (λ (z : NodeId). safe.InUse v z g ws) (same_node u.node n en) i)
    ended (event.RestartNode n) did en (g, ws, i, at) began = did.1 g ws (subst (λ (z : NodeId). safe.InUse v z g ws) (same_node u.node n en) i)
    ended (event.Begin n t) did en k began = en
    ended (event.Ask n wants) did en k began = en
    ended (event.Tenure n f) did en k began = en
    ended (event.Deliver x) did en k began = en
    ended (event.Resend n) did en k began = en
    ended event.Nudge did en k began = en
    ended (event.Withdraw t) did en k began = en
    ended (event.Prune x) did en k began = en
    ended (event.Retire n) did en k began = en
    ended event.RestartCoordinator did en k began = en
    ended (event.Forge n c) did en k began = en
    ended (event.Forget n d) did en k began = en
    ended (event.FailSave x) did en k began = en

    begun : (d : Event) → Did w d o.note v → d ≡ event.Begin u.node u.ticket → Used v u
    begun (event.Begin n t) did is =
        let node : n ≡ u.node = ap event_node is in
        let ticket : t ≡ u.ticket = ap event_ticket is in
        (did.1.0, did.1.1, subst (λ (z : NodeId). safe.InUse v z did.1.0 did.1.1) node did.1.4, did.1.2 ∙ ticket)
      where
        event_node : Event → NodeId
        event_node (event.Begin n t) = n
        event_node d = u.node

        event_ticket : Event → Ticket
        event_ticket (event.Begin n t) = t
        event_ticket d = u.ticket
    begun (event.Finish n t lefts) did is = absurd (cc)
    begun (event.Abort n t) did is = absurd (cc)
    begun (event.RestartNode n) did is = absurd (cc)
    begun (event.Ask n wants) did is = absurd (cc)
    begun (event.Tenure n f) did is = absurd (cc)
    begun (event.Deliver x) did is = absurd (cc)
    begun (event.Resend n) did is = absurd (cc)
    begun event.Nudge did is = absurd (cc)
    begun (event.Withdraw t) did is = absurd (cc)
    begun (event.Prune x) did is = absurd (cc)
    begun (event.Retire n) did is = absurd (cc)
    begun event.RestartCoordinator did is = absurd (cc)
    begun (event.Forge n c) did is = absurd (cc)
    begun (event.Forget n d) did is = absurd (cc)
    begun (event.FailSave x) did is = absurd (cc)

-- ---- boards

module _ (h : History) (e : Event) (uses : List InUse) (was : AreUsed (farm_of h) uses) where
  abbrev s : Farm
  s = farm_of h

  abbrev next : Farm
  next = (step content_digest farm_limits s e).farm

  safe_here : SafeAfter content_digest s
  unfolding farm_of
  safe_here = every_schedule_is_safe content_digest farm_limits is_farm h.setup.nodes h.events

  abbrev w : World
  w = safe_here.world

  by : (r : Result Outcome EventRefusal) (v : World) → Means content_digest farm_limits s.size w e r v → ((n : ℕ) → v.nodes n ≡ next.nodes n) → AreUsed next (out_if r e uses)
  by (Ok o) v a nodes = record {
    each = λ u i. shown v next nodes u (elim (after_from uses u e i) [
      | inl k ↦ goes_on s.size w v safe_here.moves safe_here.safe e o a u (is_so w s safe_here.shows.nodes u (was.each u k.0)) k.1
      | inr is ↦ begun s.size w v safe_here.moves safe_here.safe e o a u e a.did is
    ]);
    all = λ u runs. (let now = is_so v next nodes u runs in elim (a.used.began u.node now.0 now.1 now.2) [
      | inl old ↦ after_still uses u e (was.all u (shown w s safe_here.shows.nodes u (now.0, now.1, old, now.3))) (λ ends. ended s.size w v safe_here.moves safe_here.safe e o a u e a.did ends now (λ g ws i. a.used.began u.node g ws i))
      | inr b ↦ after_new uses u e now.0 b now.3
    ]);
  }
  by (Err r) v same nodes = record {
    each = λ u i. kept u (was.each u i);
    all = λ u runs. was.all u (back u runs);
  }
    where
      asks : (n : ℕ) → (next.nodes n).asks ≡ (s.nodes n).asks
      asks n = ap (λ (x : Node). x.asks) (sym (nodes n)) ∙ elim (same.nodes n) [
        | inl k ↦ ap (λ (x : Node). x.asks) (k ∙ safe_here.shows.nodes n)
        | inr k ↦ ap (λ (x : Node). x.asks) k.1 ∙ ap (λ (x : Node). x.asks) (safe_here.shows.nodes n)
      ]

      kept : (u : InUse) → Runs s u → Runs next u
      kept u (a, ws, g, r, is, at) = (a, ws, g, r, ap (λ (xs : List KeptAsk). nth xs a) (asks u.node.0) ∙ is, at)

      back : (u : InUse) → Runs next u → Runs s u
      back u (a, ws, g, r, is, at) = (a, ws, g, r, ap (λ (xs : List KeptAsk). nth xs a) (sym (asks u.node.0)) ∙ is, at)

  -- the executions in use after one event more
  pub used_then : AreUsed (farm_of (and_then h e)) (out_if (outcome_of h e) e uses)
  unfolding outcome_of
  used_then =
      let one = every_event_is_moves content_digest farm_limits is_farm w safe_here.moves s safe_here.shows e in
      subst (λ (f : Farm). AreUsed f (out_if (outcome_of h e) e uses)) (sym (farm_then h e)) (by (step content_digest farm_limits s e).outcome one.0 one.3 one.2.nodes)
