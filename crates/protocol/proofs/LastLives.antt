-- A node is down for good only in its greatest life.
use Rattle.std.proofs.Common.{◌≡◌, ℕ, ◌≤◌, List, [], ◌∷◌, Bool, true, false, not, ◌&&◌, eqb, length, ◌||◌, Option, Some, None, Result, Ok, Err, ◌⊎◌, refl, subst, inl, inr, arith}
use Rattle.std.proofs.lemmas.Bool.{cases_Bool}
use Rattle.std.specs.Prelude.{nat_lt}
use Rattle.std.specs.List.{list_any}
use Rattle.farm_base.specs.declared.message.Message.TheVariants as to
use Rattle.farm_base.specs.declared.message.ToNode.{ToNode}
use Rattle.farm_base.specs.declared.message.ToNode.TheVariants as to_node
use Rattle.farm_base.specs.declared.message.FromCoord.TheVariants as told
use Rattle.farm_base.specs.declared.message.Why.{Why}
use Rattle.events.specs.declared.answer.Kept.{Kept}
use Rattle.events.specs.declared.answer.Kept.TheVariants.{Old, New}
use Rattle.events.specs.declared.answer.CoordRefusal.{CoordRefusal}
use Rattle.events.specs.declared.answer.NodeRefusal.{NodeRefusal}
use Rattle.events.specs.declared.answer.NodeRefusal.TheVariants as refusal
use Rattle.protocol.specs.Lists.{nth}
use Rattle.protocol.specs.Names.{NodeId, Life, Ask, Ticket, Digest, Want, FolderName, Shared, slots_eq, tenure_wants, digest_eq}
use Rattle.protocol.specs.Machine.{Grant, Confirmed, Message, FromCoord, slots_of, written}
use Rattle.protocol.specs.Ledger.{Limits, Work, begin_work, handled, withdrawn, retired, pruned, nudged}
use Rattle.protocol.specs.World.{KeptAsk, Open, Holding, Running, Finished, Over, Node}
use Rattle.protocol.specs.Nodes.{Place, Left, NodeWork, NodeAnswer, guard, at_home, is_tenure_of, in_use, opens, news_of, needs, HeldGrant, Sent, is_stored, is_base, held, running, held_or_running, finished, recallable, first, asked, asked_tenure, beginning, begun, leaving, finishing, finished_with, aborting, aborted, forgotten, resent, restarted, may_restart, gives_back, granted, learned, dropped, denied, recalled, of_life, heard, fetched, brought, received}
use Rattle.protocol.specs.Replay.{Event, Tenure, Deliver, Begin, Finish, Abort, Resend, Nudge, Withdraw, Prune, Retire, RestartNode, RestartCoordinator, Forge, Forget, FailSave, Farm, step, run, opening, scheduled, settled, coordinated, is_node, at, answered, at_node, node_does, restarts, receiver, delivered}
use Rattle.protocol.specs.Replay as replay
use Rattle.protocol.proofs.Base.{put_all, lt_not}

-- why a node can't restart
pub why_no_restart : (k : Limits) (x : Node) → may_restart k x ≡ false → (x.spent ≡ true) ⊎ (k.greatest ≤ x.life.0)
why_no_restart k x may = elim (cases_Bool x.spent) [ inl t ↦ inl t | inr f ↦ inr (lt_not x.life.0 k.greatest (rw f at may)) ]

module _ (k : Limits) where
  -- where the node is down for good, its life is the greatest
  abbrev pub IsLast : Node → Type 0
  IsLast x = x.spent ≡ true → k.greatest ≤ x.life.0

  -- so is what an answer that isn't a refusal leaves
  record Leaves (r : NodeAnswer) : Type 0 where
    pub last : (w : NodeWork) → r ≡ Ok w → IsLast w.node

  accepted : (w : NodeWork) → IsLast w.node → Leaves (Ok w)
  accepted w h = record { last = λ v e. (let same : w ≡ v = cc in subst (λ (z : NodeWork). IsLast z.node) same h) }

  refused : (e : NodeRefusal) → Leaves (Err e)
  refused e = record { last = λ v h. (let bad : ◌≡◌ {A = NodeAnswer} (Err e) (Ok v) = h in cc) }

  on_guard : (b : Bool) (e : NodeRefusal) (r : NodeAnswer) → Leaves r → Leaves (guard b e r)
  on_guard true e r h = refused e
  on_guard false e r h = h

  -- ---- a node

  module _ (p : Place) (x : Node) (last : IsLast x) where
    asked_last : (wants : List Want) → Leaves (asked k p wants x)
    asked_last wants =
        let made : NodeAnswer = Ok (opens p wants false x) in
        let few : NodeAnswer = guard (not (nat_lt (length x.asks) k.greatest)) refusal.AsksSpent made in
        on_guard x.spent refusal.LivesSpent (guard (not (at_home x.asks wants)) refusal.NotHomeHere few) (on_guard (not (at_home x.asks wants)) refusal.NotHomeHere few (on_guard (not (nat_lt (length x.asks) k.greatest)) refusal.AsksSpent made (accepted (opens p wants false x) last)))

    tenure_last : (f : FolderName) → Leaves (asked_tenure k p f x)
    tenure_last f =
        let here : Bool = list_any (is_tenure_of (record f { mode = Shared })) x.asks in
        let made : NodeAnswer = Ok (opens p (tenure_wants f) true x) in
        let few : NodeAnswer = guard (not (nat_lt (length x.asks) k.greatest)) refusal.AsksSpent made in
        on_guard x.spent refusal.LivesSpent (guard here refusal.TenureHere few) (on_guard here refusal.TenureHere few (on_guard (not (nat_lt (length x.asks) k.greatest)) refusal.AsksSpent made (accepted (opens p (tenure_wants f) true x) last)))

    begun_last : (t : Ticket) → Leaves (begun t x)
    begun_last t = on_guard x.spent _ _ (by (first (held t) x.asks 0))
      where
        by : (o : Option (ℕ × HeldGrant)) → Leaves (beginning t x o)
        by None = refused _
        by (Some (a, h)) = on_guard _ _ _ (accepted _ last)

    finished_last : (sha : List ℕ → Digest) (t : Ticket) (lefts : List Left) → Leaves (finished_with sha p t lefts x)
    finished_last sha t lefts = on_guard x.spent _ _ (by (first (running t) x.asks 0))
      where
        leaving_last : (a : ℕ) (h : HeldGrant) (lefts : List Left) → IsLast (leaving sha p a h lefts x).node
        leaving_last a h [] = last
        leaving_last a h (l ∷ ls) = last

        by : (o : Option (ℕ × HeldGrant)) → Leaves (finishing sha p lefts x o)
        by None = refused _
        by (Some (a, h)) =
            let wrong : Bool = not (slots_eq (slots_of (news_of sha lefts)) (written h.grant.slots)) in
            on_guard (in_use x.asks a h.wants h.grant) refusal.TenureInUse (guard wrong refusal.WrongNews (Ok (leaving sha p a h lefts x))) (on_guard wrong refusal.WrongNews _ (accepted _ (leaving_last a h lefts)))

    aborted_last : (t : Ticket) → Leaves (aborted p t x)
    aborted_last t = on_guard x.spent _ _ (by (first (held_or_running t) x.asks 0))
      where
        by : (o : Option (ℕ × HeldGrant)) → Leaves (aborting p x o)
        by None = refused _
        by (Some (a, h)) = on_guard _ _ _ (accepted _ last)

    forgotten_last : (d : Digest) → Leaves (forgotten k d x)
    forgotten_last d = on_guard x.spent _ _ (on_guard (digest_eq d k.empty || not (is_stored x d)) _ _ (on_guard (list_any (needs d) x.asks) _ _ (accepted _ last)))

    resent_last : Leaves (resent k p x)
    resent_last = on_guard x.spent _ _ (accepted _ last)

    restarted_last : IsLast (restarted p x).node
    restarted_last spent = (let le : k.greatest ≤ x.life.0 = last spent in omega arith)

    -- ---- messages

    gives_back_last : (g : Grant) (b : Bool) → IsLast (gives_back p g b x).node
    gives_back_last g true = last
    gives_back_last g false = last

    granted_last : (g : Grant) (o : Option KeptAsk) → IsLast (granted k p g x o).node
    granted_last g None = last
    granted_last g (Some (Open wants tenure)) = last
    granted_last g (Some (Holding wants h r)) = gives_back_last g _
    granted_last g (Some (Running wants h r)) = gives_back_last g _
    granted_last g (Some (Finished wants h news)) = gives_back_last g _
    granted_last g (Some (Over h)) = last

    learned_last : (t : Ticket) (versions : List Confirmed) (o : Option (ℕ × Sent)) → IsLast (learned t versions x o).node
    learned_last t versions None = last
    learned_last t versions (Some (a, s)) = last

    dropped_last : (t : Ticket) (o : Option (ℕ × Sent)) → IsLast (dropped t x o).node
    dropped_last t None = last
    dropped_last t (Some (a, s)) = last

    denied_last : (a : Ask) (why : Why) (o : Option KeptAsk) → IsLast (denied a why x o).node
    denied_last a why None = last
    denied_last a why (Some (Open wants tenure)) = last
    denied_last a why (Some (Holding wants g r)) = last
    denied_last a why (Some (Running wants g r)) = last
    denied_last a why (Some (Finished wants g news)) = last
    denied_last a why (Some (Over h)) = last

    recalled_last : (t : Ticket) (o : Option (ℕ × KeptAsk)) → IsLast (recalled t x o).node
    recalled_last t None = last
    recalled_last t (Some (a, s)) = last

    of_life_last : (l : Life) (w : NodeWork) → IsLast w.node → IsLast (of_life l x w).node
    of_life_last l w h = elim (cases_Bool (eqb l.0 x.life.0)) [ inl t ↦ rw t h | inr t ↦ rw t last ]

    heard_last : (y : FromCoord) → IsLast (heard k p y x).node
    heard_last (told.Granted g) = of_life_last g.life _ (granted_last g (nth x.asks g.ask.0))
    heard_last (told.Committed n l t versions) = of_life_last l _ (learned_last t versions (first (finished t) x.asks 0))
    heard_last (told.Fenced n l t) = of_life_last l _ (dropped_last t (first (finished t) x.asks 0))
    heard_last (told.Denied n l a why) = of_life_last l _ (denied_last a why (nth x.asks a.0))
    heard_last (told.Recall n l t) = of_life_last l _ (recalled_last t (first (recallable t) x.asks 0))

    fetched_last : (from : NodeId) (o : Option (List ℕ)) → IsLast (fetched from x o).node
    fetched_last from None = last
    fetched_last from (Some c) = last

    brought_last : (sha : List ℕ → Digest) (c : List ℕ) → IsLast (brought sha c x).node
    brought_last sha c = elim (cases_Bool (not (is_stored x (sha c)) && list_any (is_base (sha c)) x.asks)) [ inl t ↦ rw t last | inr t ↦ rw t last ]

    received_last : (sha : List ℕ → Digest) (y : ToNode) → IsLast (received sha k p y x).node
    received_last sha (to_node.FromCoord y) = heard_last y
    received_last sha (to_node.Fetch y) = fetched_last y.from (x.store y.digest)
    received_last sha (to_node.Blob n c) = brought_last sha c

  -- ---- a farm

  abbrev pub AllLast : Farm → Type 0
  AllLast s = (j : ℕ) → IsLast (s.nodes j)

  answered_last : (n : NodeId) (r : NodeAnswer) (s : Farm) → AllLast s → Leaves r → AllLast (answered n r s).farm
  answered_last n (Err e) s all leaves = all
  answered_last n (Ok w) s all leaves = put_all (λ j x. IsLast x) n.0 w.node s.nodes (leaves.last w refl) (λ j other. all j)

  at_last : (b : Bool) (n : NodeId) (r : NodeAnswer) (s : Farm) → AllLast s → Leaves r → AllLast (at_node b n r s).farm
  at_last true n r s all leaves = answered_last n r s all leaves
  at_last false n r s all leaves = all

  restarts_last : (n : NodeId) (s : Farm) → AllLast s → AllLast (restarts k n s).farm
  restarts_last n s all = elim (cases_Bool (may_restart k (s.nodes n.0))) [
    | inl t ↦ rw t (put_all (λ j x. IsLast x) n.0 (restarted (at s n) (s.nodes n.0)).node s.nodes (restarted_last (at s n) (s.nodes n.0) (all n.0)) (λ j other. all j))
    | inr t ↦ rw t (put_all (λ j x. IsLast x) n.0 (record (s.nodes n.0) { spent = true }) s.nodes (λ spent. elim (why_no_restart k (s.nodes n.0) t) [ inl over ↦ all n.0 over | inr le ↦ le ]) (λ j other. all j))
  ]

  settled_last : (changed : Bool) (armed : Option Kept) (w : Work) (s : Farm) → AllLast s → AllLast (settled changed armed w s).farm
  settled_last false armed w s all = all
  settled_last true None w s all = all
  settled_last true (Some Old) w s all = all
  settled_last true (Some New) w s all = all

  coordinated_last : (down : Bool) (r : Result Work CoordRefusal) (s : Farm) → AllLast s → AllLast (coordinated down r s).farm
  coordinated_last true r s all = all
  coordinated_last false (Err e) s all = all
  coordinated_last false (Ok w) s all = settled_last w.changed s.armed w s all

module _ (sha : List ℕ → Digest) (k : Limits) where
  delivered_last : (m : Option Message) (s : Farm) → AllLast k s → AllLast k (delivered sha k m s).farm
  delivered_last None s all = all
  delivered_last (Some (to.ToCoord y)) s all = coordinated_last k s.down (Ok (handled k y (begin_work s.ledger))) s all
  delivered_last (Some (to.ToNode y)) s all =
      at_last k (is_node s (receiver y)) (receiver y) _ s all (on_guard k (s.nodes (receiver y).0).spent _ _ (accepted k _ (received_last k (at s (receiver y)) (s.nodes (receiver y).0) (all (receiver y).0) sha y)))

  step_last : (s : Farm) → AllLast k s → (e : Event) → AllLast k (step sha k s e).farm
  unfolding step
  step_last s all (replay.Ask n wants) = at_last k (is_node s n) n _ s all (asked_last k (at s n) (s.nodes n.0) (all n.0) wants)
  step_last s all (Tenure n f) = at_last k (is_node s n) n _ s all (tenure_last k (at s n) (s.nodes n.0) (all n.0) f)
  step_last s all (Deliver number) = delivered_last (nth s.pool number) s all
  step_last s all (Begin n t) = at_last k (is_node s n) n _ s all (begun_last k (at s n) (s.nodes n.0) (all n.0) t)
  step_last s all (Finish n t lefts) = at_last k (is_node s n) n _ s all (finished_last k (at s n) (s.nodes n.0) (all n.0) sha t lefts)
  step_last s all (Abort n t) = at_last k (is_node s n) n _ s all (aborted_last k (at s n) (s.nodes n.0) (all n.0) t)
  step_last s all (Resend n) = at_last k (is_node s n) n _ s all (resent_last k (at s n) (s.nodes n.0) (all n.0))
  step_last s all Nudge = coordinated_last k s.down (Ok (nudged k (begin_work s.ledger))) s all
  step_last s all (Withdraw t) = coordinated_last k s.down (withdrawn k t (begin_work s.ledger)) s all
  step_last s all (Prune slot) = coordinated_last k s.down (pruned k slot (begin_work s.ledger)) s all
  step_last s all (Retire n) = elim (cases_Bool (is_node s n)) [ inl t ↦ rw t (coordinated_last k s.down (retired k n (begin_work s.ledger)) s all) | inr t ↦ rw t all ]
  step_last s all (RestartNode n) = elim (cases_Bool (is_node s n)) [ inl t ↦ rw t (restarts_last k n s all) | inr t ↦ rw t all ]
  step_last s all RestartCoordinator = all
  step_last s all (Forge n c) = at_last k (is_node s n) n _ s all (on_guard k (s.nodes n.0).spent _ _ (accepted k _ (brought_last k (at s n) (s.nodes n.0) (all n.0) sha c)))
  step_last s all (Forget n d) = at_last k (is_node s n) n _ s all (forgotten_last k (at s n) (s.nodes n.0) (all n.0) d)
  step_last s all (FailSave kept) = all

  run_last : (events : List Event) (s : Farm) → AllLast k s → AllLast k (run sha k events s)
  run_last [] s all = all
  run_last (e ∷ events) s all = run_last events (step sha k s e).farm (step_last s all e)

  pub scheduled_last : (size : ℕ) (events : List Event) → AllLast k (scheduled sha k size events)
  scheduled_last size events = run_last events (opening sha size) (λ j spent. (let bad : false ≡ true = spent in cc))
