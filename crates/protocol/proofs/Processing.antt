-- Processes that hear and write lines are a farm.
use Rattle.std.proofs.Common.{◌≡◌, ℕ, zero, suc, ◌+◌, ◌<◌, ◌≤◌, List, [], ◌∷◌, ◌++◌, Bool, true, false, not, map, Option, Some, None, slice_get, Result, Ok, Err, refl, sym, ◌∙◌, ap, subst, inl, inr, arith, append-nil}
use Rattle.std.proofs.lemmas.Bool.{and_parts, cases_Bool, cases_eq}
use Rattle.std.proofs.lemmas.Bool.Decides.{nat_tests}
use Rattle.std.specs.Prelude.{nat_lt, nat_le, if◌then◌else◌}
use Rattle.farm_base.specs.Kinds.{is_tenure}
use Rattle.farm_base.specs.declared.message.Message.TheVariants as to
use Rattle.farm_base.specs.declared.message.ToNode.TheVariants as to_node
use Rattle.farm_base.specs.declared.message.FromCoord.TheVariants as told
use Rattle.protocol.specs.Lists.{In, IsFrontOf, put, nth}
use Rattle.protocol.specs.Names.{NodeId, Life, Ask, Ticket, Slot, Digest, Want}
use Rattle.protocol.specs.Machine.{Grant, LineVersion, Machine, Fetch, Blob, Message, ToCoord, Said, Told, hello, acquire, HasPart, Ends_part, Keeps, Leaves}
use Rattle.events.specs.declared.answer.CoordRefusal.{CoordRefusal}
use Rattle.events.specs.declared.answer.EventRefusal.TheVariants as refusal
use Rattle.events.specs.declared.answer.Outcome.{Outcome}
use Rattle.events.specs.declared.answer.Kept.{Kept}
use Rattle.events.specs.declared.answer.Kept.TheVariants.{Old, New}
use Rattle.protocol.specs.Ledger.{Limits, Ledger, Lease, Work, begin_work, handled, withdrawn, retired, pruned, nudged, Saved, saves, reads}
use Rattle.events.specs.declared.answer.NodeRefusal.TheVariants as node_refusal
use Rattle.protocol.specs.Ledger as ledger
use Rattle.protocol.specs.World.{KeptAsk, Node, Running, has_life, first_node, start}
use Rattle.protocol.specs.Nodes.{Place, guard, fetched, NodeWork, NodeAnswer, asked, asked_tenure, begun, finished_with, aborted, forgotten, resent, may_restart, restarted, received, brought, unless_spent}
use Rattle.protocol.specs.Replay.{Farm, Turn, Event, Deliver, RestartCoordinator, RestartNode, Forge, FailSave, settled, settles, coordinated, delivered, is_node, at, at_node, node_does, moved, answered, restarts, receiver, step, run, opening}
use Rattle.protocol.specs.Replay as replay
use Rattle.protocol.specs.Lawful.{IsNumber}
use Rattle.protocol.specs.Processes.{Coordinator, Processes, Call, Handle, Withdraw, Prune, Retire, Nudge, MayCome, AllMayCome, decided, Batch, begin_batch, taken, batch, CoordinatorDoes, Works, Fails, Is_killed, Starts, NodeCall, Receive, Ask_lease, Ask_tenure, Begin, Finish, Abort, Resend, Bring, Forget, MayReach, node_decided, NodeDoes, Acts, Begins_life, Loses, Is_spent, Happens, Coordinator_does, Node_does, Runs, Rests, Goes_on, first_processes, IsNodeOf, IsOfLeases, IsFarmOf, AreScheduled, ProcessesAreTheFarm, Executes, StaySafe, ProcessesStaySafe, running_after, killed_after, WithdrawnStaysOut, CallEnds, EndedStaysOut, HasAsked, OnlyHonestAreAFarm, EveryFarmIsProcesses, AllCanBeLost}
use Rattle.protocol.specs.Safe.{InUse, HoldsContent, Rising}
use Rattle.protocol.specs.Follows.{IsFarm, SafeAfter, SavedAgrees, lease_from}
use Rattle.protocol.specs.Chronicle.{StaysOut, Headline, IsSavedFarm, Covered}
use Rattle.lists.proofs.Places.{cases_list}
use Rattle.protocol.proofs.Invariant.{WasAsked}
use Rattle.protocol.proofs.Worlds.{moves_inv, start_whole}
use Rattle.protocol.proofs.Losing as losing
use Rattle.protocol.proofs.Schedules.{from_opening, run_next, every_schedule_is_safe}
use Rattle.protocol.proofs.Ended.{stays_over}
use Rattle.protocol.proofs.Chronicles.{every_schedule_means, every_farm_is_saved, every_record_covers}
use Rattle.protocol.proofs.Base.{true_false, ticket_is, nth_in, put_same, put_other, put_all, in_one, in_left, in_right, in_append, some_is, none_some}

-- ---- members, places and parts

-- what stands in a list has a place
place_of : {A : Type 0} (x : A) (xs : List A) → In x xs → (number : ℕ) × (nth xs number ≡ Some x)
place_of x xs i = (let r = by xs i in (suc r.0, r.1))
  where
    by : {A : Type 0} {x : A} (xs : List A) → In x xs → (number : ℕ) × (nth xs (suc number) ≡ Some x)
    by [] i = absurd i
    by (y ∷ xs) (inl e) = (zero, ap Some (sym e))
    by (y ∷ xs) (inr i) = (let r = by xs i in (suc r.0, r.1))

-- what of the first is of leases stands in the second
abbrev pub Carries : List Message → List Message → Type 0
Carries xs ys = (m : Message) → IsOfLeases m → In m xs → In m ys

abbrev pub Within : List Message → List Message → Type 0
Within xs ys = (m : Message) → In m xs → In m ys

pub part_within : {A : Type 0} {xs ys : List A} → HasPart xs ys → (x : A) → In x ys → In x xs
part_within Ends_part m i = i
part_within (Keeps x xs ys p) m (inl e) = inl e
part_within (Keeps x xs ys p) m (inr i) = inr (part_within p m i)
part_within (Leaves x xs ys p) m i = inr (part_within p m i)

pub all_carried : (xs ys zs : List Message) → Carries xs zs → Carries ys zs → Carries (xs ++ ys) zs
all_carried xs ys zs f g m o i = elim (in_append m xs ys i) [ inl j ↦ f m o j | inr j ↦ g m o j ]

pub all_within : (xs ys zs : List Message) → Within xs zs → Within ys zs → Within (xs ++ ys) zs
all_within xs ys zs f g m i = elim (in_append m xs ys i) [ inl j ↦ f m j | inr j ↦ g m j ]

-- ---- tests of numbers

le_true : (a b : ℕ) → a ≤ b → nat_le a b ≡ true
le_true a b h = grind (arith, nat_tests)

lt_true : (a b : ℕ) → a < b → nat_lt a b ≡ true
lt_true a b h = grind (arith, nat_tests)

-- ---- farms

module _ (sha : List ℕ → Digest) (k : Limits) (size : ℕ) where
  run_append : (es fs : List Event) (s : Farm) → run sha k (es ++ fs) s ≡ run sha k fs (run sha k es s)
  run_append [] fs s = refl
  run_append (e ∷ es) fs s = run_append es fs (step sha k s e).farm

  -- a farm that is up
  abbrev farm_of : Ledger → Saved → (ℕ → Node) → List Message → Farm
  farm_of q disk nodes pool = record { size = size; ledger = q; saved = disk; down = false; armed = None; pool = pool; nodes = nodes }

  -- from the one farm some events lead to the other
  abbrev Leads : Farm → Farm → Type 0
  Leads s t = (events : List Event) × (run sha k events s ≡ t)

  leads_on : (s t u : Farm) → Leads s t → Leads t u → Leads s u
  leads_on s t u (es, a) (fs, b) = (es ++ fs, run_append es fs s ∙ ap (run sha k fs) a ∙ b)

  -- ---- the coordinator

  module _ (nodes : ℕ → Node) where
    -- a batch, and the farm that has done it
    abbrev done : Batch → List Message → Farm
    done b pool = farm_of b.ledger b.to_save nodes pool

    -- some events lead on to what the batch is then, and what it sends is in the pool
    record Reaches (s : Farm) (pool : List Message) (b : Batch) : Type 0 where
      pub after : List Message
      pub leads : Leads s (done b after)
      pub more : Within pool after
      pub sent : Within b.sends after

    abbrev Decides : Batch → List Message → Result Work CoordRefusal → Farm → Type 0
    Decides b pool r t = (after : List Message) × (t ≡ done (taken r b) after) × Within pool after × Within (taken r b).sends after

    decides : (b : Batch) (pool : List Message) → Within b.sends pool → (r : Result Work CoordRefusal) → Decides b pool r (coordinated false r (done b pool)).farm
    decides b pool sent (Err e) = (pool, refl, λ m i. i, sent)
    decides b pool sent (Ok w) = (
      pool ++ map Told w.sends,
      by w.changed refl,
      λ m i. in_left m pool (map Told w.sends) i,
      all_within b.sends (map Told w.sends) (pool ++ map Told w.sends) (λ m i. in_left m pool (map Told w.sends) (sent m i)) (λ m i. in_right m pool (map Told w.sends) i),
    )
      where
        by : (c : Bool) → w.changed ≡ c → (coordinated false (Ok w) (done b pool)).farm ≡ done (taken (Ok w) b) (pool ++ map Told w.sends)
        by true e = rw e refl
        by false e = rw e refl

    -- each call that may come is an event
    one_call : (written pool : List Message) → Carries written pool → (c : Call) → MayCome size written c → (b : Batch) → (e : Event) × ((step sha k (done b pool) e).farm ≡ (coordinated false (decided k b.ledger c) (done b pool)).farm)
    unfolding step
    one_call written pool within (Handle y) i b = (let r = place_of (Said y) pool (within (Said y) tt i) in (Deliver r.0, rw r.1 refl))
    one_call written pool within (Withdraw t) i b = (replay.Withdraw t, refl)
    one_call written pool within (Prune s) i b = (replay.Prune s, refl)
    one_call written pool within (Retire n) i b = (replay.Retire n, rw (le_true 1 n.0 i.0, le_true n.0 size i.1) refl)
    one_call written pool within Nudge i b = (replay.Nudge, refl)

    -- and so are several
    reach : (written : List Message) (calls : List Call) (b : Batch) (pool : List Message) → Carries written pool → Within b.sends pool → AllMayCome size written calls → Reaches (done b pool) pool (batch k calls b)
    reach written [] b pool within sent all = record { after = pool; leads = ([], refl); more = λ m i. i; sent = sent }
    reach written (c ∷ calls) b pool within sent all =
        let one = one_call written pool within c (all c (inl refl)) b in
        let d = decides b pool sent (decided k b.ledger c) in
        let next : Batch = taken (decided k b.ledger c) b in
        let rest = reach written calls next d.0 (λ m o i. d.2 m (within m o i)) d.3 (λ x i. all x (inr i)) in
        record {
          after = rest.after;
          leads = leads_on (done b pool) (done next d.0) (done (batch k calls next) rest.after) (one.0 ∷ [], one.1 ∙ d.1) rest.leads;
          more = λ m i. rest.more m (d.2 m i);
          sent = rest.sent;
        }

  -- ---- a node

  module _ (q : Ledger) (disk : Saved) (n : NodeId) (number : IsNumber size n) where
    abbrev place : Place
    place = record { node = n; nodes = size }

    -- the farm's node goes on to what the process is then, and sends what it sends of leases
    record Acts_too (nodes : ℕ → Node) (pool : List Message) (w : NodeWork) : Type 0 where
      pub nodes_then : ℕ → Node
      pub after : List Message
      pub leads : Leads (farm_of q disk nodes pool) (farm_of q disk nodes_then after)
      pub here : IsNodeOf sha (nodes_then n.0) w.node
      pub others : (j : ℕ) → (j ≡ n.0 → ⊥) → nodes_then j ≡ nodes j
      pub more : Within pool after
      pub sent : Carries w.sends after

    does : (f : Place → Node → NodeAnswer) (nodes : ℕ → Node) (pool : List Message) (w : NodeWork) → f place (nodes n.0) ≡ Ok w
        → (node_does n f (farm_of q disk nodes pool)).farm ≡ farm_of q disk (put n.0 w.node nodes) (pool ++ w.sends)
    does f nodes pool w e = rw (le_true 1 n.0 number.0, le_true n.0 size number.1, e) refl

    -- the farm's node has the contents and versions of the process, and more
    module _ (count : ℕ) (nodes : ℕ → Node) (pool : List Message) (y : Node) (is : IsNodeOf sha (nodes n.0) y) where
      abbrev AllAct : NodeCall → Type 0
      AllAct c = losing.AllLess sha k n size count y (nodes n.0).store (nodes n.0).known is.contents is.versions c

      same_node : nodes n.0 ≡ record y { store = (nodes n.0).store; known = (nodes n.0).known }
      same_node = λ i. record { life = is.life i; asks = is.asks i; store = (nodes n.0).store; known = (nodes n.0).known; spent = is.spent i }

      -- an event that does with the farm's node what the call does
      one_event : (c : NodeCall) → AllAct c → (w : NodeWork) → node_decided sha k (record { node = n; nodes = count }) y c ≡ Ok w → (e : Event)
          → ((v : NodeWork) → node_decided sha k place (nodes n.0) c ≡ Ok v → (step sha k (farm_of q disk nodes pool) e).farm ≡ farm_of q disk (put n.0 v.node nodes) (pool ++ v.sends))
          → Acts_too nodes pool w
      one_event c less w ok e steps =
          let r = less.gives w ok in
          let v : NodeWork = r.0 in
          let mine : node_decided sha k place (nodes n.0) c ≡ Ok v = subst (λ z. node_decided sha k place z c ≡ Ok v) (sym same_node) r.1 in
          record {
            nodes_then = put n.0 v.node nodes;
            after = pool ++ v.sends;
            leads = (e ∷ [], steps v mine);
            here = subst (λ z. IsNodeOf sha z w.node) (sym (put_same n.0 v.node nodes)) r.2.node;
            others = λ j other. put_other n.0 v.node nodes j other;
            more = λ m i. in_left m pool v.sends i;
            sent = λ m o i. in_right m pool v.sends (r.2.sends m o i);
          }

      -- a Fetch changes nothing, and what answers it is a Blob
      answers_fetch : (y' : Fetch) (w : NodeWork) → node_decided sha k (record { node = n; nodes = count }) y (Receive (to_node.Fetch y')) ≡ Ok w → Acts_too nodes pool w
      answers_fetch y' w ok = by y.spent ok
        where
          said : (o : Option (List ℕ)) (v : NodeWork) → fetched y'.from y o ≡ v → Acts_too nodes pool v
          said None v e = subst (Acts_too nodes pool) e (record { nodes_then = nodes; after = pool; leads = ([], refl); here = is; others = λ j other. refl; more = λ m i. i; sent = λ m o i. absurd i })
          said (Some c) v e = subst (Acts_too nodes pool) e (record {
            nodes_then = nodes;
            after = pool;
            leads = ([], refl);
            here = is;
            others = λ j other. refl;
            more = λ m i. i;
            sent = λ m o i. absurd (subst IsOfLeases (in_one m (Blob y'.from c) i) o);
          })

          by : (b : Bool) → guard b node_refusal.LivesSpent (Ok (fetched y'.from y (y.store y'.digest))) ≡ Ok w → Acts_too nodes pool w
          by true h = (let bad : ◌≡◌ {A = NodeAnswer} (Err node_refusal.LivesSpent) (Ok w) = h in cc)
          by false h = said (y.store y'.digest) w (let good : ◌≡◌ {A = NodeAnswer} (Ok (fetched y'.from y (y.store y'.digest))) (Ok w) = h in cc)

      -- each accepted call that may reach it is an event, or none
      one_node_call : (written : List Message) → Carries written pool → (c : NodeCall) → MayReach written n c → (w : NodeWork) → node_decided sha k (record { node = n; nodes = count }) y c ≡ Ok w → Acts_too nodes pool w
      unfolding step
      one_node_call written carries (Receive (to_node.FromCoord m)) i w ok =
          let r = place_of (to.ToNode (to_node.FromCoord m)) pool (carries (to.ToNode (to_node.FromCoord m)) tt i.0) in
          one_event (Receive (to_node.FromCoord m)) (losing.received_less sha k n size count y (nodes n.0).store (nodes n.0).known is.contents is.versions m) w ok (Deliver r.0) (λ v e. rw r.1 (by v e (receiver (to_node.FromCoord m)) i.1))
        where
          by : (v : NodeWork) → node_decided sha k place (nodes n.0) (Receive (to_node.FromCoord m)) ≡ Ok v → (to' : NodeId) → to' ≡ n
              → (node_does to' (λ p x. unless_spent x (received sha k p (to_node.FromCoord m) x)) (farm_of q disk nodes pool)).farm ≡ farm_of q disk (put n.0 v.node nodes) (pool ++ v.sends)
          by v e to' same =
              subst (λ t. (node_does t (λ p x. unless_spent x (received sha k p (to_node.FromCoord m) x)) (farm_of q disk nodes pool)).farm ≡ farm_of q disk (put n.0 v.node nodes) (pool ++ v.sends)) (sym same)
              (does (λ p x. unless_spent x (received sha k p (to_node.FromCoord m) x)) nodes pool v e)
      one_node_call written carries (Receive (to_node.Fetch f)) i w ok = answers_fetch f w ok
      one_node_call written carries (Receive (to_node.Blob m c)) i w ok = one_event (Bring c) (losing.bring_less sha k n size count y (nodes n.0).store (nodes n.0).known is.contents is.versions c) w ok (Forge n c) (λ v e. does (λ p x. unless_spent x (brought sha c x)) nodes pool v e)
      one_node_call written carries (Ask_lease wants) i w ok = one_event (Ask_lease wants) (losing.ask_less sha k n size count y (nodes n.0).store (nodes n.0).known is.contents is.versions wants) w ok (replay.Ask n wants) (λ v e. does (λ p x. asked k p wants x) nodes pool v e)
      one_node_call written carries (Ask_tenure f) i w ok = one_event (Ask_tenure f) (losing.ask_tenure_less sha k n size count y (nodes n.0).store (nodes n.0).known is.contents is.versions f) w ok (replay.Tenure n f) (λ v e. does (λ p x. asked_tenure k p f x) nodes pool v e)
      one_node_call written carries (Begin t) i w ok = one_event (Begin t) (losing.begin_less sha k n size count y (nodes n.0).store (nodes n.0).known is.contents is.versions t) w ok (replay.Begin n t) (λ v e. does (λ p x. begun t x) nodes pool v e)
      one_node_call written carries (Finish t lefts) i w ok = one_event (Finish t lefts) (losing.finish_less sha k n size count y (nodes n.0).store (nodes n.0).known is.contents is.versions t lefts) w ok (replay.Finish n t lefts) (λ v e. does (λ p x. finished_with sha p t lefts x) nodes pool v e)
      one_node_call written carries (Abort t) i w ok = one_event (Abort t) (losing.abort_less sha k n size count y (nodes n.0).store (nodes n.0).known is.contents is.versions t) w ok (replay.Abort n t) (λ v e. does (λ p x. aborted p t x) nodes pool v e)
      one_node_call written carries Resend i w ok = one_event Resend (losing.resend_less sha k n size count y (nodes n.0).store (nodes n.0).known is.contents is.versions) w ok (replay.Resend n) (λ v e. does (λ p x. resent k p x) nodes pool v e)
      one_node_call written carries (Forget d) i w ok = one_event (Forget d) (losing.forget_less sha k n size count y (nodes n.0).store (nodes n.0).known is.contents is.versions d) w ok (replay.Forget n d) (λ v e. does (λ p x. forgotten k d x) nodes pool v e)
      one_node_call written carries (Bring c) i w ok = one_event (Bring c) (losing.bring_less sha k n size count y (nodes n.0).store (nodes n.0).known is.contents is.versions c) w ok (Forge n c) (λ v e. does (λ p x. unless_spent x (brought sha c x)) nodes pool v e)

    -- a life after the node's
    record Jumps (nodes : ℕ → Node) (pool : List Message) (life : ℕ) : Type 0 where
      pub nodes_then : ℕ → Node
      pub after : List Message
      pub leads : Leads (farm_of q disk nodes pool) (farm_of q disk nodes_then after)
      pub here : nodes_then n.0 ≡ has_life (nodes n.0) life
      pub others : (j : ℕ) → (j ≡ n.0 → ⊥) → nodes_then j ≡ nodes j
      pub more : Within pool after
      pub greets : In (hello n (record { 0 = life })) after

    one_restart : (nodes : ℕ → Node) (pool : List Message) → may_restart k (nodes n.0) ≡ true
        → (step sha k (farm_of q disk nodes pool) (RestartNode n)).farm ≡ farm_of q disk (put n.0 (has_life (nodes n.0) ((nodes n.0).life.0 + 1)) nodes) (pool ++ hello n (record { 0 = (nodes n.0).life.0 + 1 }) ∷ [])
    unfolding step
    one_restart nodes pool may = rw (le_true 1 n.0 number.0, le_true n.0 size number.1, may) refl

    restart : (nodes : ℕ → Node) (pool : List Message) → (nodes n.0).spent ≡ false → (nodes n.0).life.0 < k.greatest → (life : ℕ) → life ≡ (nodes n.0).life.0 + 1 → Jumps nodes pool life
    restart nodes pool up below life is = record {
      nodes_then = put n.0 (has_life (nodes n.0) ((nodes n.0).life.0 + 1)) nodes;
      after = pool ++ hello n (record { 0 = (nodes n.0).life.0 + 1 }) ∷ [];
      leads = (RestartNode n ∷ [], one_restart nodes pool (rw (up, lt_true (nodes n.0).life.0 k.greatest below) refl));
      here = put_same n.0 (has_life (nodes n.0) ((nodes n.0).life.0 + 1)) nodes ∙ ap (has_life (nodes n.0)) (sym is);
      others = λ j other. put_other n.0 (has_life (nodes n.0) ((nodes n.0).life.0 + 1)) nodes j other;
      more = λ m i. in_left m pool (hello n (record { 0 = (nodes n.0).life.0 + 1 }) ∷ []) i;
      greets = in_right (hello n (record { 0 = life })) pool (hello n (record { 0 = (nodes n.0).life.0 + 1 }) ∷ []) (inl (ap (λ l. hello n (record { 0 = l })) is));
    }

    -- one restart after another
    jump : (life : ℕ) (nodes : ℕ → Node) (pool : List Message) → (nodes n.0).spent ≡ false → (nodes n.0).life.0 < life → life ≤ k.greatest → Jumps nodes pool life
    jump zero nodes pool up above below = absurd (omega arith)
    jump (suc life) nodes pool up above below = elim (cases_eq (nodes n.0).life.0 life) [
      | inl e ↦ restart nodes pool up (omega arith) (suc life) (omega arith)
      | inr ne ↦ by (jump life nodes pool up (omega arith) (omega arith))
    ]
      where
        by : Jumps nodes pool life → Jumps nodes pool (suc life)
        by j =
            let now : (j.nodes_then n.0).life.0 ≡ life = ap (λ (x : Node). x.life.0) j.here in
            let next = restart j.nodes_then j.after (ap (λ (x : Node). x.spent) j.here ∙ up) (omega arith) (suc life) (omega arith) in
            record {
              nodes_then = next.nodes_then;
              after = next.after;
              leads = leads_on (farm_of q disk nodes pool) (farm_of q disk j.nodes_then j.after) (farm_of q disk next.nodes_then next.after) j.leads next.leads;
              here = next.here ∙ ap (λ (x : Node). has_life x (suc life)) j.here;
              others = λ i other. next.others i other ∙ j.others i other;
              more = λ m i. next.more m (j.more m i);
              greets = next.greets;
            }

    stops : (nodes : ℕ → Node) (pool : List Message) → may_restart k (nodes n.0) ≡ false
        → (step sha k (farm_of q disk nodes pool) (RestartNode n)).farm ≡ farm_of q disk (put n.0 (record (nodes n.0) { spent = true }) nodes) pool
    unfolding step
    stops nodes pool may = rw (le_true 1 n.0 number.0, le_true n.0 size number.1, may) refl

  -- ---- the farm of processes

  restarts_from : (q : Ledger) (disk : Saved) (nodes : ℕ → Node) (pool : List Message) → (step sha k (farm_of q disk nodes pool) RestartCoordinator).farm ≡ farm_of (reads disk) disk nodes pool
  unfolding step
  restarts_from q disk nodes pool = refl

  record At (p : Processes) : Type 0 where
    pub ledger : Ledger
    pub nodes : ℕ → Node
    pub pool : List Message
    pub memory : (q : Ledger) → p.coordinator.memory ≡ Some q → ledger ≡ q
    pub same : (n : ℕ) → IsNodeOf sha (nodes n) (p.nodes n)
    pub written : Carries p.written pool

  abbrev farm_at : (p : Processes) → At p → Farm
  farm_at p a = farm_of a.ledger p.coordinator.disk a.nodes a.pool

  -- what happens is some events
  abbrev Next : (p : Processes) → At p → Processes → Type 0
  Next p a later = (b : At later) × Leads (farm_at p a) (farm_at later b)

  module _ (p : Processes) (a : At p) where
    quiet : Carries (p.written ++ []) a.pool
    quiet = all_carried p.written [] a.pool a.written (λ m o i. absurd i)

    batched : (q : Ledger) → p.coordinator.memory ≡ Some q → (calls : List Call) → AllMayCome size p.written calls
        → (r : Reaches a.nodes (done a.nodes (begin_batch q p.coordinator.disk) a.pool) a.pool (batch k calls (begin_batch q p.coordinator.disk)))
        × Leads (farm_at p a) (done a.nodes (batch k calls (begin_batch q p.coordinator.disk)) r.after)
    batched q mem calls all =
        let r = reach a.nodes p.written calls (begin_batch q p.coordinator.disk) a.pool a.written (λ m i. absurd i) all in
        (r, subst (λ l. Leads (farm_of l p.coordinator.disk a.nodes a.pool) (done a.nodes (batch k calls (begin_batch q p.coordinator.disk)) r.after)) (sym (a.memory q mem)) r.leads)

    coordinator_next : (lines : List Message) (c : Coordinator) → CoordinatorDoes k size p.written p.coordinator lines c → Next p a (record p { coordinator = c; written = p.written ++ lines })
    coordinator_next lines c (Works q calls ls mem all part) =
        let r = batched q mem calls all in
        let b : Batch = batch k calls (begin_batch q p.coordinator.disk) in (
          record {
            ledger = b.ledger;
            nodes = a.nodes;
            pool = r.0.after;
            memory = λ q' e. some_is b.ledger q' e;
            same = a.same;
            written = all_carried p.written ls r.0.after (λ m o i. r.0.more m (a.written m o i)) (λ m o i. r.0.sent m (part_within part m i));
          },
          r.1,
        )
    coordinator_next lines c (Fails q early late mem all) =
        let r = batched q mem early (λ x i. all x (in_left x early late i)) in
        let b : Batch = batch k early (begin_batch q p.coordinator.disk) in (
          record {
            ledger = b.ledger;
            nodes = a.nodes;
            pool = r.0.after;
            memory = λ q' e. none_some q' e;
            same = a.same;
            written = λ m o i. r.0.more m (quiet m o i);
          },
          r.1,
        )
    coordinator_next lines c Is_killed = (record { ledger = a.ledger; nodes = a.nodes; pool = a.pool; memory = λ q e. none_some q e; same = a.same; written = quiet }, ([], refl))
    coordinator_next lines c Starts = (
      record { ledger = reads p.coordinator.disk; nodes = a.nodes; pool = a.pool; memory = λ q e. some_is (reads p.coordinator.disk) q e; same = a.same; written = quiet },
      (RestartCoordinator ∷ [], restarts_from a.ledger p.coordinator.disk a.nodes a.pool),
    )

    -- one node changed, in the farm as its process
    nodes_alike : (n : NodeId) (x : Node) (nodes : ℕ → Node) → IsNodeOf sha (nodes n.0) x → ((j : ℕ) → (j ≡ n.0 → ⊥) → nodes j ≡ a.nodes j) → (j : ℕ) → IsNodeOf sha (nodes j) (put n.0 x p.nodes j)
    nodes_alike n x nodes here others = put_all (λ j z. IsNodeOf sha (nodes j) z) n.0 x p.nodes here (λ j other. subst (λ z. IsNodeOf sha z (p.nodes j)) (sym (others j other)) (a.same j))

    node_next : (n : NodeId) (lines : List Message) (x : Node) → IsNumber size n → NodeDoes sha k p.written n (p.nodes n.0) lines x → Next p a (record p { nodes = put n.0 x p.nodes; written = p.written ++ lines })
    node_next n lines x number (Acts count call w ls may ok part) =
        let r = one_node_call a.ledger p.coordinator.disk n number count a.nodes a.pool (p.nodes n.0) (a.same n.0) p.written a.written call may w ok in (
          record {
            ledger = a.ledger;
            nodes = r.nodes_then;
            pool = r.after;
            memory = a.memory;
            same = nodes_alike n w.node r.nodes_then r.here r.others;
            written = all_carried p.written ls r.after (λ m o i. r.more m (a.written m o i)) (λ m o i. r.sent m o (part_within part m i));
          },
          r.leads,
        )
    node_next n lines x number (Begins_life life ls up above below part) =
        let is = a.same n.0 in
        let number_is : (a.nodes n.0).life.0 ≡ (p.nodes n.0).life.0 = ap (λ (z : Life). z.0) is.life in
        let j = jump a.ledger p.coordinator.disk n number life.0 a.nodes a.pool (is.spent ∙ up) (omega arith) below in
        let now : IsNodeOf sha (has_life (a.nodes n.0) life.0) (has_life (p.nodes n.0) life.0) = record { life = refl; asks = refl; spent = is.spent; contents = is.contents; versions = is.versions } in (
          record {
            ledger = a.ledger;
            nodes = j.nodes_then;
            pool = j.after;
            memory = a.memory;
            same = nodes_alike n (has_life (p.nodes n.0) life.0) j.nodes_then (subst (λ z. IsNodeOf sha z (has_life (p.nodes n.0) life.0)) (sym j.here) now) j.others;
            written = all_carried p.written ls j.after (λ m o i. j.more m (a.written m o i)) (λ m o i. subst (λ z. In z j.after) (sym (in_one m (hello n life) (part_within part m i))) j.greets);
          },
          j.leads,
        )
    node_next n lines x number (Loses store known fewer fewer_known) =
        let is = a.same n.0 in (
          record {
            ledger = a.ledger;
            nodes = a.nodes;
            pool = a.pool;
            memory = a.memory;
            same = nodes_alike n (record (p.nodes n.0) { store = store; known = known }) a.nodes (record { life = is.life; asks = is.asks; spent = is.spent; contents = λ d c h. is.contents d c (fewer d c h); versions = λ s j d h. is.versions s j d (fewer_known s j d h) }) (λ j other. refl);
            written = quiet;
          },
          ([], refl),
        )
    node_next n lines x number (Is_spent may) =
        let is = a.same n.0 in
        let may_too : may_restart k (a.nodes n.0) ≡ false = (let one : (a.nodes n.0).spent ≡ (p.nodes n.0).spent = is.spent in let two : (a.nodes n.0).life ≡ (p.nodes n.0).life = is.life in rw (one, two) may) in
        let after : ℕ → Node = put n.0 (record (a.nodes n.0) { spent = true }) a.nodes in (
          record {
            ledger = a.ledger;
            nodes = after;
            pool = a.pool;
            memory = a.memory;
            same = nodes_alike n (record (p.nodes n.0) { spent = true }) after (subst (λ z. IsNodeOf sha z (record (p.nodes n.0) { spent = true })) (sym (put_same n.0 (record (a.nodes n.0) { spent = true }) a.nodes)) (record { life = is.life; asks = is.asks; spent = refl; contents = is.contents; versions = is.versions })) (λ j other. put_other n.0 (record (a.nodes n.0) { spent = true }) a.nodes j other);
            written = quiet;
          },
          (RestartNode n ∷ [], stops a.ledger p.coordinator.disk n number a.nodes a.pool may_too),
        )

    next : (later : Processes) → Happens sha k size p later → Next p a later
    next later (Coordinator_does lines c d) = coordinator_next lines c d
    next later (Node_does n lines x number d) = node_next n lines x number d

  -- whatever happens is a schedule
  all_next : (p : Processes) (a : At p) (later : Processes) → Runs sha k size p later → Next p a later
  all_next p a later (Rests q) = (a, ([], refl))
  all_next p a later (Goes_on q r s runs happens) =
      let one = all_next p a r runs in
      let two = next r one.0 later happens in
      (two.0, leads_on (farm_at p a) (farm_at r one.0) (farm_at later two.0) one.1 two.1)

  first_is : IsNodeOf sha (first_node sha) (first_node sha)
  first_is = record { life = refl; asks = refl; spent = refl; contents = losing.keep_both sha [] (λ d. None) (λ d. None) (λ d c h. none_some c h); versions = λ s j d h. h }

  abbrev first_at : At (first_processes sha)
  first_at = record { ledger = ledger.opening; nodes = λ n. first_node sha; pool = []; memory = λ q e. none_some q e; same = λ n. first_is; written = λ m o i. i }

  is_farm : (p : Processes) (a : At p) (s : Farm) → s ≡ farm_at p a → IsFarmOf sha s p
  is_farm p a s e = subst (λ t. IsFarmOf sha t p) (sym e) (record { up = refl; disk = refl; memory = a.memory; nodes = a.same; written = a.written })

pub processes_are_the_farm : ProcessesAreTheFarm
processes_are_the_farm sha k size p later runs more =
    let one = all_next sha k size (first_processes sha) (first_at sha k size) p runs in
    let two = all_next sha k size p one.0 later more in
    record {
      early = one.1.0;
      late = two.1.0;
      before = is_farm sha k size p one.0 _ one.1.1;
      after = is_farm sha k size later two.0 _ (ap (run sha k two.1.0) one.1.1 ∙ two.1.1);
    }

-- ---- what is so of schedules is so of processes

wrote : (sha : List ℕ → Digest) (k : Limits) (size : ℕ) (p later : Processes) → Runs sha k size p later → Within p.written later.written
wrote sha k size p later (Rests q) = λ m i. i
wrote sha k size p later (Goes_on q r s runs happens) = (let one = wrote sha k size p r runs in λ m i. by r later happens m (one m i))
  where
    by : (r s : Processes) → Happens sha k size r s → Within r.written s.written
    by r s (Coordinator_does lines c d) = λ m i. in_left m r.written lines i
    by r s (Node_does n lines x number d) = λ m i. in_left m r.written lines i

module _ (sha : List ℕ → Digest) (k : Limits) (farm : IsFarm sha k) (size : ℕ) (p later : Processes) (more : Runs sha k size p later) (r : AreScheduled sha k size p later) where
  abbrev before : Farm
  before = run sha k r.early (opening sha size)

  abbrev after : Farm
  after = run sha k r.late before

  whole : run sha k (r.early ++ r.late) (opening sha size) ≡ after
  whole = run_append sha k size r.early r.late (opening sha size)

  means : Headline sha k before
  means = every_schedule_means sha k farm size r.early

  safe : SafeAfter sha before
  safe = every_schedule_is_safe sha k farm size r.early

  covers : Covered after
  covers = subst Covered whole (every_record_covers sha k farm size (r.early ++ r.late))

  sent : Carries p.written after.pool
  sent m o i = r.after.written m o (wrote sha k size p later more m i)

  in_use : (n : NodeId) (g : Grant) (ws : List Want) → Executes (p.nodes n.0) g ws → InUse safe.world n g ws
  in_use n g ws x = subst (λ (z : Node). (a : ℕ) × (recalled : Bool) × (nth z.asks a ≡ Some (Running ws g recalled))) (sym (safe.shows.nodes n.0)) (subst (λ (asks : List KeptAsk). (a : ℕ) × (recalled : Bool) × (nth asks a ≡ Some (Running ws g recalled))) (sym (r.before.nodes n.0).asks) x)

  executes : (n : NodeId) (g : Grant) (ws : List Want) → InUse safe.world n g ws → Executes (p.nodes n.0) g ws
  executes n g ws x = subst (λ (asks : List KeptAsk). (a : ℕ) × (recalled : Bool) × (nth asks a ≡ Some (Running ws g recalled))) (r.before.nodes n.0).asks (subst (λ (z : Node). (a : ℕ) × (recalled : Bool) × (nth z.asks a ≡ Some (Running ws g recalled))) (safe.shows.nodes n.0) x)

  -- what a node of the farm stores has its digest
  is_right : (events : List Event) (n : NodeId) (d : Digest) (c : List ℕ) → ((run sha k events (opening sha size)).nodes n.0).store d ≡ Some c → sha c ≡ d
  is_right events n d c h =
      let f = from_opening sha k farm size events in
      let inv = (moves_inv sha (start sha) f.world (start_whole sha) f.moves).0.now in
      (inv.nodes n).stored d c (subst (λ (z : Node). z.store d ≡ Some c) (sym (f.shows.nodes n.0)) h)

  -- the farm's node holds a content for the version too, of the same digest
  record HeldToo (x : Node) (s : Slot) (number : ℕ) (c : List ℕ) : Type 0 where
    pub content : List ℕ
    pub holds : HoldsContent x s number content
    pub same : sha c ≡ sha content

  held_too : (x y : Node) → IsNodeOf sha x y → ((d : Digest) (c : List ℕ) → x.store d ≡ Some c → sha c ≡ d) → (s : Slot) (number : ℕ) (c : List ℕ) → HoldsContent y s number c → HeldToo x s number c
  held_too x y is right s number c (d, known, stored) =
      let here = is.contents d c stored in
      let has = losing.has_some sha (x.store d) here.1 in
      record { content = has.0; holds = (d, is.versions s number d known, has.1); same = here.0 ∙ sym (right d has.0 has.1) }

  held_then : (n : NodeId) (s : Slot) (number : ℕ) (c : List ℕ) → HoldsContent (p.nodes n.0) s number c → HeldToo (before.nodes n.0) s number c
  held_then n s number c held = held_too (before.nodes n.0) (p.nodes n.0) (r.before.nodes n.0) (is_right r.early n) s number c held

  held_later : (n : NodeId) (s : Slot) (number : ℕ) (c : List ℕ) → HoldsContent (later.nodes n.0) s number c → HeldToo (after.nodes n.0) s number c
  held_later n s number c held = held_too (after.nodes n.0) (later.nodes n.0) (r.after.nodes n.0) (subst (λ (f : Farm). (d : Digest) (c : List ℕ) → (f.nodes n.0).store d ≡ Some c → sha c ≡ d) whole (is_right (r.early ++ r.late) n)) s number c held

  line_then : (s : Slot) → before.ledger.line s ≡ p.coordinator.disk.line s
  line_then s = ap (λ (d : Saved). d.line s) (sym ((every_farm_is_saved sha k farm size r.early).up r.before.up) ∙ r.before.disk)

  line_later : (s : Slot) → after.ledger.line s ≡ later.coordinator.disk.line s
  line_later s = ap (λ (d : Saved). d.line s) (sym ((subst (IsSavedFarm sha) whole (every_farm_is_saved sha k farm size (r.early ++ r.late))).up r.after.up) ∙ r.after.disk)

  is_up : (d : Option Machine) → SavedAgrees (sha []) safe.world.pool d before → d ≡ None
  is_up None saved = refl
  is_up (Some m) saved = true_false before.down saved.0 r.before.up

  stay_safe : StaySafe sha p later
  stay_safe = record {
    contents = λ n n' s number c c' held held'.
        (let a = held_then n s number c held in
        let b = held_later n' s number c' held' in
        let same : sha a.content ≡ sha b.content = elim (means.contents r.late n n' s number a.content b.content a.holds b.holds) [ inl e ↦ ap sha e | inr e ↦ e.1 ] in
        elim (cases_list c c') [ inl e ↦ inl e | inr ne ↦ inr (ne, a.same ∙ same ∙ sym b.same) ]);
    alone = λ n n' g g' ws ws' s x x' has has' alone. safe.safe.alone n n' g g' ws ws' s (in_use n g ws x) (in_use n' g' ws' x') has has' alone;
    at_home = λ n g wants v x i shared. (let home = safe.safe.at_home n g wants v (in_use n g wants x) i shared in (home.0, home.1, executes n home.0 home.1 home.2, home.3, home.4));
    over = λ q t mem given none off s v i at.
        (let up : safe.world.down ≡ None = is_up safe.world.down safe.shows.saved in
        let is : before.ledger ≡ q = r.before.memory q mem in
        let next = run_next sha k farm r.late safe.world safe.moves before safe.shows in
        let machine = safe.world.machine in
        let last : before.ledger.last ≡ machine.last = safe.shows.now.last in
        let low : t.0 ≤ before.ledger.last = subst (λ (z : Ledger). t.0 ≤ z.last) (sym is) given in
        stays_over sha safe.world next.world (moves_inv sha (start sha) safe.world (start_whole sha) safe.moves).0 up next.moves t (omega arith)
        (λ g live same. none (lease_from g) (subst (λ (z : Ledger). In (lease_from g) z.live) is (safe.shows.now.live_kept g live)) (ticket_is g.ticket t same))
        (λ x y j same. off x y (subst (λ (z : Ledger). In y (z.line x)) is (subst (In y) (sym (safe.shows.now.lines x)) j)) (ticket_is y.ticket t same))
        s v (subst (In v) (sym (line_later s) ∙ next.shows.now.lines s) i) (ap (λ (z : Ticket). z.0) at));
    rising = λ s. (let f = every_schedule_is_safe sha k farm size (r.early ++ r.late) in subst Rising (sym (f.shows.now.lines s) ∙ ap (λ (g : Farm). g.ledger.line s) whole ∙ line_later s) (f.safe.rising s));
    lines = λ s. subst (λ xs. IsFrontOf xs (later.coordinator.disk.line s)) (line_then s) (subst (λ xs. IsFrontOf (before.ledger.line s) xs) (line_later s) (means.grows r.late s));
    confirmed = λ n l t versions v i j.
        (let c = covers.versions n l t versions v (sent (Told (told.Committed n l t versions)) tt i) j in
        (c.0, c.1, subst (λ (d : Saved). slice_get (d.line v.slot) c.0 ≡ Some (record { ticket = t; digest = v.digest })) r.after.disk c.2));
    fenced = λ n l t i s v j at. means.also.fenced n l t (r.before.written (Told (told.Fenced n l t)) tt i) r.late s v (subst (In v) (sym (line_later s)) j) at;
    tickets = λ g i. subst (λ (d : Saved). g.ticket.0 ≤ d.ceiling) r.after.disk (covers.tickets g (sent (Told (told.Granted g)) tt i));
  }

pub processes_stay_safe : ProcessesStaySafe
processes_stay_safe sha k farm size p later runs more = stay_safe sha k farm size p later more (processes_are_the_farm sha k size p later runs more)

-- ---- what was withdrawn

pub batch_append : (k : Limits) (early late : List Call) (b : Batch) → batch k (early ++ late) b ≡ batch k late (batch k early b)
batch_append k [] late b = refl
batch_append k (c ∷ early) late b = batch_append k early late (taken (decided k b.ledger c) b)

module _ (sha : List ℕ → Digest) (k : Limits) (size : ℕ) where
  abbrev up_farm : Batch → (ℕ → Node) → List Message → Farm
  up_farm b nodes pool = farm_of sha k size b.ledger b.to_save nodes pool

  withdraw_step : (b : Batch) (nodes : ℕ → Node) (pool : List Message) (t : Ticket) (w : Work) → withdrawn k t (begin_work b.ledger) ≡ Ok w
      → ((step sha k (up_farm b nodes pool) (replay.Withdraw t)).farm ≡ (coordinated false (Ok w) (up_farm b nodes pool)).farm) × ((o : Outcome) × ((step sha k (up_farm b nodes pool) (replay.Withdraw t)).outcome ≡ Ok o))
  unfolding step
  withdraw_step b nodes pool t w e = (rw e refl, by w.changed refl)
    where
      by : (c : Bool) → w.changed ≡ c → (o : Outcome) × ((coordinated false (withdrawn k t (begin_work b.ledger)) (up_farm b nodes pool)).outcome ≡ Ok o)
      by true f = rw (e, f) (_, refl)
      by false f = rw (e, f) (_, refl)

  -- a node of the farm
  there : (n : NodeId) (b : Batch) (nodes : ℕ → Node) (pool : List Message) → IsNumber size n → is_node (up_farm b nodes pool) n ≡ true
  there n b nodes pool number = rw (le_true 1 n.0 number.0, le_true n.0 size number.1) refl

  settled_ok : (w : Work) (s : Farm) → s.armed ≡ None → (o : Outcome) × ((coordinated false (Ok w) s).outcome ≡ Ok o)
  settled_ok w s armed = by w.changed refl
    where
      by : (c : Bool) → w.changed ≡ c → (o : Outcome) × ((coordinated false (Ok w) s).outcome ≡ Ok o)
      by true f = rw (f, armed) (_, refl)
      by false f = rw f (_, refl)

  -- the farm's event for a call whose lease, or ticket, stays out from then on
  record EndsIt (b : Batch) (w : Work) (t : Ticket) (nodes : ℕ → Node) (pool : List Message) : Type 0 where
    pub event : Event
    pub is : (step sha k (up_farm b nodes pool) event).farm ≡ (coordinated false (Ok w) (up_farm b nodes pool)).farm
    pub out : StaysOut sha k (step sha k (up_farm b nodes pool) event).farm t

  withdraw_ends : (b : Batch) (nodes : ℕ → Node) (pool : List Message) (t : Ticket) (w : Work) → withdrawn k t (begin_work b.ledger) ≡ Ok w → Headline sha k (up_farm b nodes pool) → EndsIt b w t nodes pool
  withdraw_ends b nodes pool t w ok head = (let ws = withdraw_step b nodes pool t w ok in record { event = replay.Withdraw t; is = ws.0; out = head.withdrawn t ws.1.0 ws.1.1 })

  retire_ends : (b : Batch) (nodes : ℕ → Node) (pool : List Message) (n : NodeId) (w : Work) (g : Lease) → IsNumber size n → retired k n (begin_work b.ledger) ≡ Ok w → In g b.ledger.live → g.node ≡ n → Headline sha k (up_farm b nodes pool) → EndsIt b w g.ticket nodes pool
  unfolding step
  retire_ends b nodes pool n w g number ok i at head =
      let s : Farm = up_farm b nodes pool in
      let here = there n b nodes pool number in
      let did : step sha k s (replay.Retire n) ≡ coordinated false (Ok w) s = rw (here, ok) refl in
      let o = settled_ok w s refl in
      record { event = replay.Retire n; is = ap (λ (z : Turn). z.farm) did; out = head.also.retired n o.0 (ap (λ (z : Turn). z.outcome) did ∙ o.1) g i at }

  handle_ends : (b : Batch) (nodes : ℕ → Node) (pool : List Message) (y : ToCoord) (w : Work) (g : Lease) → In (Said y) pool → ◌≡◌ {A = Result Work CoordRefusal} (Ok (handled k y (begin_work b.ledger))) (Ok w) → In g b.ledger.live
      → b.ledger.gone y.node.0 ≡ false → b.ledger.lives y.node.0 < y.life.0 → g.node ≡ y.node → g.life.0 < y.life.0 → Headline sha k (up_farm b nodes pool) → EndsIt b w g.ticket nodes pool
  unfolding step
  handle_ends b nodes pool y w g sent ok i here newer at older head =
      let s : Farm = up_farm b nodes pool in
      let place = place_of (Said y) pool sent in
      let found = place.1 in
      let arrives : step sha k s (Deliver place.0) ≡ coordinated false (Ok (handled k y (begin_work b.ledger))) s = rw found refl in
      let did : step sha k s (Deliver place.0) ≡ coordinated false (Ok w) s = arrives ∙ ap (λ r. coordinated false r s) ok in
      let o = settled_ok w s refl in
      record { event = Deliver place.0; is = ap (λ (z : Turn). z.farm) did; out = head.also.older place.0 y o.0 place.1 (ap (λ (z : Turn). z.outcome) did ∙ o.1) here newer g i at older }

  call_ends : (written : List Message) (b : Batch) (nodes : ℕ → Node) (pool : List Message) (c : Call) (w : Work) (g : Lease) → MayCome size written c → Carries written pool → decided k b.ledger c ≡ Ok w → In g b.ledger.live → CallEnds b.ledger c g
      → Headline sha k (up_farm b nodes pool) → EndsIt b w g.ticket nodes pool
  call_ends written b nodes pool (Handle y) w g may carries ok i (here, newer, at, older) head = handle_ends b nodes pool y w g (carries (Said y) tt may) ok i here newer at older head
  call_ends written b nodes pool (Withdraw t) w g may carries ok i at head = subst (λ z. EndsIt b w z nodes pool) (sym at) (withdraw_ends b nodes pool t w ok head)
  call_ends written b nodes pool (Prune slot) w g may carries ok i none head = absurd none
  call_ends written b nodes pool (Retire n) w g may carries ok i at head = retire_ends b nodes pool n w g may ok i at head
  call_ends written b nodes pool Nudge w g may carries ok i none head = absurd none

  module _ (farm : IsFarm sha k) (p later : Processes) (runs : Runs sha k size (first_processes sha) p) (q : Ledger) (mem : p.coordinator.memory ≡ Some q) (early late : List Call) (t : Ticket) (w : Work) where
    abbrev first_batch : Batch
    first_batch = batch k early (begin_batch q p.coordinator.disk)

    abbrev next_batch : Batch
    next_batch = taken (Ok w) first_batch

    stays_off : (lines : List Message) → AllMayCome size p.written early → AllMayCome size p.written late
        → ((nodes : ℕ → Node) (pool : List Message) → Carries p.written pool → Headline sha k (up_farm first_batch nodes pool) → EndsIt first_batch w t nodes pool)
        → HasPart (batch k late next_batch).sends lines
        → Runs sha k size (record p { coordinator = running_after (batch k late next_batch); written = p.written ++ lines }) later
        → (s : Slot) (v : LineVersion) → In v (later.coordinator.disk.line s) → v.ticket ≡ t → ⊥
    stays_off lines may may_late ends part more s v i at =
        let one = all_next sha k size (first_processes sha) (first_at sha k size) p runs in
        let a = one.0 in
        let r1 = batched sha k size p a q mem early may in
        let f1 : Farm = up_farm first_batch a.nodes r1.0.after in
        let d = decides sha k size a.nodes first_batch r1.0.after r1.0.sent (Ok w) in
        let l1 = leads_on sha k size (opening sha size) (farm_at sha k size p a) f1 one.1 r1.1 in
        let means : Headline sha k f1 = subst (Headline sha k) l1.1 (every_schedule_means sha k farm size l1.0) in
        let it : EndsIt first_batch w t a.nodes r1.0.after = ends a.nodes r1.0.after (λ m o i. r1.0.more m (a.written m o i)) means in
        let f2 : Farm = up_farm next_batch a.nodes d.0 in
        let then_f2 : (step sha k f1 it.event).farm ≡ f2 = it.is ∙ d.1 in
        let r3 = reach sha k size a.nodes p.written late next_batch d.0 (λ m o i. d.2 m (r1.0.more m (a.written m o i))) d.3 may_late in
        let f3 : Farm = up_farm (batch k late next_batch) a.nodes r3.after in
        let next_at : At sha k size (record p { coordinator = running_after (batch k late next_batch); written = p.written ++ lines }) = record {
          ledger = (batch k late next_batch).ledger;
          nodes = a.nodes;
          pool = r3.after;
          memory = λ q' e. some_is (batch k late next_batch).ledger q' e;
          same = a.same;
          written = all_carried p.written lines r3.after (λ m o i. r3.more m (d.2 m (r1.0.more m (a.written m o i)))) (λ m o i. r3.sent m (part_within part m i));
        } in
        let r4 = all_next sha k size (record p { coordinator = running_after (batch k late next_batch); written = p.written ++ lines }) next_at later more in
        let last : Farm = farm_at sha k size later r4.0 in
        let l4 = leads_on sha k size f2 f3 last r3.leads r4.1 in
        let l2 : Leads sha k size f1 f2 = (it.event ∷ [], then_f2) in
        let all = leads_on sha k size (opening sha size) f2 last (leads_on sha k size (opening sha size) f1 f2 l1 l2) l4 in
        let out : StaysOut sha k f2 t = subst (λ f. StaysOut sha k f t) then_f2 it.out in
        let kept : IsSavedFarm sha last = subst (IsSavedFarm sha) all.1 (every_farm_is_saved sha k farm size all.0) in
        let same : later.coordinator.disk.line s ≡ last.ledger.line s = ap (λ (d : Saved). d.line s) (kept.up refl) in
        out.off_line l4.0 s v (subst (λ (f : Farm). In v (f.ledger.line s)) (sym l4.1) (subst (In v) same i)) at

pub withdrawn_stays_out : WithdrawnStaysOut
withdrawn_stays_out sha k farm size p later runs q early late t w lines mem may ok part more =
    let b : Batch = batch k early (begin_batch q p.coordinator.disk) in
    let done : batch k (early ++ Withdraw t ∷ late) (begin_batch q p.coordinator.disk) ≡ batch k late (taken (Ok w) b) = batch_append k early (Withdraw t ∷ late) (begin_batch q p.coordinator.disk) ∙ ap (λ r. batch k late (taken r b)) ok in
    stays_off sha k size farm p later runs q mem early late t w lines
    (λ x i. may x (in_left x early (Withdraw t ∷ late) i))
    (λ x i. may x (in_right x early (Withdraw t ∷ late) (inr i)))
    (λ nodes pool carries means. withdraw_ends sha k size b nodes pool t w ok means)
    (subst (λ (z : Batch). HasPart z.sends lines) done part)
    (subst (λ (z : Batch). Runs sha k size (record p { coordinator = running_after z; written = p.written ++ lines }) later) done more)

pub ended_stays_out : EndedStaysOut
ended_stays_out sha k farm size p later runs q early late c g w lines mem may ok i ends part more =
    let b : Batch = batch k early (begin_batch q p.coordinator.disk) in
    let done : batch k (early ++ c ∷ late) (begin_batch q p.coordinator.disk) ≡ batch k late (taken (Ok w) b) = batch_append k early (c ∷ late) (begin_batch q p.coordinator.disk) ∙ ap (λ r. batch k late (taken r b)) ok in
    stays_off sha k size farm p later runs q mem early late g.ticket w lines
    (λ x i. may x (in_left x early (c ∷ late) i))
    (λ x i. may x (in_right x early (c ∷ late) (inr i)))
    (λ nodes pool carries means. call_ends sha k size p.written b nodes pool c w g (may c (in_right c early (c ∷ late) (inl refl))) carries ok i ends means)
    (subst (λ (z : Batch). HasPart z.sends lines) done part)
    (subst (λ (z : Batch). Runs sha k size (record p { coordinator = running_after z; written = p.written ++ lines }) later) done more)

-- ---- what processes are the farm of no schedule

asked_here : (x y : Node) → x.life ≡ y.life → x.asks ≡ y.asks → (l : Life) (a : Ask) → HasAsked x l a → HasAsked y l a
asked_here x y life asks l a (inl lt) = (let same : x.life.0 ≡ y.life.0 = ap (λ (z : Life). z.0) life in inl (omega arith))
asked_here x y life asks l a (inr (e, (s, at))) = inr (e ∙ life, (s, subst (λ (xs : List KeptAsk). nth xs a.0 ≡ Some s) asks at))

was_asked : (x : Node) (l : Life) (a : Ask) (wants : List Want) (tenure : Bool) → WasAsked x l a.0 wants tenure → HasAsked x l a
was_asked x l a wants tenure (inl lt) = inl lt
was_asked x l a wants tenure (inr (e, (s, at, w))) = inr (e, (s, at))

pub only_honest_are_a_farm : OnlyHonestAreAFarm
only_honest_are_a_farm sha k farm size events p is = record {
  tickets = λ g i. subst (λ (d : Saved). g.ticket.0 ≤ d.ceiling) is.disk (covers.tickets g (is.written (Told (told.Granted g)) tt i));
  versions = λ n l t versions v i j.
      (let c = covers.versions n l t versions v (is.written (Told (told.Committed n l t versions)) tt i) j in
      (c.0, c.1, subst (λ (d : Saved). slice_get (d.line v.slot) c.0 ≡ Some (record { ticket = t; digest = v.digest })) is.disk c.2));
  leases = λ q g mem i.
      (let f = from_opening sha k farm size events in
      let inv = (moves_inv sha (start sha) f.world (start_whole sha) f.moves).0.now in
      let live = f.shows.now.live_made g (subst (λ (z : Ledger). In g z.live) (sym (is.memory q mem)) i) in
      let gr : Grant = live.0 in
      let want = inv.asked gr live.1.0 in
      let said = inv.messages (acquire gr.node gr.life gr.ask want.0 (is_tenure gr.kind)) want.1 in
      let there : HasAsked (f.world.nodes gr.node.0) gr.life gr.ask = was_asked (f.world.nodes gr.node.0) gr.life gr.ask want.0 (is_tenure gr.kind) said.0 in
      let same = f.shows.nodes gr.node.0 in
      let here : HasAsked (p.nodes gr.node.0) gr.life gr.ask =
      asked_here (f.world.nodes gr.node.0) (p.nodes gr.node.0) (ap (λ (z : Node). z.life) same ∙ (is.nodes gr.node.0).life) (ap (λ (z : Node). z.asks) same ∙ (is.nodes gr.node.0).asks) gr.life gr.ask there in
      subst (λ (z : Lease). HasAsked (p.nodes z.node.0) z.life z.ask) live.2 here);
}
  where
    covers : Covered (run sha k events (opening sha size))
    covers = every_record_covers sha k farm size events

-- ---- a farm as processes

module _ (sha : List ℕ → Digest) (k : Limits) where
  -- the processes of a farm
  abbrev as_processes : Farm → Processes
  as_processes s = record { coordinator = record { memory = if s.down then None else Some s.ledger; disk = s.saved }; nodes = s.nodes; written = s.pool }

  part_all : {A : Type 0} (xs : List A) → HasPart xs xs
  part_all [] = Ends_part
  part_all (x ∷ xs) = Keeps x xs xs (part_all xs)

  abbrev Goes : Farm → Farm → Type 0
  Goes s t = Runs sha k s.size (as_processes s) (as_processes t) × (t.size ≡ s.size)

  rests : (s : Farm) → Goes s s
  rests s = (Rests (as_processes s), refl)

  -- one thing happens, and writes nothing
  once : (s : Farm) (p : Processes) → Happens sha k s.size (as_processes s) (record p { written = s.pool ++ [] }) → Runs sha k s.size (as_processes s) (record p { written = s.pool })
  once s p h = subst (λ xs. Runs sha k s.size (as_processes s) (record p { written = xs })) (append-nil s.pool) (Goes_on (as_processes s) (as_processes s) (record p { written = s.pool ++ [] }) (Rests (as_processes s)) h)

  -- a call that may come, while the coordinator is up
  call_goes : (s : Farm) (c : Call) → MayCome s.size s.pool c → s.down ≡ false → Goes s (coordinated false (decided k s.ledger c) s).farm
  call_goes s c may up = by (decided k s.ledger c) refl
    where
      memory : (as_processes s).coordinator.memory ≡ Some s.ledger
      memory = rw up refl

      only : AllMayCome s.size s.pool (c ∷ [])
      only x (inl e) = subst (MayCome s.size s.pool) (sym e) may
      only x (inr i) = absurd i

      first : Batch
      first = begin_batch s.ledger s.saved

      worked_to : Result Work CoordRefusal → Processes
      worked_to r = record { coordinator = running_after (taken r first); nodes = s.nodes; written = s.pool ++ (taken r first).sends }

      failed_to : Batch → Processes
      failed_to b = record { coordinator = killed_after b; nodes = s.nodes; written = s.pool }

      worked : (w : Work) → decided k s.ledger c ≡ Ok w → Runs sha k s.size (as_processes s) (worked_to (Ok w))
      worked w e =
          let did : Batch = taken (decided k s.ledger c) first in
          subst (λ r. Runs sha k s.size (as_processes s) (worked_to r)) e
          (Goes_on (as_processes s) (as_processes s) (worked_to (decided k s.ledger c)) (Rests (as_processes s)) (Coordinator_does did.sends (running_after did) (Works s.ledger (c ∷ []) did.sends memory only (part_all did.sends))))

      settle : (changed : Bool) (armed : Option Kept) (w : Work) → decided k s.ledger c ≡ Ok w → w.changed ≡ changed → Goes s (settled changed armed w s).farm
      settle false armed w e f =
          let same : worked_to (Ok w) ≡ as_processes (settled false armed w s).farm = rw (up, f) refl in
          (subst (Runs sha k s.size (as_processes s)) same (worked w e), refl)
      settle true None w e f =
          let same : worked_to (Ok w) ≡ as_processes (settled true None w s).farm = rw (up, f) refl in
          (subst (Runs sha k s.size (as_processes s)) same (worked w e), refl)
      settle true (Some Old) w e f = (once s (failed_to first) (Coordinator_does [] (killed_after first) (Fails s.ledger [] (c ∷ []) memory only)), refl)
      settle true (Some New) w e f =
          let same : failed_to (taken (Ok w) first) ≡ as_processes (settled true (Some New) w s).farm = rw f refl in
          let failed : Runs sha k s.size (as_processes s) (failed_to (taken (decided k s.ledger c) first)) = once s (failed_to (taken (decided k s.ledger c) first)) (Coordinator_does [] (killed_after (taken (decided k s.ledger c) first)) (Fails s.ledger (c ∷ []) [] memory only)) in
          (subst (Runs sha k s.size (as_processes s)) same (subst (λ r. Runs sha k s.size (as_processes s) (failed_to (taken r first))) e failed), refl)

      by : (r : Result Work CoordRefusal) → decided k s.ledger c ≡ r → Goes s (coordinated false r s).farm
      by (Err e) same = rests s
      by (Ok w) same = settle w.changed s.armed w same refl

  -- while it is down nothing is done
  coordinated_goes : (s : Farm) (c : Call) → MayCome s.size s.pool c → Goes s (coordinated s.down (decided k s.ledger c) s).farm
  coordinated_goes s c may = elim (cases_Bool s.down) [
    | inl t ↦ subst (λ b. Goes s (coordinated b (decided k s.ledger c) s).farm) (sym t) (rests s)
    | inr t ↦ subst (λ b. Goes s (coordinated b (decided k s.ledger c) s).farm) (sym t) (call_goes s c may t)
  ]

  is_le : (a b : ℕ) → nat_le a b ≡ true → a ≤ b
  is_le a b h = grind (arith, nat_tests)

  is_lt : (a b : ℕ) → nat_lt a b ≡ true → a < b
  is_lt a b h = grind (arith, nat_tests)

  number_of : (s : Farm) (n : NodeId) → is_node s n ≡ true → IsNumber s.size n
  number_of s n e = (let r = and_parts (nat_le 1 n.0) (nat_le n.0 s.size) e in (is_le 1 n.0 r.0, is_le n.0 s.size r.1))

  node_goes : (s : Farm) (n : NodeId) (c : NodeCall) → MayReach s.pool n c → Goes s (at_node (is_node s n) n (node_decided sha k (at s n) (s.nodes n.0) c) s).farm
  node_goes s n c may = by (is_node s n) refl (node_decided sha k (at s n) (s.nodes n.0) c) refl
    where
      by : (b : Bool) → is_node s n ≡ b → (r : NodeAnswer) → node_decided sha k (at s n) (s.nodes n.0) c ≡ r → Goes s (at_node b n r s).farm
      by false e r f = rests s
      by true e (Err x) f = rests s
      by true e (Ok w) f = (Goes_on (as_processes s) (as_processes s) (as_processes (moved n w s).farm) (Rests (as_processes s)) (Node_does n w.sends w.node (number_of s n e) (Acts s.size c w w.sends may f (part_all w.sends))), refl)

  restart_goes : (s : Farm) (n : NodeId) → is_node s n ≡ true → Goes s (restarts k n s).farm
  restart_goes s n here = elim (cases_Bool (may_restart k (s.nodes n.0))) [
    | inl t ↦ subst (λ b. Goes s (if b then moved n (restarted (at s n) (s.nodes n.0)) s else replay.refused (refusal.Node node_refusal.LivesSpent) (record s { nodes = put n.0 (record (s.nodes n.0) { spent = true }) s.nodes })).farm) (sym t) (goes t)
    | inr t ↦ subst (λ b. Goes s (if b then moved n (restarted (at s n) (s.nodes n.0)) s else replay.refused (refusal.Node node_refusal.LivesSpent) (record s { nodes = put n.0 (record (s.nodes n.0) { spent = true }) s.nodes })).farm) (sym t)
        (once s (record (as_processes s) { nodes = put n.0 (record (s.nodes n.0) { spent = true }) s.nodes }) (Node_does n [] (record (s.nodes n.0) { spent = true }) (number_of s n here) (Is_spent t)), refl)
  ]
    where
      not_spent : (b : Bool) → not b ≡ true → b ≡ false
      not_spent false e = refl
      not_spent true e = (let bad : false ≡ true = e in cc)

      goes : may_restart k (s.nodes n.0) ≡ true → Goes s (moved n (restarted (at s n) (s.nodes n.0)) s).farm
      goes t =
          let x : Node = s.nodes n.0 in
          let r = and_parts (not x.spent) (nat_lt x.life.0 k.greatest) t in
          let below : x.life.0 < k.greatest = is_lt x.life.0 k.greatest r.1 in
          let greeting : List Message = hello n (record { 0 = x.life.0 + 1 }) ∷ [] in (
            Goes_on (as_processes s) (as_processes s) (as_processes (moved n (restarted (at s n) x) s).farm) (Rests (as_processes s))
                (Node_does n greeting (has_life x (x.life.0 + 1)) (number_of s n here) (Begins_life (record { 0 = x.life.0 + 1 }) greeting (not_spent x.spent r.0) (omega arith) (omega arith) (part_all greeting))),
            refl,
          )

  if_node : (s : Farm) (n : NodeId) (t : Turn) → (is_node s n ≡ true → Goes s t.farm) → Goes s (if is_node s n then t else replay.refused refusal.NoSuchNode s).farm
  if_node s n t h = elim (cases_Bool (is_node s n)) [
    | inl e ↦ subst (λ b. Goes s (if b then t else replay.refused refusal.NoSuchNode s).farm) (sym e) (h e)
    | inr e ↦ subst (λ b. Goes s (if b then t else replay.refused refusal.NoSuchNode s).farm) (sym e) (rests s)
  ]

  event_goes : (s : Farm) (e : Event) → Goes s (step sha k s e).farm
  unfolding step
  event_goes s (replay.Ask n wants) = node_goes s n (Ask_lease wants) tt
  event_goes s (replay.Tenure n f) = node_goes s n (Ask_tenure f) tt
  event_goes s (Deliver number) = by (nth s.pool number) refl
    where
      by : (o : Option Message) → nth s.pool number ≡ o → Goes s (delivered sha k o s).farm
      by None e = rests s
      by (Some (to.ToCoord y)) e = coordinated_goes s (Handle y) (nth_in s.pool number (Said y) e)
      by (Some (to.ToNode y)) e = node_goes s (receiver y) (Receive y) (nth_in s.pool number (to.ToNode y) e, refl)
  event_goes s (replay.Begin n t) = node_goes s n (Begin t) tt
  event_goes s (replay.Finish n t lefts) = node_goes s n (Finish t lefts) tt
  event_goes s (replay.Abort n t) = node_goes s n (Abort t) tt
  event_goes s (replay.Resend n) = node_goes s n Resend tt
  event_goes s replay.Nudge = coordinated_goes s Nudge tt
  event_goes s (replay.Withdraw t) = coordinated_goes s (Withdraw t) tt
  event_goes s (replay.Prune slot) = coordinated_goes s (Prune slot) tt
  event_goes s (replay.Retire n) = if_node s n (coordinated s.down (retired k n (begin_work s.ledger)) s) (λ here. coordinated_goes s (Retire n) (number_of s n here))
  event_goes s (RestartNode n) = if_node s n (restarts k n s) (restart_goes s n)
  event_goes s RestartCoordinator = (once s (as_processes (record s { ledger = reads s.saved; down = false })) (Coordinator_does [] (record { memory = Some (reads s.saved); disk = s.saved }) Starts), refl)
  event_goes s (Forge n c) = node_goes s n (Bring c) tt
  event_goes s (replay.Forget n d) = node_goes s n (Forget d) tt
  event_goes s (FailSave kept) = (Rests (as_processes s), refl)

  runs_on : (size : ℕ) (p q r : Processes) → Runs sha k size p q → Runs sha k size q r → Runs sha k size p r
  runs_on size p q r one (Rests q') = one
  runs_on size p q r one (Goes_on q' x r' more h) = Goes_on p x r (runs_on size p q x one more) h

  schedule_goes : (events : List Event) (s : Farm) → Runs sha k s.size (as_processes s) (as_processes (run sha k events s))
  schedule_goes [] s = Rests (as_processes s)
  schedule_goes (e ∷ events) s =
      let one = event_goes s e in
      let t : Farm = (step sha k s e).farm in
      runs_on s.size (as_processes s) (as_processes t) (as_processes (run sha k events t)) one.0 (subst (λ z. Runs sha k z (as_processes t) (as_processes (run sha k events t))) one.1 (schedule_goes events t))

pub every_farm_is_processes : EveryFarmIsProcesses
every_farm_is_processes sha k size events =
    let s : Farm = run sha k events (opening sha size) in
    let first : Processes = first_processes sha in
    let starts : Runs sha k size first (as_processes sha k (opening sha size)) = Goes_on first first (as_processes sha k (opening sha size)) (Rests first) (Coordinator_does [] (record { memory = Some ledger.opening; disk = saves ledger.opening }) Starts) in
    (as_processes sha k s, runs_on sha k size first (as_processes sha k (opening sha size)) (as_processes sha k s) starts (schedule_goes sha k events (opening sha size)), record { disk = refl; memory = λ up. rw up refl; nodes = refl; written = refl })

-- ---- what can be lost

pub all_can_be_lost : AllCanBeLost
all_can_be_lost sha k size p = record {
  lines = λ q calls lines mem may part. (_, Coordinator_does lines (running_after (batch k calls (begin_batch q p.coordinator.disk))) (Works q calls lines mem may part), refl);
  node_lines = λ n c w lines number may ok part. (_, Node_does n lines w.node number (Acts size c w lines may ok part), refl);
  greeting = λ n l number awake newer low. (_, Node_does n [] (has_life (p.nodes n.0) l.0) number (Begins_life l [] awake newer low (Leaves (hello n l) [] [] Ends_part)), refl);
  contents = λ n d number. (
    _,
    Node_does n [] (record (p.nodes n.0) { store = none; known = (p.nodes n.0).known }) number (Loses none (p.nodes n.0).known (λ e c h. none_some c h) (λ s j e h. h)),
    ap (λ (x : Node). x.store d) (put_same n.0 (record (p.nodes n.0) { store = none; known = (p.nodes n.0).known }) p.nodes),
  );
  versions = λ n s j number. (
    _,
    Node_does n [] (record (p.nodes n.0) { store = (p.nodes n.0).store; known = unknown }) number (Loses (p.nodes n.0).store unknown (λ e c h. h) (λ t i e h. none_some e h)),
    ap (λ (x : Node). x.known s j) (put_same n.0 (record (p.nodes n.0) { store = (p.nodes n.0).store; known = unknown }) p.nodes),
  );
}
  where
    none : Digest → Option (List ℕ)
    none d = None

    unknown : Slot → ℕ → Option Digest
    unknown s j = None
