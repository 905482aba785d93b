-- Processes of which some nodes were taken over are a raided farm.
use Rattle.std.proofs.Common.{◌≡◌, ◌≢◌, ℕ, zero, suc, ◌+◌, ◌<◌, ◌≤◌, List, [], ◌∷◌, ◌++◌, Bool, true, false, map, Option, Some, None, slice_get, Result, Ok, Err, refl, sym, ◌∙◌, ap, subst, inl, inr, arith}
use Rattle.std.proofs.lemmas.Bool.{cases_Bool, cases_eq}
use Rattle.std.specs.Prelude.{⊤, if◌then◌else◌}
use Rattle.farm_base.specs.Receivers.{told_to}
use Rattle.farm_base.specs.declared.message.Message.TheVariants as to
use Rattle.farm_base.specs.declared.message.ToNode.TheVariants as to_node
use Rattle.farm_base.specs.declared.message.FromCoord.TheVariants as told
use Rattle.events.specs.declared.answer.CoordRefusal.{CoordRefusal}
use Rattle.events.specs.declared.answer.NodeRefusal.TheVariants as node_refusal
use Rattle.protocol.specs.Lists.{In, IsFrontOf, put, nth}
use Rattle.protocol.specs.Names.{NodeId, Life, Ask, Slot, Digest, Want, FolderName, tenure_wants, Ticket}
use Rattle.protocol.specs.Machine.{LineVersion, Grant, Fetch, Blob, Message, FromCoord, Said, Told, hello, acquire, Machine, line, HasPart}
use Rattle.protocol.specs.Ledger.{Limits, Ledger, Work, begin_work, handled, withdrawn, retired, pruned, nudged, Saved, saves, reads, reread}
use Rattle.protocol.specs.Ledger.{Lease, lease_under, has_ticket, withdrawing}
use Rattle.events.specs.declared.answer.CoordRefusal.TheVariants as refusal
use Rattle.protocol.specs.Machine.{Withdrawn}
use Rattle.protocol.proofs.Leases.{find_some}
use Rattle.protocol.proofs.Base.{ticket_is}
use Rattle.std.proofs.lemmas.Bool.{eqb-true}
use Rattle.protocol.specs.Ledger as ledgers
use Rattle.protocol.specs.World.{KeptAsk, Node, Running, World, has_life, Moves, Still, Then, Restarts, start}
use Rattle.protocol.specs.Safe.{InUse, HoldsContent}
use Rattle.protocol.specs.Nodes.{Place, NodeWork, NodeAnswer, guard, fetched, heard}
use Rattle.protocol.specs.Meaning.{Meant, WithdrawEnds, RetireEnds, NoEnds}
use Rattle.protocol.specs.Follows.{IsFarm, Agrees, Works, Follows, FollowsOk, EveryDecision}
use Rattle.protocol.specs.Hostile.{IsSealed, Plays, Forges, Raids, Calm, After, AsksFit}
use Rattle.protocol.specs.Processes.{running_after, Coordinator, Processes, Call, Handle, Withdraw, Prune, Retire, Nudge, MayCome, AllMayCome, decided, Batch, begin_batch, taken, batch, CoordinatorDoes, Fails, Is_killed, Starts, NodeCall, Receive, Ask_lease, Ask_tenure, Begin, Finish, Abort, Resend, Bring, Forget, MayReach, node_decided, NodeDoes, Acts, Begins_life, Loses, Is_spent, IsOfLeases, IsNodeOf, Executes, first_processes}
use Rattle.protocol.specs.Processes as processes
use Rattle.protocol.specs.HostileProcesses.{RaidedWithdrawnStaysOut, IsFit, RaidHappens, Coordinator_does, Node_does, Is_forged, Is_turned, RaidRuns, Rests, Goes_on, IsWorldOf, RaidedProcessesAreAFarm, RaidedProcessesStaySafe}
use Rattle.lists.proofs.Places.{cases_list}
use Rattle.protocol.proofs.Base.{true_false, put_same, put_other, in_one, in_left, in_right, in_append, from_map, some_is, none_some}
use Rattle.protocol.proofs.Steps.{Sound}
use Rattle.protocol.proofs.Deciding.{apart_of}
use Rattle.protocol.proofs.Saving.{Apart, SavesOk, saved_twice, handled_saves, withdrawn_saves, retired_saves, pruned_saves, nudged_saves}
use Rattle.protocol.proofs.Moving.{Reached, OnAnswer, nothing_done, does, then_does, asked_does, tenure_does, begun_does, finished_does, aborted_does, resent_does, stops_does, spent_does, brought_does, heard_does, forgotten_does}
use Rattle.protocol.proofs.Raiding.{Stand, raids_raided, start_raided, every_raid_is_safe, every_raid_stays_safe}
use Rattle.protocol.proofs.RaidedFarms.{every_raided_decision_follows}
use Rattle.protocol.proofs.Schedules.{works_moves, agrees_more, opening_shows}
use Rattle.protocol.proofs.Losing as losing
use Rattle.protocol.proofs.Processing.{batch_append, Carries, Within, part_within, all_carried, all_within}

module _ (took : ℕ → Bool) (sha : List ℕ → Digest) (k : Limits) (farm : IsFarm sha k) (size : ℕ) where
  moves_raids : (w u : World) → Moves sha w u → Raids took sha w u
  moves_raids w u (Still v) = Calm v
  moves_raids w u (Then a v b moves move) = After a v b (moves_raids w v moves) (Plays b move)

  raids_trans : (a b c : World) → Raids took sha a b → Raids took sha b c → Raids took sha a c
  raids_trans a b c p (Calm v) = p
  raids_trans a b c p (After x v y raids raid) = After a v c (raids_trans a b v p raids) raid

  -- what the taken-over nodes asked for parses
  abbrev TakenFit : List Message → Type 0
  TakenFit pool = (n : NodeId) (l : Life) (a : Ask) (wants : List Want) → took n.0 ≡ true → In (acquire n l a wants true) pool → (f : FolderName) × (wants ≡ tenure_wants f)

  -- a world of a raid, up, whose machine has this ledger
  record Held (w : World) (q : Ledger) : Type 0 where
    pub raids : Raids took sha (start sha) w
    pub up : w.down ≡ None
    pub agrees : Agrees k.empty w.pool w.machine q
    pub fit : TakenFit w.pool

  stand : (w : World) (q : Ledger) → Held w q → Stand took sha w.machine w.pool w.nodes
  stand w q h = (raids_raided took sha (start sha) w (start_raided took sha) h.raids).0.now

  all_fit : (w : World) (q : Ledger) → Held w q → AsksFit w.pool
  all_fit w q h n l a wants i = elim (cases_Bool (took n.0)) [
    | inl t ↦ h.fit n l a wants t i
    | inr f ↦ (let s = (stand w q h).shadow in (s.inv.messages (acquire n l a wants true) (s.covers (acquire n l a wants true) (n, refl, f) i)).1 refl)
  ]

  decisions : (w : World) (q : Ledger) → Held w q → EveryDecision k w.pool w.machine q
  decisions w q h = every_raided_decision_follows took sha k farm w h.raids (all_fit w q h) q h.agrees

  apart : (w : World) (q : Ledger) → Held w q → Apart q
  apart w q h = apart_of k.empty w.pool w.machine q (subst (λ z. Sound z w.machine) (sym farm.empty) (stand w q h).shadow.inv.sound) h.agrees

  -- ---- the coordinator

  abbrev after_work : World → Machine → List FromCoord → World
  after_work w m sends = record w { machine = m; pool = w.pool ++ map Told sends }

  record Done (w : World) (q : Ledger) (v : Work) : Type 0 where
    pub machine : Machine
    pub held : Held (after_work w machine v.sends) v.ledger
    pub raids : Raids took sha w (after_work w machine v.sends)
    pub saves : v.changed ≡ false → saves v.ledger ≡ saves q

  abbrev worked : (w : World) (q : Ledger) → Held w q → (P : (ℕ → Option _) → Type 0) (v : Work) → Follows k.empty w.pool w.machine P v → (v.changed ≡ false → saves v.ledger ≡ saves q) → Done w q v
  worked w q h P v f same =
      let raids : Raids took sha w (after_work w f.machine v.sends) =
      moves_raids w (after_work w f.machine v.sends) (works_moves sha w f.machine v.sends h.up (subst (λ z. Works z w.pool w.machine f.machine v.sends) farm.empty f.works)) in
      record {
        machine = f.machine;
        held = record {
          raids = raids_trans (start sha) w (after_work w f.machine v.sends) h.raids raids;
          up = h.up;
          agrees = agrees_more k.empty w.pool (map Told v.sends) f.machine v.ledger f.agrees;
          fit = λ n l a wants t i. elim (in_append (acquire n l a wants true) w.pool (map Told v.sends) i) [
            | inl old ↦ h.fit n l a wants t old
            | inr new ↦ (let r = from_map Told (acquire n l a wants true) v.sends new in let bad : acquire n l a wants true ≡ Told r.0 = r.2 in cc)
          ];
        };
        raids = raids;
        saves = same;
      }

  abbrev OnCall : World → Ledger → Result Work CoordRefusal → Type 0
  OnCall w q (Ok v) = Done w q v
  OnCall w q (Err e) = ⊤

  on_ok : (w : World) (q : Ledger) → Held w q → (ends : Grant → _ → Type 0) (r : Result Work CoordRefusal) → FollowsOk k.empty w.pool w.machine ends r → SavesOk k q r → OnCall w q r
  on_ok w q h ends (Ok v) f s = worked w q h _ v f s
  on_ok w q h ends (Err e) f s = tt

  one_call : (w : World) (q : Ledger) → Held w q → (written : List Message) → Carries written w.pool → (c : Call) → MayCome size written c → OnCall w q (decided k q c)
  one_call w q h written carries (Handle y) i = worked w q h _ (handled k y (begin_work q)) ((decisions w q h).message y (carries (Said y) tt i)) (handled_saves k q y (apart w q h))
  one_call w q h written carries (Withdraw t) i = on_ok w q h (WithdrawEnds t) (withdrawn k t (begin_work q)) ((decisions w q h).withdraw t) (withdrawn_saves k q t (apart w q h))
  one_call w q h written carries (Prune s) i = on_ok w q h NoEnds (pruned k s (begin_work q)) ((decisions w q h).prune s) (pruned_saves k q s)
  one_call w q h written carries (Retire n) i = on_ok w q h (RetireEnds n) (retired k n (begin_work q)) ((decisions w q h).retire n) (retired_saves k q n)
  one_call w q h written carries Nudge i = worked w q h _ (nudged k (begin_work q)) (decisions w q h).nudge (nudged_saves k q)

  -- a batch that the world has done
  record Batched (w : World) (b : Batch) : Type 0 where
    pub held : Held w b.ledger
    pub saved : b.to_save ≡ saves b.ledger
    pub sent : Within b.sends w.pool

  record Reaches (w : World) (b : Batch) : Type 0 where
    pub machine : Machine
    pub pool : List Message
    pub at : Batched (record w { machine = machine; pool = pool }) b
    pub raids : Raids took sha w (record w { machine = machine; pool = pool })
    pub more : Within w.pool pool

  took_it : (w : World) (b : Batch) → Batched w b → (v : Work) (d : Done w b.ledger v) → Batched (after_work w d.machine v.sends) (taken (Ok v) b)
  took_it w b at v d = record {
    held = d.held;
    saved = by v.changed refl;
    sent = all_within b.sends (map Told v.sends) (w.pool ++ map Told v.sends) (λ m i. in_left m w.pool (map Told v.sends) (at.sent m i)) (λ m i. in_right m w.pool (map Told v.sends) i);
  }
    where
      by : (c : Bool) → v.changed ≡ c → (if v.changed then saves v.ledger else b.to_save) ≡ saves v.ledger
      by true e = rw e refl
      by false e = rw e (at.saved ∙ sym (d.saves e))

  takes : (w : World) (b : Batch) → Batched w b → (r : Result Work CoordRefusal) → OnCall w b.ledger r → Reaches w (taken r b)
  takes w b at (Err e) d = record { machine = w.machine; pool = w.pool; at = at; raids = Calm w; more = λ m i. i }
  takes w b at (Ok v) d = record { machine = d.machine; pool = w.pool ++ map Told v.sends; at = took_it w b at v d; raids = d.raids; more = λ m i. in_left m w.pool (map Told v.sends) i }

  reach : (written : List Message) (calls : List Call) (w : World) (b : Batch) → Batched w b → Carries written w.pool → AllMayCome size written calls → Reaches w (batch k calls b)
  reach written [] w b at carries all = record { machine = w.machine; pool = w.pool; at = at; raids = Calm w; more = λ m i. i }
  reach written (c ∷ calls) w b at carries all =
      let one = takes w b at (decided k b.ledger c) (one_call w b.ledger at.held written carries c (all c (inl refl))) in
      let v : World = record w { machine = one.machine; pool = one.pool } in
      let rest = reach written calls v (taken (decided k b.ledger c) b) one.at (λ m o i. one.more m (carries m o i)) (λ x i. all x (inr i)) in
      record {
        machine = rest.machine;
        pool = rest.pool;
        at = rest.at;
        raids = raids_trans w v (record w { machine = rest.machine; pool = rest.pool }) one.raids rest.raids;
        more = λ m i. rest.more m (one.more m i);
      }

  -- ---- the processes

  record At (p : Processes) : Type 0 where
    pub world : World
    pub ledger : Ledger
    pub held : Held world ledger
    pub disk : p.coordinator.disk ≡ saves ledger
    pub memory : (q : Ledger) → p.coordinator.memory ≡ Some q → ledger ≡ q
    pub same : (n : ℕ) → took n ≡ false → IsNodeOf sha (world.nodes n) (p.nodes n)
    pub written : Carries p.written world.pool

  abbrev Next : (p : Processes) → At p → Processes → Type 0
  Next p a later = (b : At later) × Raids took sha a.world b.world

  reread_saves : (q : Ledger) → saves (reread q) ≡ saves q
  reread_saves q = ap (λ l. record (saves q) { live = l }) (saved_twice q.live)

  module _ (p : Processes) (a : At p) where
    quiet : Carries (p.written ++ []) a.world.pool
    quiet = all_carried p.written [] a.world.pool a.written (λ m o i. absurd i)

    batched : (q : Ledger) → p.coordinator.memory ≡ Some q → (calls : List Call) → AllMayCome size p.written calls → Reaches a.world (batch k calls (begin_batch q p.coordinator.disk))
    batched q mem calls all =
        let is : a.ledger ≡ q = a.memory q mem in
        reach p.written calls a.world (begin_batch q p.coordinator.disk) (record { held = subst (Held a.world) is a.held; saved = a.disk ∙ ap saves is; sent = λ m i. absurd i }) a.written all

    coordinator_next : (lines : List Message) (c : Coordinator) → CoordinatorDoes k size p.written p.coordinator lines c → Next p a (record p { coordinator = c; written = p.written ++ lines })
    coordinator_next lines c (processes.Works q calls ls mem all part) =
        let r = batched q mem calls all in
        let b : Batch = batch k calls (begin_batch q p.coordinator.disk) in (
          record {
            world = record a.world { machine = r.machine; pool = r.pool };
            ledger = b.ledger;
            held = r.at.held;
            disk = r.at.saved;
            memory = λ q' e. some_is b.ledger q' e;
            same = a.same;
            written = all_carried p.written ls r.pool (λ m o i. r.more m (a.written m o i)) (λ m o i. r.at.sent m (part_within part m i));
          },
          r.raids,
        )
    coordinator_next lines c (Fails q early late mem all) =
        let r = batched q mem early (λ x i. all x (in_left x early late i)) in
        let b : Batch = batch k early (begin_batch q p.coordinator.disk) in (
          record {
            world = record a.world { machine = r.machine; pool = r.pool };
            ledger = b.ledger;
            held = r.at.held;
            disk = r.at.saved;
            memory = λ q' e. none_some q' e;
            same = a.same;
            written = λ m o i. r.more m (quiet m o i);
          },
          r.raids,
        )
    coordinator_next lines c Is_killed = (record { world = a.world; ledger = a.ledger; held = a.held; disk = a.disk; memory = λ q e. none_some q e; same = a.same; written = quiet }, Calm a.world)
    coordinator_next lines c Starts =
        let v : Work = record (begin_work a.ledger) { ledger = reread a.ledger; changed = true } in
        let d = worked a.world a.ledger a.held _ v (decisions a.world a.ledger a.held).restart (λ e. (let bad : true ≡ false = e in cc)) in (
          record {
            world = after_work a.world d.machine [];
            ledger = reread a.ledger;
            held = d.held;
            disk = a.disk ∙ sym (reread_saves a.ledger);
            memory = λ q e. ap reads (sym a.disk) ∙ some_is (reads p.coordinator.disk) q e;
            same = a.same;
            written = λ m o i. in_left m a.world.pool [] (quiet m o i);
          },
          d.raids,
        )

    -- what an honest node does, in the world as its process
    reached_next : (n : NodeId) → took n.0 ≡ false → (x : Node) (lines sends : List Message) (y : Node) → Reached sha a.world n sends y → IsNodeOf sha y x → Carries lines sends
        → Next p a (record p { nodes = put n.0 x p.nodes; written = p.written ++ lines })
    reached_next n f x lines sends y r is carries =
        let w : World = a.world in
        let raids : Raids took sha w r.world = moves_raids w r.world r.moves in (
          record {
            world = r.world;
            ledger = a.ledger;
            held = record {
              raids = raids_trans (start sha) w r.world a.held.raids raids;
              up = r.down ∙ a.held.up;
              agrees = subst (λ z. Agrees k.empty r.world.pool z a.ledger) (sym r.machine) (subst (λ z. Agrees k.empty z w.machine a.ledger) (sym r.pool) (agrees_more k.empty w.pool sends w.machine a.ledger a.held.agrees));
              fit = λ m l b wants t i. elim (in_append (acquire m l b wants true) w.pool sends (subst (In (acquire m l b wants true)) r.pool i)) [
                | inl old ↦ a.held.fit m l b wants t old
                | inr new ↦ elim (r.owns (acquire m l b wants true) new) [
                  | inl own ↦ (let same : m ≡ n = some_is m n own in true_false (took m.0) t (subst (λ (z : NodeId). took z.0 ≡ false) (sym same) f))
                  | inr none ↦ none_some m (sym none)
                ]
              ];
            };
            disk = a.disk;
            memory = a.memory;
            same = λ j h. elim (cases_eq j n.0) [
              | inl e ↦ (let here : IsNodeOf sha (r.world.nodes n.0) (put n.0 x p.nodes n.0) =
                  subst (λ z. IsNodeOf sha z (put n.0 x p.nodes n.0)) (sym (r.nodes n.0 ∙ put_same n.0 y w.nodes)) (subst (IsNodeOf sha y) (sym (put_same n.0 x p.nodes)) is) in
                  subst (λ z. IsNodeOf sha (r.world.nodes z) (put n.0 x p.nodes z)) (sym e) here)
              | inr ne ↦ subst (λ z. IsNodeOf sha z (put n.0 x p.nodes j)) (sym (r.nodes j ∙ put_other n.0 y w.nodes j ne)) (subst (IsNodeOf sha (w.nodes j)) (sym (put_other n.0 x p.nodes j ne)) (a.same j h))
            ];
            written = λ m o i. subst (In m) (sym r.pool) (all_carried p.written lines (w.pool ++ sends) (λ m o i. in_left m w.pool sends (a.written m o i)) (λ m o i. in_right m w.pool sends (carries m o i)) m o i);
          },
          raids,
        )

    module _ (n : NodeId) (f : took n.0 ≡ false) (count : ℕ) where
      abbrev w : World
      w = a.world

      abbrev y : Node
      y = p.nodes n.0

      abbrev place : Place
      place = record { node = n; nodes = size }

      is : IsNodeOf sha (w.nodes n.0) y
      is = a.same n.0 f

      abbrev AllAct : NodeCall → Type 0
      AllAct c = losing.AllLess sha k n size count y (w.nodes n.0).store (w.nodes n.0).known is.contents is.versions c

      same_node : w.nodes n.0 ≡ record y { store = (w.nodes n.0).store; known = (w.nodes n.0).known }
      same_node = λ i. record { life = is.life i; asks = is.asks i; store = (w.nodes n.0).store; known = (w.nodes n.0).known; spent = is.spent i }

      by_call : (c : NodeCall) → AllAct c → OnAnswer sha w n (node_decided sha k place (w.nodes n.0) c) → (v : NodeWork) → node_decided sha k (record { node = n; nodes = count }) y c ≡ Ok v → (lines : List Message) → HasPart v.sends lines
          → Next p a (record p { nodes = put n.0 v.node p.nodes; written = p.written ++ lines })
      by_call c less done v ok lines part =
          let r = less.gives v ok in
          let mine : node_decided sha k place (w.nodes n.0) c ≡ Ok r.0 = subst (λ z. node_decided sha k place z c ≡ Ok r.0) (sym same_node) r.1 in
          reached_next n f v.node lines r.0.sends r.0.node (subst (OnAnswer sha w n) mine done) r.2.node (λ m o i. r.2.sends m o (part_within part m i))

      -- a Fetch changes nothing, and what answers it is a Blob
      by_fetch : (g : Fetch) (v : NodeWork) → node_decided sha k (record { node = n; nodes = count }) y (Receive (to_node.Fetch g)) ≡ Ok v → (lines : List Message) → HasPart v.sends lines
          → Next p a (record p { nodes = put n.0 v.node p.nodes; written = p.written ++ lines })
      by_fetch g v ok lines part = by y.spent ok
        where
          said : (o : Option (List ℕ)) → fetched g.from y o ≡ v → Next p a (record p { nodes = put n.0 v.node p.nodes; written = p.written ++ lines })
          said None e = reached_next n f v.node lines [] (w.nodes n.0) (nothing_done sha w n) (subst (λ (z : NodeWork). IsNodeOf sha (w.nodes n.0) z.node) e is) (λ m o i. subst (λ (z : NodeWork). In m z.sends) (sym e) (part_within part m i))
          said (Some c) e = reached_next n f v.node lines [] (w.nodes n.0) (nothing_done sha w n) (subst (λ (z : NodeWork). IsNodeOf sha (w.nodes n.0) z.node) e is)
              (λ m o i. (let j : In m (Blob g.from c ∷ []) = subst (λ (z : NodeWork). In m z.sends) (sym e) (part_within part m i) in absurd (subst IsOfLeases (in_one m (Blob g.from c) j) o)))

          by : (b : Bool) → guard b node_refusal.LivesSpent (Ok (fetched g.from y (y.store g.digest))) ≡ Ok v → Next p a (record p { nodes = put n.0 v.node p.nodes; written = p.written ++ lines })
          by true h = (let bad : ◌≡◌ {A = NodeAnswer} (Err node_refusal.LivesSpent) (Ok v) = h in cc)
          by false h = said (y.store g.digest) (let good : ◌≡◌ {A = NodeAnswer} (Ok (fetched g.from y (y.store g.digest))) (Ok v) = h in cc)

      one_node_call : (c : NodeCall) → MayReach p.written n c → (v : NodeWork) → node_decided sha k (record { node = n; nodes = count }) y c ≡ Ok v → (lines : List Message) → HasPart v.sends lines
          → Next p a (record p { nodes = put n.0 v.node p.nodes; written = p.written ++ lines })
      one_node_call (Receive (to_node.FromCoord m)) i v ok lines part =
          by_call (Receive (to_node.FromCoord m)) (losing.received_less sha k n size count y (w.nodes n.0).store (w.nodes n.0).known is.contents is.versions m)
          (subst (λ z. OnAnswer sha w z (node_decided sha k (record { node = z; nodes = size }) (w.nodes z.0) (Receive (to_node.FromCoord m)))) i.1
          (spent_does sha w (told_to m) (heard k (record { node = told_to m; nodes = size }) m (w.nodes (told_to m).0)) (heard_does sha w k size m (a.written (to.ToNode (to_node.FromCoord m)) tt i.0))))
          v ok lines part
      one_node_call (Receive (to_node.Fetch g)) i v ok lines part = by_fetch g v ok lines part
      one_node_call (Receive (to_node.Blob m c)) i v ok lines part = by_call (Bring c) (losing.bring_less sha k n size count y (w.nodes n.0).store (w.nodes n.0).known is.contents is.versions c) (spent_does sha w n _ (brought_does sha w n c)) v ok lines part
      one_node_call (Ask_lease wants) i v ok lines part = by_call (Ask_lease wants) (losing.ask_less sha k n size count y (w.nodes n.0).store (w.nodes n.0).known is.contents is.versions wants) (asked_does sha w n k size wants) v ok lines part
      one_node_call (Ask_tenure g) i v ok lines part = by_call (Ask_tenure g) (losing.ask_tenure_less sha k n size count y (w.nodes n.0).store (w.nodes n.0).known is.contents is.versions g) (tenure_does sha w n k size g) v ok lines part
      one_node_call (Begin t) i v ok lines part = by_call (Begin t) (losing.begin_less sha k n size count y (w.nodes n.0).store (w.nodes n.0).known is.contents is.versions t) (begun_does sha w n t) v ok lines part
      one_node_call (Finish t lefts) i v ok lines part = by_call (Finish t lefts) (losing.finish_less sha k n size count y (w.nodes n.0).store (w.nodes n.0).known is.contents is.versions t lefts) (finished_does sha w n size t lefts) v ok lines part
      one_node_call (Abort t) i v ok lines part = by_call (Abort t) (losing.abort_less sha k n size count y (w.nodes n.0).store (w.nodes n.0).known is.contents is.versions t) (aborted_does sha w n size t) v ok lines part
      one_node_call Resend i v ok lines part = by_call Resend (losing.resend_less sha k n size count y (w.nodes n.0).store (w.nodes n.0).known is.contents is.versions) (resent_does sha w n k size) v ok lines part
      one_node_call (Bring c) i v ok lines part = by_call (Bring c) (losing.bring_less sha k n size count y (w.nodes n.0).store (w.nodes n.0).known is.contents is.versions c) (spent_does sha w n _ (brought_does sha w n c)) v ok lines part
      one_node_call (Forget d) i v ok lines part = by_call (Forget d) (losing.forget_less sha k n size count y (w.nodes n.0).store (w.nodes n.0).known is.contents is.versions d) (forgotten_does sha w n k d) v ok lines part

      -- one restart after another
      record Jumps (life : ℕ) : Type 0 where
        pub sends : List Message
        pub reached : Reached sha w n sends (has_life (w.nodes n.0) life)
        pub greets : In (hello n (record { 0 = life })) sends

      jump : (life : ℕ) → (w.nodes n.0).life.0 < life → Jumps life
      jump zero above = absurd (omega arith)
      jump (suc life) above = elim (cases_eq (w.nodes n.0).life.0 life) [
        | inl e ↦ (let next : (w.nodes n.0).life.0 + 1 ≡ suc life = omega arith in
            subst Jumps next (record {
              sends = hello n (record { 0 = (w.nodes n.0).life.0 + 1 }) ∷ [];
              reached = does sha w n (hello n (record { 0 = (w.nodes n.0).life.0 + 1 }) ∷ []) (has_life (w.nodes n.0) ((w.nodes n.0).life.0 + 1)) Restarts;
              greets = inl refl;
            }))
        | inr ne ↦ (let j = jump life (omega arith) in
            let greets : List Message = hello n (record { 0 = life + 1 }) ∷ [] in
            let next : life + 1 ≡ suc life = omega arith in
            subst Jumps next (record {
              sends = j.sends ++ greets;
              reached = then_does sha w n j.sends greets (has_life (w.nodes n.0) life) (has_life (w.nodes n.0) (life + 1)) j.reached Restarts;
              greets = in_right (hello n (record { 0 = life + 1 })) j.sends greets (inl refl);
            }))
      ]

    node_next : (n : NodeId) (lines : List Message) (x : Node) → took n.0 ≡ false → NodeDoes sha k p.written n (p.nodes n.0) lines x → Next p a (record p { nodes = put n.0 x p.nodes; written = p.written ++ lines })
    node_next n lines x f (Acts count call v ls may ok part) = one_node_call n f count call may v ok ls part
    node_next n lines x f (Begins_life life ls up above below part) =
        let is = a.same n.0 f in
        let number : (a.world.nodes n.0).life.0 ≡ (p.nodes n.0).life.0 = ap (λ (z : Life). z.0) is.life in
        let j = jump n f 0 life.0 (omega arith) in
        reached_next n f (has_life (p.nodes n.0) life.0) ls j.sends (has_life (a.world.nodes n.0) life.0) j.reached
        (record { life = refl; asks = refl; spent = is.spent; contents = is.contents; versions = is.versions })
        (λ m o i. subst (λ z. In z j.sends) (sym (in_one m (hello n life) (part_within part m i))) j.greets)
    node_next n lines x f (Loses store known fewer fewer_known) =
        let is = a.same n.0 f in
        reached_next n f (record (p.nodes n.0) { store = store; known = known }) [] [] (a.world.nodes n.0) (nothing_done sha a.world n)
        (record { life = is.life; asks = is.asks; spent = is.spent; contents = λ d c h. is.contents d c (fewer d c h); versions = λ s j d h. is.versions s j d (fewer_known s j d h) })
        (λ m o i. i)
    node_next n lines x f (Is_spent may) =
        let is = a.same n.0 f in
        reached_next n f (record (p.nodes n.0) { spent = true }) [] [] (record (a.world.nodes n.0) { spent = true }) (stops_does sha a.world n)
        (record { life = is.life; asks = is.asks; spent = refl; contents = is.contents; versions = is.versions })
        (λ m o i. i)

    forged_next : (x : Message) → (IsSealed took x → ⊥) → IsFit x → Next p a (record p { written = p.written ++ x ∷ [] })
    forged_next x loose fits =
        let w : World = a.world in
        let v : World = record w { pool = w.pool ++ x ∷ [] } in
        let raids : Raids took sha w v = After w w v (Calm w) (Forges x loose) in (
          record {
            world = v;
            ledger = a.ledger;
            held = record {
              raids = raids_trans (start sha) w v a.held.raids raids;
              up = a.held.up;
              agrees = agrees_more k.empty w.pool (x ∷ []) w.machine a.ledger a.held.agrees;
              fit = λ n l b wants t i. elim (in_append (acquire n l b wants true) w.pool (x ∷ []) i) [
                | inl old ↦ a.held.fit n l b wants t old
                | inr new ↦ fits n l b wants (sym (in_one (acquire n l b wants true) x new))
              ];
            };
            disk = a.disk;
            memory = a.memory;
            same = a.same;
            written = all_carried p.written (x ∷ []) (w.pool ++ x ∷ []) (λ m o i. in_left m w.pool (x ∷ []) (a.written m o i)) (λ m o i. in_right m w.pool (x ∷ []) i);
          },
          raids,
        )

    turned_next : (n : NodeId) (x : Node) → took n.0 ≡ true → Next p a (record p { nodes = put n.0 x p.nodes })
    turned_next n x t = (
      record {
        world = a.world;
        ledger = a.ledger;
        held = a.held;
        disk = a.disk;
        memory = a.memory;
        same = λ j f. (let ne : j ≢ n.0 = λ e. true_false (took n.0) t (subst (λ z. took z ≡ false) e f) in subst (IsNodeOf sha (a.world.nodes j)) (sym (put_other n.0 x p.nodes j ne)) (a.same j f));
        written = a.written;
      },
      Calm a.world,
    )

    next : (later : Processes) → RaidHappens took sha k size p later → Next p a later
    next later (Coordinator_does lines c d) = coordinator_next lines c d
    next later (Node_does n lines x number f d) = node_next n lines x f d
    next later (Is_forged x loose fits) = forged_next x loose fits
    next later (Is_turned n x t) = turned_next n x t

  all_next : (p : Processes) (a : At p) (later : Processes) → RaidRuns took sha k size p later → Next p a later
  all_next p a later (Rests q) = (a, Calm a.world)
  all_next p a later (Goes_on q r s runs happens) =
      let one = all_next p a r runs in
      let two = next r one.0 later happens in
      (two.0, raids_trans a.world one.0.world two.0.world one.1 two.1)

  first_at : At (first_processes sha)
  first_at = record {
    world = start sha;
    ledger = ledgers.opening;
    held = record { raids = Calm (start sha); up = refl; agrees = subst (λ z. Agrees z [] (start sha).machine ledgers.opening) (sym farm.empty) (opening_shows sha k farm size).now; fit = λ n l a wants t i. absurd i };
    disk = refl;
    memory = λ q e. none_some q e;
    same = λ n f. record { life = refl; asks = refl; spent = refl; contents = losing.keep_both sha [] (λ d. None) (λ d. None) (λ d c h. none_some c h); versions = λ s j d h. h };
    written = λ m o i. i;
  }

  is_world : (p : Processes) (a : At p) → IsWorldOf took sha k a.world p
  is_world p a = record {
    up = a.held.up;
    lines = λ s. ap (λ (d : Saved). d.line s) a.disk ∙ subst (λ z. a.ledger.line s ≡ line z a.world.machine s) farm.empty (a.held.agrees.lines s);
    gone = ap (λ (d : Saved). d.gone) a.disk ∙ a.held.agrees.gone;
    ceiling = (let one : a.ledger.last ≡ a.world.machine.last = a.held.agrees.last in
        let two : a.ledger.last ≤ a.ledger.ceiling = a.held.agrees.ceiling in
        let three : p.coordinator.disk.ceiling ≡ a.ledger.ceiling = ap (λ (d : Saved). d.ceiling) a.disk in omega arith);
    memory = λ q e. subst (Agrees k.empty a.world.pool a.world.machine) (a.memory q e) a.held.agrees;
    nodes = a.same;
    written = a.written;
  }

pub raided_processes_are_a_farm : RaidedProcessesAreAFarm
raided_processes_are_a_farm took sha k farm size p later runs more =
    let one = all_next took sha k farm size (first_processes sha) (first_at took sha k farm size) p runs in
    let two = all_next took sha k farm size p one.0 later more in
    record {
      world = one.0.world;
      later_world = two.0.world;
      raids = one.0.held.raids;
      more = two.1;
      before = is_world took sha k farm size p one.0;
      after = is_world took sha k farm size later two.0;
    }

wrote : (took : ℕ → Bool) (sha : List ℕ → Digest) (k : Limits) (size : ℕ) (p later : Processes) → RaidRuns took sha k size p later → Within p.written later.written
wrote took sha k size p later (Rests q) = λ m i. i
wrote took sha k size p later (Goes_on q r s runs happens) = (let one = wrote took sha k size p r runs in λ m i. by r later happens m (one m i))
  where
    by : (r s : Processes) → RaidHappens took sha k size r s → Within r.written s.written
    by r s (Coordinator_does lines c d) = λ m i. in_left m r.written lines i
    by r s (Node_does n lines x number f d) = λ m i. in_left m r.written lines i
    by r s (Is_forged x loose fits) = λ m i. in_left m r.written (x ∷ []) i
    by r s (Is_turned n x t) = λ m i. i

-- the world's node holds a content for the version too, of the same digest
record HeldToo (sha : List ℕ → Digest) (x : Node) (s : Slot) (number : ℕ) (c : List ℕ) : Type 0 where
  pub content : List ℕ
  pub holds : HoldsContent x s number content
  pub same : sha c ≡ sha content

held_too : (sha : List ℕ → Digest) (x y : Node) → IsNodeOf sha x y → ((d : Digest) (c : List ℕ) → x.store d ≡ Some c → sha c ≡ d) → (s : Slot) (number : ℕ) (c : List ℕ) → HoldsContent y s number c → HeldToo sha x s number c
held_too sha x y is right s number c (d, known, stored) =
    let here = is.contents d c stored in
    let has = losing.has_some sha (x.store d) here.1 in
    record { content = has.0; holds = (d, is.versions s number d known, has.1); same = here.0 ∙ sym (right d has.0 has.1) }

-- what an honest node stores has its digest
stores_right : (took : ℕ → Bool) (sha : List ℕ → Digest) (w : World) → Raids took sha (start sha) w → (n : NodeId) → took n.0 ≡ false → (d : Digest) (c : List ℕ) → (w.nodes n.0).store d ≡ Some c → sha c ≡ d
stores_right took sha w raids n f d c h =
    let s = (raids_raided took sha (start sha) w (start_raided took sha) raids).0.now.shadow in
    (s.inv.nodes n).stored d c (subst (λ (z : Node). z.store d ≡ Some c) (sym (s.same n.0 f)) h)

in_use : (sha : List ℕ → Digest) (w : World) (n : NodeId) (y : Node) (g : Grant) (ws : List Want) → IsNodeOf sha (w.nodes n.0) y → Executes y g ws → InUse w n g ws
in_use sha w n y g ws is x = subst (λ (asks : List KeptAsk). (a : ℕ) × (recalled : Bool) × (nth asks a ≡ Some (Running ws g recalled))) (sym is.asks) x

pub raided_processes_stay_safe : RaidedProcessesStaySafe
raided_processes_stay_safe took sha k farm size p later runs more =
    let r = raided_processes_are_a_farm took sha k farm size p later runs more in
    let raids = raids_on r.raids r.more in
    let now = every_raid_is_safe took sha r.world r.raids in
    let last = every_raid_is_safe took sha r.later_world raids in
    let since = every_raid_stays_safe took sha r.world r.later_world r.raids r.more in
    let still : Within p.written later.written = wrote took sha k size p later more in
    record {
      contents = λ n n' s number c c' f f' held held'.
          (let a = held_too sha (r.world.nodes n.0) (p.nodes n.0) (r.before.nodes n.0 f) (stores_right took sha r.world r.raids n f) s number c held in
          let b = held_too sha (r.later_world.nodes n'.0) (later.nodes n'.0) (r.after.nodes n'.0 f') (stores_right took sha r.later_world raids n' f') s number c' held' in
          let same : sha a.content ≡ sha b.content = elim (since.contents n n' s number a.content b.content f f' a.holds b.holds) [ inl e ↦ ap sha e | inr e ↦ e.1 ] in
          elim (cases_list c c') [ inl e ↦ inl e | inr ne ↦ inr (ne, a.same ∙ same ∙ sym b.same) ]);
      alone = λ n n' g g' ws ws' s f f' x x' has has' is_alone. now.alone n n' g g' ws ws' s f f' (in_use sha r.world n (p.nodes n.0) g ws (r.before.nodes n.0 f) x) (in_use sha r.world n' (p.nodes n'.0) g' ws' (r.before.nodes n'.0 f') x') has has' is_alone;
      lines = λ s. subst (λ xs. IsFrontOf xs (later.coordinator.disk.line s)) (sym (r.before.lines s)) (subst (λ xs. IsFrontOf (line (sha []) r.world.machine s) xs) (sym (r.after.lines s)) (since.lines s));
      gone = λ n e. ap (λ (z : ℕ → Bool). z n.0) r.after.gone ∙ since.gone n (sym (ap (λ (z : ℕ → Bool). z n.0) r.before.gone) ∙ e);
      confirmed = λ n l t versions v f i j.
          (let c = last.confirmed n l t versions v f (r.after.written (Told (told.Committed n l t versions)) tt (still (Told (told.Committed n l t versions)) i)) j in
          (c.0, c.1, subst (λ xs. slice_get xs c.0 ≡ Some (record { ticket = t; digest = v.digest })) (sym (r.after.lines v.slot)) c.2));
      fenced = λ n l t f i s v j at. last.fenced n l t f (r.after.written (Told (told.Fenced n l t)) tt (still (Told (told.Fenced n l t)) i)) (s, v, subst (In v) (r.after.lines s) j, at);
    }
  where
    raids_on : {a b c : World} → Raids took sha a b → Raids took sha b c → Raids took sha a c
    raids_on {a} {b} {c} x y = raids_trans took sha k farm size a b c x y

-- ---- what was withdrawn

module _ (took : ℕ → Bool) (sha : List ℕ → Digest) (k : Limits) (farm : IsFarm sha k) (size : ℕ) where
  -- an accepted withdrawal ends the lease of its ticket
  withdrawal_ends : (w : World) (q : Ledger) → Held took sha k farm size w q → (t : Ticket) (v : Work) → withdrawn k t (begin_work q) ≡ Ok v → (f : Follows k.empty w.pool w.machine (Meant w.machine (WithdrawEnds t) v.note) v) → f.machine.ending t.0 ≡ Some Withdrawn
  withdrawal_ends w q h t v ok f = by (lease_under q.live t) refl ok
    where
      by : (o : Option Lease) → lease_under q.live t ≡ o → withdrawing k o (begin_work q) ≡ Ok v → f.machine.ending t.0 ≡ Some Withdrawn
      by None e bad = (let no : ◌≡◌ {A = Result Work CoordRefusal} (Err refusal.NotLive) (Ok v) = bad in cc)
      by (Some l) e good =
          (let r = find_some (has_ticket t) q.live l e in
          let g = h.agrees.live_made l r.0 in
          let at : g.0.ticket ≡ t = ap (λ (z : Lease). z.ticket) g.2 ∙ ticket_is l.ticket t (eqb-true l.ticket.0 t.0 r.1) in
          subst (λ (z : Ticket). f.machine.ending z.0 ≡ Some Withdrawn) at (f.ended.0.all g.0 Withdrawn g.1 (at, refl)))

  module _ (p later : Processes) (runs : RaidRuns took sha k size (first_processes sha) p) (q : Ledger) (mem : p.coordinator.memory ≡ Some q) (early late : List Call) (t : Ticket) (v : Work) where
    abbrev first_batch : Batch
    first_batch = batch k early (begin_batch q p.coordinator.disk)

    abbrev next_batch : Batch
    next_batch = taken (Ok v) first_batch

    stays_off : (lines : List Message) → AllMayCome size p.written early → AllMayCome size p.written late → withdrawn k t (begin_work first_batch.ledger) ≡ Ok v → HasPart (batch k late next_batch).sends lines
        → RaidRuns took sha k size (record p { coordinator = running_after (batch k late next_batch); written = p.written ++ lines }) later
        → (s : Slot) (x : LineVersion) → In x (later.coordinator.disk.line s) → x.ticket ≡ t → ⊥
    stays_off lines may may_late ok part more s x i at =
        let one = all_next took sha k farm size (first_processes sha) (first_at took sha k farm size) p runs in
        let a = one.0 in
        let r1 = batched took sha k farm size p a q mem early may in
        let w1 : World = record a.world { machine = r1.machine; pool = r1.pool } in
        let d = decisions took sha k farm size w1 first_batch.ledger r1.at.held in
        let f : Follows k.empty w1.pool w1.machine (Meant w1.machine (WithdrawEnds t) v.note) v = subst (FollowsOk k.empty w1.pool w1.machine (WithdrawEnds t)) ok (d.withdraw t) in
        let saves = subst (SavesOk k first_batch.ledger) ok (withdrawn_saves k first_batch.ledger t (apart took sha k farm size w1 first_batch.ledger r1.at.held)) in
        let done = worked took sha k farm size w1 first_batch.ledger r1.at.held _ v f saves in
        let w2 : World = record w1 { machine = f.machine; pool = w1.pool ++ map Told v.sends } in
        let at2 = took_it took sha k farm size w1 first_batch r1.at v done in
        let more2 : Within w1.pool w2.pool = λ m i. in_left m w1.pool (map Told v.sends) i in
        let r3 = reach took sha k farm size p.written late w2 next_batch at2 (λ m o j. more2 m (r1.more m (a.written m o j))) may_late in
        let w3 : World = record w2 { machine = r3.machine; pool = r3.pool } in
        let u : Processes = record p { coordinator = running_after (batch k late next_batch); written = p.written ++ lines } in
        let b : At took sha k farm size u = record {
          world = w3;
          ledger = (batch k late next_batch).ledger;
          held = r3.at.held;
          disk = r3.at.saved;
          memory = λ q' e. some_is (batch k late next_batch).ledger q' e;
          same = a.same;
          written = all_carried p.written lines r3.pool (λ m o j. r3.more m (more2 m (r1.more m (a.written m o j)))) (λ m o j. r3.at.sent m (part_within part m j));
        } in
        let last = all_next took sha k farm size u b later more in
        let ended : w2.machine.ending t.0 ≡ Some Withdrawn = withdrawal_ends w1 first_batch.ledger r1.at.held t v ok f in
        let then_on = raids_trans took sha k farm size w2 w3 last.0.world r3.raids last.1 in
        let now = raids_raided took sha (start sha) w2 (start_raided took sha) at2.held.raids in
        let still = (raids_raided took sha w2 last.0.world now.0 then_on).1.later.ending t.0 Withdrawn ended in
        let safe = every_raid_is_safe took sha last.0.world last.0.held.raids in
        safe.withdrawn t (inl still) (s, x, subst (In x) ((is_world took sha k farm size later last.0).lines s) i, at)

pub raided_withdrawn_stays_out : RaidedWithdrawnStaysOut
raided_withdrawn_stays_out took sha k farm size p later runs q early late t v lines mem may ok part more s x i at =
    let b : Batch = begin_batch q p.coordinator.disk in
    let first : Batch = batch k early b in
    let is : batch k (early ++ Withdraw t ∷ late) b ≡ batch k late (taken (Ok v) first) =
    batch_append k early (Withdraw t ∷ late) b ∙ ap (λ r. batch k late (taken r first)) ok in
    stays_off took sha k farm size p later runs q mem early late t v lines
    (λ c j. may c (in_left c early (Withdraw t ∷ late) j)) (λ c j. may c (in_right c early (Withdraw t ∷ late) (inr j))) ok
    (subst (λ (z : Batch). HasPart z.sends lines) is part)
    (subst (λ (z : Batch). RaidRuns took sha k size (record p { coordinator = running_after z; written = p.written ++ lines }) later) is more)
    s x i at
