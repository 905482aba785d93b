-- Several coordinators over one store are one.
use Rattle.std.proofs.Common.{◌≡◌, ℕ, ◌+◌, ◌≤◌, List, [], ◌∷◌, ◌++◌, ◌⊎◌, Bool, true, false, Option, Some, None, Ok, refl, sym, ◌∙◌, ap, subst, inl, inr, arith, append-nil}
use Rattle.std.specs.Prelude.{if◌then◌else◌, ⊤}
use Rattle.farm_base.specs.declared.message.Message.TheVariants as to
use Rattle.farm_base.specs.declared.message.FromCoord.TheVariants as told
use Rattle.protocol.specs.Lists.{In, put}
use Rattle.protocol.specs.Names.{NodeId, Digest}
use Rattle.protocol.specs.Machine.{Message, Said, Told, HasPart, Ends_part, Keeps, Leaves}
use Rattle.protocol.specs.Ledger.{Limits, Ledger, begin_work, withdrawn, Saved, reads}
use Rattle.protocol.specs.World.{Node}
use Rattle.protocol.specs.Replay.{Farm, run, scheduled}
use Rattle.protocol.specs.Processes.{ProcessesAreTheFarm, ProcessesStaySafe, WithdrawnStaysOut, Coordinator, Processes, Call, Handle, Withdraw, Prune, Retire, Nudge, MayCome, AllMayCome, Batch, begin_batch, batch, CoordinatorDoes, Works, Fails, NodeCall, Receive, Ask_lease, Ask_tenure, Begin, Finish, Abort, Resend, Bring, Forget, MayReach, NodeDoes, Acts, Begins_life, Loses, Is_spent, Coordinator_does, Runs, Rests, Goes_on, first_processes, IsNodeOf, IsFarmOf, AreScheduled, StaySafe, running_after, killed_after}
use Rattle.protocol.specs.Processes as one
use Rattle.takeover.specs.TakeOver.{Store, Held, Request, Member, Stopped, Idle, Waits, Cluster, readable, started, taken_over, becomes, outcome, goes_on, stored, takes, Happens, Starts, Takes_over, Asks, Takes, Hears, Drops, Stops, Node_does, Comes_to, Stays, And_then, first_cluster, IsOneOf, SeveralAreOne, seen, SeveralStaySafe, WithdrawnStaysOutOfAll, OneIsSeveral, SeveralAreTheFarm, CanDo, AnyCanTakeOver, KeepsLeases, Comes_keeping, Stays_kept, And_kept, RunsOn, Stays_up, Works_on, Node_goes_on, started_processes, TakeOversAreNoRestarts}
use Rattle.protocol.proofs.Base.{put_same, put_all, in_left, in_right, some_is, none_some, in_append}
use Rattle.protocol.proofs.Following.{part_refl}

-- ---- lists and runs

abbrev Within : List Message → List Message → Type 0
Within xs ys = (m : Message) → In m xs → In m ys

part_within : {A : Type 0} {xs ys : List A} → HasPart xs ys → (x : A) → In x ys → In x xs
part_within Ends_part m i = i
part_within (Keeps x xs ys p) m (inl e) = inl e
part_within (Keeps x xs ys p) m (inr i) = inr (part_within p m i)
part_within (Leaves x xs ys p) m i = inr (part_within p m i)

all_within : (xs ys zs : List Message) → Within xs zs → Within ys zs → Within (xs ++ ys) zs
all_within xs ys zs f g m i = elim (in_append m xs ys i) [ inl j ↦ f m j | inr j ↦ g m j ]

runs_on : (sha : List ℕ → Digest) (k : Limits) (size : ℕ) (p q r : Processes) → Runs sha k size p q → Runs sha k size q r → Runs sha k size p r
runs_on sha k size p q r one (Rests q') = one
runs_on sha k size p q r one (Goes_on q' x r' more h) = Goes_on p x r (runs_on sha k size p q x one more) h

-- ---- what may come where more was written

may_come_more : (size : ℕ) (xs ys : List Message) → Within xs ys → (call : Call) → MayCome size xs call → MayCome size ys call
may_come_more size xs ys more (Handle y) i = more (Said y) i
may_come_more size xs ys more (Withdraw t) i = tt
may_come_more size xs ys more (Prune s) i = tt
may_come_more size xs ys more (Retire n) i = i
may_come_more size xs ys more Nudge i = tt

may_reach_more : (xs ys : List Message) → Within xs ys → (n : NodeId) (c : NodeCall) → MayReach xs n c → MayReach ys n c
may_reach_more xs ys more n (Receive m) i = (more (to.ToNode m) i.0, i.1)
may_reach_more xs ys more n (Ask_lease wants) i = tt
may_reach_more xs ys more n (Ask_tenure f) i = tt
may_reach_more xs ys more n (Begin t) i = tt
may_reach_more xs ys more n (Finish t lefts) i = tt
may_reach_more xs ys more n (Abort t) i = tt
may_reach_more xs ys more n Resend i = tt
may_reach_more xs ys more n (Bring c) i = tt
may_reach_more xs ys more n (Forget d) i = tt

node_more : (sha : List ℕ → Digest) (k : Limits) (xs ys : List Message) → Within xs ys → (n : NodeId) (x : Node) (lines : List Message) (y : Node) → NodeDoes sha k xs n x lines y → NodeDoes sha k ys n x lines y
node_more sha k xs ys more n x lines y (Acts count call w ls may ok part) = Acts count call w ls (may_reach_more xs ys more n call may) ok part
node_more sha k xs ys more n x lines y (Begins_life life ls up above below part) = Begins_life life ls up above below part
node_more sha k xs ys more n x lines y (Loses store known fewer fewer_known) = Loses store known fewer fewer_known
node_more sha k xs ys more n x lines y (Is_spent may) = Is_spent may

-- ---- the one coordinator

-- a coordinator has what the store holds: the one coordinator's ledger, or the record's. Or the store was written since
record IsHeld (store : Store) (memory : Option Ledger) (held : Held) : Type 0 where
  pub before : held.revision ≤ store.revision
  pub present : held.revision ≡ store.revision → (held.saved ≡ store.saved) × ((memory ≡ Some held.ledger) ⊎ (held.ledger ≡ reads store.saved))

abbrev IsMember : Store → Option Ledger → Member → Type 0
IsMember store memory Stopped = ⊤
IsMember store memory (Idle held) = IsHeld store memory held
IsMember store memory (Waits request) = IsHeld store memory request.held

record IsRead (store read : Store) : Type 0 where
  pub before : read.revision ≤ store.revision
  pub present : read.revision ≡ store.revision → read ≡ store

-- where the store is written, all that was held is older
held_then : (s s' : Store) (m m' : Option Ledger) → s'.revision ≡ s.revision + 1 → (held : Held) → IsHeld s m held → IsHeld s' m' held
held_then s s' m m' e held is = (let le : held.revision ≤ s.revision = is.before in record { before = omega arith; present = λ now. absurd (omega arith) })

member_then : (s s' : Store) (m m' : Option Ledger) → s'.revision ≡ s.revision + 1 → (x : Member) → IsMember s m x → IsMember s' m' x
member_then s s' m m' e Stopped is = tt
member_then s s' m m' e (Idle held) is = held_then s s' m m' e held is
member_then s s' m m' e (Waits request) is = held_then s s' m m' e request.held is

module _ (sha : List ℕ → Digest) (k : Limits) (size : ℕ) where
  -- the processes of one coordinator that the cluster is, and what each of its coordinators knows of that one
  record Matches (c : Cluster) (p : Processes) : Type 0 where
    pub is : IsOneOf c p
    pub read : (s : Store) → In s (readable c) → IsRead c.store s
    pub members : (who : ℕ) → IsMember c.store p.coordinator.memory (c.members who)
    pub requests : (r : Request) → In r c.requests → IsHeld c.store p.coordinator.memory r.held × AllMayCome size p.written r.calls
    pub taken : (r : Request) → In r c.taken → IsHeld c.store p.coordinator.memory (goes_on k r) × Within (outcome k r).sends p.written

  record Follows (p : Processes) (later : Cluster) : Type 0 where
    pub after : Processes
    pub runs : Runs sha k size p after
    pub matches : Matches later after

  stay : (c : Cluster) (p : Processes) → Matches c p → Follows p c
  stay c p m = record { after = p; runs = Rests p; matches = m }

  becoming : (c : Cluster) (p : Processes) → Matches c p → (who : ℕ) (x : Member) → IsMember c.store p.coordinator.memory x → Follows p (becomes who x c)
  becoming c p m who x here = record {
    after = p;
    runs = Rests p;
    matches = record {
      is = record { disk = m.is.disk; nodes = m.is.nodes; written = m.is.written; whole = m.is.whole };
      read = m.read;
      members = put_all (λ j z. IsMember c.store p.coordinator.memory z) who x c.members here (λ j other. m.members j);
      requests = m.requests;
      taken = m.taken;
    };
  }

  -- ---- a request is taken

  -- the one coordinator works off the calls, and each line reaches the network
  abbrev worked : Processes → Request → Processes
  worked p r = record p { coordinator = running_after (outcome k r); written = p.written ++ (outcome k r).sends }

  works : (p : Processes) (r : Request) → p.coordinator.disk ≡ r.held.saved → p.coordinator.memory ≡ Some r.held.ledger → AllMayCome size p.written r.calls → Runs sha k size p (worked p r)
  works p r disk memory may =
      let by : Saved → Batch = λ d. batch k r.calls (begin_batch r.held.ledger d) in
      let b : Batch = batch k r.calls (begin_batch r.held.ledger p.coordinator.disk) in
      subst (λ (d : Saved). Runs sha k size p (record p { coordinator = running_after (by d); written = p.written ++ (by d).sends })) disk
      (Goes_on p p (record p { coordinator = running_after b; written = p.written ++ b.sends }) (Rests p) (Coordinator_does b.sends (running_after b) (Works r.held.ledger r.calls b.sends memory may (part_refl b.sends))))

  -- it is killed and starts
  abbrev restarted : Processes → Processes
  restarted p = record p { coordinator = record { memory = Some (reads p.coordinator.disk); disk = p.coordinator.disk } }

  restarts : (p : Processes) → Runs sha k size p (restarted p)
  restarts p =
      subst (λ xs. Runs sha k size p (record p { coordinator = (restarted p).coordinator; written = xs })) (append-nil p.written)
      (Goes_on p p (record p { coordinator = (restarted p).coordinator; written = p.written ++ [] }) (Rests p) (Coordinator_does [] (restarted p).coordinator one.Starts))

  -- the processes where the one coordinator goes on from the request's ledger: these, or those where it starts
  record IsReady (p : Processes) (r : Request) : Type 0 where
    pub ready : Processes
    pub runs : Runs sha k size p ready
    pub disk : ready.coordinator.disk ≡ r.held.saved
    pub memory : ready.coordinator.memory ≡ Some r.held.ledger
    pub nodes : ready.nodes ≡ p.nodes
    pub written : ready.written ≡ p.written

  readied : (c : Cluster) (p : Processes) → Matches c p → (r : Request) → In r c.requests → r.held.revision ≡ c.store.revision → IsReady p r
  readied c p m r i now =
      let held = (m.requests r i).0.present now in
      let disk : p.coordinator.disk ≡ r.held.saved = m.is.disk ∙ sym held.0 in
      elim held.1 [
        | inl e ↦ record { ready = p; runs = Rests p; disk = disk; memory = e; nodes = refl; written = refl }
        | inr e ↦ record {
          ready = restarted p;
          runs = restarts p;
          disk = disk;
          memory = ap Some (ap reads m.is.disk ∙ sym e);
          nodes = refl;
          written = refl;
        }
      ]

  may_now : (c : Cluster) (p : Processes) → Matches c p → (r : Request) → In r c.requests → (ready : IsReady p r) → AllMayCome size ready.ready.written r.calls
  may_now c p m r i ready = subst (λ xs. AllMayCome size xs r.calls) (sym ready.written) (m.requests r i).1

  whole_is : (w : Bool) (l q : Ledger) → (if w then Some l else None) ≡ Some q → Some l ≡ Some q
  whole_is true l q h = h
  whole_is false l q h = none_some q h

  module _ (c : Cluster) (p : Processes) (m : Matches c p) (r : Request) (i : In r c.requests) (now : r.held.revision ≡ c.store.revision) (ready : IsReady p r) where
    abbrev taking : Processes
    taking = worked ready.ready r

    more : Within p.written taking.written
    more x j = in_left x ready.ready.written (outcome k r).sends (subst (In x) (sym ready.written) j)

    matches_then : Matches (takes k r c) taking
    matches_then = record {
      is = record {
        disk = refl;
        nodes = ready.nodes ∙ m.is.nodes;
        written = λ x j. more x (m.is.written x j);
        whole = λ q e. whole_is r.whole (outcome k r).ledger q e;
      };
      read = reading;
      members = λ who. member_then c.store (stored k r c.store) p.coordinator.memory taking.coordinator.memory refl (c.members who) (m.members who);
      requests = λ x j.
          (let was = m.requests x j in
          (held_then c.store (stored k r c.store) p.coordinator.memory taking.coordinator.memory refl x.held was.0, λ call in_calls. may_come_more size p.written taking.written more call (was.1 call in_calls)));
      taken = took;
    }
      where
        reading : (s : Store) → In s (readable (takes k r c)) → IsRead (stored k r c.store) s
        reading s (inl e) = record { before = (let same : s.revision ≡ c.store.revision + 1 = ap (λ (z : Store). z.revision) e in omega arith); present = λ same. e }
        reading s (inr j) = (let le : s.revision ≤ c.store.revision = (m.read s j).before in record { before = omega arith; present = λ same. absurd (omega arith) })

        took : (x : Request) → In x (takes k r c).taken → IsHeld (stored k r c.store) taking.coordinator.memory (goes_on k x) × Within (outcome k x).sends taking.written
        took x (inl e) =
            subst (λ (z : Request). IsHeld (stored k r c.store) taking.coordinator.memory (goes_on k z) × Within (outcome k z).sends taking.written) (sym e)
            (record { before = omega arith; present = λ same. (refl, inl refl) }, λ y j. in_right y ready.ready.written (outcome k r).sends j)
        took x (inr j) =
            let was = m.taken x j in
            (held_then c.store (stored k r c.store) p.coordinator.memory taking.coordinator.memory refl (goes_on k x) was.0, λ y h. more y (was.1 y h))

  -- ---- each thing that happens

  next : (c : Cluster) (p : Processes) → Matches c p → (later : Cluster) → Happens k sha size c later → Follows p later
  next c p m later (Starts who s i) =
      let is = m.read s i in
      becoming c p m who (Idle (started s)) (record { before = is.before; present = λ now. (ap (λ (z : Store). z.saved) (is.present now), inr (ap (λ (z : Store). reads z.saved) (is.present now))) })
  next c p m later (Takes_over who s q i w) =
      let is = m.read s i in
      becoming c p m who (Idle (taken_over s q))
      (record { before = is.before; present = λ now. (ap (λ (z : Store). z.saved) (is.present now), inl (m.is.whole q (subst (λ (z : Store). z.whole ≡ Some q) (is.present now) w))) })
  next c p m later (Asks who held calls whole at may) =
      let r : Request = record { held = held; calls = calls; whole = whole } in
      let is : IsHeld c.store p.coordinator.memory held = subst (IsMember c.store p.coordinator.memory) at (m.members who) in
      record {
        after = p;
        runs = Rests p;
        matches = record {
          is = record { disk = m.is.disk; nodes = m.is.nodes; written = m.is.written; whole = m.is.whole };
          read = m.read;
          members = put_all (λ j z. IsMember c.store p.coordinator.memory z) who (Waits r) c.members is (λ j other. m.members j);
          requests = λ x j. asked r is (λ call i. may_come_more size c.written p.written m.is.written call (may call i)) x j;
          taken = m.taken;
        };
      }
    where
      asked : (r : Request) → IsHeld c.store p.coordinator.memory r.held → AllMayCome size p.written r.calls → (x : Request) → In x (r ∷ c.requests) → IsHeld c.store p.coordinator.memory x.held × AllMayCome size p.written x.calls
      asked r is all x (inl e) = subst (λ (z : Request). IsHeld c.store p.coordinator.memory z.held × AllMayCome size p.written z.calls) (sym e) (is, all)
      asked r is all x (inr j) = m.requests x j
  next c p m later (Takes r i now) =
      let ready = readied c p m r i now in
      record {
        after = worked ready.ready r;
        runs = runs_on sha k size p ready.ready (worked ready.ready r) ready.runs (works ready.ready r ready.disk ready.memory (may_now c p m r i ready));
        matches = matches_then c p m r i now ready;
      }
  next c p m later (Hears who r lines at i part) =
      let took = m.taken r i in
      record {
        after = p;
        runs = Rests p;
        matches = record {
          is = record { disk = m.is.disk; nodes = m.is.nodes; written = all_within c.written lines p.written m.is.written (λ x j. took.1 x (part_within part x j)); whole = m.is.whole };
          read = m.read;
          members = put_all (λ j z. IsMember c.store p.coordinator.memory z) who (Idle (goes_on k r)) c.members took.0 (λ j other. m.members j);
          requests = m.requests;
          taken = m.taken;
        };
      }
  next c p m later (Drops who r at) = becoming c p m who (Idle r.held) (subst (IsMember c.store p.coordinator.memory) at (m.members who))
  next c p m later (Stops who) = becoming c p m who Stopped tt
  next c p m later (Node_does n lines x number does) =
      let here : NodeDoes sha k p.written n (p.nodes n.0) lines x = subst (λ (f : ℕ → Node). NodeDoes sha k p.written n (f n.0) lines x) (sym m.is.nodes) (node_more sha k c.written p.written m.is.written n (c.nodes n.0) lines x does) in
      let after : Processes = record p { nodes = put n.0 x p.nodes; written = p.written ++ lines } in
      record {
        after = after;
        runs = Goes_on p p after (Rests p) (one.Node_does n lines x number here);
        matches = record {
          is = record {
            disk = m.is.disk;
            nodes = ap (put n.0 x) m.is.nodes;
            written = all_within c.written lines after.written (λ y j. in_left y p.written lines (m.is.written y j)) (λ y j. in_right y p.written lines j);
            whole = m.is.whole;
          };
          read = m.read;
          members = m.members;
          requests = λ r j. (let was = m.requests r j in (was.0, λ call i. may_come_more size p.written after.written (λ y h. in_left y p.written lines h) call (was.1 call i)));
          taken = λ r j. (let was = m.taken r j in (was.0, λ y h. in_left y p.written lines (was.1 y h)));
        };
      }

  all_next : (c : Cluster) (p : Processes) → Matches c p → (later : Cluster) → Comes_to k sha size c later → Follows p later
  all_next c p m later Stays = stay c p m
  all_next c p m later (And_then middle later' comes happens) =
      let first = all_next c p m middle comes in
      let second = next middle first.after first.matches later' happens in
      record { after = second.after; runs = runs_on sha k size p first.after second.after first.runs second.runs; matches = second.matches }

  first_matches : Matches (first_cluster sha) (first_processes sha)
  first_matches = record {
    is = record { disk = refl; nodes = refl; written = λ x i. i; whole = λ q e. none_some q e };
    read = λ s i. first_read s i;
    members = λ who. tt;
    requests = λ r i. absurd i;
    taken = λ r i. absurd i;
  }
    where
      first_read : (s : Store) → In s (readable (first_cluster sha)) → IsRead (first_cluster sha).store s
      first_read s (inl e) = record { before = (let same : s.revision ≡ 0 = ap (λ (z : Store). z.revision) e in omega arith); present = λ now. e }
      first_read s (inr i) = absurd i

pub several_are_one : SeveralAreOne
several_are_one sha k size c later comes more =
    let first = all_next sha k size (first_cluster sha) (first_processes sha) (first_matches sha k size) c comes in
    let second = all_next sha k size c first.after first.matches later more in
    record {
      processes = first.after;
      after = second.after;
      runs = first.runs;
      more = second.runs;
      now = first.matches.is;
      then_too = second.matches.is;
    }

-- ---- what is proved of processes

-- processes with this record, of which no coordinator runs
abbrev having : Saved → (ℕ → Node) → List Message → Processes
having disk nodes written = record { coordinator = record { memory = None; disk = disk }; nodes = nodes; written = written }

abbrev fewer_of : Processes → List Message → Processes
fewer_of q written = having q.coordinator.disk q.nodes written

-- of a cluster's processes all is so of the cluster, which wrote no more
seen_safe : (sha : List ℕ → Digest) (c later : Cluster) (p after : Processes) → IsOneOf c p → IsOneOf later after → StaySafe sha p after → StaySafe sha (seen c) (seen later)
seen_safe sha c later p after now then_too safe = (
    let fewer : StaySafe sha (fewer_of p c.written) (fewer_of after later.written) = record {
      contents = safe.contents;
      alone = safe.alone;
      at_home = safe.at_home;
      over = λ q t mem given none off s v i at. none_some q mem;
      rising = safe.rising;
      lines = safe.lines;
      confirmed = λ n l t versions v i j. safe.confirmed n l t versions v (now.written (Told (told.Committed n l t versions)) i) j;
      fenced = λ n l t i s v j at. safe.fenced n l t (now.written (Told (told.Fenced n l t)) i) s v j at;
      tickets = λ g i. safe.tickets g (now.written (Told (told.Granted g)) i);
    } in
    subst (λ (f : ℕ → Node). StaySafe sha (having c.store.saved c.nodes c.written) (having later.store.saved f later.written)) then_too.nodes
    (subst (λ (d : Saved). StaySafe sha (having c.store.saved c.nodes c.written) (having d after.nodes later.written)) then_too.disk
    (subst (λ (f : ℕ → Node). StaySafe sha (having c.store.saved f c.written) (fewer_of after later.written)) now.nodes
    (subst (λ (d : Saved). StaySafe sha (having d p.nodes c.written) (fewer_of after later.written)) now.disk fewer)))
    )

pub several_stay_safe : ProcessesStaySafe → SeveralStaySafe
several_stay_safe processes_stay_safe sha k farm size c later comes more =
    let r = several_are_one sha k size c later comes more in
    seen_safe sha c later r.processes r.after r.now r.then_too (processes_stay_safe sha k farm size r.processes r.after r.runs r.more)

seen_farm : (sha : List ℕ → Digest) (farm : Farm) (c : Cluster) (p : Processes) → IsOneOf c p → IsFarmOf sha farm p → IsFarmOf sha farm (seen c)
seen_farm sha farm c p is of = record {
  up = of.up;
  disk = of.disk ∙ is.disk;
  memory = λ q e. none_some q e;
  nodes = λ n. subst (λ (f : ℕ → Node). IsNodeOf sha (farm.nodes n) (f n)) is.nodes (of.nodes n);
  written = λ m o i. of.written m o (is.written m i);
}

pub several_are_the_farm : ProcessesAreTheFarm → SeveralAreTheFarm
several_are_the_farm processes_are_the_farm sha k size c later comes more =
    let r = several_are_one sha k size c later comes more in
    let s = processes_are_the_farm sha k size r.processes r.after r.runs r.more in
    record {
      early = s.early;
      late = s.late;
      before = seen_farm sha (scheduled sha k size s.early) c r.processes r.now s.before;
      after = seen_farm sha (run sha k s.late (scheduled sha k size s.early)) later r.after r.then_too s.after;
    }

-- ---- what was withdrawn

-- what a cluster's store took was asked before, of the revision that it had then
record WasTaken (sha : List ℕ → Digest) (k : Limits) (size : ℕ) (c : Cluster) (r : Request) : Type 0 where
  pub before : Cluster
  pub early : Comes_to k sha size (first_cluster sha) before
  pub asked : In r before.requests
  pub now : r.held.revision ≡ before.store.revision
  pub late : Comes_to k sha size (takes k r before) c

-- it was asked in this cluster, or in one that came to it
taken_by : (sha : List ℕ → Digest) (k : Limits) (size : ℕ) (c later : Cluster) → Comes_to k sha size (first_cluster sha) c → (r : Request) → (In r c.taken → WasTaken sha k size c r)
    → Happens k sha size c later → In r later.taken → WasTaken sha k size later r
taken_by sha k size c later comes r was happens i = by later happens i
  where
    on : (z : Cluster) → Happens k sha size c z → In r c.taken → WasTaken sha k size z r
    on z h j = (let x = was j in record { before = x.before; early = x.early; asked = x.asked; now = x.now; late = And_then c z x.late h })

    by : (z : Cluster) → Happens k sha size c z → In r z.taken → WasTaken sha k size z r
    by z (Starts who s h) j = on z (Starts who s h) j
    by z (Takes_over who s q h w) j = on z (Takes_over who s q h w) j
    by z (Asks who held calls whole at may) j = on z (Asks who held calls whole at may) j
    by z (Takes x h now) (inl e) = record {
      before = c;
      early = comes;
      asked = subst (λ (y : Request). In y c.requests) (sym e) h;
      now = subst (λ (y : Request). y.held.revision ≡ c.store.revision) (sym e) now;
      late = subst (λ (y : Request). Comes_to k sha size (takes k y c) z) (sym e) Stays;
    }
    by z (Takes x h now) (inr j) = on z (Takes x h now) j
    by z (Hears who x lines at h part) j = on z (Hears who x lines at h part) j
    by z (Drops who x at) j = on z (Drops who x at) j
    by z (Stops who) j = on z (Stops who) j
    by z (Node_does n lines x number does) j = on z (Node_does n lines x number does) j

was_taken : (sha : List ℕ → Digest) (k : Limits) (size : ℕ) (c : Cluster) → Comes_to k sha size (first_cluster sha) c → (r : Request) → In r c.taken → WasTaken sha k size c r
was_taken sha k size c Stays r i = absurd i
was_taken sha k size c (And_then middle later comes happens) r i = taken_by sha k size middle later comes r (λ j. was_taken sha k size middle comes r j) happens i

pub withdrawn_stays_out_of_all : WithdrawnStaysOut → WithdrawnStaysOutOfAll
withdrawn_stays_out_of_all withdrawn_stays_out sha k farm size c comes r i early late t w calls ok s v j at =
    let was = was_taken sha k size c comes r i in
    let first = all_next sha k size (first_cluster sha) (first_processes sha) (first_matches sha k size) was.before was.early in
    let p : Processes = first.after in
    let ready = readied sha k size was.before p first.matches r was.asked was.now in
    let q : Processes = ready.ready in
    let then_q : Processes = worked sha k size q r in
    let last = all_next sha k size (takes k r was.before) then_q (matches_then sha k size was.before p first.matches r was.asked was.now ready) c was.late in
    let to_q : Runs sha k size (first_processes sha) q = runs_on sha k size (first_processes sha) p q first.runs ready.runs in
    let may : AllMayCome size q.written r.calls = may_now sha k size was.before p first.matches r was.asked ready in
    let by : List Call → Saved → Batch = λ cs d. batch k cs (begin_batch r.held.ledger d) in
    let same : by (early ++ Withdraw t ∷ late) q.coordinator.disk ≡ outcome k r = ap (by (early ++ Withdraw t ∷ late)) ready.disk ∙ ap (λ cs. by cs r.held.saved) (sym calls) in
    let accepted : withdrawn k t (begin_work (by early q.coordinator.disk).ledger) ≡ Ok w = subst (λ (d : Saved). withdrawn k t (begin_work (by early d).ledger) ≡ Ok w) (sym ready.disk) ok in
    withdrawn_stays_out sha k farm size q last.after to_q r.held.ledger early late t w (by (early ++ Withdraw t ∷ late) q.coordinator.disk).sends ready.memory
    (subst (AllMayCome size q.written) calls may) accepted (part_refl (by (early ++ Withdraw t ∷ late) q.coordinator.disk).sends)
    (subst (λ (b : Batch). Runs sha k size (record q { coordinator = running_after b; written = q.written ++ b.sends }) last.after) (sym same) last.runs)
    s v (subst (λ (d : Saved). In v (d.line s)) (sym last.matches.is.disk) j) at

-- ---- several can do all that one does

module _ (sha : List ℕ → Digest) (k : Limits) (size : ℕ) where
  -- the processes that a cluster is with this ledger in memory
  abbrev one_of : Cluster → Option Ledger → Processes
  one_of c memory = record { coordinator = record { memory = memory; disk = c.store.saved }; nodes = c.nodes; written = c.written }

  abbrev holds : Cluster → Ledger → Held
  holds c q = record { ledger = q; saved = c.store.saved; revision = c.store.revision }

  -- a cluster that is the processes
  record Is (p : Processes) : Type 0 where
    pub cluster : Cluster
    pub memory : Option Ledger
    pub same : one_of cluster memory ≡ p
    pub comes : Comes_to k sha size (first_cluster sha) cluster
    pub runs : (q : Ledger) → memory ≡ Some q → cluster.members 0 ≡ Idle (holds cluster q)

  module _ (c : Cluster) (memory : Option Ledger) (comes : Comes_to k sha size (first_cluster sha) c) (runs : (q : Ledger) → memory ≡ Some q → c.members 0 ≡ Idle (holds c q)) where
    nothing_more : (memory : Option Ledger) (disk : Saved) → one_of (record c { store = record c.store { saved = disk } }) memory ≡ record { coordinator = record { memory = memory; disk = disk }; nodes = c.nodes; written = c.written ++ [] }
    nothing_more m d = ap (λ xs. record { coordinator = record { memory = m; disk = d }; nodes = c.nodes; written = xs }) (sym (append-nil c.written))

    -- calls are decided and taken
    abbrev asks : Ledger → List Call → Request
    asks q calls = record { held = holds c q; calls = calls; whole = false }

    abbrev asked : Request → Cluster
    asked r = record c { members = put 0 (Waits r) c.members; requests = r ∷ c.requests }

    took : (q : Ledger) (calls : List Call) → memory ≡ Some q → AllMayCome size c.written calls → Comes_to k sha size (first_cluster sha) (takes k (asks q calls) (asked (asks q calls)))
    took q calls e may =
        let r : Request = asks q calls in
        And_then (asked r) (takes k r (asked r)) (And_then c (asked r) comes (Asks 0 (holds c q) calls false (runs q e) may)) (Takes r (inl refl) refl)

    does : (lines : List Message) (x : Coordinator) → CoordinatorDoes k size c.written (one_of c memory).coordinator lines x → Is (record (one_of c memory) { coordinator = x; written = c.written ++ lines })
    does lines x (Works q calls ls e may part) =
        let r : Request = asks q calls in
        let waiting : Cluster = takes k r (asked r) in
        let done : Cluster = record waiting { members = put 0 (Idle (goes_on k r)) waiting.members; written = c.written ++ ls } in
        record {
          cluster = done;
          memory = Some (outcome k r).ledger;
          same = refl;
          comes = And_then waiting done (took q calls e may) (Hears 0 r ls (put_same 0 (Waits r) c.members) (inl refl) part);
          runs = λ z f. put_same 0 (Idle (goes_on k r)) waiting.members ∙ ap (λ y. Idle (holds done y)) (some_is (outcome k r).ledger z f);
        }
    does lines x (Fails q early late e may) =
        let r : Request = asks q early in
        let waiting : Cluster = takes k r (asked r) in
        record {
          cluster = becomes 0 Stopped waiting;
          memory = None;
          same = nothing_more None (outcome k r).to_save;
          comes = And_then waiting (becomes 0 Stopped waiting) (took q early e (λ y i. may y (in_left y early late i))) (Stops 0);
          runs = λ z f. none_some z f;
        }
    does lines x one.Is_killed = record {
      cluster = becomes 0 Stopped c;
      memory = None;
      same = nothing_more None c.store.saved;
      comes = And_then c (becomes 0 Stopped c) comes (Stops 0);
      runs = λ z f. none_some z f;
    }
    does lines x one.Starts =
        let up : Cluster = becomes 0 (Idle (started c.store)) c in
        record {
          cluster = up;
          memory = Some (reads c.store.saved);
          same = nothing_more (Some (reads c.store.saved)) c.store.saved;
          comes = And_then c up comes (Starts 0 c.store (inl refl));
          runs = λ z f. put_same 0 (Idle (started c.store)) c.members ∙ ap (λ y. Idle (holds up y)) (some_is (reads c.store.saved) z f);
        }

    happens : (later : Processes) → one.Happens sha k size (one_of c memory) later → Is later
    happens later (Coordinator_does lines x d) = does lines x d
    happens later (one.Node_does n lines x number d) =
        let then_c : Cluster = record c { nodes = put n.0 x c.nodes; written = c.written ++ lines } in
        record { cluster = then_c; memory = memory; same = refl; comes = And_then c then_c comes (Node_does n lines x number d); runs = runs }

  is_cluster : (p : Processes) → Runs sha k size (first_processes sha) p → Is p
  is_cluster p (Rests q) = record { cluster = first_cluster sha; memory = None; same = refl; comes = Stays; runs = λ z f. none_some z f }
  is_cluster p (Goes_on first q later rest h) =
      let is = is_cluster q rest in
      happens is.cluster is.memory is.comes is.runs later (subst (λ (x : Processes). one.Happens sha k size x later) (sym is.same) h)

pub one_is_several : OneIsSeveral
one_is_several sha k size p goes =
    let is = is_cluster sha k size p goes in (
      is.cluster,
      is.comes,
      record {
        disk = ap (λ (x : Processes). x.coordinator.disk) is.same;
        nodes = ap (λ (x : Processes). x.nodes) is.same;
        written = ap (λ (x : Processes). x.written) is.same;
        memory = λ q e. is.runs q (ap (λ (x : Processes). x.coordinator.memory) is.same ∙ e);
      },
    )

-- ---- any can take over

can_do : (sha : List ℕ → Digest) (k : Limits) (size : ℕ) (c : Cluster) (who : ℕ) (r : Request) → Happens k sha size c (becomes who (Idle r.held) c) → r.held.revision ≡ c.store.revision → AllMayCome size c.written r.calls → CanDo sha k size c who r
can_do sha k size c who r starts now may =
    let c1 : Cluster = becomes who (Idle r.held) c in
    let c2 : Cluster = record c1 { members = put who (Waits r) c1.members; requests = r ∷ c1.requests } in
    let c3 : Cluster = takes k r c2 in
    let c4 : Cluster = record c3 { members = put who (Idle (goes_on k r)) c3.members; written = c3.written ++ (outcome k r).sends } in
    let comes2 : Comes_to k sha size c c2 = And_then c1 c2 (And_then c c1 Stays starts) (Asks who r.held r.calls r.whole (put_same who (Idle r.held) c.members) may) in
    record {
      later = c4;
      comes = And_then c3 c4 (And_then c2 c3 comes2 (Takes r (inl refl) now)) (Hears who r (outcome k r).sends (put_same who (Waits r) c1.members) (inl refl) (part_refl (outcome k r).sends));
      goes_on = put_same who (Idle (goes_on k r)) c3.members;
      saved = refl;
      written = refl;
    }

pub any_can_take_over : AnyCanTakeOver
any_can_take_over sha k size c who calls whole may = (
  can_do sha k size c who (record { held = started c.store; calls = calls; whole = whole }) (Starts who c.store (inl refl)) refl may,
  λ q e. can_do sha k size c who (record { held = taken_over c.store q; calls = calls; whole = whole }) (Takes_over who c.store q (inl refl) e) refl may,
)

-- ---- a take-over is no restart

-- a coordinator has the one coordinator's ledger, or the store was written since
record IsOn (store : Store) (memory : Option Ledger) (held : Held) : Type 0 where
  pub before : held.revision ≤ store.revision
  pub present : held.revision ≡ store.revision → (held.saved ≡ store.saved) × (memory ≡ Some held.ledger)

abbrev IsMemberOn : Store → Option Ledger → Member → Type 0
IsMemberOn store memory Stopped = ⊤
IsMemberOn store memory (Idle held) = IsOn store memory held
IsMemberOn store memory (Waits request) = IsOn store memory request.held

on_then : (s s' : Store) (m m' : Option Ledger) → s'.revision ≡ s.revision + 1 → (held : Held) → IsOn s m held → IsOn s' m' held
on_then s s' m m' e held is = (let le : held.revision ≤ s.revision = is.before in record { before = omega arith; present = λ now. absurd (omega arith) })

member_on_then : (s s' : Store) (m m' : Option Ledger) → s'.revision ≡ s.revision + 1 → (x : Member) → IsMemberOn s m x → IsMemberOn s' m' x
member_on_then s s' m m' e Stopped is = tt
member_on_then s s' m m' e (Idle held) is = on_then s s' m m' e held is
member_on_then s s' m m' e (Waits request) is = on_then s s' m m' e request.held is

module _ (sha : List ℕ → Digest) (k : Limits) (size : ℕ) where
  record Keeps_on (c : Cluster) (p : Processes) : Type 0 where
    pub is : IsOneOf c p
    -- nothing was written yet, and the one coordinator has started
    pub unwritten : c.store.revision ≡ 0 → p.coordinator.memory ≡ Some (reads c.store.saved)
    pub read : (s : Store) → In s (readable c) → IsRead c.store s
    pub members : (who : ℕ) → IsMemberOn c.store p.coordinator.memory (c.members who)
    pub requests : (r : Request) → In r c.requests → IsOn c.store p.coordinator.memory r.held × AllMayCome size p.written r.calls
    pub taken : (r : Request) → In r c.taken → IsOn c.store p.coordinator.memory (goes_on k r) × Within (outcome k r).sends p.written

  record Follows_on (p : Processes) (later : Cluster) : Type 0 where
    pub after : Processes
    pub runs : RunsOn k sha size p after
    pub keeps : Keeps_on later after

  runs_up : (p q r : Processes) → RunsOn k sha size p q → RunsOn k sha size q r → RunsOn k sha size p r
  runs_up p q r first Stays_up = first
  runs_up p q r first (Works_on middle ledger calls rest mem may) = Works_on middle ledger calls (runs_up p q middle first rest) mem may
  runs_up p q r first (Node_goes_on middle n lines x rest number does) = Node_goes_on middle n lines x (runs_up p q middle first rest) number does

  becoming_on : (c : Cluster) (p : Processes) → Keeps_on c p → (who : ℕ) (x : Member) → IsMemberOn c.store p.coordinator.memory x → Follows_on p (becomes who x c)
  becoming_on c p m who x here = record {
    after = p;
    runs = Stays_up;
    keeps = record {
      is = record { disk = m.is.disk; nodes = m.is.nodes; written = m.is.written; whole = m.is.whole };
      unwritten = m.unwritten;
      read = m.read;
      members = put_all (λ j z. IsMemberOn c.store p.coordinator.memory z) who x c.members here (λ j other. m.members j);
      requests = m.requests;
      taken = m.taken;
    };
  }

  module _ (c : Cluster) (p : Processes) (m : Keeps_on c p) (r : Request) (i : In r c.requests) (now : r.held.revision ≡ c.store.revision) where
    abbrev then_p : Processes
    then_p = worked sha k size p r

    works_on : RunsOn k sha size p then_p
    works_on =
        let held = (m.requests r i).0.present now in
        let by : Saved → Batch = λ d. batch k r.calls (begin_batch r.held.ledger d) in
        subst (λ (d : Saved). RunsOn k sha size p (record p { coordinator = running_after (by d); written = p.written ++ (by d).sends })) (m.is.disk ∙ sym held.0)
        (Works_on p r.held.ledger r.calls Stays_up held.1 (m.requests r i).1)

    more_on : Within p.written then_p.written
    more_on x j = in_left x p.written (outcome k r).sends j

    keeps_then : Keeps_on (takes k r c) then_p
    keeps_then = record {
      is = record {
        disk = refl;
        nodes = m.is.nodes;
        written = λ x j. more_on x (m.is.written x j);
        whole = λ q e. whole_is sha k size r.whole (outcome k r).ledger q e;
      };
      unwritten = λ e. absurd (omega arith);
      read = reading;
      members = λ who. member_on_then c.store (stored k r c.store) p.coordinator.memory then_p.coordinator.memory refl (c.members who) (m.members who);
      requests = λ x j.
          (let was = m.requests x j in
          (on_then c.store (stored k r c.store) p.coordinator.memory then_p.coordinator.memory refl x.held was.0, λ call in_calls. may_come_more size p.written then_p.written more_on call (was.1 call in_calls)));
      taken = took;
    }
      where
        reading : (s : Store) → In s (readable (takes k r c)) → IsRead (stored k r c.store) s
        reading s (inl e) = record { before = (let same : s.revision ≡ c.store.revision + 1 = ap (λ (z : Store). z.revision) e in omega arith); present = λ same. e }
        reading s (inr j) = (let le : s.revision ≤ c.store.revision = (m.read s j).before in record { before = omega arith; present = λ same. absurd (omega arith) })

        took : (x : Request) → In x (takes k r c).taken → IsOn (stored k r c.store) then_p.coordinator.memory (goes_on k x) × Within (outcome k x).sends then_p.written
        took x (inl e) =
            subst (λ (z : Request). IsOn (stored k r c.store) then_p.coordinator.memory (goes_on k z) × Within (outcome k z).sends then_p.written) (sym e)
            (record { before = omega arith; present = λ same. (refl, refl) }, λ y j. in_right y p.written (outcome k r).sends j)
        took x (inr j) =
            let was = m.taken x j in
            (on_then c.store (stored k r c.store) p.coordinator.memory then_p.coordinator.memory refl (goes_on k x) was.0, λ y h. more_on y (was.1 y h))

  next_on : (c : Cluster) (p : Processes) → Keeps_on c p → (later : Cluster) (h : Happens k sha size c later) → KeepsLeases k sha size c later h → Follows_on p later
  next_on c p m later (Starts who s i) first =
      let is = m.read s i in
      becoming_on c p m who (Idle (started s))
      (record {
        before = is.before;
        present = λ now. (
          ap (λ (z : Store). z.saved) (is.present now),
          m.unwritten (sym now ∙ first) ∙ ap (λ (z : Store). Some (reads z.saved)) (sym (is.present now)),
        );
      })
  next_on c p m later (Takes_over who s q i w) kept =
      let is = m.read s i in
      becoming_on c p m who (Idle (taken_over s q))
      (record { before = is.before; present = λ now. (ap (λ (z : Store). z.saved) (is.present now), m.is.whole q (subst (λ (z : Store). z.whole ≡ Some q) (is.present now) w)) })
  next_on c p m later (Asks who held calls whole at may) kept =
      let r : Request = record { held = held; calls = calls; whole = whole } in
      let is : IsOn c.store p.coordinator.memory held = subst (IsMemberOn c.store p.coordinator.memory) at (m.members who) in
      record {
        after = p;
        runs = Stays_up;
        keeps = record {
          is = record { disk = m.is.disk; nodes = m.is.nodes; written = m.is.written; whole = m.is.whole };
          unwritten = m.unwritten;
          read = m.read;
          members = put_all (λ j z. IsMemberOn c.store p.coordinator.memory z) who (Waits r) c.members is (λ j other. m.members j);
          requests = λ x j. asked r is (λ call i. may_come_more size c.written p.written m.is.written call (may call i)) x j;
          taken = m.taken;
        };
      }
    where
      asked : (r : Request) → IsOn c.store p.coordinator.memory r.held → AllMayCome size p.written r.calls → (x : Request) → In x (r ∷ c.requests) → IsOn c.store p.coordinator.memory x.held × AllMayCome size p.written x.calls
      asked r is all x (inl e) = subst (λ (z : Request). IsOn c.store p.coordinator.memory z.held × AllMayCome size p.written z.calls) (sym e) (is, all)
      asked r is all x (inr j) = m.requests x j
  next_on c p m later (Takes r i now) kept = record { after = then_p c p m r i now; runs = works_on c p m r i now; keeps = keeps_then c p m r i now }
  next_on c p m later (Hears who r lines at i part) kept =
      let took = m.taken r i in
      record {
        after = p;
        runs = Stays_up;
        keeps = record {
          is = record { disk = m.is.disk; nodes = m.is.nodes; written = all_within c.written lines p.written m.is.written (λ x j. took.1 x (part_within part x j)); whole = m.is.whole };
          unwritten = m.unwritten;
          read = m.read;
          members = put_all (λ j z. IsMemberOn c.store p.coordinator.memory z) who (Idle (goes_on k r)) c.members took.0 (λ j other. m.members j);
          requests = m.requests;
          taken = m.taken;
        };
      }
  next_on c p m later (Drops who r at) kept = becoming_on c p m who (Idle r.held) (subst (IsMemberOn c.store p.coordinator.memory) at (m.members who))
  next_on c p m later (Stops who) kept = becoming_on c p m who Stopped tt
  next_on c p m later (Node_does n lines x number does) kept =
      let here : NodeDoes sha k p.written n (p.nodes n.0) lines x = subst (λ (f : ℕ → Node). NodeDoes sha k p.written n (f n.0) lines x) (sym m.is.nodes) (node_more sha k c.written p.written m.is.written n (c.nodes n.0) lines x does) in
      let after : Processes = record p { nodes = put n.0 x p.nodes; written = p.written ++ lines } in
      record {
        after = after;
        runs = Node_goes_on p n lines x Stays_up number here;
        keeps = record {
          is = record {
            disk = m.is.disk;
            nodes = ap (put n.0 x) m.is.nodes;
            written = all_within c.written lines after.written (λ y j. in_left y p.written lines (m.is.written y j)) (λ y j. in_right y p.written lines j);
            whole = m.is.whole;
          };
          unwritten = m.unwritten;
          read = m.read;
          members = m.members;
          requests = λ r j. (let was = m.requests r j in (was.0, λ call i. may_come_more size p.written after.written (λ y h. in_left y p.written lines h) call (was.1 call i)));
          taken = λ r j. (let was = m.taken r j in (was.0, λ y h. in_left y p.written lines (was.1 y h)));
        };
      }

  all_next_on : (c : Cluster) (p : Processes) → Keeps_on c p → (later : Cluster) → Comes_keeping k sha size c later → Follows_on p later
  all_next_on c p m later Stays_kept = record { after = p; runs = Stays_up; keeps = m }
  all_next_on c p m later (And_kept middle later' comes happens kept) =
      let first = all_next_on c p m middle comes in
      let second = next_on middle first.after first.keeps later' happens kept in
      record { after = second.after; runs = runs_up p first.after second.after first.runs second.runs; keeps = second.keeps }

  first_keeps : Keeps_on (first_cluster sha) (started_processes sha)
  first_keeps = record {
    is = record { disk = refl; nodes = refl; written = λ x i. i; whole = λ q e. none_some q e };
    unwritten = λ e. refl;
    read = (first_matches sha k size).read;
    members = λ who. tt;
    requests = λ r i. absurd i;
    taken = λ r i. absurd i;
  }

pub take_overs_are_no_restarts : TakeOversAreNoRestarts
take_overs_are_no_restarts sha k size c later comes more =
    let first = all_next_on sha k size (first_cluster sha) (started_processes sha) (first_keeps sha k size) c comes in
    let second = all_next_on sha k size c first.after first.keeps later more in
    record {
      processes = first.after;
      after = second.after;
      runs = first.runs;
      more = second.runs;
      now = first.keeps.is;
      then_too = second.keeps.is;
    }
