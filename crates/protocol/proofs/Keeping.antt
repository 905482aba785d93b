-- What an event leaves, and whom a message reaches.
use Rattle.std.proofs.Common.{◌≡◌, ◌≢◌, ℕ, ◌+◌, ◌≤◌, List, [], ◌∷◌, Bool, true, false, not, eqb, ◌&&◌, ◌||◌, ◌⊎◌, Option, Some, None, Result, Ok, Err, refl, sym, ◌∙◌, ap, subst, inl, inr, arith}
use Rattle.std.proofs.lemmas.Bool.{cases_Bool, eqb-true, ne_eqb}
use Rattle.std.proofs.lemmas.Bool.Decides.{nat_tests}
use Rattle.std.specs.Prelude.{nat_le, length, if◌then◌else◌}
use Rattle.std.specs.List.{list_any}
use Rattle.protocol.specs.Lists.{In, nth}
use Rattle.protocol.specs.Names.{NodeId, Life, Digest, digest_eq}
use Rattle.protocol.specs.Machine.{GrantedSlot, Message, Said, ToCoord, Fetch, Fetches, Blob, Parked, cleared}
use Rattle.farm_base.specs.declared.message.Message.TheVariants as to
use Rattle.events.specs.declared.answer.CoordNote.{CoordNote}
use Rattle.events.specs.declared.answer.CoordNote.TheVariants as coord_note
use Rattle.events.specs.declared.answer.NodeNote.TheVariants as node_note
use Rattle.events.specs.declared.answer.EventNote.TheVariants as note
use Rattle.events.specs.declared.answer.CoordRefusal.{CoordRefusal}
use Rattle.events.specs.declared.answer.CoordRefusal.TheVariants as coord
use Rattle.events.specs.declared.answer.NodeRefusal.TheVariants as node_refusal
use Rattle.events.specs.declared.answer.EventRefusal.{EventRefusal}
use Rattle.events.specs.declared.answer.EventRefusal.TheVariants as refusal
use Rattle.events.specs.declared.answer.Outcome.{Outcome}
use Rattle.events.specs.declared.answer.Kept.{Kept}
use Rattle.events.specs.declared.answer.Kept.TheVariants.{Old, New}
use Rattle.protocol.specs.Ledger.{Limits, Ledger, Lease, Work, Decision, Give, Deny, Wait, another, elsewhere, decision, gives, carried_out, tried, try_all, retried, is_older, is_home, is_at, sees, newer_life, begin_work, handled, withdrawn, retired, pruned, nudged}
use Rattle.protocol.specs.Ledger as ledger
use Rattle.protocol.specs.World.{Holding, Node}
use Rattle.protocol.specs.Nodes.{NodeAnswer, may_restart, is_base}
use Rattle.protocol.specs.Replay.{Event, Tenure, Deliver, Begin, Finish, Abort, Resend, Nudge, Withdraw, Prune, Retire, RestartNode, RestartCoordinator, Forge, Forget, FailSave, Farm, Turn, settled, coordinated, is_node, at, at_node, restarts, delivered, step, run, opening}
use Rattle.protocol.specs.Replay as replay
use Rattle.protocol.specs.Reasons.{IsThere}
use Rattle.protocol.specs.Meaning.{Means, MessageMeans, Answered, IsBase}
use Rattle.protocol.specs.Follows.{Agrees}
use Rattle.protocol.specs.Rules.{KeepsTheFarm, EveryEventKeepsTheFarm, AnswersBy, EveryMessageReaches, OnlyTheRetiredAreToldSo, EveryParkedAskIsHeldUp, TheOldHomeIsHeeded}
use Rattle.protocol.proofs.Base.{true_false, eqb_same, any_in, nth_in, digest_eq_same}
use Rattle.protocol.proofs.Leases.{Core, core_of}
use Rattle.protocol.proofs.Parking.{parked_held_up}
use Rattle.protocol.proofs.Wanting.{held_up}
use Rattle.protocol.proofs.Schedules.{step_next, from_opening}

-- ---- what an event leaves

abbrev Answer : Type 0
Answer = Result Outcome EventRefusal

same_reason : (a b : EventRefusal) (r : Answer) → r ≡ Err a → r ≡ Err b → b ≡ a
same_reason a b r f g = is (sym g ∙ f)
  where
    is : ◌≡◌ {A = Result Outcome EventRefusal} (Err b) (Err a) → b ≡ a
    is e = cc

module _ (k : Limits) (s : Farm) (e : Event) where
  -- an accepted event, or a refused one that leaves all
  accepts : (t : Turn) (o : Outcome) → t.outcome ≡ Ok o → t.farm.size ≡ s.size → KeepsTheFarm s e t
  accepts t o ok same = record { size = same; refused = λ r f. not_both o r (sym ok ∙ f) }
    where
      not_both : {P : Type 0} (o : Outcome) (r : EventRefusal) → ◌≡◌ {A = Result Outcome EventRefusal} (Ok o) (Err r) → P
      not_both o r e = cc

  leaves : (t : Turn) → t.farm ≡ s → KeepsTheFarm s e t
  leaves t same = record { size = ap (λ (f : Farm). f.size) same; refused = λ r f. inl same }

  fails : (t : Turn) → t.outcome ≡ Err (refusal.Coord coord.SaveFault) → t.farm ≡ record s { saved = t.farm.saved; down = true; armed = None } → KeepsTheFarm s e t
  fails t f is = record { size = ap (λ (g : Farm). g.size) is; refused = λ r g. inr (inl (same_reason (refusal.Coord coord.SaveFault) r t.outcome f g, is)) }

  settled_keeps : (changed : Bool) (armed : Option Kept) (w : Work) → KeepsTheFarm s e (settled changed armed w s)
  settled_keeps false armed w = accepts _ _ refl refl
  settled_keeps true None w = accepts _ _ refl refl
  settled_keeps true (Some Old) w = fails _ refl refl
  settled_keeps true (Some New) w = fails _ refl refl

  coordinated_keeps : (d : Bool) (r : Result Work CoordRefusal) → KeepsTheFarm s e (coordinated d r s)
  coordinated_keeps true r = leaves _ refl
  coordinated_keeps false (Err x) = leaves _ refl
  coordinated_keeps false (Ok w) = settled_keeps w.changed s.armed w

  at_node_keeps : (b : Bool) (n : NodeId) (a : NodeAnswer) → KeepsTheFarm s e (at_node b n a s)
  at_node_keeps true n (Ok w) = accepts _ _ refl refl
  at_node_keeps true n (Err x) = leaves _ refl
  at_node_keeps false n a = leaves _ refl

delivered_keeps : (sha : List ℕ → Digest) (k : Limits) (s : Farm) (e : Event) (o : Option Message) → KeepsTheFarm s e (delivered sha k o s)
delivered_keeps sha k s e None = leaves k s e _ refl
delivered_keeps sha k s e (Some (to.ToCoord y)) = coordinated_keeps k s e s.down (Ok (handled k y (begin_work s.ledger)))
delivered_keeps sha k s e (Some (to.ToNode y)) = at_node_keeps k s e (is_node s (replay.receiver y)) (replay.receiver y) _

restarts_keeps : (k : Limits) (s : Farm) (n : NodeId) → KeepsTheFarm s (RestartNode n) (restarts k n s)
restarts_keeps k s n = elim (cases_Bool (may_restart k (s.nodes n.0))) [
  | inl t ↦ rw t (accepts k s (RestartNode n) _ _ refl refl)
  | inr t ↦ rw t (record { size = refl; refused = λ r f. inr (inr (same_reason (refusal.Node node_refusal.LivesSpent) r (Err (refusal.Node node_refusal.LivesSpent)) refl f, (n, refl, refl))) })
]

pub every_event_keeps_the_farm : EveryEventKeepsTheFarm
unfolding step
every_event_keeps_the_farm sha k s (replay.Ask n wants) = at_node_keeps k s _ (is_node s n) n _
every_event_keeps_the_farm sha k s (Tenure n f) = at_node_keeps k s _ (is_node s n) n _
every_event_keeps_the_farm sha k s (Deliver number) = delivered_keeps sha k s (Deliver number) (nth s.pool number)
every_event_keeps_the_farm sha k s (Begin n t) = at_node_keeps k s _ (is_node s n) n _
every_event_keeps_the_farm sha k s (Finish n t lefts) = at_node_keeps k s _ (is_node s n) n _
every_event_keeps_the_farm sha k s (Abort n t) = at_node_keeps k s _ (is_node s n) n _
every_event_keeps_the_farm sha k s (Resend n) = at_node_keeps k s _ (is_node s n) n _
every_event_keeps_the_farm sha k s Nudge = coordinated_keeps k s Nudge s.down (Ok (nudged k (begin_work s.ledger)))
every_event_keeps_the_farm sha k s (Withdraw t) = coordinated_keeps k s (Withdraw t) s.down (withdrawn k t (begin_work s.ledger))
every_event_keeps_the_farm sha k s (Prune slot) = coordinated_keeps k s (Prune slot) s.down (pruned k slot (begin_work s.ledger))
every_event_keeps_the_farm sha k s (Retire n) = elim (cases_Bool (is_node s n)) [
  | inl t ↦ rw t (coordinated_keeps k s (Retire n) s.down (retired k n (begin_work s.ledger)))
  | inr t ↦ rw t (leaves k s (Retire n) _ refl)
]
every_event_keeps_the_farm sha k s (RestartNode n) = elim (cases_Bool (is_node s n)) [
  | inl t ↦ rw t (restarts_keeps k s n)
  | inr t ↦ rw t (leaves k s (RestartNode n) _ refl)
]
every_event_keeps_the_farm sha k s RestartCoordinator = accepts k s RestartCoordinator _ _ refl refl
every_event_keeps_the_farm sha k s (Forge n c) = at_node_keeps k s _ (is_node s n) n _
every_event_keeps_the_farm sha k s (Forget n d) = at_node_keeps k s _ (is_node s n) n _
every_event_keeps_the_farm sha k s (FailSave kept) = accepts k s (FailSave kept) _ _ refl refl

-- ---- whom a message reaches

there : (s : Farm) (n : NodeId) → IsThere s n → is_node s n ≡ true
there s n (low, high) = by n.0 s.size low high
  where
    by : (a b : ℕ) → 1 ≤ a → a ≤ b → (nat_le 1 a && nat_le a b) ≡ true
    by a b low high = (let l : nat_le 1 a ≡ true = grind (arith, nat_tests) in let h : nat_le a b ≡ true = grind (arith, nat_tests) in rw (l, h) refl)

module _ (sha : List ℕ → Digest) (k : Limits) (s : Farm) where
  told_retired : (y : ToCoord) → s.down ≡ false → s.ledger.gone y.node.0 ≡ true
      → AnswersBy s (delivered sha k (Some (to.ToCoord y)) s) (record { note = note.Coord coord_note.NodeRetired; first = 0; sent = 0 }) []
  unfolding handled
  told_retired y up gone = rw (up, gone) (record { answer = refl; ledger = refl; saved = refl; pool = refl })

  sends_blob : (f : Fetch) (c : List ℕ) → is_node s f.node ≡ true → (s.nodes f.node.0).spent ≡ false → (s.nodes f.node.0).store f.digest ≡ Some c
      → AnswersBy s (delivered sha k (Some (Fetches f)) s) (record { note = note.Node node_note.SentBlob; first = length s.pool + 1; sent = 1 }) (Blob f.from c ∷ [])
  sends_blob f c here awake stored = rw (here, awake, stored) (record { answer = refl; ledger = refl; saved = refl; pool = refl })

  takes_blob : (n : NodeId) (c : List ℕ) → is_node s n ≡ true → (s.nodes n.0).spent ≡ false → (s.nodes n.0).store (sha c) ≡ None → list_any (is_base (sha c)) (s.nodes n.0).asks ≡ true
      → ((delivered sha k (Some (Blob n c)) s).farm.nodes n.0).store (sha c) ≡ Some c
  takes_blob n c here awake none base =
      let same : digest_eq (sha c) (sha c) ≡ true = digest_eq_same (sha c) in
      let itself : eqb n.0 n.0 ≡ true = eqb_same n.0 in
      rw (here, awake, none, base) (rw itself (rw same refl))

base_some : (x : Node) (d : Digest) → IsBase x d → list_any (is_base d) x.asks ≡ true
base_some x d (a, wants, g, r, u, i, j, e) =
    any_in (is_base d) (Holding wants g r) x.asks (nth_in x.asks a (Holding wants g r) i) (any_in (λ (v : GrantedSlot). digest_eq v.digest d) u g.slots j (subst (λ z. digest_eq u.digest z ≡ true) e (digest_eq_same u.digest)))

pub every_message_reaches : EveryMessageReaches
unfolding step
every_message_reaches sha k s number = record {
  retired = λ y here up gone. rw here (told_retired sha k s y up gone);
  fetch = λ f c here is awake stored. rw here (sends_blob sha k s f c (there s f.node is) awake stored);
  blob = λ n c here is awake none base. rw here (takes_blob sha k s n c (there s n is) awake none (base_some (s.nodes n.0) (sha c) base));
}

pub only_the_retired_are_told_so : OnlyTheRetiredAreToldSo
only_the_retired_are_told_so sha k farm size events number y o here ok told =
    let s : Farm = run sha k events (opening sha size) in
    let r = from_opening sha k farm size events in
    let n = step_next sha k farm r.world r.moves s r.shows (Deliver number) in
    let a : Answered sha k s.size r.world (Deliver number) o n.world = subst (λ x. Means sha k s.size r.world (Deliver number) x n.world) ok n.means in
    let sent : nth r.world.pool number ≡ Some (Said y) = ap (λ (p : List Message). nth p number) r.shows.pool ∙ here in
    let c = a.carried.did y sent in
    let means = subst (λ (z : CoordNote). MessageMeans (sha []) y r.world.machine z n.world.machine a.sent) (same c.0 (sym c.1 ∙ told)) c.2 in
    ap (λ (f : ℕ → Bool). f y.node.0) r.shows.now.gone ∙ means.0
  where
    same : (c : CoordNote) → note.Coord c ≡ note.Coord coord_note.NodeRetired → c ≡ coord_note.NodeRetired
    same c e = cc

-- ---- what a parked ask waits for

pub every_parked_ask_is_held_up : EveryParkedAskIsHeldUp
every_parked_ask_is_held_up sha k farm size events u shows p i =
    let s : Farm = run sha k events (opening sha size) in
    let core : Core k.empty u.machine s.ledger = core_of k.empty u.pool u.machine s.ledger (subst (λ z. Agrees z u.pool u.machine s.ledger) (sym farm.empty) shows.now) in
    held_up k u.machine s.ledger core p (parked_held_up sha k size events p (subst (In p) (sym shows.now.parked) i))

-- ---- the old home

module _ (k : Limits) (q : Ledger) (home : NodeId) (at_home : q.old_home ≡ Some home) where
  away : (p : Parked) → p.tenure ≡ true → p.node.0 ≢ home.0 → elsewhere q p ≡ true
  away p tenure other = subst (λ o. (p.tenure && another o p.node) ≡ true) (sym at_home) (by tenure)
    where
      by : p.tenure ≡ true → (p.tenure && not (eqb home.0 p.node.0)) ≡ true
      by tenure = (let ne : eqb home.0 p.node.0 ≡ false = ne_eqb home.0 p.node.0 (λ e. other (sym e)) in rw (tenure, ne) refl)

  here : (p : Parked) → (p.node.0 ≡ home.0) ⊎ (p.tenure ≡ false) → elsewhere q p ≡ false
  here p is = subst (λ o. (p.tenure && another o p.node) ≡ false) (sym at_home) (by is)
    where
      never : (b : Bool) → (b && false) ≡ false
      never true = refl
      never false = refl

      by : (p.node.0 ≡ home.0) ⊎ (p.tenure ≡ false) → (p.tenure && not (eqb home.0 p.node.0)) ≡ false
      by (inr no_tenure) = rw no_tenure refl
      by (inl own) = (let same : eqb home.0 p.node.0 ≡ true = subst (λ z. eqb home.0 z ≡ true) (sym own) (eqb_same home.0) in rw same (never p.tenure))

  others_wait : (p : Parked) → p.tenure ≡ true → p.node.0 ≢ home.0 → decision k q p ≡ Wait
  unfolding decision
  others_wait p tenure other = (let e = away p tenure other in rw e refl)

  own_decided : (p : Parked) → (p.node.0 ≡ home.0) ⊎ (p.tenure ≡ false) → decision k q p ≡ decision k (record q { old_home = None }) p
  unfolding decision
  own_decided p is = (let e = here p is in let none : (p.tenure && false) ≡ false = never p.tenure in rw (e, none) refl)
    where
      never : (b : Bool) → (b && false) ≡ false
      never true = refl
      never false = refl

  tried_home : (p : Parked) (w : Work) → (tried k p w).ledger.old_home ≡ w.ledger.old_home
  unfolding tried gives
  tried_home p w = by (decision k w.ledger p)
    where
      by : (d : Decision) → (carried_out k d p w).ledger.old_home ≡ w.ledger.old_home
      by Give = refl
      by (Deny why) = refl
      by Wait = refl

  all_home : (ps : List Parked) (w : Work) → (try_all k ps w).ledger.old_home ≡ w.ledger.old_home
  all_home [] w = refl
  all_home (p ∷ ps) w = all_home ps (tried k p w) ∙ tried_home p w

  retried_home : (w : Work) → (retried k w).ledger.old_home ≡ w.ledger.old_home
  unfolding retried
  retried_home w = all_home w.ledger.parked w

  newer_home : (n : NodeId) (l : Life) → (newer_life k n l (begin_work q)).ledger.old_home ≡ cleared n q.old_home
  unfolding newer_life
  newer_home n l = elim (cases_Bool (list_any (is_older n l) q.live || is_home n q.old_home)) [
    | inl t ↦ rw t (retried_home (sees n l (begin_work q)))
    | inr t ↦ rw t refl
  ]

  leaves_home : (n : NodeId) (l : Life) → (newer_life k n l (begin_work q)).ledger.old_home ≡ (if eqb n.0 home.0 then None else Some home)
  leaves_home n l = newer_home n l ∙ ap (cleared n) at_home ∙ by (cases_Bool (eqb home.0 n.0))
    where
      by : (eqb home.0 n.0 ≡ true) ⊎ (eqb home.0 n.0 ≡ false) → cleared n (Some home) ≡ (if eqb n.0 home.0 then None else Some home)
      by (inl t) = (let u : eqb n.0 home.0 ≡ true = subst (λ z. eqb n.0 z ≡ true) (sym (eqb-true home.0 n.0 t)) (eqb_same n.0) in rw (t, u) refl)
      by (inr f) = (let u : eqb n.0 home.0 ≡ false = ne_eqb n.0 home.0 (λ e. true_false (eqb home.0 n.0) (subst (λ z. eqb home.0 z ≡ true) (sym e) (eqb_same home.0)) f) in rw (f, u) refl)

  not_retired : q.gone home.0 ≡ false → ledger.retired k home (begin_work q) ≡ Err coord.TenureHeld
  not_retired stays =
      let is : is_home home q.old_home ≡ true = subst (λ o. is_home home o ≡ true) (sym at_home) (eqb_same home.0) in
      let held : (list_any (λ (g : Lease). is_at home g && g.tenure) q.live || is_home home q.old_home) ≡ true = or_right (list_any (λ (g : Lease). is_at home g && g.tenure) q.live) (is_home home q.old_home) is in
      rw (stays, held) refl
    where
      or_right : (a b : Bool) → b ≡ true → (a || b) ≡ true
      or_right true b e = refl
      or_right false b e = e

pub the_old_home_is_heeded : TheOldHomeIsHeeded
the_old_home_is_heeded k q home at_home = record {
  others_wait = others_wait k q home at_home;
  own = own_decided k q home at_home;
  leaves = leaves_home k q home at_home;
  stays = not_retired k q home at_home;
}
