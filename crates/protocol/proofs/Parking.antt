-- No parked ask could be granted: what frees a slot tries them again.
use Rattle.std.proofs.Common.{◌≡◌, ℕ, zero, suc, ◌+◌, ◌≤◌, List, [], ◌∷◌, ◌++◌, Bool, true, false, not, ◌&&◌, ◌||◌, eqb, filter, Option, Some, None, Result, Ok, Err, refl, sym, ◌∙◌, ap, subst, inl, inr, arith}
use Rattle.std.proofs.lemmas.Bool.{and_parts, not-true, cases_Bool, eqb-true, or_parts}
use Rattle.std.proofs.lemmas.Bool.Decides.{nat_tests}
use Rattle.std.specs.List.{list_any, find}
use Rattle.std.specs.Prelude.{⊤, nat_lt, if◌then◌else◌}
use Rattle.protocol.specs.Lists.{In, is_nil, nth}
use Rattle.protocol.specs.Names.{Slot, is_private, only_slot, NodeId, Life, Ticket, Digest, Want, FolderName, leased_wants}
use Rattle.protocol.specs.Machine.{Message, ToCoord, Parked, News, cleared}
use Rattle.farm_base.specs.declared.message.Message.TheVariants as to
use Rattle.farm_base.specs.declared.message.Request.{Request}
use Rattle.farm_base.specs.declared.message.Request.TheVariants.{Hello, Acquire, Commit, Release}
use Rattle.events.specs.declared.answer.CoordRefusal.{CoordRefusal}
use Rattle.events.specs.declared.answer.CoordRefusal.TheVariants as coord
use Rattle.events.specs.declared.answer.Kept.{Kept}
use Rattle.events.specs.declared.answer.Kept.TheVariants.{Old, New}
use Rattle.events.specs.declared.answer.CoordNote.TheVariants as note
use Rattle.protocol.specs.Ledger.{Limits, Ledger, Lease, Work, begin_work, has_slot, some_lease, is_leased, is_free, lowest, all_taken, busy, pick, another, elsewhere, Decision, Give, Deny, Wait, decision, lease_for, gives, carried_out, waits, tried, stays, try_all, waiting, retried, holds_wanted, recall, recalls, decided, acquiring, lease_of, is_parked, lease_under, may_commit, on_all, committing, may_release, released, answering, is_older, is_older_ask, sees, is_home, newer_life, handled, withdraws, withdrawing, withdrawn, is_at, retire_all, goes, retired, prunes, pruned, is_awaited, nudges, nudge_all, nudged, notes, reread}
use Rattle.protocol.specs.Ledger as ledger
use Rattle.protocol.specs.Nodes.{NodeAnswer, may_restart}
use Rattle.protocol.specs.Replay.{Event, Tenure, Deliver, Begin, Finish, Abort, Resend, Nudge, Withdraw, Prune, Retire, RestartNode, RestartCoordinator, Forge, Forget, FailSave, Farm, Turn, opening, settled, coordinated, is_node, answered, at_node, node_does, restarts, delivered, step, run}
use Rattle.protocol.specs.Replay as replay
use Rattle.protocol.specs.Follows.{NoneReady}
use Rattle.protocol.specs.Chronicle.{NoParkedAskIsReady}
use Rattle.protocol.proofs.Base.{true_false, in_left, in_append, in_one, any_in, from_any, any_none, in_filter, from_filter}
use Rattle.protocol.proofs.Following.{pick_give}

-- what the second ledger could grant, the first could
pub record Fewer (q q' : Ledger) : Type 0 where
  pub home : q'.old_home ≡ q.old_home
  pub leased : (s : Slot) → some_lease q.live s ≡ true → some_lease q'.live s ≡ true
  pub retired : (s : Slot) → q'.retired s ≡ false → q.retired s ≡ false
  pub last : q.last ≤ q'.last

pub fewer_refl : (q : Ledger) → Fewer q q
fewer_refl q = record { home = refl; leased = λ s e. e; retired = λ s e. e; last = omega arith }

fewer_trans : (a b c : Ledger) → Fewer a b → Fewer b c → Fewer a c
fewer_trans a b c f g = record {
  home = g.home ∙ f.home;
  leased = λ s e. g.leased s (f.leased s e);
  retired = λ s e. f.retired s (g.retired s e);
  last = (let x : a.last ≤ b.last = f.last in let y : b.last ≤ c.last = g.last in omega arith);
}

pub still_free : (q q' : Ledger) → Fewer q q' → (s : Slot) → is_free q' s ≡ true → is_free q s ≡ true
still_free q q' f s e =
    let b = and_parts (not (some_lease q'.live s)) (not (q'.retired s)) e in
    let kept : q.retired s ≡ false = f.retired s (not-true (q'.retired s) b.1) in
    elim (cases_Bool (some_lease q.live s)) [
      | inl t ↦ true_false (some_lease q'.live s) (f.leased s t) (not-true (some_lease q'.live s) b.0)
      | inr t ↦ rw (t, kept) refl
    ]

lowest_none : (free free' : Slot → Bool) (f : FolderName) (k i : ℕ) → 1 ≤ i → ((s : Slot) → free' s ≡ true → free s ≡ true) → lowest free f i k ≡ 0 → lowest free' f i k ≡ 0
unfolding lowest
lowest_none free free' f zero i le less e = refl
lowest_none free free' f (suc k) i le less e = elim (cases_Bool (free (record { folder = f; instance = i }))) [
  | inl t ↦ (let bad : i ≡ 0 = rw t at e in absurd (omega arith))
  | inr t ↦ (let rest : lowest free f (i + 1) k ≡ 0 = rw t at e in elim (cases_Bool (free' (record { folder = f; instance = i }))) [
    | inl u ↦ true_false (free (record { folder = f; instance = i })) (less (record { folder = f; instance = i }) u) t
    | inr u ↦ rw u (lowest_none free free' f k (i + 1) (omega arith) less rest)
  ])
]

any_less : {A : Type 0} (test test' : A → Bool) (xs : List A) → ((x : A) → test x ≡ true → test' x ≡ true) → list_any test' xs ≡ false → list_any test xs ≡ false
any_less test test' xs more e = elim (cases_Bool (list_any test xs)) [
  | inl t ↦ (let r = from_any test xs t in true_false (list_any test' xs) (any_in test' r.0 xs r.1 (more r.0 r.2)) e)
  | inr f ↦ f
]

pub picks : (a b c d : Bool) → a ≡ false → b ≡ false → c ≡ false → d ≡ false → pick a b c d ≡ Give
picks a b c d p q r s = rw (p, q, r, s) refl

pub less_ready : (k : Limits) (q q' : Ledger) (p : Parked) → Fewer q q' → decision k q' p ≡ Give → decision k q p ≡ Give
unfolding decision
less_ready k q q' p f e =
    let ws : List Want = leased_wants p.tenure p.wants in
    let all = pick_give (elsewhere q' p) (all_taken k.instances (is_free q') ws) (busy (is_leased q') ws) (not (nat_lt q'.last k.greatest)) e in
    picks (elsewhere q p) (all_taken k.instances (is_free q) ws) (busy (is_leased q) ws) (not (nat_lt q.last k.greatest))
    (subst (λ o. (p.tenure && another o p.node) ≡ false) f.home all.here)
    (any_less (λ (w : Want). is_private w.folder.mode && eqb (lowest (is_free q) w.folder 1 k.instances) 0) (λ (w : Want). is_private w.folder.mode && eqb (lowest (is_free q') w.folder 1 k.instances) 0) ws
    (λ w t. (let b = and_parts (is_private w.folder.mode) (eqb (lowest (is_free q) w.folder 1 k.instances) 0) t in
    let none = lowest_none (is_free q) (is_free q') w.folder k.instances 1 (omega arith) (still_free q q' f) (eqb-true (lowest (is_free q) w.folder 1 k.instances) 0 b.1) in
    let private = b.0 in rw (private, none) refl)) all.left)
    (any_less (λ (w : Want). not (is_private w.folder.mode) && some_lease q.live (only_slot w.folder)) (λ (w : Want). not (is_private w.folder.mode) && some_lease q'.live (only_slot w.folder)) ws
    (λ w t. (let b = and_parts (not (is_private w.folder.mode)) (some_lease q.live (only_slot w.folder)) t in let other = b.0 in let on = f.leased (only_slot w.folder) b.1 in rw (other, on) refl)) all.idle)
    (below q.last q'.last k.greatest f.last all.below)
  where
    below : (a b c : ℕ) → a ≤ b → not (nat_lt b c) ≡ false → not (nat_lt a c) ≡ false
    below a b c le h = grind (arith, nat_tests)

module _ (k : Limits) where
  -- ---- trying parked asks

  pub gives_fewer : (p : Parked) (w : Work) → Fewer w.ledger (gives k p w).ledger
  unfolding gives
  gives_fewer p w = record {
    home = refl;
    leased = λ s e. (let r = from_any (λ (g : Lease). has_slot g.slots s) w.ledger.live e in any_in (λ (g : Lease). has_slot g.slots s) r.0 (w.ledger.live ++ lease_for k w.ledger p ∷ []) (in_left r.0 w.ledger.live (lease_for k w.ledger p ∷ []) r.1) r.2);
    retired = λ s e. e;
    last = omega arith;
  }

  carried_fewer : (d : Decision) (p : Parked) (w : Work) → Fewer w.ledger (carried_out k d p w).ledger
  carried_fewer Give p w = gives_fewer p w
  carried_fewer (Deny why) p w = fewer_refl w.ledger
  carried_fewer Wait p w = fewer_refl w.ledger

  tried_fewer : (p : Parked) (w : Work) → Fewer w.ledger (tried k p w).ledger
  unfolding tried
  tried_fewer p w = carried_fewer (decision k w.ledger p) p w

  try_fewer : (ps : List Parked) (w : Work) → Fewer w.ledger (try_all k ps w).ledger
  try_fewer [] w = fewer_refl w.ledger
  try_fewer (p ∷ ps) w = fewer_trans w.ledger (tried k p w).ledger (try_all k ps (tried k p w)).ledger (tried_fewer p w) (try_fewer ps (tried k p w))

  waits_is : (d : Decision) → waits d ≡ true → d ≡ Wait
  waits_is Give t = (let bad : false ≡ true = t in cc)
  waits_is (Deny why) t = (let bad : false ≡ true = t in cc)
  waits_is Wait t = refl

  stays_is : (p : Parked) (w : Work) → stays k p w ≡ true → decision k w.ledger p ≡ Wait
  unfolding stays
  stays_is p w t = waits_is (decision k w.ledger p) t

  recall-ledger : (o : Option Lease) (w : Work) → (recall o w).ledger ≡ w.ledger
  recall-ledger None w = refl
  recall-ledger (Some h) w = refl

  pub recalls-ledger : (b : Bool) (p : Parked) (w : Work) → (recalls b p w).ledger ≡ w.ledger
  recalls-ledger false p w = refl
  recalls-ledger true p w = recall-ledger (find (holds_wanted p) w.ledger.live) w

  gives-parked : (p : Parked) (w : Work) → (gives k p w).ledger.parked ≡ w.ledger.parked
  unfolding gives
  gives-parked p w = refl

  -- leases of which `test` picks none are all left
  unpicked : (test : Lease → Bool) (live : List Lease) (s : Slot) → list_any test live ≡ false → some_lease live s ≡ true → some_lease (filter (λ g. not (test g)) live) s ≡ true
  unpicked test live s none t =
      let r = from_any (λ (g : Lease). has_slot g.slots s) live t in
      any_in (λ (g : Lease). has_slot g.slots s) r.0 (filter (λ g. not (test g)) live) (in_filter (λ (g : Lease). not (test g)) r.0 live r.1 (ap not (any_none test r.0 live none r.1))) r.2

  pub not_cleared : (n : NodeId) (o : Option NodeId) → is_home n o ≡ false → cleared n o ≡ o
  not_cleared n None h = refl
  not_cleared n (Some x) h = (let e : eqb x.0 n.0 ≡ false = h in rw e refl)

  waiting_was : (ps : List Parked) (w : Work) (p : Parked) → In p (waiting k ps w) → In p ps
  waiting_was [] w p i = absurd i
  waiting_was (r ∷ ps) w p i = elim (cases_Bool (stays k r w)) [
    | inl t ↦ elim (let j : In p (r ∷ waiting k ps (tried k r w)) = rw t at i in j) [ inl e ↦ inl e | inr j ↦ inr (waiting_was ps (tried k r w) p j) ]
    | inr t ↦ inr (waiting_was ps (tried k r w) p (rw t at i))
  ]

  retried_was : (w : Work) (p : Parked) → In p (retried k w).ledger.parked → In p w.ledger.parked
  unfolding retried
  retried_was w p i = waiting_was w.ledger.parked w p i

  -- an ask that is parked after a newer life was parked
  pub newer_was : (n : NodeId) (l : Life) (w : Work) (p : Parked) → In p (newer_life k n l w).ledger.parked → In p w.ledger.parked
  unfolding newer_life
  newer_was n l w p = elim (cases_Bool (list_any (is_older n l) w.ledger.live || is_home n w.ledger.old_home)) [
    | inl t ↦ rw t (λ i. seen (retried_was (sees n l w) p i))
    | inr t ↦ rw t seen
  ]
    where
      seen : In p (filter (λ (r : Parked). not (is_older_ask n l r)) w.ledger.parked) → In p w.ledger.parked
      seen i = (from_filter (λ (r : Parked). not (is_older_ask n l r)) p w.ledger.parked i).0

  nudges-ledger : (g : Lease) (w : Work) → (nudges k g w).ledger ≡ w.ledger
  nudges-ledger g w = elim (cases_Bool (is_awaited w.ledger.parked g)) [ inl t ↦ rw t refl | inr t ↦ rw t refl ]

  pub nudge-ledger : (gs : List Lease) (w : Work) → (nudge_all k gs w).ledger ≡ w.ledger
  nudge-ledger [] w = refl
  nudge-ledger (g ∷ gs) w = nudge-ledger gs (nudges k g w) ∙ nudges-ledger g w

module _ (k : Limits) (P : Ledger → Parked → Type 0) (more : (q q' : Ledger) (p : Parked) → Fewer q q' → P q p → P q' p)
    (held : (q : Ledger) (p : Parked) → decision k q p ≡ Wait → P q p) where
  -- P is of each parked ask: it is of one that has to wait, and stays so where less can be granted
  abbrev All : Ledger → Type 0
  All q = (p : Parked) → In p q.parked → P q p

  abbrev N : Work → Type 0
  N w = All w.ledger

  waiting_hold : (ps : List Parked) (w : Work) (p : Parked) → In p (waiting k ps w) → P (try_all k ps w).ledger p
  waiting_hold [] w p i = absurd i
  waiting_hold (r ∷ ps) w p i = elim (cases_Bool (stays k r w)) [
    | inr t ↦ waiting_hold ps (tried k r w) p (rw t at i)
    | inl t ↦ elim (let j : In p (r ∷ waiting k ps (tried k r w)) = rw t at i in j) [
      | inl q ↦ subst (P (try_all k (r ∷ ps) w).ledger) (sym q) (more w.ledger (try_all k (r ∷ ps) w).ledger r (try_fewer k (r ∷ ps) w) (held w.ledger r (stays_is k r w t)))
      | inr j ↦ waiting_hold ps (tried k r w) p j
    ]
  ]

  -- after a try of all each holds
  retried_hold : (w : Work) → N (retried k w)
  unfolding retried
  retried_hold w p i =
      let q : Ledger = (try_all k w.ledger.parked w).ledger in
      more q (record q { parked = waiting k w.ledger.parked w }) p (record { home = refl; leased = λ s t. t; retired = λ s t. t; last = omega arith }) (waiting_hold w.ledger.parked w p i)

  -- so it is where less can be granted, and no ask is new
  keeps_hold : (q q' : Ledger) → Fewer q q' → ((p : Parked) → In p q'.parked → In p q.parked) → All q → All q'
  keeps_hold q q' f less none p i = more q q' p f (none p (less p i))

  -- ---- messages

  parked_hold : (p : Parked) (q : Ledger) → All q → P q p → All (record q { parked = q.parked ++ p ∷ [] })
  parked_hold p q none here r i =
      more q (record q { parked = q.parked ++ p ∷ [] }) r (record { home = refl; leased = λ s t. t; retired = λ s t. t; last = omega arith })
      (elim (in_append r q.parked (p ∷ []) i) [ inl j ↦ none r j | inr j ↦ subst (P q) (sym (in_one r p j)) here ])

  decided_hold : (d : Decision) (p : Parked) (w : Work) → decision k w.ledger p ≡ d → N w → N (decided k d p w)
  decided_hold Give p w e none = keeps_hold w.ledger (gives k p w).ledger (gives_fewer k p w) (λ r i. subst (In r) (gives-parked k p w) i) none
  decided_hold (Deny why) p w e none = none
  decided_hold Wait p w e none =
      let b : Bool = p.tenure && not (elsewhere w.ledger p) in
      subst (λ (q : Ledger). All (record q { parked = w.ledger.parked ++ p ∷ [] })) (sym (recalls-ledger k b p w)) (parked_hold p w.ledger none (held w.ledger p e))

  acquiring_hold : (o : Option Lease) (b : Bool) (p : Parked) (w : Work) → N w → N (acquiring k o b p w)
  acquiring_hold (Some h) b p w none = none
  acquiring_hold None true p w none = none
  acquiring_hold None false p w none = decided_hold (decision k w.ledger p) p w refl none

  answered_hold : (b : Bool) (n : NodeId) (l : Life) (t : Ticket) (news : List News) (w : Work) → N w → N (ledger.answered b n l t news w)
  answered_hold true n l t news w none = none
  answered_hold false n l t news w none = none

  committing_hold : (b : Bool) (n : NodeId) (l : Life) (t : Ticket) (news : List News) (w : Work) → N w → N (committing k b n l t news w)
  committing_hold true n l t news w none = retried_hold _
  committing_hold false n l t news w none = answered_hold (not (is_nil news) && on_all w.ledger.line t news) n l t news w none

  released_hold : (b : Bool) (t : Ticket) (o : Option Lease) (w : Work) → N w → N (released k b t o w)
  released_hold b t None w none = none
  released_hold false t (Some g) w none = none
  released_hold true t (Some g) w none = retried_hold _

  answering_hold : (n : NodeId) (l : Life) (r : Request) (w : Work) → N w → N (answering k n l r w)
  answering_hold n l Hello w none = none
  answering_hold n l (Acquire a wants tenure) w none = acquiring_hold (lease_of w.ledger.live n l a) (is_parked w.ledger.parked n l a) (record { node = n; life = l; ask = a; wants = wants; tenure = tenure }) w none
  answering_hold n l (Commit t news) w none = committing_hold (may_commit n l news (lease_under w.ledger.live t)) n l t news w none
  answering_hold n l (Release t) w none = released_hold (may_release n l (lease_under w.ledger.live t)) t (lease_under w.ledger.live t) w none

  pub newer_hold : (n : NodeId) (l : Life) (w : Work) → N w → N (newer_life k n l w)
  unfolding newer_life
  newer_hold n l w none = elim (cases_Bool (list_any (is_older n l) w.ledger.live || is_home n w.ledger.old_home)) [
    | inl t ↦ rw t (retried_hold (sees n l w))
    | inr t ↦ rw t (let o = or_parts (list_any (is_older n l) w.ledger.live) (is_home n w.ledger.old_home) t in
        keeps_hold w.ledger (sees n l w).ledger (record { home = not_cleared k n w.ledger.old_home o.1; leased = λ s e. unpicked k (is_older n l) w.ledger.live s o.0 e; retired = λ s e. e; last = omega arith })
        (λ p i. (from_filter (λ (r : Parked). not (is_older_ask n l r)) p w.ledger.parked i).0) none)
  ]

  pub handled_hold : (y : ToCoord) (w : Work) → N w → N (handled k y w)
  unfolding handled
  handled_hold y w none = elim (cases_Bool (w.ledger.gone y.node.0)) [
    | inl t ↦ rw t none
    | inr here ↦ rw here (elim (cases_Bool (nat_lt y.life.0 (w.ledger.lives y.node.0))) [
      | inl t ↦ rw t none
      | inr t ↦ rw t (elim (cases_Bool (nat_lt (w.ledger.lives y.node.0) y.life.0)) [
        | inl newer ↦ rw newer (answering_hold y.node y.life y.request (newer_life k y.node y.life w) (newer_hold y.node y.life w none))
        | inr same ↦ rw same (answering_hold y.node y.life y.request w none)
      ])
    ])
  ]

  -- ---- calls

  abbrev OnWork : Result Work CoordRefusal → Type 0
  OnWork (Ok w) = N w
  OnWork (Err e) = ⊤

  if_work : (b : Bool) (e : CoordRefusal) (r : Result Work CoordRefusal) → (b ≡ false → OnWork r) → OnWork (if b then Err e else r)
  if_work true e r h = tt
  if_work false e r h = h refl

  withdrawing_hold : (o : Option Lease) (w : Work) → OnWork (withdrawing k o w)
  withdrawing_hold None w = tt
  withdrawing_hold (Some g) w = if_work g.tenure coord.Tenure (Ok (notes (note.Withdrawn g.ticket) (retried k (withdraws g w)))) (λ f. retried_hold (withdraws g w))

  retired_hold : (n : NodeId) (w : Work) → N w → OnWork (retired k n w)
  retired_hold n w none = if_work (w.ledger.gone n.0) coord.NodeRetired _ (λ f. if_work (list_any (λ (g : Lease). is_at n g && g.tenure) w.ledger.live || is_home n w.ledger.old_home) coord.TenureHeld _ (λ h. leaves (list_any (is_at n) w.ledger.live) refl))
    where
      leaves : (b : Bool) → list_any (is_at n) w.ledger.live ≡ b → N (if b then retried k (goes n w) else goes n w)
      leaves true e = retried_hold (goes n w)
      leaves false e = keeps_hold w.ledger (goes n w).ledger (record {
        home = refl;
        leased = λ s t. unpicked k (is_at n) w.ledger.live s e t;
        retired = λ s t. (or_parts (is_private s.folder.mode && some_lease (filter (is_at n) w.ledger.live) s) (w.ledger.retired s) t).1;
        last = omega arith;
      })
          (λ p i. (from_filter (λ (r : Parked). not (eqb r.node.0 n.0)) p w.ledger.parked i).0) none

  pruned_hold : (s : Slot) (w : Work) → N w → OnWork (pruned k s w)
  pruned_hold s w none = if_work (is_leased w.ledger s) coord.SlotLeased _ (λ f. if_work (is_nil (w.ledger.line s)) coord.NoSuchSlot _ (λ h. by (nat_lt w.ledger.last k.greatest)))
    where
      by : (b : Bool) → OnWork (if b then Ok (notes (note.Pruned (record { 0 = w.ledger.last + 1 })) (prunes k s w)) else Err coord.TicketsSpent)
      by true = keeps_hold w.ledger (prunes k s w).ledger (record { home = refl; leased = λ x e. e; retired = λ x e. e; last = omega arith }) (λ p i. i) none
      by false = tt

  -- ---- events

  settled_hold : (changed : Bool) (armed : Option Kept) (w : Work) (s : Farm) → N w → All s.ledger → All (settled changed armed w s).farm.ledger
  settled_hold false armed w s none old = none
  settled_hold true None w s none old = none
  settled_hold true (Some Old) w s none old = old
  settled_hold true (Some New) w s none old = old

  coordinated_hold : (d : Bool) (r : Result Work CoordRefusal) (s : Farm) → OnWork r → All s.ledger → All (coordinated d r s).farm.ledger
  coordinated_hold true r s none old = old
  coordinated_hold false (Err e) s none old = old
  coordinated_hold false (Ok w) s none old = settled_hold w.changed s.armed w s none old

  at_node_hold : (b : Bool) (n : NodeId) (a : NodeAnswer) (s : Farm) → All s.ledger → All (at_node b n a s).farm.ledger
  at_node_hold true n (Ok w) s old = old
  at_node_hold true n (Err e) s old = old
  at_node_hold false n a s old = old

  delivered_hold : (sha : List ℕ → Digest) (o : Option Message) (s : Farm) → All s.ledger → All (delivered sha k o s).farm.ledger
  delivered_hold sha None s old = old
  delivered_hold sha (Some (to.ToCoord y)) s old = coordinated_hold s.down (Ok (handled k y (begin_work s.ledger))) s (handled_hold y (begin_work s.ledger) old) old
  delivered_hold sha (Some (to.ToNode y)) s old = at_node_hold (is_node s (replay.receiver y)) (replay.receiver y) _ s old

  restarts_hold : (n : NodeId) (s : Farm) → All s.ledger → All (restarts k n s).farm.ledger
  restarts_hold n s old = elim (cases_Bool (may_restart k (s.nodes n.0))) [ inl t ↦ rw t old | inr t ↦ rw t old ]

  step_hold : (sha : List ℕ → Digest) (s : Farm) (e : Event) → All s.ledger → All (step sha k s e).farm.ledger
  unfolding step
  step_hold sha s (replay.Ask n wants) old = at_node_hold (is_node s n) n _ s old
  step_hold sha s (Tenure n f) old = at_node_hold (is_node s n) n _ s old
  step_hold sha s (Deliver number) old = delivered_hold sha (nth s.pool number) s old
  step_hold sha s (Begin n t) old = at_node_hold (is_node s n) n _ s old
  step_hold sha s (Finish n t lefts) old = at_node_hold (is_node s n) n _ s old
  step_hold sha s (Abort n t) old = at_node_hold (is_node s n) n _ s old
  step_hold sha s (Resend n) old = at_node_hold (is_node s n) n _ s old
  step_hold sha s Nudge old = coordinated_hold s.down (Ok (nudged k (begin_work s.ledger))) s (subst All (sym (nudge-ledger k s.ledger.live (begin_work s.ledger))) old) old
  step_hold sha s (Withdraw t) old = coordinated_hold s.down (withdrawn k t (begin_work s.ledger)) s (withdrawing_hold (lease_under s.ledger.live t) (begin_work s.ledger)) old
  step_hold sha s (Prune slot) old = coordinated_hold s.down (pruned k slot (begin_work s.ledger)) s (pruned_hold slot (begin_work s.ledger) old) old
  step_hold sha s (Retire n) old = elim (cases_Bool (is_node s n)) [ inl t ↦ rw t (coordinated_hold s.down (retired k n (begin_work s.ledger)) s (retired_hold n (begin_work s.ledger) old) old) | inr t ↦ rw t old ]
  step_hold sha s (RestartNode n) old = elim (cases_Bool (is_node s n)) [ inl t ↦ rw t (restarts_hold n s old) | inr t ↦ rw t old ]
  step_hold sha s RestartCoordinator old = λ p i. absurd i
  step_hold sha s (Forge n c) old = at_node_hold (is_node s n) n _ s old
  step_hold sha s (Forget n d) old = at_node_hold (is_node s n) n _ s old
  step_hold sha s (FailSave kept) old = old

  run_hold : (sha : List ℕ → Digest) (events : List Event) (s : Farm) → All s.ledger → All (run sha k events s).ledger
  run_hold sha [] s old = old
  run_hold sha (e ∷ es) s old = run_hold sha es (step sha k s e).farm (step_hold sha s e old)

-- an ask that could be granted isn't parked
module _ (k : Limits) where
  abbrev Unready : Ledger → Parked → Type 0
  Unready q p = decision k q p ≡ Give → ⊥

  unready_more : (q q' : Ledger) (p : Parked) → Fewer q q' → Unready q p → Unready q' p
  unready_more q q' p f not_now e = not_now (less_ready k q q' p f e)

  wait_unready : (q : Ledger) (p : Parked) → decision k q p ≡ Wait → Unready q p
  wait_unready q p w g = (let bad : Wait ≡ Give = sym w ∙ g in cc)

  pub newer_none : (n : NodeId) (l : Life) (w : Work) → NoneReady k w.ledger → NoneReady k (newer_life k n l w).ledger
  newer_none n l w none = newer_hold k Unready unready_more wait_unready n l w none

-- each is held up: another node is the old home, or the one slot of a folder is leased
abbrev pub HeldUp : Ledger → Parked → Type 0
HeldUp q p = (elsewhere q p || busy (is_leased q) (leased_wants p.tenure p.wants)) ≡ true

held_more : (q q' : Ledger) (p : Parked) → Fewer q q' → HeldUp q p → HeldUp q' p
held_more q q' p f h = elim (cases_Bool (elsewhere q p)) [
  | inl t ↦ (let same : elsewhere q' p ≡ true = subst (λ o. (p.tenure && another o p.node) ≡ true) (sym f.home) t in rw same refl)
  | inr n ↦ (let r = from_any (λ (w : Want). not (is_private w.folder.mode) && some_lease q.live (only_slot w.folder)) ws (rw n at h) in
      let b = and_parts (not (is_private r.0.folder.mode)) (some_lease q.live (only_slot r.0.folder)) r.2 in
      let other = b.0 in
      let on = f.leased (only_slot r.0.folder) b.1 in
      let all : busy (is_leased q') ws ≡ true = any_in (λ (w : Want). not (is_private w.folder.mode) && some_lease q'.live (only_slot w.folder)) r.0 ws r.1 (rw (other, on) refl) in
      or_right (elsewhere q' p) (busy (is_leased q') ws) all)
]
  where
    ws : List Want
    ws = leased_wants p.tenure p.wants

    or_right : (a b : Bool) → b ≡ true → (a || b) ≡ true
    or_right true b e = refl
    or_right false b e = e

wait_held : (k : Limits) (q : Ledger) (p : Parked) → decision k q p ≡ Wait → HeldUp q p
unfolding decision
wait_held k q p e = by (elsewhere q p) (all_taken k.instances (is_free q) ws) (busy (is_leased q) ws) (not (nat_lt q.last k.greatest)) e
  where
    ws : List Want
    ws = leased_wants p.tenure p.wants

    by : (a b c d : Bool) → pick a b c d ≡ Wait → (a || c) ≡ true
    by true b c d e = refl
    by false true c d e = cc
    by false false true d e = refl
    by false false false true e = cc
    by false false false false e = cc

pub parked_held_up : (sha : List ℕ → Digest) (k : Limits) (size : ℕ) (events : List Event) (p : Parked) → In p (run sha k events (opening sha size)).ledger.parked → HeldUp (run sha k events (opening sha size)).ledger p
parked_held_up sha k size events = run_hold k HeldUp held_more (wait_held k) sha events (opening sha size) (λ p i. absurd i)

pub no_parked_ask_is_ready : NoParkedAskIsReady
no_parked_ask_is_ready sha k size events = run_hold k (Unready k) (unready_more k) (wait_unready k) sha events (opening sha size) (λ p i e. absurd i)
