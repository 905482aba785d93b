-- Each parked ask is held up: by the old home, or by a slot that is leased.
use Rattle.std.proofs.Common.{◌≡◌, List, [], ◌∷◌, ◌++◌, Bool, true, false, not, ◌&&◌, ◌||◌, eqb, cond, filter, Option, Some, None, Result, Ok, refl, sym, ◌∙◌, ap, subst, inl, inr}
use Rattle.std.proofs.lemmas.Bool.{and_parts, cases_Bool, or_parts}
use Rattle.std.specs.List.{list_any, find}
use Rattle.std.specs.Prelude.{nat_lt}
use Rattle.farm_base.specs.declared.message.Request.{Request}
use Rattle.farm_base.specs.declared.message.Request.TheVariants.{Hello, Acquire, Commit, Release}
use Rattle.protocol.specs.Lists.{In}
use Rattle.protocol.specs.Names.{Slot, is_private, only_slot, NodeId, Life, Ticket, Want, leased_wants}
use Rattle.protocol.specs.Machine.{ToCoord, Parked, News, cleared}
use Rattle.events.specs.declared.answer.CoordRefusal.{CoordRefusal}
use Rattle.events.specs.declared.answer.Decision.{Decision}
use Rattle.events.specs.declared.answer.Decision.TheVariants.{Give, Deny, Wait}
use Rattle.protocol.specs.Ledger.{Limits, Ledger, Lease, Work, begin_work, has_slot, some_lease, is_leased, is_free, all_taken, busy, pick, another, elsewhere, decision, lease_for, gives, carried_out, waits, tried, stays, try_all, waiting, retried, holds_wanted, recall, recalls, decided, acquiring, lease_of, is_parked, lease_under, may_commit, on_all, answered, committing, may_release, released, answering, is_older, is_older_ask, sees, is_home, newer_life, handled, withdrawn, is_at, goes, retired, prunes, pruned}
use Rattle.protocol.specs.Lists.{is_nil}
use Rattle.protocol.proofs.Base.{in_left, in_append, in_one, any_in, from_any, any_none, in_filter, from_filter}
use Rattle.effects.specs.Sound.{is_held_up, AreHeldUp}
use Rattle.drafts.proofs.OwnCalls.{withdrawal, retirement}
use Rattle.drafts.proofs.OwnSends.{accepted}
use Rattle.drafts.proofs.Prunes.{pruning}
use Rattle.drafts.proofs.StateWords.{decision-is}
use Rattle.drafts.proofs.Trying.{stays-is}

-- ---- a ledger that leases more

-- what is leased in the first is leased in the second, and the old home is the same
pub record LeasesMore (q q' : Ledger) : Type 0 where
  pub home : q'.old_home ≡ q.old_home
  pub leased : (s : Slot) → some_lease q.live s ≡ true → some_lease q'.live s ≡ true

more_same : (q : Ledger) → LeasesMore q q
more_same q = record { home = refl; leased = λ s e. e }

more_twice : (a b c : Ledger) → LeasesMore a b → LeasesMore b c → LeasesMore a c
more_twice a b c f g = record { home = g.home ∙ f.home; leased = λ s e. g.leased s (f.leased s e) }

-- of two tests of wants the second passes more
pub any_more : {A : Type 0} (test test' : A → Bool) (xs : List A) → ((x : A) → In x xs → test x ≡ true → test' x ≡ true) → list_any test xs ≡ true → list_any test' xs ≡ true
any_more test test' xs more e = (let r = from_any test xs e in any_in test' r.0 xs r.1 (more r.0 r.1 r.2))

pub either_more : (a b c : Bool) → (a || b) ≡ true → (b ≡ true → c ≡ true) → (a || c) ≡ true
either_more true b c h more = refl
either_more false b c h more = more h

-- an ask that is held up in the first is so in the second
still_held : (q q' : Ledger) (p : Parked) → LeasesMore q q' → is_held_up q p ≡ true → is_held_up q' p ≡ true
still_held q q' p more held =
    let wants : List Want = leased_wants p.tenure p.wants in
    subst (λ (o : Option NodeId). ((p.tenure && another o p.node) || busy (is_leased q') wants) ≡ true) (sym more.home)
    (either_more (elsewhere q p) (busy (is_leased q) wants) (busy (is_leased q') wants) held
    (any_more (λ (w : Want). not (is_private w.folder.mode) && is_leased q (only_slot w.folder)) (λ (w : Want). not (is_private w.folder.mode) && is_leased q' (only_slot w.folder)) wants
    (λ w i t. (let b = and_parts (not (is_private w.folder.mode)) (is_leased q (only_slot w.folder)) t in
    let other = b.0 in
    let on = more.leased (only_slot w.folder) b.1 in
    rw (other, on) refl))))

-- so where no ask is new
keeps : (q q' : Ledger) → LeasesMore q q' → ((p : Parked) → In p q'.parked → In p q.parked) → AreHeldUp q → AreHeldUp q'
keeps q q' more less held p i = still_held q q' p more (held p (less p i))

-- ---- trying asks

pub gives-more : (k : Limits) (p : Parked) (w : Work) → LeasesMore w.ledger (gives k p w).ledger
unfolding gives
gives-more k p w = record {
  home = refl;
  leased = λ s e. (let r = from_any (λ (g : Lease). has_slot g.slots s) w.ledger.live e in any_in (λ (g : Lease). has_slot g.slots s) r.0 (w.ledger.live ++ lease_for k w.ledger p ∷ []) (in_left r.0 w.ledger.live (lease_for k w.ledger p ∷ []) r.1) r.2);
}

carried-more : (d : Decision) (k : Limits) (p : Parked) (w : Work) → LeasesMore w.ledger (carried_out k d p w).ledger
carried-more Give k p w = gives-more k p w
carried-more (Deny why) k p w = more_same w.ledger
carried-more Wait k p w = more_same w.ledger

pub tried-more : (k : Limits) (p : Parked) (w : Work) → LeasesMore w.ledger (tried k p w).ledger
unfolding tried
tried-more k p w = carried-more (decision k w.ledger p) k p w

try_all-more : (k : Limits) (ps : List Parked) (w : Work) → LeasesMore w.ledger (try_all k ps w).ledger
try_all-more k [] w = more_same w.ledger
try_all-more k (p ∷ ps) w = more_twice w.ledger (tried k p w).ledger (try_all k ps (tried k p w)).ledger (tried-more k p w) (try_all-more k ps (tried k p w))

picks_held : (a b c d : Bool) → waits (pick a b c d) ≡ true → (a || c) ≡ true
picks_held true b c d e = refl
picks_held false true c d e = (let bad : false ≡ true = e in absurd (cc bad))
picks_held false false true d e = refl
picks_held false false false true e = (let bad : false ≡ true = e in absurd (cc bad))
picks_held false false false false e = (let bad : false ≡ true = e in absurd (cc bad))

-- an ask that waits is held up
waits_held : (k : Limits) (q : Ledger) (p : Parked) → waits (decision k q p) ≡ true → is_held_up q p ≡ true
waits_held k q p e =
    let wants : List Want = leased_wants p.tenure p.wants in
    picks_held (elsewhere q p) (all_taken k.instances (is_free q) wants) (busy (is_leased q) wants) (not (nat_lt q.last k.greatest)) (sym (ap waits (decision-is k q p)) ∙ e)

stay_held : (k : Limits) (ps : List Parked) (w : Work) (p : Parked) → In p (waiting k ps w) → is_held_up (try_all k ps w).ledger p ≡ true
stay_held k [] w p i = absurd i
stay_held k (r ∷ ps) w p i = elim (cases_Bool (stays k r w)) [
  | inr t ↦ stay_held k ps (tried k r w) p (rw t at i)
  | inl t ↦ elim (let j : In p (r ∷ waiting k ps (tried k r w)) = rw t at i in j) [
    | inl same ↦
        subst (λ (z : Parked). is_held_up (try_all k (r ∷ ps) w).ledger z ≡ true) (sym same)
        (still_held w.ledger (try_all k (r ∷ ps) w).ledger r (try_all-more k (r ∷ ps) w) (waits_held k w.ledger r (sym (stays-is k r w (decision k w.ledger r) refl) ∙ t)))
    | inr j ↦ stay_held k ps (tried k r w) p j
  ]
]

-- after a try of all of them each is
retried-held : (k : Limits) (w : Work) → AreHeldUp (retried k w).ledger
unfolding retried
retried-held k w p i = stay_held k w.ledger.parked w p i

-- ---- messages

parks_held : (p : Parked) (w v : Work) → v.ledger ≡ w.ledger → AreHeldUp w.ledger → is_held_up w.ledger p ≡ true → AreHeldUp (record v.ledger { parked = w.ledger.parked ++ p ∷ [] })
parks_held p w v same held here r i =
    subst (λ (q : Ledger). is_held_up q r ≡ true) (sym same) (elim (in_append r w.ledger.parked (p ∷ []) i) [ inl j ↦ held r j | inr j ↦ subst (λ z. is_held_up w.ledger z ≡ true) (sym (in_one r p j)) here ])

recalling : (b : Bool) (o : Option Lease) (p : Parked) (w : Work) → o ≡ find (holds_wanted p) w.ledger.live → (recalls b p w).ledger ≡ w.ledger
recalling false o p w e = refl
recalling true o p w e = ap (λ (x : Option Lease). (recall x w).ledger) (sym e) ∙ by o
  where
    by : (x : Option Lease) → (recall x w).ledger ≡ w.ledger
    by None = refl
    by (Some g) = refl

decided-held : (d : Decision) (k : Limits) (p : Parked) (w : Work) → decision k w.ledger p ≡ d → AreHeldUp w.ledger → AreHeldUp (decided k d p w).ledger
unfolding gives
decided-held Give k p w e held = keeps w.ledger (gives k p w).ledger (gives-more k p w) (λ r i. i) held
decided-held (Deny why) k p w e held = held
decided-held Wait k p w e held =
    let b : Bool = p.tenure && not (elsewhere w.ledger p) in
    parks_held p w (recalls b p w) (recalling b _ p w refl) held (waits_held k w.ledger p (ap waits e))

acquiring-held : (k : Limits) (o : Option Lease) (b : Bool) (p : Parked) (w : Work) → AreHeldUp w.ledger → AreHeldUp (acquiring k o b p w).ledger
acquiring-held k (Some g) b p w held = held
acquiring-held k None true p w held = held
acquiring-held k None false p w held = decided-held (decision k w.ledger p) k p w refl held

answered-held : (b : Bool) (n : NodeId) (l : Life) (t : Ticket) (news : List News) (w : Work) → AreHeldUp w.ledger → AreHeldUp (answered b n l t news w).ledger
answered-held true n l t news w held = held
answered-held false n l t news w held = held

committing-held : (k : Limits) (b : Bool) (n : NodeId) (l : Life) (t : Ticket) (news : List News) (w : Work) → AreHeldUp w.ledger → AreHeldUp (committing k b n l t news w).ledger
committing-held k true n l t news w held = retried-held k _
committing-held k false n l t news w held = answered-held (not (is_nil news) && on_all w.ledger.line t news) n l t news w held

released-held : (k : Limits) (b : Bool) (t : Ticket) (o : Option Lease) (w : Work) → AreHeldUp w.ledger → AreHeldUp (released k b t o w).ledger
released-held k b t None w held = held
released-held k false t (Some g) w held = held
released-held k true t (Some g) w held = retried-held k _

answering-held : (k : Limits) (n : NodeId) (l : Life) (r : Request) (w : Work) → AreHeldUp w.ledger → AreHeldUp (answering k n l r w).ledger
answering-held k n l Hello w held = held
answering-held k n l (Acquire a wants tenure) w held = acquiring-held k (lease_of w.ledger.live n l a) (is_parked w.ledger.parked n l a) (record { node = n; life = l; ask = a; wants = wants; tenure = tenure }) w held
answering-held k n l (Commit t news) w held = committing-held k (may_commit n l news (lease_under w.ledger.live t)) n l t news w held
answering-held k n l (Release t) w held = released-held k (may_release n l (lease_under w.ledger.live t)) t (lease_under w.ledger.live t) w held

-- leases of which a test picks none are all left
none_picked : (test : Lease → Bool) (live : List Lease) (s : Slot) → list_any test live ≡ false → some_lease live s ≡ true → some_lease (filter (λ g. not (test g)) live) s ≡ true
none_picked test live s none on =
    let r = from_any (λ (g : Lease). has_slot g.slots s) live on in
    any_in (λ (g : Lease). has_slot g.slots s) r.0 (filter (λ g. not (test g)) live) (in_filter (λ (g : Lease). not (test g)) r.0 live r.1 (ap not (any_none test r.0 live none r.1))) r.2

pub other-home : (n : NodeId) (o : Option NodeId) → is_home n o ≡ false → cleared n o ≡ o
other-home n None h = refl
other-home n (Some x) h = (let e : eqb x.0 n.0 ≡ false = h in rw e refl)

pub newer_life-held : (k : Limits) (n : NodeId) (l : Life) (w : Work) → AreHeldUp w.ledger → AreHeldUp (newer_life k n l w).ledger
unfolding newer_life
newer_life-held k n l w held = elim (cases_Bool (list_any (is_older n l) w.ledger.live || is_home n w.ledger.old_home)) [
  | inl t ↦ rw t (retried-held k (sees n l w))
  | inr t ↦ rw t (let o = or_parts (list_any (is_older n l) w.ledger.live) (is_home n w.ledger.old_home) t in
      keeps w.ledger (sees n l w).ledger (record { home = other-home n w.ledger.old_home o.1; leased = λ s e. none_picked (is_older n l) w.ledger.live s o.0 e })
      (λ p i. (from_filter (λ (r : Parked). not (is_older_ask n l r)) p w.ledger.parked i).0) held)
]

pub handled-held : (k : Limits) (y : ToCoord) (w : Work) → AreHeldUp w.ledger → AreHeldUp (handled k y w).ledger
unfolding handled
handled-held k y w held = elim (cases_Bool (w.ledger.gone y.node.0)) [
  | inl t ↦ rw t held
  | inr here ↦ rw here (elim (cases_Bool (nat_lt y.life.0 (w.ledger.lives y.node.0))) [
    | inl t ↦ rw t held
    | inr t ↦ rw t (elim (cases_Bool (nat_lt (w.ledger.lives y.node.0) y.life.0)) [
      | inl newer ↦ rw newer (answering-held k y.node y.life y.request (newer_life k y.node y.life w) (newer_life-held k y.node y.life w held))
      | inr same ↦ rw same (answering-held k y.node y.life y.request w held)
    ])
  ])
]

-- ---- the operator's calls

-- what a call worked out, by the work that it is
worked_out : (r : Result Work CoordRefusal) (v w : Work) → r ≡ Ok v → r ≡ Ok w → AreHeldUp v.ledger → AreHeldUp w.ledger
worked_out r v w e f held = (let same : v ≡ w = cc in subst (λ (x : Work). AreHeldUp x.ledger) same held)

pub withdrawn-held : (k : Limits) (t : Ticket) (q : Ledger) (w : Work) → withdrawn k t (begin_work q) ≡ Ok w → AreHeldUp w.ledger
withdrawn-held k t q w e = (let r = withdrawal k t (begin_work q) (accepted _ w e) in worked_out (withdrawn k t (begin_work q)) _ w r.work e (retried-held k _))

goes-held : (k : Limits) (n : NodeId) (w : Work) (b : Bool) → list_any (is_at n) w.ledger.live ≡ b → AreHeldUp w.ledger → AreHeldUp (cond b (retried k (goes n w)) (goes n w)).ledger
goes-held k n w true e held = retried-held k (goes n w)
goes-held k n w false e held =
    keeps w.ledger (goes n w).ledger (record { home = refl; leased = λ s t. none_picked (is_at n) w.ledger.live s e t })
    (λ p i. (from_filter (λ (r : Parked). not (eqb r.node.0 n.0)) p w.ledger.parked i).0) held

pub retired-held : (k : Limits) (n : NodeId) (q : Ledger) (w : Work) → retired k n (begin_work q) ≡ Ok w → AreHeldUp q → AreHeldUp w.ledger
retired-held k n q w e held =
    worked_out (retired k n (begin_work q)) _ w (retirement k n (begin_work q) (accepted _ w e)) e (goes-held k n (begin_work q) (list_any (is_at n) q.live) refl held)

pub pruned-held : (k : Limits) (s : Slot) (q : Ledger) (w : Work) → pruned k s (begin_work q) ≡ Ok w → AreHeldUp q → AreHeldUp w.ledger
pruned-held k s q w e held = worked_out (pruned k s (begin_work q)) _ w (pruning k s (begin_work q) (accepted _ w e)).work e (keeps q (prunes k s (begin_work q)).ledger (record { home = refl; leased = λ x e. e }) (λ p i. i) held)
