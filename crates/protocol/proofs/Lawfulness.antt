-- What the coordinator does leaves its ledger such that a record can be written of it.
use Rattle.std.proofs.Common.{◌≡◌, ◌≢◌, ℕ, ◌+◌, ◌<◌, ◌≤◌, List, [], ◌∷◌, ◌++◌, Bool, true, false, not, ◌&&◌, ◌||◌, eqb, map, filter, Option, Some, None, Result, Ok, Err, refl, sym, ◌∙◌, ap, subst, inl, inr, arith}
use Rattle.std.proofs.lemmas.Bool.{and_parts, cases_Bool, cases_eq, eqb-false, eqb-true, not-false, not-true}
use Rattle.std.proofs.lemmas.Bool.Decides.{nat_tests}
use Rattle.std.specs.Prelude.{nat_lt, if◌then◌else◌}
use Rattle.std.specs.List.{list_any, find}
use Rattle.protocol.specs.Lists.{In, put, is_nil}
use Rattle.protocol.specs.Names.{Slot, slot_eq, is_private, only_slot, NodeId, Life, Ask, Ticket, Digest, Want, leased_wants}
use Rattle.protocol.specs.Machine.{News, LineVersion, Parked, ToCoord, digest_for, version_of, cleared}
use Rattle.farm_base.specs.declared.message.Request.{Request}
use Rattle.farm_base.specs.declared.message.Request.TheVariants.{Hello, Acquire, Commit, Release}
use Rattle.events.specs.declared.answer.CoordRefusal.{CoordRefusal}
use Rattle.events.specs.declared.answer.CoordRefusal.TheVariants as coord
use Rattle.events.specs.declared.answer.CoordNote.TheVariants as note
use Rattle.protocol.specs.Ledger.{Limits, Ledger, Lease, Work, begin_work, notes, has_slot, some_lease, is_leased, is_free, lowest, slot_for, all_taken, busy, is_saved, pick, Decision, Give, Deny, Wait, another, elsewhere, decision, lease_for, raised, gives, carried_out, tried, try_all, waiting, retried, is_of, lease_of, is_parked, recall, recalls, holds_wanted, decided, acquiring, has_ticket, lease_under, without, ends, commits, confirms, is_its, may_commit, may_release, on_all, committing, released, answering, is_older, is_older_ask, sees, is_home, newer_life, handled, retires, withdraws, withdrawing, withdrawn, is_at, goes, retired, prunes, pruned, reads, saves}
use Rattle.protocol.specs.Ledger as ledger
use Rattle.protocol.specs.Follows.{NoLease}
use Rattle.protocol.specs.Lawful.{IsNumber, IsSpeaker, IsRequest, IsSaid, IsAsker, want_of, IsHolder, IsWaiter, AreApart, AllApart, IsCore, AreWaiters, IsLawful, IsLawfulWork, EveryLedgerStaysLawful}
use Rattle.protocol.proofs.Base.{true_false, none_some, eqb_same, put_same, put_other, slot_eq_is, in_append, in_one, from_map, any_in, from_any, any_none, from_filter}
use Rattle.protocol.proofs.Leases.{lowest_is, find_some, find_none, flip_false, waits_give, waits_less, waits_filter, waits_push}
use Rattle.protocol.proofs.Following.{pick_give}
use Rattle.protocol.proofs.Trying.{raised_covers, tried-gone, tried-lives, tried_waits, try-gone, try-lives, waiting_in, waiting_waits}

-- ---- leases

of_flip : (g h : Lease) → is_of g.node g.life g.ask h ≡ is_of h.node h.life h.ask g
of_flip g h =
    let n = flip_false h.node.0 g.node.0 in
    let l = flip_false h.life.0 g.life.0 in
    let a = flip_false h.ask.0 g.ask.0 in
    rw (n, l, a) refl

apart_push : (live : List Lease) (h : Lease) → AllApart live → ((g : Lease) → In g live → AreApart g h) → AllApart (live ++ h ∷ [])
apart_push [] h all new = (λ x i. absurd i, tt)
apart_push (g ∷ live) h all new = (
  λ x i. elim (in_append x live (h ∷ []) i) [
    | inl j ↦ all.0 x j
    | inr j ↦ subst (AreApart g) (sym (in_one x h j)) (new g (inl refl))
  ],
  apart_push live h all.1 (λ x i. new x (inr i)),
)

apart_filter : (test : Lease → Bool) (live : List Lease) → AllApart live → AllApart (filter test live)
apart_filter test [] all = tt
apart_filter test (g ∷ live) all = elim (cases_Bool (test g)) [
  | inl t ↦ rw t (λ x i. all.0 x (from_filter test x live i).0, apart_filter test live all.1)
  | inr t ↦ rw t (apart_filter test live all.1)
]

-- two of them have no slot in common
apart_slots : (live : List Lease) (g h : Lease) → AllApart live → In g live → In h live → g ≢ h → (s : Slot) → has_slot h.slots s ≡ true → has_slot g.slots s ≡ false
apart_slots [] g h all i j other s has = absurd i
apart_slots (x ∷ live) g h all (inl e) (inl f) other s has = absurd (other (e ∙ sym f))
apart_slots (x ∷ live) g h all (inl e) (inr j) other s has = elim (cases_Bool (has_slot g.slots s)) [
  | inr none ↦ none
  | inl t ↦ true_false (has_slot h.slots s) has ((all.0 h j).slots s (subst (λ (z : Lease). has_slot z.slots s ≡ true) e t))
]
apart_slots (x ∷ live) g h all (inr i) (inl f) other s has = (all.0 g i).slots s (subst (λ (z : Lease). has_slot z.slots s ≡ true) f has)
apart_slots (x ∷ live) g h all (inr i) (inr j) other s has = apart_slots live g h all.1 i j other s has

wants_back : (instances : ℕ) (free : Slot → Bool) (ws : List Want) → map want_of (map (λ (w : Want). (slot_for instances free w, w.writable)) ws) ≡ ws
wants_back instances free [] = refl
wants_back instances free (w ∷ ws) = ap (λ l. w ∷ l) (wants_back instances free ws)

-- a slot of a folder with one slot isn't retired
unretired : (retired : Slot → Bool) (s : Slot) → ((s : Slot) → retired s ≡ true → is_private s.folder.mode ≡ true) → is_private s.folder.mode ≡ false → retired s ≡ false
unretired retired s only f = elim (cases_Bool (retired s)) [ inl r ↦ true_false (is_private s.folder.mode) (only s r) f | inr r ↦ r ]

-- the slot that a want gets is free
slot_free : (instances : ℕ) (q : Ledger) (w : Want) → ((s : Slot) → q.retired s ≡ true → is_private s.folder.mode ≡ true)
    → (is_private w.folder.mode && eqb (lowest (is_free q) w.folder 1 instances) 0) ≡ false → (not (is_private w.folder.mode) && is_leased q (only_slot w.folder)) ≡ false → is_free q (slot_for instances (is_free q) w) ≡ true
slot_free instances q w only left idle = elim (cases_Bool (is_private w.folder.mode)) [
  | inl t ↦ (let some : eqb (lowest (is_free q) w.folder 1 instances) 0 ≡ false = rw t at left in
      rw t (lowest_is (is_free q) w.folder instances 1 (eqb-false (lowest (is_free q) w.folder 1 instances) 0 some)).0)
  | inr t ↦ (let unleased : is_leased q (only_slot w.folder) ≡ false = rw t at idle in
      let kept : q.retired (only_slot w.folder) ≡ false = unretired q.retired (only_slot w.folder) only t in
      rw t (rw (unleased, kept) refl))
]

free_slots : (instances : ℕ) (q : Ledger) (ws : List Want) → ((s : Slot) → q.retired s ≡ true → is_private s.folder.mode ≡ true)
    → all_taken instances (is_free q) ws ≡ false → busy (is_leased q) ws ≡ false → (s : Slot) → has_slot (map (λ (w : Want). (slot_for instances (is_free q) w, w.writable)) ws) s ≡ true → is_free q s ≡ true
free_slots instances q ws only left idle s has =
    let x = from_any (λ (x : Slot × Bool). slot_eq x.0 s) (map (λ (w : Want). (slot_for instances (is_free q) w, w.writable)) ws) has in
    let y = from_map (λ (w : Want). (slot_for instances (is_free q) w, w.writable)) x.0 ws x.1 in
    let w : Want = y.0 in
    let same : slot_for instances (is_free q) w ≡ s = sym (ap (λ (z : Slot × Bool). z.0) y.2) ∙ slot_eq_is x.0.0 s x.2 in
    subst (λ z. is_free q z ≡ true) same (slot_free instances q w only
    (any_none (λ (v : Want). is_private v.folder.mode && eqb (lowest (is_free q) v.folder 1 instances) 0) w ws left y.1)
    (any_none (λ (v : Want). not (is_private v.folder.mode) && is_leased q (only_slot v.folder)) w ws idle y.1))

neither : (a b c : Bool) → b ≡ false → c ≡ false → ((a && b) || c) ≡ false
neither true b c e f = rw (e, f) refl
neither false b c e f = f

only : (a b c : Bool) → (c ≡ true → a ≡ true) → ((a && b) || c) ≡ true → a ≡ true
only true b c h e = refl
only false b c h e = h e

le_suc : (a b : ℕ) → a ≤ b → a ≤ b + 1
le_suc a b h = omega arith

module _ (top : ℕ) (k : Limits) where
  -- ---- granting

  gives_core : (p : Parked) (w : Work) → IsCore top w.ledger → IsWaiter top w.ledger.lives w.ledger.gone p → NoLease w.ledger.live p → decision k w.ledger p ≡ Give → IsCore top (gives k p w).ledger
  unfolding gives decision
  gives_core p w c wait none e =
      let q : Ledger = w.ledger in
      let h : Lease = lease_for k q p in
      let ws : List Want = leased_wants p.tenure p.wants in
      let picked = pick_give (elsewhere q p) (all_taken k.instances (is_free q) ws) (busy (is_leased q) ws) (not (nat_lt q.last k.greatest)) e in
      let free : (s : Slot) → has_slot h.slots s ≡ true → is_free q s ≡ true = free_slots k.instances q ws c.retired picked.left picked.idle in
      record {
        holders = λ g i. elim (in_append g q.live (h ∷ []) i) [
          | inl j ↦ c.holders g j
          | inr j ↦ subst (IsHolder top q.lives q.gone q.retired) (sym (in_one g h j)) (record {
            asker = wait.asker;
            ticket = omega arith;
            wants = (p.wants, wait.wants, wants_back k.instances (is_free q) ws);
            kept = λ s has. not-true (q.retired s) (and_parts (not (some_lease q.live s)) (not (q.retired s)) (free s has)).1;
          })
        ];
        apart = apart_push q.live h c.apart (λ g i. record {
          ticket = (let le : g.ticket.0 ≤ q.last = c.given g i in omega arith);
          ask = of_flip g h ∙ none g i;
          slots = λ s has. elim (cases_Bool (has_slot h.slots s)) [
            | inr none ↦ none
            | inl t ↦ true_false (some_lease q.live s) (any_in (λ (x : Lease). has_slot x.slots s) g q.live i has) (not-true (some_lease q.live s) (and_parts (not (some_lease q.live s)) (not (q.retired s)) (free s t)).0)
          ];
        });
        given = λ g i. elim (in_append g q.live (h ∷ []) i) [
          | inl j ↦ le_suc g.ticket.0 q.last (c.given g j)
          | inr j ↦ (let at : g.ticket.0 ≡ q.last + 1 = ap (λ (z : Lease). z.ticket.0) (in_one g h j) in omega arith)
        ];
        retired = c.retired;
        versions = c.versions;
        block = raised_covers k q c.block (not-false (nat_lt q.last k.greatest) picked.below);
        home = c.home;
        lives = c.lives;
        gone = c.gone;
      }

  carried_core : (d : Decision) (p : Parked) (w : Work) → IsCore top w.ledger → IsWaiter top w.ledger.lives w.ledger.gone p → NoLease w.ledger.live p → decision k w.ledger p ≡ d → IsCore top (carried_out k d p w).ledger
  carried_core Give p w c wait none e = gives_core p w c wait none e
  carried_core (Deny why) p w c wait none e = c
  carried_core Wait p w c wait none e = c

  tried_core : (p : Parked) (w : Work) → IsCore top w.ledger → IsWaiter top w.ledger.lives w.ledger.gone p → NoLease w.ledger.live p → IsCore top (tried k p w).ledger
  unfolding tried
  tried_core p w c wait none = carried_core (decision k w.ledger p) p w c wait none refl

  -- a waiter of a ledger with the same lives and retired nodes
  same_waiter : (lives lives' : ℕ → ℕ) (gone gone' : ℕ → Bool) (p : Parked) → lives' ≡ lives → gone' ≡ gone → IsWaiter top lives gone p → IsWaiter top lives' gone' p
  same_waiter lives lives' gone gone' p e f wait = subst (λ l. IsWaiter top l gone' p) (sym e) (subst (λ g. IsWaiter top lives g p) (sym f) wait)

  try_core : (ps : List Parked) (w : Work) → IsCore top w.ledger → AreWaiters top w.ledger ps → IsCore top (try_all k ps w).ledger
  try_core [] w c a = c
  try_core (p ∷ ps) w c a = try_core ps (tried k p w) (tried_core p w c (a.each p (inl refl)) a.waits.0) (record {
    each = λ r i. same_waiter w.ledger.lives (tried k p w).ledger.lives w.ledger.gone (tried k p w).ledger.gone r (tried-lives k p w) (tried-gone k p w) (a.each r (inr i));
    waits = tried_waits k p w ps a.waits.1 a.waits.2;
  })

  retried_lawful : (w : Work) → IsLawful top w.ledger → IsLawful top (retried k w).ledger
  unfolding retried
  retried_lawful w l =
      let ps : List Parked = w.ledger.parked in
      let c = try_core ps w l.core l.parked in
      record {
        core = record { holders = c.holders; apart = c.apart; given = c.given; retired = c.retired; versions = c.versions; block = c.block; home = c.home; lives = c.lives; gone = c.gone };
        parked = record {
          each = λ p i. same_waiter w.ledger.lives (try_all k ps w).ledger.lives w.ledger.gone (try_all k ps w).ledger.gone p (try-lives k ps w) (try-gone k ps w) (l.parked.each p (waiting_in k ps w p i));
          waits = waiting_waits k ps w l.parked.waits;
        };
      }

  retried-lives : (w : Work) → (retried k w).ledger.lives ≡ w.ledger.lives
  unfolding retried
  retried-lives w = try-lives k w.ledger.parked w

  retried-gone : (w : Work) → (retried k w).ledger.gone ≡ w.ledger.gone
  unfolding retried
  retried-gone w = try-gone k w.ledger.parked w

  -- ---- Acquire

  gives_parked : (p : Parked) (w : Work) → AreWaiters top w.ledger w.ledger.parked → is_parked w.ledger.parked p.node p.life p.ask ≡ false → AreWaiters top (gives k p w).ledger (gives k p w).ledger.parked
  unfolding gives
  gives_parked p w a other = record { each = a.each; waits = waits_give w.ledger.live (lease_for k w.ledger p) p w.ledger.parked refl refl refl other a.waits }

  recall_parks : (o : Option Lease) (p : Parked) (w : Work) → IsLawful top (record w.ledger { parked = w.ledger.parked ++ p ∷ [] }) → IsLawful top (record (recall o w).ledger { parked = w.ledger.parked ++ p ∷ [] })
  recall_parks None p w l = l
  recall_parks (Some g) p w l = l

  recalls_parks : (b : Bool) (p : Parked) (w : Work) → IsLawful top (record w.ledger { parked = w.ledger.parked ++ p ∷ [] }) → IsLawful top (record (recalls b p w).ledger { parked = w.ledger.parked ++ p ∷ [] })
  recalls_parks true p w l = recall_parks (find (holds_wanted p) w.ledger.live) p w l
  recalls_parks false p w l = l

  decided_lawful : (d : Decision) (p : Parked) (w : Work) → IsLawful top w.ledger → IsWaiter top w.ledger.lives w.ledger.gone p → NoLease w.ledger.live p → is_parked w.ledger.parked p.node p.life p.ask ≡ false → decision k w.ledger p ≡ d → IsLawful top (decided k d p w).ledger
  decided_lawful Give p w l wait none other e = record { core = gives_core p w l.core wait none e; parked = gives_parked p w l.parked other }
  decided_lawful (Deny why) p w l wait none other e = l
  decided_lawful Wait p w l wait none other e =
      let c = l.core in
      recalls_parks (p.tenure && not (elsewhere w.ledger p)) p w (record {
        core = record { holders = c.holders; apart = c.apart; given = c.given; retired = c.retired; versions = c.versions; block = c.block; home = c.home; lives = c.lives; gone = c.gone };
        parked = record {
          each = λ r i. elim (in_append r w.ledger.parked (p ∷ []) i) [ inl j ↦ l.parked.each r j | inr j ↦ subst (IsWaiter top w.ledger.lives w.ledger.gone) (sym (in_one r p j)) wait ];
          waits = waits_push w.ledger.live w.ledger.parked p l.parked.waits none other;
        };
      })

  acquiring_lawful : (o : Option Lease) (b : Bool) (p : Parked) (w : Work) → IsLawful top w.ledger → IsWaiter top w.ledger.lives w.ledger.gone p → lease_of w.ledger.live p.node p.life p.ask ≡ o → is_parked w.ledger.parked p.node p.life p.ask ≡ b → IsLawful top (acquiring k o b p w).ledger
  acquiring_lawful (Some g) b p w l wait e f = l
  acquiring_lawful None true p w l wait e f = l
  acquiring_lawful None false p w l wait e f = decided_lawful (decision k w.ledger p) p w l wait (find_none (is_of p.node p.life p.ask) w.ledger.live e) f refl

  -- ---- leases end

  -- some leases fewer
  fewer : (test : Lease → Bool) (q : Ledger) → IsLawful top q → IsLawful top (record q { live = filter test q.live })
  fewer test q l =
      let c = l.core in
      record {
        core = record {
          holders = λ g i. c.holders g (from_filter test g q.live i).0;
          apart = apart_filter test q.live c.apart;
          given = λ g i. c.given g (from_filter test g q.live i).0;
          retired = c.retired;
          versions = c.versions;
          block = c.block;
          home = c.home;
          lives = c.lives;
          gone = c.gone;
        };
        parked = record { each = l.parked.each; waits = waits_less q.live (filter test q.live) q.parked (λ g i. (from_filter test g q.live i).0) l.parked.waits };
      }

  version_in : (v : LineVersion) (t : Ticket) (o : Option Digest) → In v (version_of t o) → v.ticket ≡ t
  version_in v t None i = absurd i
  version_in v t (Some d) i = ap (λ (z : LineVersion). z.ticket) (in_one v (record { ticket = t; digest = d }) i)

  may_commit_some : (n : NodeId) (life : Life) (news : List News) (o : Option Lease) → may_commit n life news o ≡ true → (g : Lease) × (o ≡ Some g)
  may_commit_some n life news None h = (let bad : false ≡ true = h in cc)
  may_commit_some n life news (Some g) h = (g, refl)

  commits_lawful : (t : Ticket) (news : List News) (w : Work) (g : Lease) → IsLawful top w.ledger → lease_under w.ledger.live t ≡ Some g → IsLawful top (commits t news w).ledger
  commits_lawful t news w g l e =
      let q : Ledger = w.ledger in
      let rest = fewer (λ x. not (has_ticket t x)) q l in
      let found = find_some (has_ticket t) q.live g e in
      let some : 1 ≤ t.0 = subst (λ n. 1 ≤ n) (eqb-true g.ticket.0 t.0 found.1) (l.core.holders g found.0).ticket in
      record {
        core = record {
          holders = rest.core.holders;
          apart = rest.core.apart;
          given = rest.core.given;
          retired = rest.core.retired;
          versions = λ s v i. elim (in_append v (q.line s) (version_of t (digest_for s news)) i) [
            | inl j ↦ l.core.versions s v j
            | inr j ↦ subst (λ (z : Ticket). 1 ≤ z.0) (sym (version_in v t (digest_for s news) j)) some
          ];
          block = rest.core.block;
          home = rest.core.home;
          lives = rest.core.lives;
          gone = rest.core.gone;
        };
        parked = record { each = rest.parked.each; waits = rest.parked.waits };
      }

  committing_lawful : (b : Bool) (n : NodeId) (life : Life) (t : Ticket) (news : List News) (w : Work) → IsLawful top w.ledger → may_commit n life news (lease_under w.ledger.live t) ≡ b → IsLawful top (committing k b n life t news w).ledger
  committing_lawful true n life t news w l e =
      let found = may_commit_some n life news (lease_under w.ledger.live t) e in
      retried_lawful (confirms n life t news (commits t news w)) (commits_lawful t news w found.0 l found.1)
  committing_lawful false n life t news w l e = by (not (is_nil news) && on_all w.ledger.line t news)
    where
      by : (b : Bool) → IsLawful top (ledger.answered b n life t news w).ledger
      by true = l
      by false = l

  released_lawful : (b : Bool) (t : Ticket) (o : Option Lease) (w : Work) → IsLawful top w.ledger → IsLawful top (released k b t o w).ledger
  released_lawful b t None w l = l
  released_lawful false t (Some g) w l = l
  released_lawful true t (Some g) w l = retried_lawful (ends g w) (fewer (λ x. not (has_ticket g.ticket x)) w.ledger l)

  -- ---- a newer life

  not_older : (a b : ℕ) → nat_lt a b ≡ false → b ≤ a
  not_older a b h = grind (arith, nat_tests)

  cleared_home : (n : NodeId) (o : Option NodeId) (h : NodeId) → cleared n o ≡ Some h → o ≡ Some h
  cleared_home n None h e = e
  cleared_home n (Some x) h e = elim (cases_Bool (eqb x.0 n.0)) [
    | inl t ↦ (let bad : None ≡ Some h = rw t at e in none_some h bad)
    | inr t ↦ rw t at e
  ]

  -- an asker of another life of the node than an older one has the newer life's number
  asker_after : (n : NodeId) (life : Life) (lives : ℕ → ℕ) (gone : ℕ → Bool) (m : NodeId) (l : Life) (a : Ask) → lives n.0 < life.0 → (eqb m.0 n.0 && nat_lt l.0 life.0) ≡ false → IsAsker top lives gone m l a → IsAsker top (put n.0 life.0 lives) gone m l a
  asker_after n life lives gone m l a newer kept asker = record {
    speaker = asker.speaker;
    ask = asker.ask;
    life = elim (cases_eq m.0 n.0) [
      | inr ne ↦ put_other n.0 life.0 lives m.0 ne ∙ asker.life
      | inl e ↦ (let t : eqb m.0 n.0 ≡ true = subst (λ z. eqb m.0 z ≡ true) e (eqb_same m.0) in
          let young : nat_lt l.0 life.0 ≡ false = rw t at kept in
          let le : life.0 ≤ l.0 = not_older l.0 life.0 young in
          let at : lives n.0 ≡ l.0 = ap lives (sym e) ∙ asker.life in
          absurd (omega arith))
    ];
    stays = asker.stays;
  }

  sees_lawful : (n : NodeId) (life : Life) (w : Work) → IsSpeaker top n life → w.ledger.lives n.0 < life.0 → IsLawful top w.ledger → IsLawful top (sees n life w).ledger
  sees_lawful n life w speaker newer l =
      let q : Ledger = w.ledger in
      let c = l.core in
      let young : Lease → Bool = λ g. not (is_older n life g) in
      let old_ask : Parked → Bool = λ p. not (is_older_ask n life p) in
      record {
        core = record {
          holders = λ g i.
              (let f = from_filter young g q.live i in
              let h = c.holders g f.0 in
              record { asker = asker_after n life q.lives q.gone g.node g.life g.ask newer (not-true (is_older n life g) f.1) h.asker; ticket = h.ticket; wants = h.wants; kept = h.kept });
          apart = apart_filter young q.live c.apart;
          given = λ g i. c.given g (from_filter young g q.live i).0;
          retired = c.retired;
          versions = c.versions;
          block = c.block;
          home = λ h e. c.home h (cleared_home n q.old_home h e);
          lives = λ m some. elim (cases_eq m n.0) [
            | inl e ↦ subst (λ z. IsNumber top (record { 0 = z })) (sym e) speaker.node
            | inr ne ↦ c.lives m (subst (λ z. 1 ≤ z) (put_other n.0 life.0 q.lives m ne) some)
          ];
          gone = c.gone;
        };
        parked = record {
          each = λ p i.
              (let f = from_filter old_ask p q.parked i in
              let x = l.parked.each p f.0 in
              record { asker = asker_after n life q.lives q.gone p.node p.life p.ask newer (not-true (is_older_ask n life p) f.1) x.asker; wants = x.wants });
          waits = waits_less q.live (filter young q.live) (filter old_ask q.parked) (λ g i. (from_filter young g q.live i).0) (waits_filter q.live old_ask q.parked l.parked.waits);
        };
      }

  newer_lawful : (n : NodeId) (life : Life) (w : Work) → IsSpeaker top n life → w.ledger.lives n.0 < life.0 → IsLawful top w.ledger → IsLawful top (newer_life k n life w).ledger
  unfolding newer_life
  newer_lawful n life w speaker newer l = elim (cases_Bool (list_any (is_older n life) w.ledger.live || is_home n w.ledger.old_home)) [
    | inl t ↦ rw t (retried_lawful (sees n life w) (sees_lawful n life w speaker newer l))
    | inr t ↦ rw t (sees_lawful n life w speaker newer l)
  ]

  newer-lives : (n : NodeId) (life : Life) (w : Work) → (newer_life k n life w).ledger.lives n.0 ≡ life.0
  unfolding newer_life
  newer-lives n life w = elim (cases_Bool (list_any (is_older n life) w.ledger.live || is_home n w.ledger.old_home)) [
    | inl t ↦ rw t (ap (λ (f : ℕ → ℕ). f n.0) (retried-lives (sees n life w)) ∙ put_same n.0 life.0 w.ledger.lives)
    | inr t ↦ rw t (put_same n.0 life.0 w.ledger.lives)
  ]

  newer-gone : (n : NodeId) (life : Life) (w : Work) → (newer_life k n life w).ledger.gone ≡ w.ledger.gone
  unfolding newer_life
  newer-gone n life w = elim (cases_Bool (list_any (is_older n life) w.ledger.live || is_home n w.ledger.old_home)) [ inl t ↦ rw t (retried-gone (sees n life w)) | inr t ↦ rw t refl ]

  -- ---- messages

  answering_lawful : (n : NodeId) (life : Life) (r : Request) (w : Work) → IsSpeaker top n life → IsRequest r → w.ledger.lives n.0 ≡ life.0 → w.ledger.gone n.0 ≡ false → IsLawful top w.ledger → IsLawful top (answering k n life r w).ledger
  answering_lawful n life Hello w speaker r now here l = l
  answering_lawful n life (Acquire a wants tenure) w speaker r now here l =
      acquiring_lawful (lease_of w.ledger.live n life a) (is_parked w.ledger.parked n life a) (record { node = n; life = life; ask = a; wants = wants; tenure = tenure }) w l
      (record { asker = record { speaker = speaker; ask = r.0; life = now; stays = here }; wants = r.1 }) refl refl
  answering_lawful n life (Commit t news) w speaker r now here l = committing_lawful (may_commit n life news (lease_under w.ledger.live t)) n life t news w l refl
  answering_lawful n life (Release t) w speaker r now here l = released_lawful (may_release n life (lease_under w.ledger.live t)) t (lease_under w.ledger.live t) w l

  lt_is : (a b : ℕ) → nat_lt a b ≡ true → a < b
  lt_is a b h = grind (arith, nat_tests)

  same_life : (a b : ℕ) → nat_lt a b ≡ false → nat_lt b a ≡ false → b ≡ a
  same_life a b h i = grind (arith, nat_tests)

  handled_lawful : (y : ToCoord) (w : Work) → IsSaid top y → IsLawful top w.ledger → IsLawful top (handled k y w).ledger
  unfolding handled
  handled_lawful y w said l = elim (cases_Bool (w.ledger.gone y.node.0)) [
    | inl t ↦ rw t l
    | inr here ↦ rw here (elim (cases_Bool (nat_lt y.life.0 (w.ledger.lives y.node.0))) [
      | inl t ↦ rw t l
      | inr old ↦ rw old (elim (cases_Bool (nat_lt (w.ledger.lives y.node.0) y.life.0)) [
        | inl newer ↦ rw newer (answering_lawful y.node y.life y.request (newer_life k y.node y.life w) said.speaker said.request (newer-lives y.node y.life w)
            (ap (λ (f : ℕ → Bool). f y.node.0) (newer-gone y.node y.life w) ∙ here) (newer_lawful y.node y.life w said.speaker (lt_is (w.ledger.lives y.node.0) y.life.0 newer) l))
        | inr same ↦ rw same (answering_lawful y.node y.life y.request w said.speaker said.request (same_life y.life.0 (w.ledger.lives y.node.0) old same) here l)
      ])
    ])
  ]

  -- ---- calls

  if_lawful : (b : Bool) (e : CoordRefusal) (r : Result Work CoordRefusal) → IsLawfulWork top r → IsLawfulWork top (if b then Err e else r)
  if_lawful true e r h = tt
  if_lawful false e r h = h

  -- a lease of another ticket has no slot that is retired with this one
  withdraws_lawful : (g : Lease) (w : Work) → In g w.ledger.live → IsLawful top w.ledger → IsLawful top (withdraws g w).ledger
  withdraws_lawful g w i l =
      let q : Ledger = w.ledger in
      let other : Lease → Bool = λ x. not (has_ticket g.ticket x) in
      let rest = fewer other q l in
      let c = l.core in
      record {
        core = record {
          holders = λ h j.
              (let f = from_filter other h q.live j in
              let x = c.holders h f.0 in
              let differs : g ≢ h = λ e. true_false (has_ticket g.ticket h) (subst (λ (z : Lease). eqb z.ticket.0 g.ticket.0 ≡ true) e (eqb_same g.ticket.0)) (not-true (has_ticket g.ticket h) f.1) in
              record {
                asker = x.asker;
                ticket = x.ticket;
                wants = x.wants;
                kept = λ s has. (let none = apart_slots q.live g h c.apart i f.0 differs s has in let old = x.kept s has in neither (is_private s.folder.mode) (has_slot g.slots s) (q.retired s) none old);
              });
          apart = rest.core.apart;
          given = rest.core.given;
          retired = λ s e. only (is_private s.folder.mode) (has_slot g.slots s) (q.retired s) (c.retired s) e;
          versions = c.versions;
          block = c.block;
          home = c.home;
          lives = c.lives;
          gone = c.gone;
        };
        parked = record { each = rest.parked.each; waits = rest.parked.waits };
      }

  withdrawing_lawful : (o : Option Lease) (t : Ticket) (q : Ledger) → IsLawful top q → lease_under q.live t ≡ o → IsLawfulWork top (withdrawing k o (begin_work q))
  withdrawing_lawful None t q l e = tt
  withdrawing_lawful (Some g) t q l e =
      if_lawful (g.tenure) coord.Tenure (Ok (notes (note.Withdrawn g.ticket) (retried k (withdraws g (begin_work q))))) (retried_lawful (withdraws g (begin_work q)) (withdraws_lawful g (begin_work q) (find_some (has_ticket t) q.live g e).0 l))

  goes_lawful : (n : NodeId) (w : Work) → IsNumber top n → IsLawful top w.ledger → IsLawful top (goes n w).ledger
  goes_lawful n w number l =
      let q : Ledger = w.ledger in
      let other : Lease → Bool = λ x. not (is_at n x) in
      let stays : Parked → Bool = λ p. not (eqb p.node.0 n.0) in
      let rest = fewer other q l in
      let c = l.core in
      record {
        core = record {
          holders = λ h j.
              (let f = from_filter other h q.live j in
              let x = c.holders h f.0 in
              let away : eqb h.node.0 n.0 ≡ false = not-true (is_at n h) f.1 in
              record {
                asker = elsewhere_asker h.node h.life h.ask away x.asker;
                ticket = x.ticket;
                wants = x.wants;
                kept = λ s has. elim (cases_Bool (some_lease (filter (is_at n) q.live) s)) [
                  | inr none ↦ neither (is_private s.folder.mode) (some_lease (filter (is_at n) q.live) s) (q.retired s) none (x.kept s has)
                  | inl some ↦ (let g = from_any (λ (z : Lease). has_slot z.slots s) (filter (is_at n) q.live) some in
                      let at = from_filter (is_at n) g.0 q.live g.1 in
                      let differs : g.0 ≢ h = λ e. true_false (eqb h.node.0 n.0) (subst (λ (z : Lease). eqb z.node.0 n.0 ≡ true) e at.1) away in
                      true_false (has_slot g.0.slots s) g.2 (apart_slots q.live g.0 h c.apart at.0 f.0 differs s has))
                ];
              });
          apart = rest.core.apart;
          given = rest.core.given;
          retired = λ s e. only (is_private s.folder.mode) (some_lease (filter (is_at n) q.live) s) (q.retired s) (c.retired s) e;
          versions = c.versions;
          block = c.block;
          home = c.home;
          lives = c.lives;
          gone = λ m e. elim (cases_eq m n.0) [
            | inl same ↦ subst (λ z. IsNumber top (record { 0 = z })) (sym same) number
            | inr ne ↦ c.gone m (sym (put_other n.0 true q.gone m ne) ∙ e)
          ];
        };
        parked = record {
          each = λ p i.
              (let f = from_filter stays p q.parked i in
              let x = l.parked.each p f.0 in
              record { asker = elsewhere_asker p.node p.life p.ask (not-true (eqb p.node.0 n.0) f.1) x.asker; wants = x.wants });
          waits = waits_less q.live (filter other q.live) (filter stays q.parked) (λ g i. (from_filter other g q.live i).0) (waits_filter q.live stays q.parked l.parked.waits);
        };
      }
    where
      elsewhere_asker : (m : NodeId) (life : Life) (a : Ask) → eqb m.0 n.0 ≡ false → IsAsker top w.ledger.lives w.ledger.gone m life a → IsAsker top w.ledger.lives (put n.0 true w.ledger.gone) m life a
      elsewhere_asker m life a away x = record { speaker = x.speaker; ask = x.ask; life = x.life; stays = put_other n.0 true w.ledger.gone m.0 (eqb-false m.0 n.0 away) ∙ x.stays }

  retired_lawful : (n : NodeId) (q : Ledger) → IsNumber top n → IsLawful top q → IsLawfulWork top (retired k n (begin_work q))
  retired_lawful n q number l =
      if_lawful (q.gone n.0) coord.NodeRetired _ (if_lawful (list_any (λ (g : Lease). is_at n g && g.tenure) q.live || is_home n q.old_home) coord.TenureHeld _ (by (list_any (is_at n) q.live)))
    where
      by : (b : Bool) → IsLawful top (if b then retried k (goes n (begin_work q)) else goes n (begin_work q)).ledger
      by true = retried_lawful (goes n (begin_work q)) (goes_lawful n (begin_work q) number l)
      by false = goes_lawful n (begin_work q) number l

  prunes_lawful : (s : Slot) (q : Ledger) → nat_lt q.last k.greatest ≡ true → IsLawful top q → IsLawful top (prunes k s (begin_work q)).ledger
  prunes_lawful s q below l =
      let c = l.core in
      record {
        core = record {
          holders = c.holders;
          apart = c.apart;
          given = λ g i. le_suc g.ticket.0 q.last (c.given g i);
          retired = c.retired;
          versions = λ x v i. elim (cases_Bool (slot_eq s x)) [
            | inr other ↦ c.versions x v (rw other at i)
            | inl t ↦ (let j : In v (q.line x ++ record { ticket = record { 0 = q.last + 1 }; digest = k.empty } ∷ []) = rw t at i in
                elim (in_append v (q.line x) (record { ticket = record { 0 = q.last + 1 }; digest = k.empty } ∷ []) j) [
                  | inl old ↦ c.versions x v old
                  | inr new ↦ (let at : v.ticket.0 ≡ q.last + 1 = ap (λ (z : LineVersion). z.ticket.0) (in_one v (record { ticket = record { 0 = q.last + 1 }; digest = k.empty }) new) in omega arith)
                ])
          ];
          block = raised_covers k q c.block below;
          home = c.home;
          lives = c.lives;
          gone = c.gone;
        };
        parked = record { each = l.parked.each; waits = l.parked.waits };
      }

  pruned_lawful : (s : Slot) (q : Ledger) → IsLawful top q → IsLawfulWork top (pruned k s (begin_work q))
  pruned_lawful s q l = if_lawful (is_leased q s) coord.SlotLeased _ (if_lawful (is_nil (q.line s)) coord.NoSuchSlot _ (by (nat_lt q.last k.greatest) refl))
    where
      by : (b : Bool) → nat_lt q.last k.greatest ≡ b → IsLawfulWork top (if b then Ok (notes (note.Pruned (record { 0 = q.last + 1 })) (prunes k s (begin_work q))) else Err coord.TicketsSpent)
      by true e = prunes_lawful s q e l
      by false e = tt

  -- ---- the record

  reread_lawful : (q : Ledger) → IsLawful top q → IsLawful top (reads (saves q))
  reread_lawful q l =
      let c = (fewer is_saved q l).core in
      record {
        core = record {
          holders = c.holders;
          apart = c.apart;
          given = λ g i. (let low : g.ticket.0 ≤ q.last = c.given g i in let block : q.last ≤ q.ceiling = c.block in omega arith);
          retired = c.retired;
          versions = c.versions;
          block = omega arith;
          home = c.home;
          lives = c.lives;
          gone = c.gone;
        };
        parked = record { each = λ p i. absurd i; waits = tt };
      }

pub every_ledger_stays_lawful : EveryLedgerStaysLawful
every_ledger_stays_lawful top k q l = record {
  message = λ y said. handled_lawful top k y (begin_work q) said l;
  withdraw = λ t. withdrawing_lawful top k (lease_under q.live t) t q l refl;
  retire = λ n number. retired_lawful top k n q number l;
  prune = λ s. pruned_lawful top k s q l;
  restart = reread_lawful top k q l;
}
