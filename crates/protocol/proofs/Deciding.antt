-- When the coordinator refuses a call, and what it can't refuse.
use Rattle.std.proofs.Common.{◌≡◌, ◌≢◌, ℕ, ◌+◌, ◌≤◌, List, [], ◌∷◌, Bool, true, false, not, ◌&&◌, ◌||◌, eqb, Option, Some, None, Result, Ok, Err, refl, sym, ◌∙◌, ap, subst, inl, inr, arith}
use Rattle.std.proofs.lemmas.Bool.{eqb-true, and_parts, or_parts, cases_Bool}
use Rattle.std.proofs.lemmas.Bool.Decides.{nat_tests}
use Rattle.std.specs.List.{list_any}
use Rattle.std.specs.Prelude.{nat_lt, if◌then◌else◌}
use Rattle.farm_base.specs.Kinds.{is_tenure}
use Rattle.protocol.specs.Lists.{In, is_nil}
use Rattle.protocol.specs.Names.{Slot, slots_eq, NodeId, Life, Ticket, Digest}
use Rattle.protocol.specs.Machine.{Grant, Granted, ticket_of, News, LineVersion, Message, Parked, Machine, Live, slots_of, written}
use Rattle.farm_base.specs.declared.message.Request.{Request}
use Rattle.farm_base.specs.declared.message.Request.TheVariants.{Commit, Release}
use Rattle.events.specs.declared.answer.CoordNote.{CoordNote}
use Rattle.events.specs.declared.answer.CoordNote.TheVariants as note
use Rattle.events.specs.declared.answer.CoordRefusal.{CoordRefusal}
use Rattle.events.specs.declared.answer.CoordRefusal.TheVariants as refusal
use Rattle.protocol.specs.Replay.{Event, Withdraw, Prune, Retire}
use Rattle.protocol.specs.Ledger.{Limits, Ledger, Lease, Work, begin_work, has_slot, is_leased, writable_slots, Decision, Give, Deny, Wait, decision, gives, carried_out, tried, try_all, retried, has_ticket, lease_under, may_commit, may_release, committing, released, answering, is_older, sees, is_home, newer_life, handled, withdrawing, withdrawn, is_at, retired, pruned, notes, withdraws, prunes}
use Rattle.protocol.specs.Follows.{lease_from, Agrees, CommitIsTaken, ReleaseIsTaken}
use Rattle.protocol.specs.Reasons.{CallBecause}
use Rattle.protocol.proofs.Base.{true_false, eqb_same, node_is, ticket_is, from_any, any_none, in_left, in_filter, both_true}
use Rattle.protocol.proofs.Steps.{Sound, same_grant, made_below}
use Rattle.protocol.proofs.Leases.{core_of, not_leased, has_lease, writable-from, find_some, find_none, find_in}
use Rattle.protocol.proofs.Following.{slots_eq_same}
use Rattle.protocol.proofs.Others.{or_cases}
use Rattle.protocol.proofs.Calls.{not_nil}
use Rattle.protocol.proofs.Saving.{Apart, newer_saves}

nil_is : (vs : List LineVersion) → is_nil vs ≡ true → vs ≡ []
nil_is [] h = refl
nil_is (v ∷ vs) h = (let bad : false ≡ true = h in cc)

some_nil : (vs : List LineVersion) → vs ≡ [] → is_nil vs ≡ true
some_nil vs e = ap is_nil e

home_at : (n : NodeId) (o : Option NodeId) → is_home n o ≡ true → o ≡ Some n
home_at n None h = (let bad : false ≡ true = h in cc)
home_at n (Some x) h = ap Some (node_is x n (eqb-true x.0 n.0 h))

at_home : (n : NodeId) (o : Option NodeId) → o ≡ Some n → is_home n o ≡ true
at_home n o e = ap (is_home n) e ∙ eqb_same n.0

below : (a b : ℕ) → nat_lt a b ≡ false → b ≤ a
below a b h = grind (arith, nat_tests)

not_below : (a b : ℕ) → nat_lt a b ≡ true → b ≤ a → ⊥
not_below a b h = λ le. grind (arith, nat_tests)

le_not : (a b : ℕ) → b ≤ a → nat_lt a b ≡ false
le_not a b h = grind (arith, nat_tests)

not_lt_self : (a : ℕ) → nat_lt a a ≡ false
not_lt_self a = grind (arith, nat_tests)

-- its leases have tickets of their own
pub apart_of : (empty : Digest) (pool : List Message) (m : Machine) (q : Ledger) → Sound empty m → Agrees empty pool m q → Apart q
apart_of empty pool m q sound agrees = record {
  unique = λ x y i j t.
      (let a = agrees.live_made x i in
      let b = agrees.live_made y j in
      let same : a.0 ≡ b.0 = same_grant empty m sound a.0 b.0 a.1.0 b.1.0 (ap (λ (z : Lease). z.ticket.0) a.2 ∙ t ∙ sym (ap (λ (z : Lease). z.ticket.0) b.2)) in
      sym a.2 ∙ ap lease_from same ∙ b.2);
  top = λ x i.
      (let a = agrees.live_made x i in
      let le : ticket_of (Granted a.0) ≤ m.last = made_below empty m sound (Granted a.0) a.1.0 in
      let at : a.0.ticket.0 ≡ x.ticket.0 = ap (λ (z : Lease). z.ticket.0) a.2 in
      let last : q.last ≡ m.last = agrees.last in
      let le' : a.0.ticket.0 ≤ m.last = le in
      omega arith);
}

module _ (k : Limits) (pool : List Message) (m : Machine) (sound : Sound k.empty m) (q : Ledger) (agrees : Agrees k.empty pool m q) where
  -- a refusal has its reason, and what is accepted has none
  abbrev pub Exact : Event → Result Work CoordRefusal → Type 0
  Exact e (Ok w) = (r : CoordRefusal) → CallBecause k m e r → ⊥
  Exact e (Err r) = CallBecause k m e r

  on_test : (e : Event) (b : Bool) (r : CoordRefusal) (a : Result Work CoordRefusal) → (b ≡ true → CallBecause k m e r) → (b ≡ false → Exact e a) → Exact e (if b then Err r else a)
  on_test e true r a h g = h refl
  on_test e false r a h g = g refl

  -- ---- withdrawals

  withdrawing_exact : (t : Ticket) (o : Option Lease) → lease_under q.live t ≡ o → Exact (Withdraw t) (withdrawing k o (begin_work q))
  withdrawing_exact t None e = λ (g, live, at). true_false (has_ticket t (lease_from g)) (subst (λ (z : Ticket). eqb g.ticket.0 z.0 ≡ true) at (eqb_same g.ticket.0)) (find_none (has_ticket t) q.live e (lease_from g) (agrees.live_kept g live))
  withdrawing_exact t (Some h) e =
      let r = find_some (has_ticket t) q.live h e in
      let g = agrees.live_made h r.0 in
      let ticket : g.0.ticket ≡ t = ap (λ (z : Lease). z.ticket) g.2 ∙ ticket_is h.ticket t (eqb-true h.ticket.0 t.0 r.1) in
      on_test (Withdraw t) h.tenure refusal.Tenure (Ok (notes (note.Withdrawn h.ticket) (retried k (withdraws h (begin_work q))))) (λ tenure. (g.0, g.1, ticket, ap (λ (z : Lease). z.tenure) g.2 ∙ tenure))
      (none g.0 g.1 ticket (ap (λ (z : Lease). z.tenure) g.2))
    where
      none : (g : Grant) → Live m g → g.ticket ≡ t → is_tenure g.kind ≡ h.tenure → h.tenure ≡ false → (r : CoordRefusal) → CallBecause k m (Withdraw t) r → ⊥
      none g live at is free refusal.NotLive z = z (g, live, at)
      none g live at is free refusal.Tenure (x, l, at', tenure) =
          (let same : x ≡ g = same_grant k.empty m sound x g l.0 live.0 (ap (λ (z : Ticket). z.0) (at' ∙ sym at)) in
          true_false (is_tenure x.kind) tenure (ap (λ (z : Grant). is_tenure z.kind) same ∙ is ∙ free))
      none g live at is free r z = z

  pub withdrawn_exact : (t : Ticket) → Exact (Withdraw t) (withdrawn k t (begin_work q))
  withdrawn_exact t = withdrawing_exact t (lease_under q.live t) refl

  -- ---- prunes

  pub pruned_exact : (s : Slot) → Exact (Prune s) (pruned k s (begin_work q))
  pruned_exact s =
      on_test (Prune s) (is_leased q s) refusal.SlotLeased _
      (λ some. (let r = from_any (λ (g : Lease). has_slot g.slots s) q.live some in let g = agrees.live_made r.0 r.1 in (g.0, g.1, has_lease g.0 s (subst (λ (z : Lease). has_slot z.slots s ≡ true) (sym g.2) r.2))))
      (λ idle. on_test (Prune s) (is_nil (q.line s)) refusal.NoSuchSlot _ (λ nil. sym (agrees.lines s) ∙ nil_is (q.line s) nil) (λ some. spent idle some (nat_lt q.last k.greatest) refl))
    where
      none : is_leased q s ≡ false → is_nil (q.line s) ≡ false → nat_lt q.last k.greatest ≡ true → (r : CoordRefusal) → CallBecause k m (Prune s) r → ⊥
      none idle some left refusal.SlotLeased z = not_leased k.empty m q s (core_of k.empty pool m q agrees) idle z
      none idle some left refusal.NoSuchSlot z = true_false (is_nil (q.line s)) (some_nil (q.line s) (agrees.lines s ∙ z)) some
      none idle some left refusal.TicketsSpent z = not_below q.last k.greatest left (subst (λ n. k.greatest ≤ n) (sym agrees.last) z)
      none idle some left r z = z

      spent : is_leased q s ≡ false → is_nil (q.line s) ≡ false → (b : Bool) → nat_lt q.last k.greatest ≡ b → Exact (Prune s) (if b then Ok (notes (note.Pruned (record { 0 = q.last + 1 })) (prunes k s (begin_work q))) else Err refusal.TicketsSpent)
      spent idle some true left = none idle some left
      spent idle some false left = subst (λ n. k.greatest ≤ n) agrees.last (below q.last k.greatest left)

  -- ---- a node retires

  pub retired_exact : (n : NodeId) → Exact (Retire n) (retired k n (begin_work q))
  retired_exact n =
      let held : Lease → Bool = λ (g : Lease). is_at n g && g.tenure in
      on_test (Retire n) (q.gone n.0) refusal.NodeRetired _ (λ gone. sym (ap (λ (f : ℕ → Bool). f n.0) agrees.gone) ∙ gone)
      (λ here. on_test (Retire n) (list_any (λ (g : Lease). is_at n g && g.tenure) q.live || is_home n q.old_home) refusal.TenureHeld _
      (λ held. elim (or_cases (list_any (λ (g : Lease). is_at n g && g.tenure) q.live) (is_home n q.old_home) held) [
        | inl some ↦ (let r = from_any (λ (g : Lease). is_at n g && g.tenure) q.live some in
            let b = and_parts (is_at n r.0) r.0.tenure r.2 in
            let g = agrees.live_made r.0 r.1 in
            inl (g.0, g.1, ap (λ (z : Lease). z.node) g.2 ∙ node_is r.0.node n (eqb-true r.0.node.0 n.0 b.0), ap (λ (z : Lease). z.tenure) g.2 ∙ b.1))
        | inr home ↦ inr (sym agrees.old_home ∙ home_at n q.old_home home)
      ])
      (none here))
    where
      none : q.gone n.0 ≡ false → (list_any (λ (g : Lease). is_at n g && g.tenure) q.live || is_home n q.old_home) ≡ false → (r : CoordRefusal) → CallBecause k m (Retire n) r → ⊥
      none here free refusal.NodeRetired z = true_false (q.gone n.0) (ap (λ (f : ℕ → Bool). f n.0) agrees.gone ∙ z) here
      none here free refusal.TenureHeld (inl (g, live, at, tenure)) =
          (let o = or_parts (list_any (λ (g : Lease). is_at n g && g.tenure) q.live) (is_home n q.old_home) free in
          true_false (is_at n (lease_from g) && is_tenure g.kind) (both_true (is_at n (lease_from g)) (is_tenure g.kind) (subst (λ (z : NodeId). eqb g.node.0 z.0 ≡ true) at (eqb_same g.node.0)) tenure)
          (any_none (λ (g : Lease). is_at n g && g.tenure) (lease_from g) q.live o.0 (agrees.live_kept g live)))
      none here free refusal.TenureHeld (inr home) =
          (let o = or_parts (list_any (λ (g : Lease). is_at n g && g.tenure) q.live) (is_home n q.old_home) free in
          true_false (is_home n q.old_home) (at_home n q.old_home (agrees.old_home ∙ home)) o.1)
      none here free r z = z

  -- ---- a rightful Commit and Release

  -- a lease that is there stays while parked asks are tried
  carried_keeps : (h : Lease) (d : Decision) (p : Parked) (w : Work) → In h w.ledger.live → In h (carried_out k d p w).ledger.live
  unfolding gives
  carried_keeps h Give p w i = in_left h w.ledger.live _ i
  carried_keeps h (Deny why) p w i = i
  carried_keeps h Wait p w i = i

  try_keeps : (h : Lease) (ps : List Parked) (w : Work) → In h w.ledger.live → In h (try_all k ps w).ledger.live
  unfolding tried
  try_keeps h [] w i = i
  try_keeps h (p ∷ ps) w i = try_keeps h ps (tried k p w) (carried_keeps h (decision k w.ledger p) p w i)

  retried_keeps : (h : Lease) (w : Work) → In h w.ledger.live → In h (retried k w).ledger.live
  unfolding retried
  retried_keeps h w i = try_keeps h w.ledger.parked w i

  newer_keeps : (h : Lease) (n : NodeId) (l : Life) (w : Work) → is_older n l h ≡ false → In h w.ledger.live → In h (newer_life k n l w).ledger.live
  unfolding newer_life
  newer_keeps h n l w young i = elim (cases_Bool (list_any (is_older n l) w.ledger.live || is_home n w.ledger.old_home)) [
    | inl t ↦ rw t (retried_keeps h (sees n l w) stays)
    | inr t ↦ rw t stays
  ]
    where
      stays : In h (sees n l w).ledger.live
      stays = in_filter (λ (g : Lease). not (is_older n l g)) h w.ledger.live i (ap not young)

  same_age : (g : Grant) → is_older g.node g.life (lease_from g) ≡ false
  same_age g = (let n = eqb_same g.node.0 in let l = not_lt_self g.life.0 in rw (n, l) refl)

  -- the lease under a ticket of its own
  the_lease : (g : Grant) (w : Work) → Apart w.ledger → In (lease_from g) w.ledger.live → lease_under w.ledger.live g.ticket ≡ Some (lease_from g)
  the_lease g w apart i =
      let found = find_in (has_ticket g.ticket) w.ledger.live (lease_from g) i (eqb_same g.ticket.0) in
      let r = find_some (has_ticket g.ticket) w.ledger.live found.0 found.1 in
      found.1 ∙ ap Some (apart.unique found.0 (lease_from g) r.0 i (eqb-true found.0.ticket.0 g.ticket.0 r.1))

  commits_it : (g : Grant) (news : List News) (w : Work) → slots_of news ≡ written g.slots → news ≢ [] → Apart w.ledger → In (lease_from g) w.ledger.live → (answering k g.node g.life (Commit g.ticket news) w).note ≡ note.Committed g.ticket
  commits_it g news w slots some apart i =
      let nodes = eqb_same g.node.0 in
      let lifes = eqb_same g.life.0 in
      let eqs : slots_eq (slots_of news) (writable_slots (lease_from g).slots) ≡ true = subst (λ z. slots_eq (slots_of news) z ≡ true) (slots ∙ sym (writable-from g.slots)) (slots_eq_same (slots_of news)) in
      let nil = not_nil news some in
      let may : may_commit g.node g.life news (Some (lease_from g)) ≡ true = rw (nodes, lifes, eqs, nil) refl in
      ap (λ b. (committing k b g.node g.life g.ticket news w).note) (ap (may_commit g.node g.life news) (the_lease g w apart i) ∙ may)

  releases_it : (g : Grant) (w : Work) → Apart w.ledger → In (lease_from g) w.ledger.live → (answering k g.node g.life (Release g.ticket) w).note ≡ note.Released g.ticket
  releases_it g w apart i =
      let nodes = eqb_same g.node.0 in
      let lifes = eqb_same g.life.0 in
      let o = the_lease g w apart i in
      let may : may_release g.node g.life (Some (lease_from g)) ≡ true = rw (nodes, lifes) refl in
      ap (λ z. (released k (may_release g.node g.life z) g.ticket z w).note) o ∙ ap (λ b. (released k b g.ticket (Some (lease_from g)) w).note) may

  -- what is so of every work in which the lease is there is so of the handled message
  at_life : (g : Grant) (r : Request) (P : CoordNote → Type 0) → Live m g → m.gone g.node.0 ≡ false → m.lives g.node.0 ≤ g.life.0 → ((w : Work) → Apart w.ledger → In (lease_from g) w.ledger.live → P (answering k g.node g.life r w).note)
      → P (handled k (record { node = g.node; life = g.life; request = r }) (begin_work q)).note
  unfolding handled
  at_life g r P live here le so =
      let here' : q.gone g.node.0 ≡ false = ap (λ (f : ℕ → Bool). f g.node.0) agrees.gone ∙ here in
      let apart = apart_of k.empty pool m q sound agrees in
      let i = agrees.live_kept g live in
      let le' : q.lives g.node.0 ≤ g.life.0 = subst (λ (f : ℕ → ℕ). f g.node.0 ≤ g.life.0) (sym agrees.lives) le in
      let old : nat_lt g.life.0 (q.lives g.node.0) ≡ false = le_not g.life.0 (q.lives g.node.0) le' in
      rw (here', old) (elim (cases_Bool (nat_lt (q.lives g.node.0) g.life.0)) [
        | inl newer ↦ rw newer (so (newer_life k g.node g.life (begin_work q)) (newer_saves k q g.node g.life (begin_work q) apart).1 (newer_keeps (lease_from g) g.node g.life (begin_work q) (same_age g) i))
        | inr same ↦ rw same (so (begin_work q) apart i)
      ])

  pub commit_taken : CommitIsTaken k m q
  commit_taken g news live here le slots some = at_life g (Commit g.ticket news) (λ n. n ≡ note.Committed g.ticket) live here le (λ w apart i. commits_it g news w slots some apart i)

  pub release_taken : ReleaseIsTaken k m q
  release_taken g live here le = at_life g (Release g.ticket) (λ n. n ≡ note.Released g.ticket) live here le (λ w apart i. releases_it g w apart i)
