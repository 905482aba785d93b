-- Whatever message comes, no lease ends by it but one of its own node.
use Rattle.std.proofs.Common.{◌≡◌, ℕ, ◌<◌, ◌⊎◌, List, [], ◌∷◌, Bool, true, false, not, ◌&&◌, ◌||◌, eqb, Option, Some, None, refl, sym, ◌∙◌, ap, subst, inl, inr, arith}
use Rattle.std.proofs.lemmas.Bool.{cases_Bool, and_parts, eqb-true}
use Rattle.std.proofs.lemmas.Bool.Decides.{nat_tests}
use Rattle.std.specs.List.{list_any, find}
use Rattle.std.specs.Prelude.{nat_lt}
use Rattle.protocol.specs.Lists.{In, is_nil}
use Rattle.protocol.specs.Names.{slots_eq, NodeId, Life, Ticket}
use Rattle.protocol.specs.Machine.{Message, ToCoord, Parked, Machine, News, slots_of}
use Rattle.farm_base.specs.declared.message.Request.{Request}
use Rattle.farm_base.specs.declared.message.Request.TheVariants.{Hello, Acquire, Commit, Release}
use Rattle.protocol.specs.Ledger.{Limits, Ledger, Lease, Work, begin_work, Decision, Give, Deny, Wait, elsewhere, decision, gives, carried_out, tried, try_all, retried, holds_wanted, recall, recalls, decided, acquiring, lease_of, is_parked, has_ticket, is_its, writable_slots, ends, lease_under, may_commit, on_all, confirms, commits, committing, may_release, released, answering, is_older, sees, is_home, newer_life, handled}
use Rattle.protocol.specs.Ledger as ledger
use Rattle.protocol.specs.Follows.{lease_from, Agrees, OnlyItsOwn}
use Rattle.protocol.proofs.Base.{in_left, in_filter, node_is, life_is}
use Rattle.protocol.proofs.Steps.{Sound}
use Rattle.protocol.proofs.Leases.{find_some}
use Rattle.protocol.proofs.Saving.{Apart, newer_saves}
use Rattle.protocol.proofs.Deciding.{apart_of}

lt_is : (a b : ℕ) → nat_lt a b ≡ true → a < b
lt_is a b h = grind (arith, nat_tests)

module _ (k : Limits) (h : Lease) where
  carried_keeps : (d : Decision) (p : Parked) (w : Work) → In h w.ledger.live → In h (carried_out k d p w).ledger.live
  unfolding gives
  carried_keeps Give p w i = in_left h w.ledger.live _ i
  carried_keeps (Deny why) p w i = i
  carried_keeps Wait p w i = i

  try_keeps : (ps : List Parked) (w : Work) → In h w.ledger.live → In h (try_all k ps w).ledger.live
  unfolding tried
  try_keeps [] w i = i
  try_keeps (p ∷ ps) w i = try_keeps ps (tried k p w) (carried_keeps (decision k w.ledger p) p w i)

  retried_keeps : (w : Work) → In h w.ledger.live → In h (retried k w).ledger.live
  unfolding retried
  retried_keeps w i = try_keeps w.ledger.parked w i

  recalls_keeps : (b : Bool) (p : Parked) (w : Work) → In h w.ledger.live → In h (recalls b p w).ledger.live
  recalls_keeps false p w i = i
  recalls_keeps true p w i = by (find (holds_wanted p) w.ledger.live)
    where
      by : (o : Option Lease) → In h (recall o w).ledger.live
      by None = i
      by (Some g) = i

  decided_keeps : (d : Decision) (p : Parked) (w : Work) → In h w.ledger.live → In h (decided k d p w).ledger.live
  unfolding gives
  decided_keeps Give p w i = in_left h w.ledger.live _ i
  decided_keeps (Deny why) p w i = i
  decided_keeps Wait p w i = recalls_keeps (p.tenure && not (elsewhere w.ledger p)) p w i

  acquiring_keeps : (o : Option Lease) (b : Bool) (p : Parked) (w : Work) → In h w.ledger.live → In h (acquiring k o b p w).ledger.live
  acquiring_keeps (Some g) b p w i = i
  acquiring_keeps None true p w i = i
  acquiring_keeps None false p w i = decided_keeps (decision k w.ledger p) p w i

  abbrev Its : NodeId → Life → Type 0
  Its n l = (h.node ≡ n) × (h.life ≡ l)

  its_is : (n : NodeId) (l : Life) (g : Lease) → h ≡ g → is_its n l g ≡ true → Its n l
  its_is n l g same t =
      let b = and_parts (eqb g.node.0 n.0) (eqb g.life.0 l.0) t in
      (ap (λ (z : Lease). z.node) same ∙ node_is g.node n (eqb-true g.node.0 n.0 b.0), ap (λ (z : Lease). z.life) same ∙ life_is g.life l (eqb-true g.life.0 l.0 b.1))

  -- without a ticket the lease is there still, or has it
  left_or_has : (t : Ticket) (w : Work) → In h w.ledger.live → In h (ledger.without t w.ledger.live) ⊎ (h.ticket.0 ≡ t.0)
  left_or_has t w i = elim (cases_Bool (has_ticket t h)) [
    | inl has ↦ inr (eqb-true h.ticket.0 t.0 has)
    | inr other ↦ inl (in_filter (λ (g : Lease). not (has_ticket t g)) h w.ledger.live i (ap not other))
  ]

  committing_keeps : (b : Bool) (n : NodeId) (l : Life) (t : Ticket) (news : List News) (w : Work) → Apart w.ledger → may_commit n l news (lease_under w.ledger.live t) ≡ b → In h w.ledger.live → In h (committing k b n l t news w).ledger.live ⊎ Its n l
  committing_keeps true n l t news w apart may i = elim (left_or_has t w i) [
    | inl still ↦ inl (retried_keeps (confirms n l t news (commits t news w)) still)
    | inr has ↦ inr (by has (lease_under w.ledger.live t) refl may)
  ]
    where
      by : h.ticket.0 ≡ t.0 → (o : Option Lease) → lease_under w.ledger.live t ≡ o → may_commit n l news o ≡ true → Its n l
      by has None e m = (let bad : false ≡ true = m in absurd (cc))
      by has (Some g) e m =
          (let f = find_some (has_ticket t) w.ledger.live g e in
          let b = and_parts (is_its n l g && slots_eq (slots_of news) (writable_slots g.slots)) (not (is_nil news)) m in
          its_is n l g (apart.unique h g i f.0 (has ∙ sym (eqb-true g.ticket.0 t.0 f.1))) (and_parts (is_its n l g) (slots_eq (slots_of news) (writable_slots g.slots)) b.0).0)
  committing_keeps false n l t news w apart may i = inl (by (not (is_nil news) && on_all w.ledger.line t news))
    where
      by : (b : Bool) → In h (ledger.answered b n l t news w).ledger.live
      by true = i
      by false = i

  released_keeps : (n : NodeId) (l : Life) (t : Ticket) (o : Option Lease) (b : Bool) (w : Work) → Apart w.ledger → lease_under w.ledger.live t ≡ o → may_release n l o ≡ b → In h w.ledger.live → In h (released k b t o w).ledger.live ⊎ Its n l
  released_keeps n l t None b w apart e may i = inl i
  released_keeps n l t (Some g) false w apart e may i = inl i
  released_keeps n l t (Some g) true w apart e may i =
      let f = find_some (has_ticket t) w.ledger.live g e in
      elim (left_or_has g.ticket w i) [
        | inl still ↦ inl (retried_keeps (ends g w) still)
        | inr has ↦ inr (its_is n l g (apart.unique h g i f.0 has) may)
      ]

  answering_keeps : (n : NodeId) (l : Life) (r : Request) (w : Work) → Apart w.ledger → In h w.ledger.live → In h (answering k n l r w).ledger.live ⊎ Its n l
  answering_keeps n l Hello w apart i = inl i
  answering_keeps n l (Acquire a wants tenure) w apart i = inl (acquiring_keeps (lease_of w.ledger.live n l a) (is_parked w.ledger.parked n l a) (record { node = n; life = l; ask = a; wants = wants; tenure = tenure }) w i)
  answering_keeps n l (Commit t news) w apart i = committing_keeps (may_commit n l news (lease_under w.ledger.live t)) n l t news w apart refl i
  answering_keeps n l (Release t) w apart i = released_keeps n l t (lease_under w.ledger.live t) (may_release n l (lease_under w.ledger.live t)) w apart refl refl i

  newer_keeps : (n : NodeId) (l : Life) (w : Work) → is_older n l h ≡ false → In h w.ledger.live → In h (newer_life k n l w).ledger.live
  unfolding newer_life
  newer_keeps n l w young i = elim (cases_Bool (list_any (is_older n l) w.ledger.live || is_home n w.ledger.old_home)) [
    | inl t ↦ rw t (retried_keeps (sees n l w) stays)
    | inr t ↦ rw t stays
  ]
    where
      stays : In h (sees n l w).ledger.live
      stays = in_filter (λ (g : Lease). not (is_older n l g)) h w.ledger.live i (ap not young)

  pub handled_keeps : (q : Ledger) (y : ToCoord) → Apart q → In h q.live → In h (handled k y (begin_work q)).ledger.live ⊎ ((h.node ≡ y.node) × ((h.life ≡ y.life) ⊎ ((h.life.0 < y.life.0) × (q.lives y.node.0 < y.life.0))))
  unfolding handled
  handled_keeps q y apart i = elim (cases_Bool (q.gone y.node.0)) [
    | inl t ↦ rw t (inl i)
    | inr here ↦ rw here (elim (cases_Bool (nat_lt y.life.0 (q.lives y.node.0))) [
      | inl t ↦ rw t (inl i)
      | inr t ↦ rw t (elim (cases_Bool (nat_lt (q.lives y.node.0) y.life.0)) [
        | inl newer ↦ rw newer (elim (cases_Bool (is_older y.node y.life h)) [
          | inl older ↦ (let b = and_parts (eqb h.node.0 y.node.0) (nat_lt h.life.0 y.life.0) older in
              inr (node_is h.node y.node (eqb-true h.node.0 y.node.0 b.0), inr (lt_is h.life.0 y.life.0 b.1, lt_is (q.lives y.node.0) y.life.0 newer)))
          | inr young ↦ elim (answering_keeps y.node y.life y.request (newer_life k y.node y.life (begin_work q)) (newer_saves k q y.node y.life (begin_work q) apart).1 (newer_keeps y.node y.life (begin_work q) young i)) [ inl still ↦ inl still | inr its ↦ inr (its.0, inl its.1) ]
        ])
        | inr same ↦ rw same (elim (answering_keeps y.node y.life y.request (begin_work q) apart i) [ inl still ↦ inl still | inr its ↦ inr (its.0, inl its.1) ])
      ])
    ])
  ]

pub only_its_own : (k : Limits) (pool : List Message) (m : Machine) (q : Ledger) → Sound k.empty m → Agrees k.empty pool m q → OnlyItsOwn k m q
only_its_own k pool m q sound agrees y g live = elim (handled_keeps k (lease_from g) q y (apart_of k.empty pool m q sound agrees) (agrees.live_kept g live)) [
  | inl still ↦ inl still
  | inr its ↦ inr (its.0, elim its.1 [ inl same ↦ inl same | inr older ↦ inr (older.0, subst (λ (f : ℕ → ℕ). f y.node.0 < y.life.0) agrees.lives older.1) ])
]
