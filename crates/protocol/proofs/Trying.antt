-- Trying the parked asks: what stays as it was, which leases there are then, and which asks wait.
use Rattle.std.proofs.Common.{◌≡◌, ◌+◌, ◌≤◌, List, [], ◌∷◌, ◌++◌, ◌⊎◌, true, false, ◌&&◌, eqb, refl, sym, ◌∙◌, ap, subst, inl, inr, arith}
use Rattle.std.proofs.lemmas.Bool.{cases_Bool, or_parts}
use Rattle.std.proofs.lemmas.Bool.Decides.{nat_tests}
use Rattle.std.specs.Prelude.{nat_lt}
use Rattle.protocol.specs.Lists.{In}
use Rattle.protocol.specs.Names.{NodeId, Life, Ask}
use Rattle.protocol.specs.Machine.{Parked, HasPart, Ends_part, Keeps, Leaves}
use Rattle.protocol.specs.Ledger.{Limits, Ledger, Work, raised, Lease, Decision, Give, Deny, Wait, decision, lease_for, gives, carried_out, waits, tried, stays, try_all, waiting, is_parked}
use Rattle.protocol.specs.Follows.{NoLease, Waits}
use Rattle.protocol.proofs.Base.{true_false, in_append, in_one}
use Rattle.protocol.proofs.Leases.{waits_give, parked_part}

module _ (k : Limits) where
  pub raised_block : (q : Ledger) → q.ceiling ≤ q.last + 64 → raised k q ≤ q.last + 1 + 64
  raised_block q le = grind (arith, nat_tests)

  pub raised_covers : (q : Ledger) → q.last ≤ q.ceiling → nat_lt q.last k.greatest ≡ true → q.last + 1 ≤ raised k q
  raised_covers q le lt = grind (arith, nat_tests)

  carried-gone : (d : Decision) (p : Parked) (w : Work) → (carried_out k d p w).ledger.gone ≡ w.ledger.gone
  unfolding gives
  carried-gone Give p w = refl
  carried-gone (Deny why) p w = refl
  carried-gone Wait p w = refl

  pub tried-gone : (p : Parked) (w : Work) → (tried k p w).ledger.gone ≡ w.ledger.gone
  unfolding tried
  tried-gone p w = carried-gone (decision k w.ledger p) p w

  carried-lives : (d : Decision) (p : Parked) (w : Work) → (carried_out k d p w).ledger.lives ≡ w.ledger.lives
  unfolding gives
  carried-lives Give p w = refl
  carried-lives (Deny why) p w = refl
  carried-lives Wait p w = refl

  pub tried-lives : (p : Parked) (w : Work) → (tried k p w).ledger.lives ≡ w.ledger.lives
  unfolding tried
  tried-lives p w = carried-lives (decision k w.ledger p) p w

  carried-parked : (d : Decision) (p : Parked) (w : Work) → (carried_out k d p w).ledger.parked ≡ w.ledger.parked
  unfolding gives
  carried-parked Give p w = refl
  carried-parked (Deny why) p w = refl
  carried-parked Wait p w = refl

  pub tried-parked : (p : Parked) (w : Work) → (tried k p w).ledger.parked ≡ w.ledger.parked
  unfolding tried
  tried-parked p w = carried-parked (decision k w.ledger p) p w

  -- the leases after a try: as before, or with one of the ask at the end
  carried_live : (d : Decision) (p : Parked) (w : Work) → ((carried_out k d p w).ledger.live ≡ w.ledger.live) ⊎ ((h : Lease) × (h.node ≡ p.node) × (h.life ≡ p.life) × (h.ask ≡ p.ask) × ((carried_out k d p w).ledger.live ≡ w.ledger.live ++ h ∷ []) × (d ≡ Give))
  unfolding gives
  carried_live Give p w = inr (lease_for k w.ledger p, refl, refl, refl, refl, refl)
  carried_live (Deny why) p w = inl refl
  carried_live Wait p w = inl refl

  abbrev TriedLive : Parked → Work → Type 0
  TriedLive p w = ((tried k p w).ledger.live ≡ w.ledger.live) ⊎ ((h : Lease) × (h.node ≡ p.node) × (h.life ≡ p.life) × (h.ask ≡ p.ask) × ((tried k p w).ledger.live ≡ w.ledger.live ++ h ∷ []) × (stays k p w ≡ false))

  pub tried_live : (p : Parked) (w : Work) → TriedLive p w
  unfolding tried stays
  tried_live p w = elim (carried_live (decision k w.ledger p) p w) [ inl e ↦ inl e | inr r ↦ inr (r.0, r.1, r.2, r.3, r.4, ap waits r.5) ]

  pub tried_waits : (p : Parked) (w : Work) (ps : List Parked) → is_parked ps p.node p.life p.ask ≡ false → Waits w.ledger.live ps → Waits (tried k p w).ledger.live ps
  tried_waits p w ps other waiting = elim (tried_live p w) [
    | inl e ↦ subst (λ l. Waits l ps) (sym e) waiting
    | inr r ↦ subst (λ l. Waits l ps) (sym r.4) (waits_give w.ledger.live r.0 p ps r.1 r.2 r.3 other waiting)
  ]

  -- a lease after the tries is one of before, or one of an ask that was tried
  pub try_new : (ps : List Parked) (w : Work) (h : Lease) → In h (try_all k ps w).ledger.live → In h w.ledger.live ⊎ ((p : Parked) × In p ps × (h.node ≡ p.node) × (h.life ≡ p.life))
  try_new [] w h i = inl i
  try_new (p ∷ ps) w h i = elim (try_new ps (tried k p w) h i) [
    | inr r ↦ inr (r.0, inr r.1, r.2, r.3)
    | inl now ↦ elim (tried_live p w) [
      | inl e ↦ inl (subst (In h) e now)
      | inr r ↦ elim (in_append h w.ledger.live (r.0 ∷ []) (subst (In h) r.4 now)) [
        | inl old ↦ inl old
        | inr new ↦ (let same : h ≡ r.0 = in_one h r.0 new in inr (p, inl refl, ap (λ (z : Lease). z.node) same ∙ r.1, ap (λ (z : Lease). z.life) same ∙ r.2))
      ]
    ]
  ]

  pub try-gone : (ps : List Parked) (w : Work) → (try_all k ps w).ledger.gone ≡ w.ledger.gone
  try-gone [] w = refl
  try-gone (p ∷ ps) w = try-gone ps (tried k p w) ∙ tried-gone p w

  pub try-lives : (ps : List Parked) (w : Work) → (try_all k ps w).ledger.lives ≡ w.ledger.lives
  try-lives [] w = refl
  try-lives (p ∷ ps) w = try-lives ps (tried k p w) ∙ tried-lives p w

  pub try-parked : (ps : List Parked) (w : Work) → (try_all k ps w).ledger.parked ≡ w.ledger.parked
  try-parked [] w = refl
  try-parked (p ∷ ps) w = try-parked ps (tried k p w) ∙ tried-parked p w

  carried-note : (d : Decision) (p : Parked) (w : Work) → (carried_out k d p w).note ≡ w.note
  unfolding gives
  carried-note Give p w = refl
  carried-note (Deny why) p w = refl
  carried-note Wait p w = refl

  tried-note : (p : Parked) (w : Work) → (tried k p w).note ≡ w.note
  unfolding tried
  tried-note p w = carried-note (decision k w.ledger p) p w

  pub try-note : (ps : List Parked) (w : Work) → (try_all k ps w).note ≡ w.note
  try-note [] w = refl
  try-note (p ∷ ps) w = try-note ps (tried k p w) ∙ tried-note p w

  -- an ask that is not tried has no lease where it had none
  pub try_none : (ps : List Parked) (w : Work) (p : Parked) → is_parked ps p.node p.life p.ask ≡ false → NoLease w.ledger.live p → NoLease (try_all k ps w).ledger.live p
  try_none [] w p other none = none
  try_none (r ∷ ps) w p other none =
      let o = or_parts ((eqb r.node.0 p.node.0) && (eqb r.life.0 p.life.0) && (eqb r.ask.0 p.ask.0)) (is_parked ps p.node p.life p.ask) other in
      try_none ps (tried k r w) p o.1 (elim (tried_live r w) [
        | inl e ↦ subst (λ l. NoLease l p) (sym e) none
        | inr x ↦ subst (λ l. NoLease l p) (sym x.4) (λ g i. elim (in_append g w.ledger.live (x.0 ∷ []) i) [
          | inl j ↦ none g j
          | inr j ↦ (let same : g ≡ x.0 = in_one g x.0 j in
              let n : g.node ≡ r.node = ap (λ (z : Lease). z.node) same ∙ x.1 in
              let l : g.life ≡ r.life = ap (λ (z : Lease). z.life) same ∙ x.2 in
              let a : g.ask ≡ r.ask = ap (λ (z : Lease). z.ask) same ∙ x.3 in
              subst (λ (z : NodeId). ((eqb z.0 p.node.0) && (eqb g.life.0 p.life.0) && (eqb g.ask.0 p.ask.0)) ≡ false) (sym n)
              (subst (λ (z : Life). ((eqb r.node.0 p.node.0) && (eqb z.0 p.life.0) && (eqb g.ask.0 p.ask.0)) ≡ false) (sym l)
              (subst (λ (z : Ask). ((eqb r.node.0 p.node.0) && (eqb r.life.0 p.life.0) && (eqb z.0 p.ask.0)) ≡ false) (sym a) o.0)))
        ])
      ])

  pub waiting_in : (ps : List Parked) (w : Work) (p : Parked) → In p (waiting k ps w) → In p ps
  waiting_in [] w p i = absurd i
  waiting_in (r ∷ ps) w p i = elim (cases_Bool (stays k r w)) [
    | inl t ↦ elim (let j : In p (r ∷ waiting k ps (tried k r w)) = rw t at i in j) [ inl e ↦ inl e | inr j ↦ inr (waiting_in ps (tried k r w) p j) ]
    | inr t ↦ inr (waiting_in ps (tried k r w) p (rw t at i))
  ]

  pub waiting_part : (ps : List Parked) (w : Work) → HasPart ps (waiting k ps w)
  waiting_part [] w = Ends_part
  waiting_part (r ∷ ps) w = elim (cases_Bool (stays k r w)) [
    | inl t ↦ rw t (Keeps r ps (waiting k ps (tried k r w)) (waiting_part ps (tried k r w)))
    | inr t ↦ rw t (Leaves r ps (waiting k ps (tried k r w)) (waiting_part ps (tried k r w)))
  ]

  stays_none : (p : Parked) (w : Work) → stays k p w ≡ true → NoLease w.ledger.live p → NoLease (tried k p w).ledger.live p
  stays_none p w t none = elim (tried_live p w) [
    | inl e ↦ subst (λ l. NoLease l p) (sym e) none
    | inr x ↦ true_false (stays k p w) t x.5
  ]

  pub waiting_waits : (ps : List Parked) (w : Work) → Waits w.ledger.live ps → Waits (try_all k ps w).ledger.live (waiting k ps w)
  waiting_waits [] w h = tt
  waiting_waits (p ∷ ps) w h =
      let rest = waiting_waits ps (tried k p w) (tried_waits p w ps h.1 h.2) in
      elim (cases_Bool (stays k p w)) [
        | inl t ↦ rw t (try_none ps (tried k p w) p h.1 (stays_none p w t h.0), parked_part ps (waiting k ps (tried k p w)) p.node p.life p.ask (waiting_in ps (tried k p w)) h.1, rest)
        | inr t ↦ rw t rest
      ]
