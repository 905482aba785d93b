-- A fitting ask is granted.
use Rattle.std.proofs.Common.{◌≡◌, eqb, [], ◌∷◌, not, ◌&&◌, refl, sym, ap, subst, inl, inr}
use Rattle.std.proofs.lemmas.Bool.{cases_Bool, and_parts, eqb-true}
use Rattle.std.specs.Prelude.{nat_lt}
use Rattle.protocol.specs.Lists.{In}
use Rattle.protocol.specs.Machine.{Parked}
use Rattle.farm_base.specs.declared.message.Request.TheVariants.{Acquire}
use Rattle.farm_base.specs.declared.message.FromCoord.TheVariants as told
use Rattle.events.specs.declared.answer.CoordNote.TheVariants as note
use Rattle.protocol.specs.Ledger.{Limits, Ledger, Work, Give, decision, decided, acquiring, answering, gives, grant_of, lease_for, is_parked, newer_life, handled}
use Rattle.protocol.specs.Follows.{MayBeGranted, NoneReady, OnlyItself, FittingAskIsGranted}
use Rattle.protocol.proofs.Base.{in_right, from_any, node_is, life_is, ask_is}
use Rattle.protocol.proofs.Parking.{picks, newer_none, newer_was}

-- ---- a fitting ask

decision_gives : (k : Limits) (q : Ledger) (p : Parked) → MayBeGranted k q p → decision k q p ≡ Give
unfolding decision
decision_gives k q p may = picks _ _ _ _ may.here may.left may.idle (ap not may.ticket)

abbrev Granted : Limits → Parked → Work → Work → Type 0
Granted k p v w = (w.note ≡ note.Granted (grant_of k.empty v.ledger.line (lease_for k v.ledger p))) × In (told.Granted (grant_of k.empty v.ledger.line (lease_for k v.ledger p))) w.sends

given : (k : Limits) (p : Parked) (v : Work) → Granted k p v (decided k Give p v)
unfolding gives
given k p v = (refl, in_right (told.Granted (grant_of k.empty v.ledger.line (lease_for k v.ledger p))) v.sends (told.Granted (grant_of k.empty v.ledger.line (lease_for k v.ledger p)) ∷ []) (inl refl))

acquired : (k : Limits) (p : Parked) (v : Work) → NoneReady k v.ledger → OnlyItself v.ledger p → MayBeGranted k v.ledger p → Granted k p v (answering k p.node p.life (Acquire p.ask p.wants p.tenure) v)
acquired k p v none only may =
    let d : decision k v.ledger p ≡ Give = decision_gives k v.ledger p may in
    subst (λ o. Granted k p v (acquiring k o (is_parked v.ledger.parked p.node p.life p.ask) p v)) (sym may.new)
    (elim (cases_Bool (is_parked v.ledger.parked p.node p.life p.ask)) [
      | inr f ↦ rw f (subst (λ x. Granted k p v (decided k x p v)) (sym d) (given k p v))
      | inl t ↦ (let r = from_any (λ (x : Parked). (eqb x.node.0 p.node.0) && (eqb x.life.0 p.life.0) && (eqb x.ask.0 p.ask.0)) v.ledger.parked t in
          let b = and_parts ((eqb r.0.node.0 p.node.0) && (eqb r.0.life.0 p.life.0)) (eqb r.0.ask.0 p.ask.0) r.2 in
          let c = and_parts (eqb r.0.node.0 p.node.0) (eqb r.0.life.0 p.life.0) b.0 in
          let is : r.0 ≡ p = only r.0 r.1 (node_is r.0.node p.node (eqb-true r.0.node.0 p.node.0 c.0)) (life_is r.0.life p.life (eqb-true r.0.life.0 p.life.0 c.1)) (ask_is r.0.ask p.ask (eqb-true r.0.ask.0 p.ask.0 b.1)) in
          absurd (none r.0 r.1 (subst (λ z. decision k v.ledger z ≡ Give) (sym is) d)))
    ])

pub fitting_ask_is_granted : FittingAskIsGranted
unfolding handled
fitting_ask_is_granted k p w none only here current = λ may. rw (here, current) (elim (cases_Bool (nat_lt (w.ledger.lives p.node.0) p.life.0)) [
  | inl newer ↦ (let m : MayBeGranted k (newer_life k p.node p.life w).ledger p = rw newer at may in
      rw newer (acquired k p (newer_life k p.node p.life w) (newer_none k p.node p.life w none) (λ r i. only r (newer_was k p.node p.life w r i)) m))
  | inr same ↦ (let m : MayBeGranted k w.ledger p = rw same at may in rw same (acquired k p w none only m))
])
