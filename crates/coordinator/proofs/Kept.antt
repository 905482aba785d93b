-- What the rules promise of one message is kept.
use Rattle.std.proofs.Common.{◌≡◌, Bool, true, false, not, ◌&&◌, ◌||◌, eqb, sym, ap, ◌∙◌, subst}
use Rattle.std.proofs.lemmas.Bool.{and_from, eq-eqb}
use Rattle.std.specs.Prelude.{nat_lt}
use Rattle.protocol.specs.Farm.{farm_limits}
use Rattle.farm_base.specs.declared.message.Request.TheVariants.{Acquire}
use Rattle.farm_base.specs.declared.message.FromCoord.TheVariants as told
use Rattle.protocol.specs.Lists.{In}
use Rattle.protocol.specs.Names.{NodeId, Life, Ask, leased_wants}
use Rattle.protocol.specs.Machine.{ToCoord, Parked}
use Rattle.protocol.specs.Ledger.{Ledger, pick, is_free, is_leased, all_taken, busy, elsewhere, decision, is_parked, begin_work, handled}
use Rattle.protocol.specs.Follows.{NoneReady, OnlyItself, after_life}
use Rattle.events.specs.declared.answer.CoordNote.TheVariants as note
use Rattle.farm_base.specs.declared.message.Why.TheVariants.{InstancesSpent}
use Rattle.events.specs.declared.answer.Decision.{Decision}
use Rattle.events.specs.declared.answer.Decision.TheVariants.{Give, Deny, Wait}
use Rattle.protocol.proofs.Answering.{fitting_ask_is_granted}
use Rattle.protocol.proofs.Base.{any_in}
use Rattle.effects.specs.Sound.{AreHeldUp}
use Rattle.coordinator.specs.Promises.{asked, granted, GrantsAtOnce}

-- an ask that is held up isn't granted
no_give : (here taken held spent : Bool) → (here || held) ≡ true → pick here taken held spent ≡ Give → ⊥
no_give true taken held spent h g = (let bad : ◌≡◌ {A = Decision} Wait Give = g in cc)
no_give false true held spent h g = (let bad : ◌≡◌ {A = Decision} (Deny InstancesSpent) Give = g in cc)
no_give false false true spent h g = (let bad : ◌≡◌ {A = Decision} Wait Give = g in cc)
no_give false false false spent h g = (let bad : false ≡ true = h in cc)

pub none_ready : (q : Ledger) → AreHeldUp q → NoneReady farm_limits q
unfolding decision
none_ready q held p i = no_give (elsewhere q p) (all_taken farm_limits.instances (is_free q) (leased_wants p.tenure p.wants)) (busy (is_leased q) (leased_wants p.tenure p.wants)) (not (nat_lt q.last farm_limits.greatest)) (held p i)

-- where no ask of the name is parked, none but this one is
only_itself : (q : Ledger) (p : Parked) → is_parked q.parked p.node p.life p.ask ≡ false → OnlyItself q p
only_itself q p none r i node life ask =
    let same : ((eqb r.node.0 p.node.0) && (eqb r.life.0 p.life.0)) && (eqb r.ask.0 p.ask.0) ≡ true =
    and_from ((eqb r.node.0 p.node.0) && (eqb r.life.0 p.life.0)) (eqb r.ask.0 p.ask.0)
    (and_from (eqb r.node.0 p.node.0) (eqb r.life.0 p.life.0) (eq-eqb r.node.0 p.node.0 (ap (λ (n : NodeId). n.0) node)) (eq-eqb r.life.0 p.life.0 (ap (λ (l : Life). l.0) life)))
    (eq-eqb r.ask.0 p.ask.0 (ap (λ (a : Ask). a.0) ask)) in
    let there : is_parked q.parked p.node p.life p.ask ≡ true = any_in (λ (x : Parked). ((eqb x.node.0 p.node.0) && (eqb x.life.0 p.life.0)) && (eqb x.ask.0 p.ask.0)) r q.parked i same in
    let bad : false ≡ true = sym none ∙ there in
    absurd (cc)

pub grants : (q : Ledger) (y : ToCoord) → AreHeldUp q → GrantsAtOnce q y (handled farm_limits y (begin_work q)).note (handled farm_limits y (begin_work q)).sends
grants q y held ask wants tenure is unparked here current may =
    let p : Parked = asked y ask wants tenure in
    let same : record { node = y.node; life = y.life; request = Acquire ask wants tenure } ≡ y = λ i. record y { request = sym is i } in
    subst (λ (z : ToCoord). ((handled farm_limits z (begin_work q)).note ≡ note.Granted (granted (after_life farm_limits y.node y.life (begin_work q)).ledger p)) × In (told.Granted (granted (after_life farm_limits y.node y.life (begin_work q)).ledger p)) (handled farm_limits z (begin_work q)).sends) same
    (fitting_ask_is_granted farm_limits p (begin_work q) (none_ready q held) (only_itself q p unparked) here current may)
