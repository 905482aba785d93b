-- Each ask that was sent is answered, or parked and then answered.
use Rattle.std.proofs.Common.{◌≡◌, ℕ, List, [], ◌∷◌, ◌++◌, ◌⊎◌, map, Bool, true, false, ◌&&◌, eqb, Option, Some, None, Ok, refl, sym, ◌∙◌, subst, inl, inr}
use Rattle.std.proofs.lemmas.Bool.{and_parts, cases_Bool, eqb-true}
use Rattle.std.specs.Prelude.{nat_lt}
use Rattle.farm_base.specs.declared.message.Request.TheVariants.{Acquire}
use Rattle.farm_base.specs.declared.message.FromCoord.TheVariants as told
use Rattle.protocol.specs.Lists.{In, nth}
use Rattle.protocol.specs.Names.{NodeId, Life, Ask, Digest}
use Rattle.protocol.specs.Machine.{Said, Told, Message, ToCoord, Parked, acquire}
use Rattle.protocol.specs.Ledger.{Limits, Ledger, Lease, Work, begin_work, Decision, Give, Deny, Wait, decision, lease_for, grant_of, gives, decided, acquiring, is_of, lease_of, is_parked, newer_life, handled}
use Rattle.protocol.specs.Replay.{Event, Deliver, Farm, opening, settled, coordinated, delivered, step, run, scheduled}
use Rattle.protocol.specs.Meaning.{IsAnswered}
use Rattle.protocol.specs.Lawful.{IsEvent, EveryFarmStaysLawful, EveryOpeningIsLawful}
use Rattle.protocol.specs.Follows.{EveryScheduleIsSafe}
use Rattle.protocol.specs.Chronicle.{EveryScheduleMeans}
use Rattle.protocol.proofs.Base.{in_left, in_right, in_append, in_one, from_any, any_in, nth_in, node_is, life_is, ask_is, names_same}
use Rattle.protocol.proofs.Leases.{find_some}
use Rattle.progress.specs.Progress.{AreEvents, withdrawals, EveryAskCanBeAnswered}
use Rattle.progress.proofs.Progressing.{Served, served_is}
use Rattle.progress.proofs.Freeing.{IsAfter, settles, more_pool, answered_right, every_parked_ask_can_be_freed}

-- the ask is parked, under its name, or served
abbrev pub Met : Limits → Parked → Work → Type 0
Met k p w = (is_parked w.ledger.parked p.node p.life p.ask ≡ true) ⊎ Served k p w.sends

module _ (k : Limits) (p : Parked) where
  same_name : ((eqb p.node.0 p.node.0) && (eqb p.life.0 p.life.0) && (eqb p.ask.0 p.ask.0)) ≡ true
  same_name = names_same p.node p.node p.life p.life p.ask p.ask refl refl refl

  decided_met : (d : Decision) (w : Work) → Met k p (decided k d p w)
  unfolding gives
  decided_met Give w = inr (inl (grant_of k.empty w.ledger.line (lease_for k w.ledger p), in_right _ w.sends _ (inl refl), refl, refl, refl))
  decided_met (Deny why) w = inr (inr (why, in_right _ w.sends _ (inl refl)))
  decided_met Wait w = inl (any_in (λ (r : Parked). (eqb r.node.0 p.node.0) && (eqb r.life.0 p.life.0) && (eqb r.ask.0 p.ask.0)) p (w.ledger.parked ++ p ∷ []) (in_right p w.ledger.parked (p ∷ []) (inl refl)) same_name)

  acquiring_met : (o : Option Lease) (b : Bool) (w : Work) → lease_of w.ledger.live p.node p.life p.ask ≡ o → is_parked w.ledger.parked p.node p.life p.ask ≡ b → Met k p (acquiring k o b p w)
  acquiring_met (Some h) b w e f =
      let r = find_some (is_of p.node p.life p.ask) w.ledger.live h e in
      let x = and_parts ((eqb h.node.0 p.node.0) && (eqb h.life.0 p.life.0)) (eqb h.ask.0 p.ask.0) r.1 in
      let y = and_parts (eqb h.node.0 p.node.0) (eqb h.life.0 p.life.0) x.0 in
      inr (inl (grant_of k.empty w.ledger.line h, in_right _ w.sends _ (inl refl), node_is h.node p.node (eqb-true h.node.0 p.node.0 y.0), life_is h.life p.life (eqb-true h.life.0 p.life.0 y.1), ask_is h.ask p.ask (eqb-true h.ask.0 p.ask.0 x.1)))
  acquiring_met None true w e f = inl f
  acquiring_met None false w e f = decided_met (decision k w.ledger p) w

  abbrev pub saying : ToCoord
  saying = record { node = p.node; life = p.life; request = Acquire p.ask p.wants p.tenure }

  answering_met : (w : Work) → Met k p (acquiring k (lease_of w.ledger.live p.node p.life p.ask) (is_parked w.ledger.parked p.node p.life p.ask) p w)
  answering_met w = acquiring_met (lease_of w.ledger.live p.node p.life p.ask) (is_parked w.ledger.parked p.node p.life p.ask) w refl refl

  pub handled_met : (w : Work) → w.ledger.gone p.node.0 ≡ false → nat_lt p.life.0 (w.ledger.lives p.node.0) ≡ false → Met k p (handled k saying w)
  unfolding handled
  handled_met w here young = rw (here, young) (elim (cases_Bool (nat_lt (w.ledger.lives p.node.0) p.life.0)) [
    | inl newer ↦ rw newer (answering_met (newer_life k p.node p.life w))
    | inr same ↦ rw same (answering_met w)
  ])

-- an answer is one to any ask of the name
pub answered_same : (p r : Parked) (sent : List Message) → r.node ≡ p.node → r.life ≡ p.life → r.ask ≡ p.ask → IsAnswered r sent → IsAnswered p sent
answered_same p r sent n l a (inl (g, i, gn, gl, ga)) = inl (g, i, gn ∙ n, gl ∙ l, ga ∙ a)
answered_same p r sent n l a (inr (why, i)) =
    inr (
      why,
      subst (λ (z : NodeId). In (Told (told.Denied z p.life p.ask why)) sent) n
          (subst (λ (z : Life). In (Told (told.Denied r.node z p.ask why)) sent) l
          (subst (λ (z : Ask). In (Told (told.Denied r.node r.life z why)) sent) a i)),
    )

pub run_more : (sha : List ℕ → Digest) (k : Limits) (xs ys : List Event) (s : Farm) → run sha k (xs ++ ys) s ≡ run sha k ys (run sha k xs s)
run_more sha k [] ys s = refl
run_more sha k (x ∷ xs) ys s = run_more sha k xs ys (step sha k s x).farm

pub delivery_is : (sha : List ℕ → Digest) (k : Limits) (s : Farm) (number : ℕ) (y : ToCoord) → nth s.pool number ≡ Some (Said y) → s.down ≡ false → s.armed ≡ None → IsAfter k sha 0 s (handled k y (begin_work s.ledger)) (step sha k s (Deliver number)).farm
unfolding step
delivery_is sha k s number y e up safe =
    let w : Work = handled k y (begin_work s.ledger) in
    subst (λ o. IsAfter k sha 0 s w (delivered sha k o s).farm) (sym e)
    (subst (λ b. IsAfter k sha 0 s w (coordinated b (Ok w) s).farm) (sym up)
    (subst (λ o. IsAfter k sha 0 s w (settled w.changed o w s).farm) (sym safe) (settles k sha 0 w.changed w s up safe)))

pub every_ask_can_be_answered : EveryOpeningIsLawful → EveryFarmStaysLawful → EveryScheduleIsSafe → EveryScheduleMeans → EveryAskCanBeAnswered
every_ask_can_be_answered opens farms safes means sha k is_farm size events are up safe number p at here young free =
    let s : Farm = scheduled sha k size events in
    let y : ToCoord = saying k p in
    let w : Work = handled k y (begin_work s.ledger) in
    let later : Farm = (step sha k s (Deliver number)).farm in
    let is : IsAfter k sha 0 s w later = delivery_is sha k s number y at up safe in
    elim (handled_met k p (begin_work s.ledger) here young) [
      | inr served ↦ ([], record { sent = map Told w.sends; sends = is.pool; answered = served_is k p w.sends served })
      | inl queued ↦
          let longer : List Event = events ++ Deliver number ∷ [] in
          let t : Farm = scheduled sha k size longer in
          let same : t ≡ later = run_more sha k events (Deliver number ∷ []) (opening sha size) in
          let after : IsAfter k sha 0 s w t = subst (IsAfter k sha 0 s w) (sym same) is in
          let r = from_any (λ (r : Parked). (eqb r.node.0 p.node.0) && (eqb r.life.0 p.life.0) && (eqb r.ask.0 p.ask.0)) w.ledger.parked queued in
          let i : In r.0 t.ledger.parked = subst (λ (l : Ledger). In r.0 l.parked) (sym after.ledger) r.1 in
          let x = and_parts ((eqb r.0.node.0 p.node.0) && (eqb r.0.life.0 p.life.0)) (eqb r.0.ask.0 p.ask.0) r.2 in
          let z = and_parts (eqb r.0.node.0 p.node.0) (eqb r.0.life.0 p.life.0) x.0 in
          let n : r.0.node ≡ p.node = node_is r.0.node p.node (eqb-true r.0.node.0 p.node.0 z.0) in
          let l : r.0.life ≡ p.life = life_is r.0.life p.life (eqb-true r.0.life.0 p.life.0 z.1) in
          let a : r.0.ask ≡ p.ask = ask_is r.0.ask p.ask (eqb-true r.0.ask.0 p.ask.0 x.1) in
          let sa = safes sha k is_farm size longer in
          let asked : In (acquire r.0.node r.0.life r.0.ask r.0.wants r.0.tenure) t.pool = subst (In (acquire r.0.node r.0.life r.0.ask r.0.wants r.0.tenure)) sa.shows.pool (sa.shows.now.asked r.0 i).0 in
          let named : In (acquire p.node p.life p.ask r.0.wants r.0.tenure) t.pool =
          subst (λ (m : NodeId). In (acquire m p.life p.ask r.0.wants r.0.tenure) t.pool) n
          (subst (λ (m : Life). In (acquire r.0.node m p.ask r.0.wants r.0.tenure) t.pool) l
          (subst (λ (m : Ask). In (acquire r.0.node r.0.life m r.0.wants r.0.tenure) t.pool) a asked)) in
          let own : In (acquire p.node p.life p.ask p.wants p.tenure) t.pool = subst (In (Said y)) (sym after.pool) (in_left (Said y) s.pool (map Told w.sends) (nth_in s.pool number (Said y) at)) in
          let one : r.0.tenure ≡ p.tenure = ((means sha k is_farm size longer).also.one_ask p.node p.life p.ask r.0.wants p.wants r.0.tenure p.tenure named own).1 in
          let all : AreEvents longer = λ e j. elim (in_append e events (Deliver number ∷ []) j) [ inl b ↦ are e b | inr b ↦ subst IsEvent (sym (in_one e (Deliver number) b)) tt ] in
          let f = every_parked_ask_can_be_freed opens farms sha k size longer all after.down after.armed r.0 i (one ∙ free) in (
            f.0,
            record {
              sent = map Told w.sends ++ f.1.sent;
              sends = more_pool k sha 0 s.pool later.pool (run sha k (withdrawals f.0) later).pool (map Told w.sends) f.1.sent is.pool (subst (λ (g : Farm). (run sha k (withdrawals f.0) g).pool ≡ g.pool ++ f.1.sent) same f.1.sends);
              answered = answered_right k sha 0 p (map Told w.sends) f.1.sent (answered_same p r.0 f.1.sent n l a f.1.answered);
            },
          )
    ]
