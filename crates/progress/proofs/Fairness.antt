-- In a fair run each open ask that waits for at most one folder is answered.
use Rattle.std.proofs.Common.{length, ◌≡◌, ℕ, zero, suc, ◌+◌, ◌-◌, ◌≤◌, List, [], ◌∷◌, ◌⊎◌, map, Bool, true, false, not, ◌&&◌, ◌||◌, eqb, Some, None, refl, sym, ◌∙◌, ap, subst, inl, inr, arith}
use Rattle.std.proofs.lemmas.Bool.{cases_Bool, and_parts, eqb-true}
use Rattle.std.specs.Prelude.{nat_lt, nat_le}
use Rattle.farm_base.specs.declared.message.FromCoord.TheVariants as told
use Rattle.protocol.specs.Lists.{In, nth}
use Rattle.protocol.specs.Names.{Slot, is_private, only_slot, NodeId, Life, Ask, Want, Digest, leased_wants}
use Rattle.protocol.specs.Machine.{Said, Told, Message, ToCoord, Parked, acquire}
use Rattle.protocol.specs.Ledger.{Limits, Ledger, Lease, Work, begin_work, has_slot, some_lease, is_leased, busy, elsewhere, is_older_ask, is_parked, handled}
use Rattle.protocol.specs.World.{Open, Node, start}
use Rattle.protocol.specs.Replay.{Event, Deliver, Farm, at, is_node, moved, step}
use Rattle.protocol.specs.Meaning.{IsAnswered}
use Rattle.protocol.specs.Lawful.{AllApart}
use Rattle.protocol.specs.Follows.{IsFarm, EveryScheduleStaysSafe}
use Rattle.protocol.specs.Chronicle.{EveryScheduleMeans}
use Rattle.protocol.proofs.Base.{in_left, in_right, from_any, true_false, nth_in, ask_is}
use Rattle.progress.specs.Progress.{IsForOne, IsWaiting}
use Rattle.progress.specs.Fair.{firsts, farm_at, IsFair, LivesOn, IsAnsweredAt, EveryOpenAskIsAnswered}
use Rattle.progress.proofs.Progressing.{is_held_up, nobody, served_is}
use Rattle.progress.proofs.Freeing.{answered_right}
use Rattle.progress.proofs.Lives.{heard_all, heard_start, no_home}
use Rattle.progress.proofs.Reaching.{handled_met, saying, delivery_is}
use Rattle.progress.proofs.Asking.{Knows, granted_known, denied_known, not_below}
use Rattle.progress.proofs.Giving.{resend_work, resend_step, again_of}
use Rattle.progress.proofs.Going.{OpenOr, open_later}
use Rattle.progress.proofs.Ending.{Laws, its_parked}
use Rattle.progress.proofs.Ends.{are_firsts, here, next, linked, Arrives, arrives, lease_ends}
use Rattle.progress.proofs.Queueing.{Within, within_in, in_within, Waiting, SlotKept, OnFarm, held_leased, step_on}

-- two leases of one slot are one
pub one_slot : (live : List Lease) → AllApart live → (s : Slot) (g h : Lease) → In g live → In h live → has_slot g.slots s ≡ true → has_slot h.slots s ≡ true → g ≡ h
one_slot [] all s g h i j a b = absurd i
one_slot (x ∷ live) all s g h (inl e) (inl f) a b = e ∙ sym f
one_slot (x ∷ live) all s g h (inl e) (inr j) a b = true_false (has_slot h.slots s) b ((all.0 h j).slots s (subst (λ (z : Lease). has_slot z.slots s ≡ true) e a))
one_slot (x ∷ live) all s g h (inr i) (inl f) a b = true_false (has_slot g.slots s) a ((all.0 g i).slots s (subst (λ (z : Lease). has_slot z.slots s ≡ true) f b))
one_slot (x ∷ live) all s g h (inr i) (inr j) a b = one_slot live all.1 s g h i j a b

-- what it waits for is the slot of a folder that isn't PRIVATE
pub held_want : (q : Ledger) (p : Parked) → q.old_home ≡ None → is_held_up q p ≡ true → (w : Want) × In w (leased_wants p.tenure p.wants) × (is_private w.folder.mode ≡ false) × (is_leased q (only_slot w.folder) ≡ true)
held_want q p home held = elim (or_cases (elsewhere q p) (busy (is_leased q) (leased_wants p.tenure p.wants)) held) [
  | inl away ↦ true_false (elsewhere q p) away (nobody p q home)
  | inr on ↦
      let r = from_any (λ (w : Want). not (is_private w.folder.mode) && is_leased q (only_slot w.folder)) (leased_wants p.tenure p.wants) on in
      let b = and_parts (not (is_private r.0.folder.mode)) (is_leased q (only_slot r.0.folder)) r.2 in
      (r.0, r.1, not_not (is_private r.0.folder.mode) b.0, b.1)
]
  where
    or_cases : (a b : Bool) → (a || b) ≡ true → (a ≡ true) ⊎ (b ≡ true)
    or_cases true b e = inl refl
    or_cases false b e = inr e

    not_not : (b : Bool) → not b ≡ true → b ≡ false
    not_not true e = (let bad : false ≡ true = e in cc)
    not_not false e = refl

module _ (laws : Laws) (law : EveryScheduleStaysSafe) (means : EveryScheduleMeans) (sha : List ℕ → Digest) (k : Limits) (is_farm : IsFarm sha k) (size : ℕ) (plan : ℕ → Event) (begin : ℕ) (fair : IsFair sha k size plan begin)
    (who : NodeId) (ask : Ask) (wants : List Want) (tenure : Bool) (is : IsWaiting (farm_at sha k size plan begin) who ask wants tenure) (on : LivesOn sha k size plan begin who) where
  abbrev F : ℕ → Farm
  F n = farm_at sha k size plan n

  abbrev p : Parked
  p = record { node = who; life = ((F begin).nodes who.0).life; ask = ask; wants = wants; tenure = tenure }

  there : (n : ℕ) → begin ≤ n → is_node (F n) who ≡ true
  there n from = subst (λ c. (nat_le 1 who.0 && nat_le who.0 c) ≡ true) ((here laws law sha k is_farm size plan begin fair begin (omega arith)).size ∙ sym (here laws law sha k is_farm size plan begin fair n from).size) is.there

  up : (n : ℕ) → begin ≤ n → ((F n).nodes who.0).spent ≡ false
  up n from = fair.runs n from who (there n from) (on.stays n from)

  -- the ask is open still, or answered
  open_at : (n : ℕ) → begin ≤ n → (nth ((F n).nodes who.0).asks ask.0 ≡ Some (Open wants tenure)) ⊎ IsAnsweredAt sha k size plan n who ask
  open_at n from =
      let b = linked laws law sha k is_farm size plan begin fair begin n from in
      let l : Life = ((F begin).nodes who.0).life in
      let was : OpenOr sha l ask.0 wants tenure (b.before.world.nodes who.0) = subst (OpenOr sha l ask.0 wants tenure) (sym (b.before.shows.nodes who.0)) (inr (refl, (Open wants tenure, is.asks, inl refl))) in
      let now : OpenOr sha l ask.0 wants tenure ((F n).nodes who.0) = subst (OpenOr sha l ask.0 wants tenure) (b.after.shows.nodes who.0) (open_later sha who l ask.0 wants tenure b.before.world b.after.world b.moves was) in
      by now (on.life n from)
    where
      by : OpenOr sha ((F begin).nodes who.0).life ask.0 wants tenure ((F n).nodes who.0) → ((F n).nodes who.0).life ≡ ((F begin).nodes who.0).life → (nth ((F n).nodes who.0).asks ask.0 ≡ Some (Open wants tenure)) ⊎ IsAnsweredAt sha k size plan n who ask
      by (inl newer) same = (let e : ((F n).nodes who.0).life.0 ≡ ((F begin).nodes who.0).life.0 = ap (λ (z : Life). z.0) same in absurd (omega arith))
      by (inr (life, (st, e, inl stands))) same = inl (e ∙ ap Some stands)
      by (inr (life, (st, e, inr closed))) same = inr (record { kept = st; here = e; answered = closed })

  abbrev Answered : ℕ → Type 0
  Answered n = (later : ℕ) × (n ≤ later) × IsAnsweredAt sha k size plan later who ask

  -- ---- an answer that was sent arrives

  told_at : (n : ℕ) → begin ≤ n → IsAnswered p (F n).pool → Answered n
  unfolding Arrives Knows
  told_at n from (inl (g, i, gn, gl, ga)) =
      let a = arrives laws law sha k is_farm size plan begin fair n from (Told (told.Granted g)) i in
      let m : ℕ = a.0 in
      let le : n ≤ m = a.1 in
      let from_m : begin ≤ m = omega arith in
      elim (open_at m from_m) [
        | inr done ↦ (m, le, done)
        | inl stands ↦
            let known = granted_known sha k (F m) a.2 g wants tenure a.4 (subst (λ (z : NodeId). is_node (F m) z ≡ true) (sym gn) (there m from_m)) (subst (λ (z : NodeId). ((F m).nodes z.0).spent ≡ false) (sym gn) (up m from_m))
            (gl ∙ sym (on.life m from_m) ∙ ap (λ (z : NodeId). ((F m).nodes z.0).life) (sym gn))
            (subst (λ (z : NodeId). nth ((F m).nodes z.0).asks g.ask.0 ≡ Some (Open wants tenure)) (sym gn) (subst (λ (z : Ask). nth ((F m).nodes who.0).asks z.0 ≡ Some (Open wants tenure)) (sym ga) stands)) in
            let at_next : F (suc m) ≡ (step sha k (F m) (Deliver a.2)).farm = next laws law sha k is_farm size plan begin fair m ∙ ap (λ (e : Event). (step sha k (F m) e).farm) a.3 in (
              suc m,
              omega arith,
              record {
                kept = known.0;
                here = subst (λ (f : Farm). nth (f.nodes who.0).asks ask.0 ≡ Some known.0) (sym at_next) (subst (λ (z : NodeId). nth ((step sha k (F m) (Deliver a.2)).farm.nodes z.0).asks ask.0 ≡ Some known.0) gn (subst (λ (z : Ask). nth ((step sha k (F m) (Deliver a.2)).farm.nodes g.node.0).asks z.0 ≡ Some known.0) ga known.1));
                answered = known.2;
              },
            )
      ]
  told_at n from (inr (why, i)) =
      let a = arrives laws law sha k is_farm size plan begin fair n from (Told (told.Denied who p.life ask why)) i in
      let m : ℕ = a.0 in
      let le : n ≤ m = a.1 in
      let from_m : begin ≤ m = omega arith in
      elim (open_at m from_m) [
        | inr done ↦ (m, le, done)
        | inl stands ↦
            let known = denied_known sha k (F m) a.2 who p.life ask why wants tenure a.4 (there m from_m) (up m from_m) (sym (on.life m from_m)) stands in
            let at_next : F (suc m) ≡ (step sha k (F m) (Deliver a.2)).farm = next laws law sha k is_farm size plan begin fair m ∙ ap (λ (e : Event). (step sha k (F m) e).farm) a.3 in
            (suc m, omega arith, record { kept = known.0; here = subst (λ (f : Farm). nth (f.nodes who.0).asks ask.0 ≡ Some known.0) (sym at_next) known.1; answered = known.2 })
      ]

  -- ---- a parked ask comes forward

  -- no message of its node is of a newer life
  young_at : (n : ℕ) → begin ≤ n → (number : ℕ) (y : ToCoord) → nth (F n).pool number ≡ Some (Said y) → is_older_ask y.node y.life p ≡ false
  young_at n from number y e = elim (cases_Bool (eqb who.0 y.node.0)) [
    | inr other ↦ rw other refl
    | inl same ↦ (
        let a = laws.safes sha k is_farm size (firsts plan n) in
        let said : In (Said y) a.world.pool = subst (λ (l : List Message). In (Said y) l) (sym a.shows.pool) (nth_in (F n).pool number (Said y) e) in
        let below : y.life.0 ≤ (a.world.nodes y.node.0).life.0 = (heard_all sha (start sha) a.world a.moves (heard_start sha)).said y said in
        let its : y.life.0 ≤ ((F n).nodes y.node.0).life.0 = subst (λ (z : Node). y.life.0 ≤ z.life.0) (a.shows.nodes y.node.0) below in
        let named : y.life.0 ≤ ((F n).nodes who.0).life.0 = subst (λ z. y.life.0 ≤ ((F n).nodes z).life.0) (sym (eqb-true who.0 y.node.0 same)) its in
        let none : nat_lt p.life.0 y.life.0 ≡ false = subst (λ (z : Life). nat_lt z.0 y.life.0 ≡ false) (on.life n from) (not_below ((F n).nodes who.0).life.0 y.life.0 named) in
        rw (same, none) refl)
  ]

  abbrev Served : ℕ → Type 0
  Served n = (m : ℕ) × (n ≤ m) × IsAnswered p (F m).pool

  abbrev Nearer : ℕ → ℕ → Type 0
  Nearer j n = (m : ℕ) × (n ≤ m) × Within p (F m).ledger.parked j

  -- one slot that it waits for
  module _ (s : Slot) (plain : is_private s.folder.mode ≡ false) (only : (w : Want) → In w (leased_wants tenure wants) → is_private w.folder.mode ≡ false → only_slot w.folder ≡ s) (j : ℕ) (n : ℕ) (from : begin ≤ n) (h : Lease) (i : In h (F n).ledger.live) (has : has_slot h.slots s ≡ true)
      (m : ℕ) (gone : In h (F m).ledger.live → ⊥) where
    abbrev Kept : ℕ → Type 0
    Kept q = SlotKept k s plain p only (F n).ledger (F q).ledger

    waiting_at : (q : ℕ) → begin ≤ q → Waiting k s plain p only (F q).ledger
    waiting_at q le = record { held = (here laws law sha k is_farm size plan begin fair q le).held; home = no_home laws.safes sha k is_farm size (firsts plan q) }

    -- up to the place where the lease has ended
    walk : (d q : ℕ) → m ≡ d + q → n ≤ q → Within p (F q).ledger.parked (suc j) → Kept q → Served n ⊎ Nearer j n
    walk zero q e le there_yet kept =
        let at_end : q ≡ m = omega arith in
        let from_q : begin ≤ q = omega arith in
        let w = waiting_at q from_q in
        let leased : some_lease (F q).ledger.live s ≡ true = held_leased k s plain p only (F q).ledger w.home (w.held p (within_in p (F q).ledger.parked (suc j) there_yet)) in
        let g = from_any (λ (z : Lease). has_slot z.slots s) (F q).ledger.live leased in
        let same : g.0 ≡ h = one_slot (F n).ledger.live (here laws law sha k is_farm size plan begin fair n from).lawful.ledger.core.apart s g.0 h (kept g.0 g.1 g.2) i g.2 has in
        absurd (gone (subst (λ z. In h (F z).ledger.live) at_end (subst (λ (z : Lease). In z (F q).ledger.live) same g.1)))
    walk (suc d) q e le there_yet kept =
        let from_q : begin ≤ q = omega arith in
        let at_next : F (suc q) ≡ (step sha k (F q) (plan q)).farm = next laws law sha k is_farm size plan begin fair q in
        let on_it : OnFarm k s plain p only j (F q) (step sha k (F q) (plan q)).farm = step_on k s plain p only sha (F q) (fair.up q from_q) (fair.safe q from_q) (waiting_at q from_q) j there_yet (plan q)
        (λ number y f e'. young_at q from_q number y e')
        (subst (λ (f : Farm). f.ledger.gone who.0 ≡ false) at_next (on.stays (suc q) (omega arith)))
        (fair.stays q from_q) in
        elim (subst (OnFarm k s plain p only j (F q)) (sym at_next) on_it) [
          | inl (sent, pool, served) ↦ inl (suc q, omega arith, subst (λ (l : List Message). IsAnswered p l) (sym pool) (answered_right k sha 0 p (F q).pool sent served))
          | inr (inl nearer) ↦ inr (suc q, omega arith, nearer)
          | inr (inr (same, also)) ↦ walk d (suc q) (omega arith) (omega arith) same (λ g l t. kept g (also g l t) t)
        ]

  module _ (one : IsForOne tenure wants) where
    queue_loop : (j n : ℕ) → begin ≤ n → Within p (F n).ledger.parked j → Served n
    queue_loop zero n from i = absurd i
    queue_loop (suc j) n from i =
        let home = no_home laws.safes sha k is_farm size (firsts plan n) in
        let w = held_want (F n).ledger p home ((here laws law sha k is_farm size plan begin fair n from).held p (within_in p (F n).ledger.parked (suc j) i)) in
        let s : Slot = only_slot w.0.folder in
        let only : (v : Want) → In v (leased_wants tenure wants) → is_private v.folder.mode ≡ false → only_slot v.folder ≡ s = λ v l mode. ap only_slot (one v w.0 l w.1 mode w.2) in
        let g = from_any (λ (z : Lease). has_slot z.slots s) (F n).ledger.live w.3 in
        let e = lease_ends laws law sha k is_farm size plan begin fair n from g.0 g.1 in
        let le : n ≤ e.0 = e.1 in
        elim (walk s w.2 only j n from g.0 g.1 g.2 e.0 e.2 (e.0 - n) n (omega arith) (omega arith) i (λ z l t. l)) [
          | inl served ↦ served
          | inr (m, after, nearer) ↦ (let r = queue_loop j m (omega arith) nearer in (r.0, (let x : m ≤ r.0 = r.1 in omega arith), r.2))
        ]

    later_answer : (n m : ℕ) → n ≤ m → Answered m → Answered n
    later_answer n m le (q, after, a) = (q, omega arith, a)

    served_answer : (n m : ℕ) → begin ≤ m → n ≤ m → Served m → Answered n
    served_answer n m from le (q, after, s) = later_answer n q (omega arith) (told_at q (omega arith) s)

    -- the ask is said again, and arrives
    asked_at : (n : ℕ) → begin ≤ n → In (acquire who p.life ask wants tenure) (F n).pool → Answered n
    unfolding Arrives
    asked_at n from sent =
        let y : ToCoord = saying k p in
        let a = arrives laws law sha k is_farm size plan begin fair n from (Said y) sent in
        let m : ℕ = a.0 in
        let le : n ≤ m = a.1 in
        let from_m : begin ≤ m = omega arith in
        let w : Work = handled k y (begin_work (F m).ledger) in
        let at_next : F (suc m) ≡ (step sha k (F m) (Deliver a.2)).farm = next laws law sha k is_farm size plan begin fair m ∙ ap (λ (e : Event). (step sha k (F m) e).farm) a.3 in
        let after = delivery_is sha k (F m) a.2 y a.4 (fair.up m from_m) (fair.safe m from_m) in
        let lives : (F m).ledger.lives who.0 ≤ p.life.0 = subst (λ (z : Life). (F m).ledger.lives who.0 ≤ z.0) (on.life m from_m) ((here laws law sha k is_farm size plan begin fair m from_m).lives who.0) in
        elim (handled_met k p (begin_work (F m).ledger) (on.stays m from_m) (not_below p.life.0 ((F m).ledger.lives who.0) lives)) [
          | inr served ↦ served_answer n (suc m) (omega arith) (omega arith) (suc m, omega arith, subst (λ (f : Farm). IsAnswered p f.pool) (sym at_next) (subst (λ (l : List Message). IsAnswered p l) (sym after.pool) (answered_right k sha 0 p (F m).pool (map Told w.sends) (served_is k p w.sends served))))
          | inl queued ↦
              let parked : In p (F (suc m)).ledger.parked = its_parked laws means sha k is_farm size (firsts plan begin) (are_firsts laws law sha k is_farm size plan begin fair begin) who ask wants tenure (firsts plan (suc m))
              (subst (λ (f : Farm). is_parked f.ledger.parked who p.life ask ≡ true) (sym at_next) (subst (λ (q : Ledger). is_parked q.parked who p.life ask ≡ true) (sym after.ledger) queued))
              (subst (λ (f : Farm). In (Said y) f.pool) (sym at_next) (subst (λ (l : List Message). In (Said y) l) (sym after.pool) (in_left (Said y) (F m).pool (map Told w.sends) (nth_in (F m).pool a.2 (Said y) a.4)))) in
              served_answer n (suc m) (omega arith) (omega arith) (queue_loop (length (F (suc m)).ledger.parked) (suc m) (omega arith) (in_within p (F (suc m)).ledger.parked parked))
        ]

    pub answered : Answered begin
    answered =
        let c = fair.resends begin who (omega arith) is.there in
        let n : ℕ = c.0 in
        let from : begin ≤ n = c.1 in
        elim (open_at n from) [
          | inr done ↦ (n, from, done)
          | inl stands ↦
              let x : Node = (F n).nodes who.0 in
              let work = resend_work sha k (F n) who in
              let at_next : F (suc n) ≡ (moved who work (F n)).farm = next laws law sha k is_farm size plan begin fair n ∙ ap (λ (e : Event). (step sha k (F n) e).farm) c.2 ∙ resend_step sha k (F n) who (there n from) (up n from) in
              let again : In (acquire who x.life ask wants tenure) work.sends = inr (again_of sha k (at (F n) who) x (Open wants tenure) (acquire who x.life ask wants tenure) ask.0 stands (λ a q. inl (ap (λ (z : Ask). acquire who x.life z wants tenure) (ask_is ask a (sym q))))) in
              let sent : In (acquire who p.life ask wants tenure) (F (suc n)).pool = subst (λ (f : Farm). In (acquire who p.life ask wants tenure) f.pool) (sym at_next)
              (in_right (acquire who p.life ask wants tenure) (F n).pool work.sends (subst (λ (z : Life). In (acquire who z ask wants tenure) work.sends) (on.life n from) again)) in
              later_answer begin (suc n) (omega arith) (asked_at (suc n) (omega arith) sent)
        ]

pub every_open_ask_is_answered : Laws → EveryScheduleStaysSafe → EveryScheduleMeans → EveryOpenAskIsAnswered
every_open_ask_is_answered laws law means sha k is_farm size plan begin fair who ask wants tenure is on one = answered laws law means sha k is_farm size plan begin fair who ask wants tenure is on one
