-- Each open ask that waits for at most one folder, for a tenure too, is answered by giving back.
use Rattle.std.proofs.Common.{length, ◌<◌, ◌≡◌, ◌≢◌, ℕ, zero, suc, ◌≤◌, List, [], ◌∷◌, ◌++◌, ◌⊎◌, map, Bool, true, false, ◌&&◌, eqb, Some, None, refl, sym, ◌∙◌, ap, subst, inl, inr, arith, append_assoc, append-nil}
use Rattle.std.proofs.lemmas.Bool.{cases_Bool, eqb-true}
use Rattle.std.specs.Prelude.{nat_lt, nat_le}
use Rattle.protocol.specs.Lists.{In, nth}
use Rattle.protocol.specs.Names.{Slot, is_private, only_slot, NodeId, Life, Ask, Want, Digest, leased_wants}
use Rattle.protocol.specs.Machine.{Said, Told, Message, ToCoord, Parked, acquire}
use Rattle.protocol.specs.Ledger.{Limits, Ledger, Lease, Work, begin_work, has_slot, some_lease, is_older_ask, is_parked, handled}
use Rattle.protocol.specs.World.{KeptAsk, Open, Node, start}
use Rattle.protocol.specs.Replay.{Event, Deliver, Resend, RestartCoordinator, Farm, at, is_node, moved, opening, step, run, scheduled}
use Rattle.protocol.specs.Meaning.{IsAnswered}
use Rattle.protocol.specs.Follows.{IsFarm, EveryScheduleStaysSafe}
use Rattle.protocol.specs.Chronicle.{EveryScheduleMeans}
use Rattle.protocol.proofs.Base.{in_left, in_right, from_any, nth_in, ask_is}
use Rattle.progress.specs.Progress.{IsForOne, EveryTenureCanBeGivenBack, EveryOpenTenureIsAnsweredByGivingBack, AreEvents, IsGivingBack, NoneIsDown, is_open, IsWaiting}
use Rattle.progress.proofs.Progressing.{served_is}
use Rattle.progress.proofs.Lives.{heard_all, heard_start, no_home}
use Rattle.progress.proofs.Reaching.{run_more, handled_met, saying, delivery_is}
use Rattle.progress.proofs.Asking.{Knows, answer_known, new_nth, length_more, not_below}
use Rattle.progress.proofs.Giving.{one_more, resend_work, resend_step, again_of}
use Rattle.progress.proofs.Going.{OpenOr, open_later}
use Rattle.progress.proofs.Ending.{Laws, Givings, both_giving, its_parked}
use Rattle.progress.proofs.Queueing.{Within, within_in, in_within, Waiting, SlotKept, OnFarm, held_leased, step_on}
use Rattle.progress.proofs.Fairness.{held_want, one_slot}
use Rattle.progress.proofs.TenureEnds.{Up, here, calm_more, up_more, longer, lease_ends_by}

module _ (laws : Laws) (law : EveryScheduleStaysSafe) (means : EveryScheduleMeans) (sha : List ℕ → Digest) (k : Limits) (is_farm : IsFarm sha k) (size : ℕ) (p : Parked) (one : IsForOne p.tenure p.wants) (before : ℕ) where
  abbrev F : List Event → Farm
  F events = scheduled sha k size events

  -- the ask's node is in the life that asked, and isn't retired
  pub record Asks (events : List Event) : Type 0 where
    pub up : Up laws law means sha k is_farm size events
    pub life : ((F events).nodes p.node.0).life ≡ p.life
    pub stays : (F events).ledger.gone p.node.0 ≡ false
    pub long : before ≤ length (F events).pool

  asks_more : (events : List Event) → Asks events → (more : List Event) → Givings before more → Asks (events ++ more)
  asks_more events a more own =
      let c = calm_more laws law means sha k is_farm size events a.up before more own in
      record {
        up = up_more laws law means sha k is_farm size events a.up before more own;
        life = (c.nodes p.node.0).life ∙ a.life;
        stays = ap (λ (f : ℕ → Bool). f p.node.0) c.gone ∙ a.stays;
        long = longer laws law means sha k is_farm size events more before a.long;
      }

  young : (events : List Event) → Asks events → (number : ℕ) (y : ToCoord) → nth (F events).pool number ≡ Some (Said y) → is_older_ask y.node y.life p ≡ false
  young events asks number y e = elim (cases_Bool (eqb p.node.0 y.node.0)) [
    | inr other ↦ rw other refl
    | inl same ↦ (
        let a = laws.safes sha k is_farm size events in
        let said : In (Said y) a.world.pool = subst (λ (l : List Message). In (Said y) l) (sym a.shows.pool) (nth_in (F events).pool number (Said y) e) in
        let below : y.life.0 ≤ (a.world.nodes y.node.0).life.0 = (heard_all sha (start sha) a.world a.moves (heard_start sha)).said y said in
        let its : y.life.0 ≤ ((F events).nodes y.node.0).life.0 = subst (λ (z : Node). y.life.0 ≤ z.life.0) (a.shows.nodes y.node.0) below in
        let named : y.life.0 ≤ ((F events).nodes p.node.0).life.0 = subst (λ z. y.life.0 ≤ ((F events).nodes z).life.0) (sym (eqb-true p.node.0 y.node.0 same)) its in
        let none : nat_lt p.life.0 y.life.0 ≡ false = subst (λ (z : Life). nat_lt z.0 y.life.0 ≡ false) asks.life (not_below ((F events).nodes p.node.0).life.0 y.life.0 named) in
        rw (same, none) refl)
  ]

  -- after some events the answer has been sent, since the first `before` messages
  abbrev pub Sent : List Event → Type 0
  Sent events = (front : List Event) × Givings before front × (base : List Message) × (sent : List Message) × ((F (events ++ front)).pool ≡ base ++ sent) × (before ≤ length base) × IsAnswered p sent

  abbrev Nearer : ℕ → List Event → Type 0
  Nearer j events = (front : List Event) × Givings before front × Within p (F (events ++ front)).ledger.parked j

  not_restart : (e : Event) → IsGivingBack before e → e ≢ RestartCoordinator
  not_restart e i same = absurd (subst (IsGivingBack before) same i)

  module _ (s : Slot) (plain : is_private s.folder.mode ≡ false) (only : (w : Want) → In w (leased_wants p.tenure p.wants) → is_private w.folder.mode ≡ false → only_slot w.folder ≡ s) (j : ℕ) (events : List Event) (asks : Asks events) (h : Lease) (i : In h (F events).ledger.live) (has : has_slot h.slots s ≡ true) where
    waiting : (es : List Event) → Asks es → Waiting k s plain p only (F es).ledger
    waiting es a = record { held = (here laws law means sha k is_farm size es a.up).held; home = no_home laws.safes sha k is_farm size es }

    walk : (more done : List Event) → Givings before done → Givings before more → (In h (F (events ++ (done ++ more))).ledger.live → ⊥) → Within p (F (events ++ done)).ledger.parked (suc j)
        → SlotKept k s plain p only (F events).ledger (F (events ++ done)).ledger → Sent events ⊎ Nearer j events
    walk [] done own also gone within kept =
        let es : List Event = events ++ done in
        let a = asks_more events asks done own in
        let w = waiting es a in
        let leased : some_lease (F es).ledger.live s ≡ true = held_leased k s plain p only (F es).ledger w.home (w.held p (within_in p (F es).ledger.parked (suc j) within)) in
        let g = from_any (λ (z : Lease). has_slot z.slots s) (F es).ledger.live leased in
        let same : g.0 ≡ h = one_slot (F events).ledger.live (here laws law means sha k is_farm size events asks.up).lawful.ledger.core.apart s g.0 h (kept g.0 g.1 g.2) i g.2 has in
        absurd (gone (subst (λ (l : List Event). In h (F (events ++ l)).ledger.live) (sym (append-nil done)) (subst (λ (z : Lease). In z (F es).ledger.live) same g.1)))
    walk (e ∷ more) done own also gone within kept =
        let es : List Event = events ++ done in
        let a = asks_more events asks done own in
        let done' : List Event = done ++ e ∷ [] in
        let own_one : Givings before (e ∷ []) = one_more (IsGivingBack before) e (also e (inl refl)) [] (λ v x. absurd x) in
        let own' : Givings before done' = both_giving before done (e ∷ []) own own_one in
        let next : F (events ++ done') ≡ (step sha k (F es) e).farm = ap F (sym (append_assoc events done (e ∷ []))) ∙ run_more sha k es (e ∷ []) (opening sha size) in
        let after = asks_more events asks done' own' in
        let on = step_on k s plain p only sha (F es) a.up.up a.up.safe (waiting es a) j within e (λ number y q e'. young es a number y e')
        (subst (λ (f : Farm). f.ledger.gone p.node.0 ≡ false) next after.stays) (not_restart e (also e (inl refl))) in
        elim (subst (OnFarm k s plain p only j (F es)) (sym next) on) [
          | inl (sent, pool, served) ↦ inl (done', own', (F es).pool, sent, pool, a.long, served)
          | inr (inl nearer) ↦ inr (done', own', nearer)
          | inr (inr (same, also_kept)) ↦ walk more done' own' (λ v x. also v (inr x))
              (subst (λ (l : List Event). In h (F (events ++ l)).ledger.live → ⊥) (sym (append_assoc done (e ∷ []) more)) gone) same (λ g l t. kept g (also_kept g l t) t)
        ]

  pub queue : (j : ℕ) (events : List Event) → Asks events → Within p (F events).ledger.parked j → Sent events
  queue zero events asks i = absurd i
  queue (suc j) events asks i =
      let home = no_home laws.safes sha k is_farm size events in
      let w = held_want (F events).ledger p home ((here laws law means sha k is_farm size events asks.up).held p (within_in p (F events).ledger.parked (suc j) i)) in
      let s : Slot = only_slot w.0.folder in
      let only : (v : Want) → In v (leased_wants p.tenure p.wants) → is_private v.folder.mode ≡ false → only_slot v.folder ≡ s = λ v l mode. ap only_slot (one v w.0 l w.1 mode w.2) in
      let g = from_any (λ (z : Lease). has_slot z.slots s) (F events).ledger.live w.3 in
      let e = lease_ends_by laws law means sha k is_farm size events asks.up g.0 g.1 before asks.long in
      let same : events ++ [] ≡ events = append-nil events in
      elim (walk s w.2 only j events asks g.0 g.1 g.2 e.0 [] (λ v x. absurd x) e.1 e.2
      (subst (λ (l : List Event). Within p (F l).ledger.parked (suc j)) (sym same) i)
      (subst (λ (l : List Event). SlotKept k s w.2 p only (F events).ledger (F l).ledger) (sym same) (λ z l t. l))) [
        | inl sent ↦ sent
        | inr (front, own, nearer) ↦ (
            let r = queue j (events ++ front) (asks_more events asks front own) nearer in
            (front ++ r.0, both_giving before front r.0 own r.1, r.2, r.3, subst (λ (l : List Event). (F l).pool ≡ r.2 ++ r.3) (append_assoc events front r.0) r.4, r.5, r.6))
      ]

-- ---- an open ask

module _ (laws : Laws) (law : EveryScheduleStaysSafe) (means : EveryScheduleMeans) (sha : List ℕ → Digest) (k : Limits) (is_farm : IsFarm sha k) (size : ℕ) (events : List Event) (are : AreEvents events) (who : NodeId) (ask : Ask) (wants : List Want) (tenure : Bool) (one : IsForOne tenure wants)
    (up : (scheduled sha k size events).down ≡ false) (safe : (scheduled sha k size events).armed ≡ None) (none : NoneIsDown (scheduled sha k size events)) (is : IsWaiting (scheduled sha k size events) who ask wants tenure) where
  abbrev s : Farm
  s = scheduled sha k size events

  abbrev p : Parked
  p = record { node = who; life = (s.nodes who.0).life; ask = ask; wants = wants; tenure = tenure }

  abbrev before : ℕ
  before = length s.pool

  abbrev Done : Type 0
  Done = (more : List Event) × Givings before more × ((kept : KeptAsk) × (nth ((run sha k more s).nodes who.0).asks ask.0 ≡ Some kept) × (is_open kept ≡ false))

  asks : Asks laws law means sha k is_farm size p one before events
  asks = record { up = record { are = are; up = up; safe = safe; none = none }; life = refl; stays = is.stays; long = omega arith }

  -- once the answer has been sent it arrives
  comes : Sent laws law means sha k is_farm size p one before events → Done
  unfolding Knows
  comes (front, own, base, sent, pool, long, answered) =
      let v : Farm = scheduled sha k size (events ++ front) in
      let same : v ≡ run sha k front s = run_more sha k events front (opening sha size) in
      let a = asks_more laws law means sha k is_farm size p one before events asks front own in
      let b = law sha k is_farm size events front in
      let was : OpenOr sha p.life ask.0 wants tenure (b.before.world.nodes who.0) = subst (OpenOr sha p.life ask.0 wants tenure) (sym (b.before.shows.nodes who.0)) (inr (refl, (Open wants tenure, is.asks, inl refl))) in
      let now : OpenOr sha p.life ask.0 wants tenure (v.nodes who.0) = subst (OpenOr sha p.life ask.0 wants tenure) (b.after.shows.nodes who.0) (open_later sha who p.life ask.0 wants tenure b.before.world b.after.world b.moves was) in
      elim (by v now a.life) [
        | inr (kept, here_now, closed) ↦ (front, own, (kept, subst (λ (f : Farm). nth (f.nodes who.0).asks ask.0 ≡ Some kept) same here_now, closed))
        | inl stands ↦ (
            let there : is_node v who ≡ true = subst (λ c. (nat_le 1 who.0 && nat_le who.0 c) ≡ true) ((here laws law means sha k is_farm size events asks.up).size ∙ sym (here laws law means sha k is_farm size (events ++ front) a.up).size) is.there in
            let known = answer_known sha k v p base sent wants tenure pool answered there (a.up.none who there a.stays) (sym a.life) stands in
            let last : List Event = Deliver known.0 ∷ [] in
            let all : run sha k (front ++ last) s ≡ (step sha k v (Deliver known.0)).farm = run_more sha k front last s ∙ ap (λ (f : Farm). (step sha k f (Deliver known.0)).farm) (sym same) in (
              front ++ last,
              both_giving before front last own (one_more (IsGivingBack before) (Deliver known.0) (let l : length base < known.0 = known.1 in omega arith) [] (λ x j. absurd j)),
              (known.2.0, subst (λ (f : Farm). nth (f.nodes who.0).asks ask.0 ≡ Some known.2.0) (sym all) known.2.1, known.2.2),
            ))
      ]
    where
      by : (v : Farm) → OpenOr sha (s.nodes who.0).life ask.0 wants tenure (v.nodes who.0) → (v.nodes who.0).life ≡ (s.nodes who.0).life → (nth (v.nodes who.0).asks ask.0 ≡ Some (Open wants tenure)) ⊎ ((kept : KeptAsk) × (nth (v.nodes who.0).asks ask.0 ≡ Some kept) × (is_open kept ≡ false))
      by v (inl newer) same = (let e : (v.nodes who.0).life.0 ≡ (s.nodes who.0).life.0 = ap (λ (z : Life). z.0) same in absurd (omega arith))
      by v (inr (life, (st, e, inl stands))) same = inl (e ∙ ap Some stands)
      by v (inr (life, (st, e, inr closed))) same = inr (st, e, closed)

  pub open_done : Done
  open_done =
      let x : Node = s.nodes who.0 in
      let work = resend_work sha k s who in
      let t : Farm = (moved who work s).farm in
      let sent_again : (step sha k s (Resend who)).farm ≡ t = resend_step sha k s who is.there is.runs in
      let y : ToCoord = saying k p in
      let said : In (Said y) work.sends = inr (again_of sha k (at s who) x (Open wants tenure) (Said y) ask.0 is.asks (λ a q. inl (ap (λ (z : Ask). acquire who x.life z wants tenure) (ask_is ask a (sym q))))) in
      let m = new_nth s.pool work.sends (Said y) said in
      let w : Work = handled k y (begin_work s.ledger) in
      let after = delivery_is sha k t m.0 y m.2 up safe in
      let early : List Event = Resend who ∷ Deliver m.0 ∷ [] in
      let own : Givings before early = one_more (IsGivingBack before) (Resend who) tt (Deliver m.0 ∷ []) (one_more (IsGivingBack before) (Deliver m.0) m.1 [] (λ v j. absurd j)) in
      let later : List Event = events ++ early in
      let same : scheduled sha k size later ≡ (step sha k t (Deliver m.0)).farm = run_more sha k events early (opening sha size) ∙ ap (λ (f : Farm). (step sha k f (Deliver m.0)).farm) sent_again in
      let pool : (scheduled sha k size later).pool ≡ t.pool ++ map Told w.sends = ap (λ (f : Farm). f.pool) same ∙ after.pool in
      let lives : s.ledger.lives who.0 ≤ x.life.0 = (here laws law means sha k is_farm size events asks.up).lives who.0 in
      elim (handled_met k p (begin_work s.ledger) is.stays (not_below x.life.0 (s.ledger.lives who.0) lives)) [
        | inr served ↦ comes (early, own, t.pool, map Told w.sends, pool, length_more s.pool work.sends, served_is k p w.sends served)
        | inl queued ↦
            let parked : In p (scheduled sha k size later).ledger.parked = its_parked laws means sha k is_farm size events are who ask wants tenure later
            (subst (λ (f : Farm). is_parked f.ledger.parked who x.life ask ≡ true) (sym same) (subst (λ (q : Ledger). is_parked q.parked who x.life ask ≡ true) (sym after.ledger) queued))
            (subst (λ (l : List Message). In (Said y) l) (sym pool) (in_left (Said y) t.pool (map Told w.sends) (in_right (Said y) s.pool work.sends said))) in
            let r = queue laws law means sha k is_farm size p one before (length (scheduled sha k size later).ledger.parked) later (asks_more laws law means sha k is_farm size p one before events asks early own) (in_within p (scheduled sha k size later).ledger.parked parked) in
            comes (early ++ r.0, both_giving before early r.0 own r.1, r.2, r.3, subst (λ (l : List Event). (scheduled sha k size l).pool ≡ r.2 ++ r.3) (append_assoc events early r.0) r.4, r.5, r.6)
      ]

pub every_tenure_can_be_given_back : Laws → EveryScheduleStaysSafe → EveryScheduleMeans → EveryTenureCanBeGivenBack
every_tenure_can_be_given_back laws law means sha k is_farm size events are up safe none h i =
    let r = lease_ends_by laws law means sha k is_farm size events (record { are = are; up = up; safe = safe; none = none }) h i (length (scheduled sha k size events).pool) (omega arith) in
    (r.0, r.1, subst (λ (f : Farm). In h f.ledger.live → ⊥) (run_more sha k events r.0 (opening sha size)) r.2)

pub every_open_tenure_is_answered_by_giving_back : Laws → EveryScheduleStaysSafe → EveryScheduleMeans → EveryOpenTenureIsAnsweredByGivingBack
every_open_tenure_is_answered_by_giving_back laws law means sha k is_farm size events are up safe none who ask wants tenure is one =
    let r = open_done laws law means sha k is_farm size events are who ask wants tenure one up safe none is in
    (r.0, r.1, record { kept = r.2.0; here = r.2.1; answered = r.2.2 })
