-- There are fair runs.
use Rattle.std.proofs.Common.{length, filter, ◌<◌, ◌≡◌, ◌≢◌, ℕ, zero, suc, ◌+◌, ◌-◌, ◌≤◌, List, [], ◌∷◌, ◌++◌, ◌⊎◌, Bool, true, false, not, ◌&&◌, Option, Some, None, refl, sym, ◌∙◌, ap, subst, inl, inr, arith, append-nil}
use Rattle.std.proofs.lemmas.Bool.{cases_Bool}
use Rattle.std.specs.Prelude.{nat_le}
use Rattle.farm_base.specs.Kinds.{is_tenure}
use Rattle.events.specs.declared.answer.How.TheVariants as how
use Rattle.events.specs.declared.answer.NodeNote.TheVariants as note
use Rattle.protocol.specs.Lists.{In, nth}
use Rattle.protocol.specs.Names.{NodeId, Ticket, Want, Digest, wants_shared, leased_wants}
use Rattle.protocol.specs.Machine.{Message}
use Rattle.protocol.specs.Ledger.{Limits}
use Rattle.protocol.specs.World.{KeptAsk, Open, Holding, Running, Finished, Over, Node}
use Rattle.protocol.specs.Nodes.{NodeWork, others_use, in_use, HeldGrant, held_or_running, gives_up}
use Rattle.protocol.specs.Replay.{Event, Deliver, Abort, Resend, Nudge, RestartCoordinator, Farm, at, is_node, moved, opening, step, scheduled}
use Rattle.protocol.specs.Lawful.{IsEvent}
use Rattle.protocol.specs.Follows.{IsFarm}
use Rattle.protocol.proofs.Base.{in_append, in_one, from_filter, none_some, some_is, put_same, nth_set_cases}
use Rattle.protocol.proofs.Moving.{found}
use Rattle.progress.specs.Progress.{AreEvents, IsGivingBack, NoneIsDown}
use Rattle.progress.specs.Fair.{firsts, is_under, farm_at, Comes, IsDone, IsFair, LivesOn, ThereAreFairRuns, OneFolderIsOne}
use Rattle.progress.proofs.Giving.{first_at, abort_is}
use Rattle.progress.proofs.Reaching.{run_more}
use Rattle.progress.proofs.Calm.{CalmFarm, calm_same, calm_then, step_calm}
use Rattle.progress.proofs.Ending.{Laws, here_of, giving_event}

-- ---- each two numbers, in their turn

next_pair : ℕ × ℕ → ℕ × ℕ
next_pair (a, zero) = (0, suc a)
next_pair (a, suc r) = (suc a, r)

pair_at : ℕ → ℕ × ℕ
pair_at zero = (0, 0)
pair_at (suc n) = next_pair (pair_at n)

abbrev pair_of : ℕ → ℕ → ℕ × ℕ
pair_of x y = (x, y)

-- along a row
along : (i r s n : ℕ) → s ≡ i + r → pair_at n ≡ (0, s) → (m : ℕ) × (n ≤ m) × (pair_at m ≡ (i, r))
unfolding pair_at next_pair
along zero r s n f e = (n, omega arith, e ∙ ap (pair_of 0) (let g : s ≡ r = omega arith in g))
along (suc i) r s n f e = (let a = along i (suc r) s n (omega arith) e in (suc a.0, (let le : n ≤ a.0 = a.1 in omega arith), ap next_pair a.2))

rows : (b : ℕ) → (n : ℕ) × (b ≤ n) × (pair_at n ≡ (0, b))
unfolding pair_at next_pair
rows zero = (0, omega arith, refl)
rows (suc b) =
    let r = rows b in
    let a = along b 0 b r.0 (omega arith) r.2 in
    (suc a.0, (let x : b ≤ r.0 = r.1 in let y : r.0 ≤ a.0 = a.1 in omega arith), ap next_pair a.2)

pair_comes : (x y : ℕ) → (n : ℕ) × (x + y ≤ n) × (pair_at n ≡ (x, y))
pair_comes x y = (let r = rows (x + y) in let a = along x y (x + y) r.0 refl r.2 in (a.0, (let b : x + y ≤ r.0 = r.1 in let c : r.0 ≤ a.0 = a.1 in omega arith), a.2))

-- ---- each event that gives back, again and again

event_of : ℕ × ℕ → Event
event_of (zero, r) = Nudge
event_of (suc zero, r) = Resend (record { 0 = r })
event_of (suc (suc zero), r) = Deliver (suc r)
event_of (suc (suc (suc c)), r) = Abort (record { 0 = (pair_at r).0 }) (record { 0 = (pair_at r).1 })

rest : ℕ → Event
rest d = event_of (pair_at (pair_at d).0)

again : (v d : ℕ) → (later : ℕ) × (d ≤ later) × (rest later ≡ event_of (pair_at v))
unfolding rest event_of
again v d = (let p = pair_comes v d in (p.0, (let le : v + d ≤ p.0 = p.1 in omega arith), ap (λ (q : ℕ × ℕ). event_of (pair_at q.0)) p.2))

comes_again : (c r d : ℕ) → (later : ℕ) × (d ≤ later) × (rest later ≡ event_of (c, r))
comes_again c r d = (let p = pair_comes c r in let a = again p.0 d in (a.0, a.1, a.2 ∙ ap event_of p.2))

abort_again : (who : NodeId) (ticket : Ticket) (d : ℕ) → (later : ℕ) × (d ≤ later) × (rest later ≡ Abort who ticket)
unfolding event_of
abort_again who ticket d =
    let p = pair_comes who.0 ticket.0 in
    let a = comes_again 3 p.0 d in
    (a.0, a.1, a.2 ∙ ap (λ (q : ℕ × ℕ). Abort (record { 0 = q.0 }) (record { 0 = q.1 })) p.2)

event_gives : (q : ℕ × ℕ) → IsGivingBack 0 (event_of q)
unfolding event_of
event_gives (zero, r) = tt
event_gives (suc zero, r) = tt
event_gives (suc (suc zero), r) = (let e : 0 < suc r = omega arith in e)
event_gives (suc (suc (suc c)), r) = tt

-- ---- first these events, then those

spliced : List Event → (ℕ → Event) → ℕ → Event
spliced [] more n = more n
spliced (e ∷ es) more zero = e
spliced (e ∷ es) more (suc n) = spliced es more n

firsts_from : (plan : ℕ → Event) (n : ℕ) → firsts plan (suc n) ≡ plan 0 ∷ firsts (λ j. plan (suc j)) n
firsts_from plan zero = refl
firsts_from plan (suc n) = ap (λ (l : List Event). l ++ plan (suc n) ∷ []) (firsts_from plan n)

spliced_firsts : (es : List Event) (more : ℕ → Event) (d m : ℕ) → m ≡ length es + d → firsts (spliced es more) m ≡ es ++ firsts more d
unfolding spliced
spliced_firsts [] more d m e = (let f : m ≡ d = omega arith in ap (firsts more) f)
spliced_firsts (x ∷ es) more d zero e = absurd (omega arith)
spliced_firsts (x ∷ es) more d (suc m) e = firsts_from (spliced (x ∷ es) more) m ∙ ap (λ (l : List Event). x ∷ l) (spliced_firsts es more d m (omega arith))

spliced_rest : (es : List Event) (more : ℕ → Event) (d m : ℕ) → m ≡ length es + d → spliced es more m ≡ more d
unfolding spliced
spliced_rest [] more d m e = (let f : m ≡ d = omega arith in ap more f)
spliced_rest (x ∷ es) more d zero e = absurd (omega arith)
spliced_rest (x ∷ es) more d (suc m) e = spliced_rest es more d m (omega arith)

-- ---- an only ask is given up whenever that is asked

only_place : (asks : List KeptAsk) (a : ℕ) (st : KeptAsk) → length asks ≤ 1 → nth asks a ≡ Some st → a ≡ 1
only_place asks zero st le e = none_some st e
only_place [] (suc a) st le e = none_some st e
only_place (x ∷ asks) (suc zero) st le e = refl
only_place (x ∷ []) (suc (suc a)) st le e = none_some st e
only_place (x ∷ y ∷ asks) (suc (suc a)) st le e = absurd (omega arith)

only_idle : (asks : List KeptAsk) (a : ℕ) (wants : List Want) → length asks ≤ 1 → a ≡ 1 → others_use a wants asks 0 ≡ false
only_idle [] a wants le e = refl
only_idle (x ∷ []) a wants le e = subst (λ z. others_use z wants (x ∷ []) 0 ≡ false) (sym e) refl
only_idle (x ∷ y ∷ asks) a wants le e = absurd (omega arith)

module _ (sha : List ℕ → Digest) (k : Limits) (s : Farm) (who : NodeId) (ticket : Ticket) (there : is_node s who ≡ true) (up : (s.nodes who.0).spent ≡ false) (few : length (s.nodes who.0).asks ≤ 1) where
  -- after the abort no ask is under the ticket
  abbrev DoneIn : Farm → Type 0
  DoneIn t = (number : ℕ) (st : KeptAsk) → nth (t.nodes who.0).asks number ≡ Some st → is_under ticket st ≡ false

  under_held : (st : KeptAsk) → is_under ticket st ≡ true → (v : HeldGrant) × (held_or_running ticket st ≡ Some v)
  under_held (Open wants tenure) u = (let bad : false ≡ true = u in absurd (cc bad))
  under_held (Holding wants g r) u = (record { wants = wants; grant = g; recalled = r }, rw u refl)
  under_held (Running wants g r) u = (record { wants = wants; grant = g; recalled = r }, rw u refl)
  under_held (Finished wants g news) u = (let bad : false ≡ true = u in absurd (cc bad))
  under_held (Over ending) u = (let bad : false ≡ true = u in absurd (cc bad))

  gives_it_up : (number : ℕ) (st : KeptAsk) → nth (s.nodes who.0).asks number ≡ Some st → is_under ticket st ≡ true → DoneIn (step sha k s (Abort who ticket)).farm
  gives_it_up number st e u =
      let x : Node = s.nodes who.0 in
      let v = under_held st u in
      let r = first_at (held_or_running ticket) x.asks number st v.0 e v.1 in
      let o = found (held_or_running ticket) x.asks r.0 r.1 in
      let place : r.0.0 ≡ 1 = only_place x.asks r.0.0 o.0 few o.1 in
      let idle : in_use x.asks r.0.0 r.0.1.wants r.0.1.grant ≡ false = none (is_tenure r.0.1.grant.kind) (others_use r.0.0 r.0.1.wants x.asks 0) (only_idle x.asks r.0.0 r.0.1.wants few place) in
      let work : NodeWork = gives_up (at s who) r.0.0 r.0.1.grant.ticket (note.Aborted r.0.1.grant.ticket) x in
      let does : (step sha k s (Abort who ticket)).farm ≡ (moved who work s).farm = abort_is sha k s who ticket r.0 there up r.1 idle in
      subst DoneIn (sym does) (λ n z f. over n z (nth_set_cases x.asks r.0.0 (Over (how.Released r.0.1.grant.ticket)) o.0 n z o.1 (ap (λ (y : Node). nth y.asks n) (sym (put_same who.0 work.node s.nodes)) ∙ f)) place)
    where
      none : (a b : Bool) → b ≡ false → (a && b) ≡ false
      none true b e = e
      none false b e = refl

      over : (n : ℕ) (z : KeptAsk) {i : ℕ} {t : Ticket} → ((n ≡ i) × (z ≡ Over (how.Released t))) ⊎ ((n ≢ i) × (nth (s.nodes who.0).asks n ≡ Some z)) → i ≡ 1 → is_under ticket z ≡ false
      over n z (inl c) one = subst (λ y. is_under ticket y ≡ false) (sym c.1) refl
      over n z (inr c) one = absurd (c.0 (only_place (s.nodes who.0).asks n z few c.1 ∙ sym one))

-- ---- a fair run

spliced_all : (P : Event → Type 0) (es : List Event) (more : ℕ → Event) → ((e : Event) → In e es → P e) → ((n : ℕ) → P (more n)) → (n : ℕ) → P (spliced es more n)
unfolding spliced
spliced_all P [] more all rest n = rest n
spliced_all P (e ∷ es) more all rest zero = all e (inl refl)
spliced_all P (e ∷ es) more all rest (suc n) = spliced_all P es more (λ x i. all x (inr i)) rest n

rest_gives : (d : ℕ) → IsGivingBack 0 (rest d)
unfolding rest
rest_gives d = event_gives (pair_at (pair_at d).0)

not_restart : (e : Event) → IsGivingBack 0 e → e ≢ RestartCoordinator
not_restart e i same = absurd (subst (IsGivingBack 0) same i)

nudge_again : (d : ℕ) → (later : ℕ) × (d ≤ later) × (rest later ≡ Nudge)
unfolding event_of
nudge_again d = comes_again 0 0 d

resend_again : (who : NodeId) (d : ℕ) → (later : ℕ) × (d ≤ later) × (rest later ≡ Resend who)
unfolding event_of
resend_again who d = comes_again 1 who.0 d

deliver_again : (number d : ℕ) → (later : ℕ) × (d ≤ later) × (rest later ≡ Deliver (suc number))
unfolding event_of
deliver_again number d = comes_again 2 number d

module _ (laws : Laws) (sha : List ℕ → Digest) (k : Limits) (is_farm : IsFarm sha k) (size : ℕ) (events : List Event) (are : AreEvents events)
    (up : (scheduled sha k size events).down ≡ false) (safe : (scheduled sha k size events).armed ≡ None) (none : NoneIsDown (scheduled sha k size events)) (few : (number : ℕ) → length ((scheduled sha k size events).nodes number).asks ≤ 1) where
  abbrev plan : ℕ → Event
  plan = spliced events rest

  abbrev begin : ℕ
  begin = length events

  abbrev s : Farm
  s = scheduled sha k size events

  all_are : (n : ℕ) → IsEvent (plan n)
  all_are = spliced_all IsEvent events rest are (λ d. giving_event 0 (rest d) (rest_gives d))

  firsts_are : (n : ℕ) → AreEvents (firsts plan n)
  firsts_are zero e i = absurd i
  firsts_are (suc n) e i = elim (in_append e (firsts plan n) (plan n ∷ []) i) [ inl j ↦ firsts_are n e j | inr j ↦ subst IsEvent (sym (in_one e (plan n) j)) (all_are n) ]

  abbrev F : ℕ → Farm
  F n = farm_at sha k size plan n

  began : firsts plan begin ≡ events
  began = spliced_firsts events rest 0 begin (omega arith) ∙ append-nil events

  calm : (d n : ℕ) → n ≡ begin + d → CalmFarm s (F n)
  calm zero n e =
      let at_it : firsts plan n ≡ events = ap (firsts plan) (let f : n ≡ begin = omega arith in f) ∙ began in
      subst (λ (l : List Event). CalmFarm s (scheduled sha k size l)) (sym at_it) (record { down = up; armed = safe; size = refl; gone = refl; nodes = λ j. calm_same (s.nodes j) })
  calm (suc d) zero e = absurd (omega arith)
  calm (suc d) (suc n) e =
      let before = calm d n (omega arith) in
      let lawful = (here_of laws sha k is_farm size (firsts plan n) (firsts_are n) before.down before.armed).lawful in
      let event : plan n ≡ rest d = spliced_rest events rest d n (omega arith) in
      let at_next : F (suc n) ≡ (step sha k (F n) (plan n)).farm = run_more sha k (firsts plan n) (plan n ∷ []) (opening sha size) in
      calm_then s (F n) (F (suc n)) before (subst (CalmFarm (F n)) (sym at_next)
      (step_calm sha k (F n) before.down before.armed (λ y. (laws.touches size k (F n).ledger lawful.ledger y).gone) (plan n) (subst (IsGivingBack 0) (sym event) (rest_gives d))))

  calm_at : (n : ℕ) → begin ≤ n → CalmFarm s (F n)
  calm_at n le = calm (n - begin) n (omega arith)

  -- an event that comes again and again comes there or later
  comes : (e : Event) → ((d : ℕ) → (later : ℕ) × (d ≤ later) × (rest later ≡ e)) → (n : ℕ) → begin ≤ n → Comes sha k size plan n e
  comes e again n le =
      let a = again (n - begin) in
      (begin + a.0, (let b : n - begin ≤ a.0 = a.1 in omega arith), spliced_rest events rest a.0 (begin + a.0) refl ∙ a.2)

  up_at : (n : ℕ) → begin ≤ n → (who : NodeId) → is_node (F n) who ≡ true → (F n).ledger.gone who.0 ≡ false → ((F n).nodes who.0).spent ≡ false
  up_at n le who there here =
      let c = calm_at n le in
      (c.nodes who.0).spent ∙ none who (subst (λ (z : ℕ). (nat_le 1 who.0 && nat_le who.0 z) ≡ true) c.size there) (subst (λ (f : ℕ → Bool). f who.0 ≡ false) c.gone here)

  few_at : (n : ℕ) → begin ≤ n → (number : ℕ) → length ((F n).nodes number).asks ≤ 1
  few_at n le number = subst (λ z. z ≤ 1) (sym ((calm_at n le).nodes number).asks) (few number)

  is_fair : IsFair sha k size plan begin
  is_fair = record {
    are = all_are;
    up = λ n le. (calm_at n le).down;
    safe = λ n le. (calm_at n le).armed;
    stays = λ n le. subst (λ (e : Event). e ≢ RestartCoordinator) (sym (spliced_rest events rest (n - begin) n (omega arith))) (not_restart (rest (n - begin)) (rest_gives (n - begin)));
    runs = λ n le who there here. up_at n le who there here;
    arrives = λ n number message le e. arrives_at n number message le e;
    nudges = λ n le. comes Nudge nudge_again n le;
    resends = λ n who le there. comes (Resend who) (resend_again who) n le;
    ends = λ n number who ticket kept le there here e under. ends_at n number who ticket kept le there here e under;
  }
    where
      arrives_at : (n number : ℕ) (message : Message) → begin ≤ n → nth (F n).pool number ≡ Some message → Comes sha k size plan n (Deliver number)
      arrives_at n zero message le e = none_some message e
      arrives_at n (suc number) message le e = comes (Deliver (suc number)) (deliver_again number) n le

      ends_at : (n number : ℕ) (who : NodeId) (ticket : Ticket) (kept : KeptAsk) → begin ≤ n → is_node (F n) who ≡ true → (F n).ledger.gone who.0 ≡ false → nth ((F n).nodes who.0).asks number ≡ Some kept → is_under ticket kept ≡ true → (later : ℕ) × (n ≤ later) × IsDone sha k size plan later who number ticket
      ends_at n number who ticket kept le there here e under =
          let c = comes (Abort who ticket) (abort_again who ticket) n le in
          let m : ℕ = c.0 in
          let after : n ≤ m = c.1 in
          let from : begin ≤ m = omega arith in
          let same_size : (F m).size ≡ (F n).size = (calm_at m from).size ∙ sym (calm_at n le).size in
          let there' : is_node (F m) who ≡ true = subst (λ (z : ℕ). (nat_le 1 who.0 && nat_le who.0 z) ≡ true) (sym same_size) there in
          let here' : (F m).ledger.gone who.0 ≡ false = subst (λ (f : ℕ → Bool). f who.0 ≡ false) ((calm_at n le).gone ∙ sym (calm_at m from).gone) here in
          by m after c.2 there' (up_at m from who there' here') (few_at m from who.0) (nth ((F m).nodes who.0).asks number) refl
        where
          by : (m : ℕ) → n ≤ m → plan m ≡ Abort who ticket → is_node (F m) who ≡ true → ((F m).nodes who.0).spent ≡ false → length ((F m).nodes who.0).asks ≤ 1 → (o : Option KeptAsk) → nth ((F m).nodes who.0).asks number ≡ o → (later : ℕ) × (n ≤ later) × IsDone sha k size plan later who number ticket
          by m after e there up few None f = (m, after, λ st g. none_some st (sym f ∙ g))
          by m after e there up few (Some st) f = elim (cases_Bool (is_under ticket st)) [
            | inr over ↦ (m, after, λ st' g. subst (λ z. is_under ticket z ≡ false) (some_is st st' (sym f ∙ g)) over)
            | inl under ↦ (
                let at_next : F (suc m) ≡ (step sha k (F m) (Abort who ticket)).farm = run_more sha k (firsts plan m) (plan m ∷ []) (opening sha size) ∙ ap (λ (v : Event). (step sha k (F m) v).farm) e in
                (suc m, omega arith, subst (λ (t : Farm). (st' : KeptAsk) → nth (t.nodes who.0).asks number ≡ Some st' → is_under ticket st' ≡ false) (sym at_next) (gives_it_up sha k (F m) who ticket there up few number st f under number)))
          ]

  lives_on : (who : NodeId) → s.ledger.gone who.0 ≡ false → LivesOn sha k size plan begin who
  lives_on who here = record {
    stays = λ n le. subst (λ (f : ℕ → Bool). f who.0 ≡ false) (sym (calm_at n le).gone) here;
    life = λ n le. ((calm_at n le).nodes who.0).life ∙ sym ((calm_at begin (omega arith)).nodes who.0).life;
  }

pub there_are_fair_runs : Laws → ThereAreFairRuns
there_are_fair_runs laws sha k is_farm size events are up safe none few = (
  spliced events rest,
  began laws sha k is_farm size events are up safe none few,
  is_fair laws sha k is_farm size events are up safe none few,
  lives_on laws sha k is_farm size events are up safe none few,
)

-- of a filtered list of one element
one_in : (test : Want → Bool) (want x : Want) → In x (filter test (want ∷ [])) → x ≡ want
one_in test want x i = in_one x want (from_filter test x (want ∷ []) i).0

leased_one : (tenure : Bool) (want x : Want) → In x (leased_wants tenure (want ∷ [])) → x ≡ want
leased_one true want x i = one_in wants_shared want x i
leased_one false want x i = one_in (λ (w : Want). not (wants_shared w)) want x i

pub one_folder_is_one : OneFolderIsOne
one_folder_is_one tenure want x y i j a b = ap (λ (w : Want). w.folder) (leased_one tenure want x i ∙ sym (leased_one tenure want y j))
