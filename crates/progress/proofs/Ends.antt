-- In a fair run each lease ends.
use Rattle.std.proofs.Common.{◌<◌, ◌≡◌, ◌≢◌, ℕ, zero, suc, ◌+◌, ◌-◌, ◌≤◌, List, [], ◌∷◌, ◌++◌, ◌⊎◌, Bool, true, false, eqb, Option, Some, None, refl, sym, ◌∙◌, ap, subst, inl, inr, arith, append_assoc, append-nil}
use Rattle.std.proofs.lemmas.Bool.{cases_Bool, cases_eq, eqb-true}
use Rattle.farm_base.specs.declared.message.FromCoord.TheVariants as told
use Rattle.farm_base.specs.declared.message.Request.TheVariants.{Hello, Commit}
use Rattle.protocol.specs.Lists.{In, nth}
use Rattle.protocol.specs.Names.{NodeId, Life, Ask, Ticket, Want, Digest}
use Rattle.protocol.specs.Machine.{Said, Told, Grant, Granted, Message, News, ToCoord, slots_of, hello, commit, release}
use Rattle.protocol.specs.Ledger.{Limits, Ledger, Lease, begin_work, has_ticket, lease_under, writable_slots, handled}
use Rattle.protocol.specs.World.{KeptAsk, Open, Holding, Running, Finished, Over, Node, start}
use Rattle.protocol.specs.Nodes.{NodeWork, of_life, granted, gives_back, heard, takes}
use Rattle.protocol.specs.Replay.{Event, Deliver, Nudge, Farm, at, moved, opening, step, scheduled}
use Rattle.protocol.specs.Follows.{IsFarm, EveryScheduleStaysSafe, SafeBetween, lease_from}
use Rattle.protocol.specs.Lawful.{IsEvent}
use Rattle.protocol.proofs.Base.{true_false, in_right, in_append, in_one, none_some, nth-append, nth-set_same, cases_option, put_same, life_is, eqb_same}
use Rattle.protocol.proofs.Leases.{find_some, writable-from}
use Rattle.progress.specs.Progress.{AreEvents, release_of}
use Rattle.progress.specs.Fair.{firsts, is_under, farm_at, IsDone, IsFair, EveryLeaseEnds}
use Rattle.progress.proofs.Progressing.{under_it}
use Rattle.progress.proofs.Reaching.{run_more, delivery_is}
use Rattle.progress.proofs.Asking.{in_nth}
use Rattle.progress.proofs.Keeping.{AreKept, kept_all, kept_start, made_later}
use Rattle.progress.proofs.Giving.{Here, IsOwn, Lets, release_lets, commit_lets, hello_lets, lease_there, one_made, granted_is, its, told_step, nudge_is_told}
use Rattle.progress.proofs.Going.{IsUnder, UnderOr, under_later, pool_later}
use Rattle.progress.proofs.Ending.{Laws, here_of}

same_place : (n : ℕ) → n ≤ n
same_place n = omega arith

-- one ticket is one lease, in a farm and in a later one
pub same_between : (sha : List ℕ → Digest) (s t : Farm) → SafeBetween sha s t → (h g : Lease) → In h s.ledger.live → In g t.ledger.live → g.ticket.0 ≡ h.ticket.0 → g ≡ h
same_between sha s t b h g i j same =
    let a = b.before.shows.now.live_made h i in
    let c = b.after.shows.now.live_made g j in
    let made = made_later sha b.before.world b.after.world b.moves (kept_all sha (start sha) b.before.world b.before.moves (kept_start sha)) a.0 a.1.0 in
    let one = one_made b.after.world.machine.made b.after.safe.tickets (Granted c.0) (Granted a.0) c.1.0 made (ap (λ (l : Lease). l.ticket.0) c.2 ∙ same ∙ ap (λ (l : Lease). l.ticket.0) (sym a.2)) in
    sym c.2 ∙ ap lease_from (granted_is c.0 a.0 one) ∙ a.2

module _ (laws : Laws) (law : EveryScheduleStaysSafe) (sha : List ℕ → Digest) (k : Limits) (is_farm : IsFarm sha k) (size : ℕ) (plan : ℕ → Event) (begin : ℕ) (fair : IsFair sha k size plan begin) where
  abbrev pub A : ℕ → Farm
  A place = farm_at sha k size plan place

  -- ---- places

  pub are_firsts : (n : ℕ) → AreEvents (firsts plan n)
  are_firsts zero e i = absurd i
  are_firsts (suc n) e i = elim (in_append e (firsts plan n) (plan n ∷ []) i) [ inl j ↦ are_firsts n e j | inr j ↦ subst IsEvent (sym (in_one e (plan n) j)) (fair.are n) ]

  pub here : (n : ℕ) → begin ≤ n → Here size (A n)
  here n le = here_of laws sha k is_farm size (firsts plan n) (are_firsts n) (fair.up n le) (fair.safe n le)

  pub next : (n : ℕ) → A (suc n) ≡ (step sha k (A n) (plan n)).farm
  next n = run_more sha k (firsts plan n) (plan n ∷ []) (opening sha size)

  grow : (d n m : ℕ) → m ≡ d + n → (late : List Event) × (firsts plan m ≡ firsts plan n ++ late)
  grow zero n m e = ([], (let f : m ≡ n = omega arith in ap (firsts plan) f ∙ sym (append-nil (firsts plan n))))
  grow (suc d) n m e =
      let r = grow d n (d + n) refl in
      let f : m ≡ suc (d + n) = omega arith in
      (r.0 ++ plan (d + n) ∷ [], ap (firsts plan) f ∙ ap (λ (l : List Event). l ++ plan (d + n) ∷ []) r.1 ∙ append_assoc (firsts plan n) r.0 (plan (d + n) ∷ []))

  -- worlds of the farm at two places
  pub linked : (n m : ℕ) → n ≤ m → SafeBetween sha (A n) (A m)
  linked n m le =
      let r = grow (m - n) n m (omega arith) in
      subst (λ (l : List Event). SafeBetween sha (A n) (scheduled sha k size l)) (sym r.1) (law sha k is_farm size (firsts plan n) r.0)

  pool_on : (n m : ℕ) → n ≤ m → (more : List Message) × ((A m).pool ≡ (A n).pool ++ more)
  pool_on n m le =
      let b = linked n m le in
      let r = pool_later sha b.before.world b.after.world b.moves in
      (r.0, sym b.after.shows.pool ∙ r.1 ∙ ap (λ (l : List Message). l ++ r.0) b.before.shows.pool)

  -- a message that was sent arrives
  unfoldable pub Arrives : ℕ → Message → Type 0
  Arrives n message = (m : ℕ) × (n ≤ m) × (number : ℕ) × (plan m ≡ Deliver number) × (nth (A m).pool number ≡ Some message)

  pub arrives : (n : ℕ) → begin ≤ n → (message : Message) → In message (A n).pool → Arrives n message
  unfolding Arrives
  arrives n le message i =
      let at_it = in_nth (A n).pool message i in
      let c = fair.arrives n at_it.0 message le at_it.1 in
      let more = pool_on n c.0 c.1 in
      (c.0, c.1, at_it.0, c.2, subst (λ (l : List Message). nth l at_it.0 ≡ Some message) (sym more.1) (nth-append (A n).pool more.0 at_it.0 message at_it.1))

  -- ---- one ticket, one lease

  same_lease : (n m : ℕ) → n ≤ m → (h g : Lease) → In h (A n).ledger.live → In g (A m).ledger.live → g.ticket.0 ≡ h.ticket.0 → g ≡ h
  same_lease n m le = same_between sha (A n) (A m) (linked n m le)

  pub lives_or_not : (n m : ℕ) → begin ≤ m → n ≤ m → (h : Lease) → In h (A n).ledger.live → In h (A m).ledger.live ⊎ (In h (A m).ledger.live → ⊥)
  lives_or_not n m from le h i = elim (cases_option (lease_under (A m).ledger.live h.ticket)) [
    | inl none ↦ inr (λ j. none_some h (sym none ∙ under_it k (A m).ledger.live h (here m from).lawful.ledger.core.apart j))
    | inr (g, some) ↦ (
        let f = find_some (has_ticket h.ticket) (A m).ledger.live g some in
        inl (subst (λ (z : Lease). In z (A m).ledger.live) (same_lease n m le h g i f.0 (eqb-true g.ticket.0 h.ticket.0 f.1)) f.0))
  ]

  -- ---- how a lease ends

  abbrev pub EndsAfter : ℕ → Lease → Type 0
  EndsAfter n h = (m : ℕ) × (n ≤ m) × (In h (A m).ledger.live → ⊥)

  said_ends : (n : ℕ) → begin ≤ n → (h : Lease) → In h (A n).ledger.live → (y : ToCoord) → In (Said y) (A n).pool
      → ((m : ℕ) → begin ≤ m → In h (A m).ledger.live → Lets k (A m).ledger h y (handled k y (begin_work (A m).ledger))) → EndsAfter n h
  unfolding Arrives
  said_ends n from h i y sent lets =
      let a = arrives n from (Said y) sent in
      let m : ℕ = a.0 in
      let from_m : begin ≤ m = (let le : n ≤ m = a.1 in omega arith) in
      elim (lives_or_not n m from_m a.1 h i) [
        | inr gone ↦ (m, a.1, gone)
        | inl j ↦ (
            let is = delivery_is sha k (A m) a.2 y a.4 (fair.up m from_m) (fair.safe m from_m) in
            let at_next : A (suc m) ≡ (step sha k (A m) (Deliver a.2)).farm = next m ∙ ap (λ (e : Event). (step sha k (A m) e).farm) a.3 in
            (suc m, (let le : n ≤ m = a.1 in omega arith), subst (λ (s : Farm). In h s.ledger.live → ⊥) (sym at_next) (subst (λ (q : Ledger). In h q.live → ⊥) (sym is.ledger) (lets m from_m j).ended)))
      ]

  release_ends : (n : ℕ) → begin ≤ n → (h : Lease) → In h (A n).ledger.live → In (release h.node h.life h.ticket) (A n).pool → EndsAfter n h
  release_ends n from h i sent = said_ends n from h i (release_of h) sent (λ m le j. release_lets k size (A m).ledger (here m le).lawful.ledger h j)

  commit_ends : (n : ℕ) → begin ≤ n → (h : Lease) → In h (A n).ledger.live → (news : List News) → In (commit h.node h.life h.ticket news) (A n).pool → slots_of news ≡ writable_slots h.slots → news ≢ [] → EndsAfter n h
  commit_ends n from h i news sent same some = said_ends n from h i (record { node = h.node; life = h.life; request = Commit h.ticket news }) sent (λ m le j. commit_lets k size (A m).ledger (here m le).lawful.ledger h j news same some)

  -- what is kept of the world at one place
  kept_at : (n : ℕ) → AreKept (linked n n (same_place n)).before.world
  kept_at n = (let b = linked n n (same_place n) in kept_all sha (start sha) b.before.world b.before.moves (kept_start sha))

  newer_ends : (n : ℕ) → begin ≤ n → (h : Lease) → In h (A n).ledger.live → h.life.0 < ((A n).nodes h.node.0).life.0 → EndsAfter n h
  newer_ends n from h i new =
      let b = linked n n (same_place n) in
      let x : Node = (A n).nodes h.node.0 in
      let first : 1 ≤ h.life.0 = ((here n from).lawful.ledger.core.holders h i).asker.speaker.life in
      let node : b.before.world.nodes h.node.0 ≡ x = b.before.shows.nodes h.node.0 in
      let greeted : In (hello h.node (b.before.world.nodes h.node.0).life) b.before.world.pool = (kept_at n).greeted h.node (subst (λ (z : Node). 1 < z.life.0) (sym node) (omega arith)) in
      let sent : In (hello h.node x.life) (A n).pool = subst (λ (l : List Message). In (hello h.node x.life) l) b.before.shows.pool (subst (λ (z : Node). In (hello h.node z.life) b.before.world.pool) node greeted) in
      said_ends n from h i (record { node = h.node; life = x.life; request = Hello }) sent (λ m le j. hello_lets k size (A m).ledger (here m le).lawful.ledger h j x.life new)

  -- the node executes under the grant, or holds it
  under_ends : (n : ℕ) → begin ≤ n → (h : Lease) → In h (A n).ledger.live → (place : ℕ) (g : Grant) (st : KeptAsk) → lease_from g ≡ h → ((A n).nodes h.node.0).life ≡ h.life
      → nth ((A n).nodes h.node.0).asks place ≡ Some st → IsUnder g st → EndsAfter n h
  under_ends n from h i place g st own life e u =
      let ticket : g.ticket ≡ h.ticket = ap (λ (l : Lease). l.ticket) own in
      let c = fair.ends n place h.node h.ticket st from (lease_there size (A n) (here n from) h i) ((here n from).lawful.ledger.core.holders h i).asker.stays e (under_test st u ticket) in
      let m : ℕ = c.0 in
      let from_m : begin ≤ m = (let le : n ≤ m = c.1 in omega arith) in
      let b = linked n m c.1 in
      let was : UnderOr sha h.node h.life place g b.before.world.pool (b.before.world.nodes h.node.0) = subst (UnderOr sha h.node h.life place g b.before.world.pool) (sym (b.before.shows.nodes h.node.0)) (inr (life, inl (st, e, u))) in
      let now : UnderOr sha h.node h.life place g (A m).pool ((A m).nodes h.node.0) = subst (λ (l : List Message). UnderOr sha h.node h.life place g l ((A m).nodes h.node.0)) b.after.shows.pool
      (subst (UnderOr sha h.node h.life place g b.after.world.pool) (b.after.shows.nodes h.node.0) (under_later sha h.node h.life place g b.before.world b.after.world b.moves was)) in
      elim (lives_or_not n m from_m c.1 h i) [
        | inr gone ↦ (m, c.1, gone)
        | inl j ↦ by m c.1 from_m j c.2 now
      ]
    where
      under_test : (st : KeptAsk) → IsUnder g st → g.ticket ≡ h.ticket → is_under h.ticket st ≡ true
      under_test (Open wants tenure) u t = absurd u
      under_test (Holding wants other r) u t = subst (λ (z : Grant). eqb z.ticket.0 h.ticket.0 ≡ true) (sym u) (subst (λ (z : Ticket). eqb g.ticket.0 z.0 ≡ true) t (eqb_same g.ticket.0))
      under_test (Running wants other r) u t = subst (λ (z : Grant). eqb z.ticket.0 h.ticket.0 ≡ true) (sym u) (subst (λ (z : Ticket). eqb g.ticket.0 z.0 ≡ true) t (eqb_same g.ticket.0))
      under_test (Finished wants other news) u t = absurd u
      under_test (Over ending) u t = absurd u

      then_on : (m : ℕ) → n ≤ m → EndsAfter m h → EndsAfter n h
      then_on m le (p, le', gone) = (p, (let a : m ≤ p = le' in omega arith), gone)

      by : (m : ℕ) → n ≤ m → begin ≤ m → In h (A m).ledger.live → IsDone sha k size plan m h.node place h.ticket → UnderOr sha h.node h.life place g (A m).pool ((A m).nodes h.node.0) → EndsAfter n h
      by m le from_m j done (inl newer) = then_on m le (newer_ends m from_m h j newer)
      by m le from_m j done (inr (same, inl (st', e', u'))) = true_false (is_under h.ticket st') (under_test st' u' (ap (λ (l : Lease). l.ticket) own)) (done st' e')
      by m le from_m j done (inr (same, inr (inl said))) = then_on m le (release_ends m from_m h j (subst (λ (z : Ticket). In (release h.node h.life z) (A m).pool) (ap (λ (l : Lease). l.ticket) own) said))
      by m le from_m j done (inr (same, inr (inr (news, said, slots, some)))) = then_on m le (commit_ends m from_m h j news (subst (λ (z : Ticket). In (commit h.node h.life z news) (A m).pool) (ap (λ (l : Lease). l.ticket) own) said)
          (slots ∙ sym (writable-from g.slots) ∙ ap (λ (l : Lease). writable_slots l.slots) own) some)

  later_end : (n m : ℕ) → n ≤ m → (h : Lease) → EndsAfter m h → EndsAfter n h
  later_end n m le h (p, le', gone) = (p, (let a : m ≤ p = le' in omega arith), gone)

  -- ---- the Grant comes

  -- the node's state then
  module _ (n : ℕ) (from : begin ≤ n) (h : Lease) (i : In h (A n).ledger.live) (g : Grant) (number : ℕ) (ticket : g.ticket ≡ h.ticket) (named : (g.node ≡ h.node) × (g.life ≡ h.life) × (g.ask ≡ h.ask))
      (comes : plan n ≡ Deliver number) (at_it : nth (A n).pool number ≡ Some (Told (told.Granted g))) (life : ((A n).nodes h.node.0).life ≡ h.life) where
    abbrev x : Node
    x = (A n).nodes h.node.0

    up : x.spent ≡ false
    up = fair.runs n from h.node (lease_there size (A n) (here n from) h i) ((here n from).lawful.ledger.core.holders h i).asker.stays

    goes : (work : NodeWork) → heard k (at (A n) h.node) (told.Granted g) x ≡ work → A (suc n) ≡ (moved h.node work (A n)).farm
    goes work is = next n ∙ ap (λ (e : Event). (step sha k (A n) e).farm) comes ∙ told_step sha k h (A n) number (told.Granted g) at_it named.0 (lease_there size (A n) (here n from) h i) up ∙ ap (λ (w : NodeWork). (moved h.node w (A n)).farm) is

    of_its_life : (work : NodeWork) → of_life g.life x work ≡ work
    of_its_life work = (let e : eqb g.life.0 x.life.0 ≡ true = subst (λ (l : Life). eqb g.life.0 l.0 ≡ true) (named.1 ∙ sym life) (eqb_same g.life.0) in rw e refl)

    bounces : granted k (at (A n) h.node) g x (nth x.asks g.ask.0) ≡ gives_back (at (A n) h.node) g false x → EndsAfter n h
    bounces is =
        let work : NodeWork = gives_back (at (A n) h.node) g false x in
        let at_next : A (suc n) ≡ (moved h.node work (A n)).farm = goes work (of_its_life (granted k (at (A n) h.node) g x (nth x.asks g.ask.0)) ∙ is) in
        let said : In (release h.node h.life h.ticket) work.sends = inl (ap (λ (l : Life). release h.node l h.ticket) (sym life) ∙ ap (λ (z : Ticket). release h.node x.life z) (sym ticket)) in
        let sent : In (release h.node h.life h.ticket) (A (suc n)).pool = subst (λ (s : Farm). In (release h.node h.life h.ticket) s.pool) (sym at_next) (in_right (release h.node h.life h.ticket) (A n).pool work.sends said) in
        elim (lives_or_not n (suc n) (omega arith) (omega arith) h i) [
          | inr gone ↦ (suc n, omega arith, gone)
          | inl j ↦ later_end n (suc n) (omega arith) h (release_ends (suc n) (omega arith) h j sent)
        ]

    takes_it : (wants : List Want) (tenure : Bool) → nth x.asks h.ask.0 ≡ Some (Open wants tenure) → EndsAfter n h
    takes_it wants tenure e =
        let work : NodeWork = takes k (at (A n) h.node) g wants x in
        let e' : nth x.asks g.ask.0 ≡ Some (Open wants tenure) = subst (λ (z : Ask). nth x.asks z.0 ≡ Some (Open wants tenure)) (sym named.2) e in
        let at_next : A (suc n) ≡ (moved h.node work (A n)).farm = goes work (of_its_life (granted k (at (A n) h.node) g x (nth x.asks g.ask.0)) ∙ ap (granted k (at (A n) h.node) g x) e') in
        let node : (A (suc n)).nodes h.node.0 ≡ work.node = ap (λ (s : Farm). s.nodes h.node.0) at_next ∙ put_same h.node.0 work.node (A n).nodes in
        let holds : nth ((A (suc n)).nodes h.node.0).asks g.ask.0 ≡ Some (Holding wants g false) = ap (λ (z : Node). nth z.asks g.ask.0) node ∙ nth-set_same x.asks g.ask.0 (Holding wants g false) (Open wants tenure) e' in
        elim (lives_or_not n (suc n) (omega arith) (omega arith) h i) [
          | inr gone ↦ (suc n, omega arith, gone)
          | inl j ↦ (
              let own : IsOwn h h.node.0 g.ask.0 (Holding wants g false) = (here (suc n) (omega arith)).own h j h.node.0 g.ask.0 (Holding wants g false) holds in
              later_end n (suc n) (omega arith) h (under_ends (suc n) (omega arith) h j g.ask.0 g (Holding wants g false) (own (ap (λ (z : Ticket). z.0) ticket)).0 (ap (λ (z : Node). z.life) node ∙ life) holds refl))
        ]

    its_own : (place : ℕ) (st : KeptAsk) → nth x.asks place ≡ Some st → IsOwn h h.node.0 place st
    its_own place st e = (here n from).own h i h.node.0 place st e

    -- the news were sent
    finished_ends : (wants : List Want) (other : Grant) (news : List News) → nth x.asks h.ask.0 ≡ Some (Finished wants other news) → other.ticket.0 ≡ h.ticket.0 → EndsAfter n h
    finished_ends wants other news e same =
        let b = linked n n (same_place n) in
        let own = its_own h.ask.0 (Finished wants other news) e in
        let lease : lease_from other ≡ h = (own.0 same).0 in
        let was : nth (b.before.world.nodes h.node.0).asks h.ask.0 ≡ Some (Finished wants other news) = subst (λ (z : Node). nth z.asks h.ask.0 ≡ Some (Finished wants other news)) (sym (b.before.shows.nodes h.node.0)) e in
        let kept = (kept_at n).states h.node.0 h.ask.0 (Finished wants other news) was in
        let sent : In (commit other.node (b.before.world.nodes h.node.0).life other.ticket news) (A n).pool = subst (λ (l : List Message). In (commit other.node (b.before.world.nodes h.node.0).life other.ticket news) l) b.before.shows.pool kept.3 in
        let its_life : (b.before.world.nodes h.node.0).life ≡ h.life = ap (λ (z : Node). z.life) (b.before.shows.nodes h.node.0) ∙ life in
        let named' : In (commit h.node h.life h.ticket news) (A n).pool =
        subst (λ (z : NodeId). In (commit z h.life h.ticket news) (A n).pool) (ap (λ (l : Lease). l.node) lease)
        (subst (λ (z : Ticket). In (commit other.node h.life z news) (A n).pool) (ap (λ (l : Lease). l.ticket) lease)
        (subst (λ (z : Life). In (commit other.node z other.ticket news) (A n).pool) its_life sent)) in
        commit_ends n from h i news named' (own.1 ∙ sym (writable-from other.slots) ∙ ap (λ (l : Lease). writable_slots l.slots) lease) own.2

    comes_ends : EndsAfter n h
    comes_ends = by (nth x.asks h.ask.0) refl
      where
        keeping : (o : Option KeptAsk) (other : Grant) → nth x.asks h.ask.0 ≡ o → eqb other.ticket.0 h.ticket.0 ≡ false → granted k (at (A n) h.node) g x o ≡ gives_back (at (A n) h.node) g (eqb other.ticket.0 g.ticket.0) x → EndsAfter n h
        keeping o other e apart is = bounces (ap (granted k (at (A n) h.node) g x) (ap (λ (z : Ask). nth x.asks z.0) named.2 ∙ e) ∙ is ∙ ap (λ (b : Bool). gives_back (at (A n) h.node) g b x) (subst (λ (z : Ticket). eqb other.ticket.0 z.0 ≡ false) (sym ticket) apart))

        by : (o : Option KeptAsk) → nth x.asks h.ask.0 ≡ o → EndsAfter n h
        by None e = bounces (ap (granted k (at (A n) h.node) g x) (ap (λ (z : Ask). nth x.asks z.0) named.2 ∙ e))
        by (Some (Open wants tenure)) e = takes_it wants tenure e
        by (Some (Holding wants other r)) e = elim (cases_Bool (eqb other.ticket.0 h.ticket.0)) [
          | inl t ↦ under_ends n from h i h.ask.0 other (Holding wants other r) (its_own h.ask.0 (Holding wants other r) e (eqb-true other.ticket.0 h.ticket.0 t)).0 life e refl
          | inr t ↦ keeping (Some (Holding wants other r)) other e t refl
        ]
        by (Some (Running wants other r)) e = elim (cases_Bool (eqb other.ticket.0 h.ticket.0)) [
          | inl t ↦ under_ends n from h i h.ask.0 other (Running wants other r) (its_own h.ask.0 (Running wants other r) e (eqb-true other.ticket.0 h.ticket.0 t)).0 life e refl
          | inr t ↦ keeping (Some (Running wants other r)) other e t refl
        ]
        by (Some (Finished wants other news)) e = elim (cases_Bool (eqb other.ticket.0 h.ticket.0)) [
          | inl t ↦ finished_ends wants other news e (eqb-true other.ticket.0 h.ticket.0 t)
          | inr t ↦ keeping (Some (Finished wants other news)) other e t refl
        ]
        by (Some (Over ending)) e = bounces (ap (granted k (at (A n) h.node) g x) (ap (λ (z : Ask). nth x.asks z.0) named.2 ∙ e))

  pub lease_ends : (n : ℕ) → begin ≤ n → (h : Lease) → In h (A n).ledger.live → EndsAfter n h
  unfolding Arrives
  lease_ends n from h i =
      let c = fair.nudges n from in
      let m : ℕ = c.0 in
      let from_m : begin ≤ m = (let le : n ≤ m = c.1 in omega arith) in
      elim (lives_or_not n m from_m c.1 h i) [
        | inr gone ↦ (m, c.1, gone)
        | inl j ↦
            let g : Grant = its sha k h (A m) in
            let at_next : A (suc m) ≡ (step sha k (A m) Nudge).farm = next m ∙ ap (λ (e : Event). (step sha k (A m) e).farm) c.2 in
            let sent : In (Told (told.Granted g)) (A (suc m)).pool = subst (λ (s : Farm). In (Told (told.Granted g)) s.pool) (sym at_next) (nudge_is_told sha k h (A m) (fair.up m from_m) (fair.safe m from_m) j) in
            let a = arrives (suc m) (omega arith) (Told (told.Granted g)) sent in
            let p : ℕ = a.0 in
            let le : n ≤ p = (let x : suc m ≤ p = a.1 in let y : n ≤ m = c.1 in omega arith) in
            let from_p : begin ≤ p = omega arith in
            elim (lives_or_not n p from_p le h i) [
              | inr gone ↦ (p, le, gone)
              | inl l ↦ later_end n p le h (elim (cases_eq ((A p).nodes h.node.0).life.0 h.life.0) [
                | inl e ↦ comes_ends p from_p h l g a.2 refl (refl, refl, refl) a.3 a.4 (life_is ((A p).nodes h.node.0).life h.life e)
                | inr ne ↦ (
                    let lives = (here p from_p).lives h.node.0 in
                    let its_life = ((here p from_p).lawful.ledger.core.holders h l).asker.life in
                    newer_ends p from_p h l (omega arith))
              ])
            ]
      ]

pub every_lease_ends : Laws → EveryScheduleStaysSafe → EveryLeaseEnds
every_lease_ends laws law sha k is_farm size plan begin fair n from h i = lease_ends laws law sha k is_farm size plan begin fair n from h i
