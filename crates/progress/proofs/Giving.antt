-- Each live lease of a node that isn't down for good can be given back.
use Rattle.std.proofs.Common.{length, ◌<◌, ◌≡◌, ◌≢◌, ℕ, zero, suc, ◌+◌, ◌≤◌, List, [], ◌∷◌, ◌++◌, ◌⊎◌, map, filter, Bool, true, false, not, ◌&&◌, ◌||◌, eqb, Option, Some, None, Ok, slice_get, refl, sym, ◌∙◌, ap, subst, inl, inr, arith, append_assoc, append-nil}
use Rattle.std.proofs.lemmas.Bool.{cases_Bool, cases_eq, eqb-true}
use Rattle.std.proofs.lemmas.Bool.Decides.{nat_tests}
use Rattle.std.specs.List.{list_any}
use Rattle.std.specs.Prelude.{⊤, nat_lt, nat_le, slice_set}
use Rattle.farm_base.specs.Kinds.{is_tenure}
use Rattle.farm_base.proofs.KindLemmas.{tenure_back}
use Rattle.farm_base.specs.Receivers.{told_to}
use Rattle.farm_base.specs.declared.message.Request.TheVariants.{Hello, Commit}
use Rattle.farm_base.specs.declared.message.FromCoord.TheVariants as told
use Rattle.events.specs.declared.answer.CoordNote.TheVariants as coord_note
use Rattle.events.specs.declared.answer.How.TheVariants as how
use Rattle.events.specs.declared.answer.NodeNote.TheVariants as note
use Rattle.protocol.specs.Lists.{In, nth, set_nth, is_nil}
use Rattle.protocol.specs.Names.{NodeId, Life, Ask, Ticket, Want, Digest, slots_eq}
use Rattle.protocol.specs.Machine.{Said, Told, Grant, Granted, Message, FromCoord, ToCoord, Parked, News, Made, ticket_of, slots_of, written, hello, commit, release}
use Rattle.protocol.specs.Ledger.{Limits, Ledger, Lease, Work, begin_work, Decision, Give, Deny, Wait, decision, gives, carried_out, tried, try_all, retried, lease_for, grant_of, has_ticket, lease_under, without, ends, commits, confirms, committing, may_commit, is_its, writable_slots, is_older, is_older_ask, is_home, sees, newer_life, handled, nudges, nudge_all, nudged, is_awaited, notes}
use Rattle.protocol.specs.World.{KeptAsk, Open, Holding, Running, Finished, Over, Node}
use Rattle.protocol.specs.Nodes.{Place, NodeWork, HeldGrant, first, held_or_running, others_use, in_use, uses, gives_up, all_again, again, of_life, gives_back, granted, takes, heard}
use Rattle.protocol.specs.Replay.{Event, Deliver, Abort, Resend, Nudge, Farm, at, is_node, moved, delivered, coordinated, settled, step, run}
use Rattle.protocol.specs.Safe.{Falling}
use Rattle.protocol.specs.Meaning.{IsAnswered}
use Rattle.protocol.specs.Lawful.{IsLawful, IsLawfulFarm, IsAsker}
use Rattle.protocol.specs.Hostile.{EveryMessageTouchesItsOwn}
use Rattle.protocol.specs.Follows.{lease_from}
use Rattle.protocol.proofs.Base.{in_left, in_right, in_append, in_one, in_map, any_in, from_filter, in_filter, true_false, none_some, some_is, put_same, put_all, nth-set_same, nth-set_other, nth_set_cases, eqb_same, node_is, life_is, both_true}
use Rattle.protocol.proofs.Leases.{writable-from}
use Rattle.protocol.proofs.Following.{slots_eq_same}
use Rattle.protocol.proofs.Moving.{found, either_is}
use Rattle.progress.specs.Progress.{release_of, size_of, IsGivingBack}
use Rattle.progress.proofs.Progressing.{AreHeldUp, filter_less, filter_le, Served, served_is, retried_served, retried_size, under_it, given_is, ended, nudge_ledger, nudges_ledger, not_older, not_newer}
use Rattle.progress.proofs.Freeing.{IsAfter, settles, answered_right}
use Rattle.progress.proofs.Reaching.{delivery_is}
use Rattle.progress.proofs.Asking.{StaysAs, coordinated_same, delivery_same, new_nth, length_more}

-- ---- one ticket, one grant

pub one_made : (made : List Made) → Falling made → (x y : Made) → In x made → In y made → ticket_of x ≡ ticket_of y → x ≡ y
one_made [] falling x y i j e = absurd i
one_made (z ∷ made) falling x y (inl p) (inl q) e = p ∙ sym q
one_made (z ∷ made) falling x y (inl p) (inr j) e = (let less : ticket_of y < ticket_of z = falling.0 y j in let same : ticket_of x ≡ ticket_of z = ap ticket_of p in absurd (omega arith))
one_made (z ∷ made) falling x y (inr i) (inl q) e = (let less : ticket_of x < ticket_of z = falling.0 x i in let same : ticket_of y ≡ ticket_of z = ap ticket_of q in absurd (omega arith))
one_made (z ∷ made) falling x y (inr i) (inr j) e = one_made made falling.1 x y i j e

pub granted_is : (g h : Grant) → Granted g ≡ Granted h → g ≡ h
granted_is g h e = cc

-- ---- what the coordinator does last

module _ (k : Limits) where
  -- a lease that has ended isn't live again
  not_gives : (h : Lease) (d : Decision) (p : Parked) (w : Work) → h.ticket.0 ≤ w.ledger.last → (In h w.ledger.live → ⊥) → (h.ticket.0 ≤ (carried_out k d p w).ledger.last) × (In h (carried_out k d p w).ledger.live → ⊥)
  unfolding gives
  not_gives h Give p w le none = (
    omega arith,
    λ i. elim (in_append h w.ledger.live (lease_for k w.ledger p ∷ []) i) [
      | inl j ↦ none j
      | inr j ↦ (let e : h.ticket.0 ≡ w.ledger.last + 1 = ap (λ (g : Lease). g.ticket.0) (in_one h (lease_for k w.ledger p) j) in absurd (omega arith))
    ],
  )
  not_gives h (Deny why) p w le none = (le, none)
  not_gives h Wait p w le none = (le, none)

  not_tried : (h : Lease) (ps : List Parked) (w : Work) → h.ticket.0 ≤ w.ledger.last → (In h w.ledger.live → ⊥) → In h (try_all k ps w).ledger.live → ⊥
  unfolding tried
  not_tried h [] w le none i = none i
  not_tried h (p ∷ ps) w le none i = (let r = not_gives h (decision k w.ledger p) p w le none in not_tried h ps (tried k p w) r.0 r.1 i)

  not_retried : (h : Lease) (w : Work) → h.ticket.0 ≤ w.ledger.last → (In h w.ledger.live → ⊥) → In h (retried k w).ledger.live → ⊥
  unfolding retried
  not_retried h w le none i = not_tried h w.ledger.parked w le none i

  out_of : (h : Lease) (live : List Lease) → In h (without h.ticket live) → ⊥
  out_of h live i = true_false (has_ticket h.ticket h) (eqb_same h.ticket.0) (not_false (has_ticket h.ticket h) (from_filter (λ (g : Lease). not (has_ticket h.ticket g)) h live i).1)
    where
      not_false : (b : Bool) → not b ≡ true → b ≡ false
      not_false true e = (let bad : false ≡ true = e in cc)
      not_false false e = refl

  -- the message ends the lease, and each parked ask but those of an older life of its node is answered or parked still
  pub record Lets (q : Ledger) (h : Lease) (y : ToCoord) (w : Work) : Type 0 where
    pub fewer : size_of w.ledger + 1 ≤ size_of q
    pub served : (p : Parked) → In p q.parked → (p.node ≡ y.node → p.life ≡ y.life) → In p w.ledger.parked ⊎ Served k p w.sends
    pub ended : In h w.ledger.live → ⊥

  module _ (top : ℕ) (q : Ledger) (lawful : IsLawful top q) (h : Lease) (i : In h q.live) where
    less_live : length (without h.ticket q.live) + 1 ≤ length q.live
    less_live = filter_less (λ (g : Lease). not (has_ticket h.ticket g)) q.live h i (ap not (eqb_same h.ticket.0))

    -- a Release
    pub release_lets : Lets q h (release_of h) (handled k (release_of h) (begin_work q))
    unfolding ended
    release_lets = subst (Lets q h (release_of h)) (sym (given_is k top h q lawful i)) (record {
      fewer = (let a : size_of (retried k (ends h (begin_work q))).ledger ≤ length (without h.ticket q.live) + length q.parked = retried_size k (ends h (begin_work q)) in let b = less_live in omega arith);
      served = λ p j young. retried_served k (ends h (begin_work q)) p j;
      ended = not_retried h (ends h (begin_work q)) (lawful.core.given h i) (out_of h q.live);
    })

    asker : IsAsker top q.lives q.gone h.node h.life h.ask
    asker = (lawful.core.holders h i).asker

    -- a Commit
    abbrev pub commit_of : List News → ToCoord
    commit_of news = record { node = h.node; life = h.life; request = Commit h.ticket news }

    committing_is : (b : Bool) (news : List News) (w : Work) → b ≡ true → committing k b h.node h.life h.ticket news w ≡ notes (coord_note.Committed h.ticket) (retried k (confirms h.node h.life h.ticket news (commits h.ticket news w)))
    committing_is b news w e = rw e refl

    not_nil : (news : List News) → news ≢ [] → not (is_nil news) ≡ true
    not_nil [] ne = absurd (ne refl)
    not_nil (x ∷ xs) ne = refl

    may : (news : List News) → slots_of news ≡ writable_slots h.slots → news ≢ [] → may_commit h.node h.life news (lease_under q.live h.ticket) ≡ true
    may news same some =
        let found : lease_under q.live h.ticket ≡ Some h = under_it k q.live h lawful.core.apart i in
        let a : is_its h.node h.life h ≡ true = both_true (eqb h.node.0 h.node.0) (eqb h.life.0 h.life.0) (eqb_same h.node.0) (eqb_same h.life.0) in
        let b : slots_eq (slots_of news) (writable_slots h.slots) ≡ true = subst (λ z. slots_eq (slots_of news) z ≡ true) same (slots_eq_same (slots_of news)) in
        let c : not (is_nil news) ≡ true = not_nil news some in
        rw found (both_true (is_its h.node h.life h && slots_eq (slots_of news) (writable_slots h.slots)) (not (is_nil news)) (both_true (is_its h.node h.life h) (slots_eq (slots_of news) (writable_slots h.slots)) a b) c)

    committed : List News → Work
    committed news = notes (coord_note.Committed h.ticket) (retried k (confirms h.node h.life h.ticket news (commits h.ticket news (begin_work q))))

    commit_is : (news : List News) → slots_of news ≡ writable_slots h.slots → news ≢ [] → handled k (commit_of news) (begin_work q) ≡ committed news
    unfolding handled committed
    commit_is news same some =
        let stays : q.gone h.node.0 ≡ false = asker.stays in
        let older : nat_lt h.life.0 (q.lives h.node.0) ≡ false = not_older (q.lives h.node.0) h.life.0 asker.life in
        let newer : nat_lt (q.lives h.node.0) h.life.0 ≡ false = not_newer (q.lives h.node.0) h.life.0 asker.life in
        rw (stays, older, newer) (committing_is (may_commit h.node h.life news (lease_under q.live h.ticket)) news (begin_work q) (may news same some))

    pub commit_lets : (news : List News) → slots_of news ≡ writable_slots h.slots → news ≢ [] → Lets q h (commit_of news) (handled k (commit_of news) (begin_work q))
    unfolding committed
    commit_lets news same some =
        let w : Work = confirms h.node h.life h.ticket news (commits h.ticket news (begin_work q)) in
        subst (Lets q h (commit_of news)) (sym (commit_is news same some)) (record {
          fewer = (let a : size_of (retried k w).ledger ≤ length (without h.ticket q.live) + length q.parked = retried_size k w in let b = less_live in omega arith);
          served = λ p j young. retried_served k w p j;
          ended = not_retried h w (lawful.core.given h i) (out_of h q.live);
        })

    -- a Hello of a newer life
    abbrev pub hello_of : Life → ToCoord
    hello_of life = record { node = h.node; life = life; request = Hello }

    lt_true : (a b : ℕ) → a < b → nat_lt a b ≡ true
    lt_true a b e = grind (arith, nat_tests)

    or_true : (a b : Bool) → a ≡ true → (a || b) ≡ true
    or_true a b e = rw e refl

    older_is : (life : Life) → h.life.0 < life.0 → is_older h.node life h ≡ true
    older_is life new = both_true (eqb h.node.0 h.node.0) (nat_lt h.life.0 life.0) (eqb_same h.node.0) (lt_true h.life.0 life.0 new)

    hello_is : (life : Life) → h.life.0 < life.0 → handled k (hello_of life) (begin_work q) ≡ retried k (sees h.node life (begin_work q))
    unfolding handled newer_life
    hello_is life new =
        let stays : q.gone h.node.0 ≡ false = asker.stays in
        let its : q.lives h.node.0 ≡ h.life.0 = asker.life in
        let older : nat_lt life.0 (q.lives h.node.0) ≡ false = (let below : q.lives h.node.0 ≤ life.0 = omega arith in lt_false life.0 (q.lives h.node.0) below) in
        let newer : nat_lt (q.lives h.node.0) life.0 ≡ true = (let below : q.lives h.node.0 < life.0 = omega arith in lt_true (q.lives h.node.0) life.0 below) in
        let some : (list_any (is_older h.node life) q.live || is_home h.node q.old_home) ≡ true = or_true (list_any (is_older h.node life) q.live) (is_home h.node q.old_home) (any_in (is_older h.node life) h q.live i (older_is life new)) in
        rw (stays, older, newer, some) refl
      where
        lt_false : (a b : ℕ) → b ≤ a → nat_lt a b ≡ false
        lt_false a b e = grind (arith, nat_tests)

    pub hello_lets : (life : Life) → h.life.0 < life.0 → Lets q h (hello_of life) (handled k (hello_of life) (begin_work q))
    hello_lets life new =
        let w : Work = sees h.node life (begin_work q) in
        subst (Lets q h (hello_of life)) (sym (hello_is life new)) (record {
          fewer = (let a : size_of (retried k w).ledger ≤ length (filter (λ (g : Lease). not (is_older h.node life g)) q.live) + length (filter (λ (p : Parked). not (is_older_ask h.node life p)) q.parked) = retried_size k w in
              let b : length (filter (λ (g : Lease). not (is_older h.node life g)) q.live) + 1 ≤ length q.live = filter_less (λ (g : Lease). not (is_older h.node life g)) q.live h i (ap not (older_is life new)) in
              let c : length (filter (λ (p : Parked). not (is_older_ask h.node life p)) q.parked) ≤ length q.parked = filter_le (λ (p : Parked). not (is_older_ask h.node life p)) q.parked in
              omega arith);
          served = λ p j young. retried_served k w p (in_filter (λ (r : Parked). not (is_older_ask h.node life r)) p q.parked j (ap not (not_older_ask p young)));
          ended = not_retried h w (lawful.core.given h i) (λ j. gone (from_filter (λ (g : Lease). not (is_older h.node life g)) h q.live j).1);
        })
      where
        same_not : (a : ℕ) → nat_lt a a ≡ false
        same_not a = grind (arith, nat_tests)

        not_older_ask : (p : Parked) → (p.node ≡ h.node → p.life ≡ life) → is_older_ask h.node life p ≡ false
        not_older_ask p young = elim (cases_Bool (eqb p.node.0 h.node.0)) [
          | inr f ↦ rw f refl
          | inl t ↦ (let l : p.life ≡ life = young (node_is p.node h.node (eqb-true p.node.0 h.node.0 t)) in
              let s : nat_lt p.life.0 life.0 ≡ false = subst (λ (z : Life). nat_lt p.life.0 z.0 ≡ false) l (same_not p.life.0) in
              rw (t, s) refl)
        ]

        gone : not (is_older h.node life h) ≡ true → ⊥
        gone e = (let t = older_is life new in let bad : false ≡ true = sym (ap not t) ∙ e in cc)

-- ---- a node sends again

module _ (sha : List ℕ → Digest) (k : Limits) where
  -- all that a node says again
  abbrev pub resend_work : Farm → NodeId → NodeWork
  resend_work s who = record { node = s.nodes who.0; sends = hello who (s.nodes who.0).life ∷ all_again k (at s who) (s.nodes who.0) (s.nodes who.0).asks 0; note = note.Resent }

  pub resend_step : (s : Farm) (who : NodeId) → is_node s who ≡ true → (s.nodes who.0).spent ≡ false → (step sha k s (Resend who)).farm ≡ (moved who (resend_work s who) s).farm
  unfolding step
  resend_step s who there up = rw (there, up) refl

  pub abort_is : (s : Farm) (who : NodeId) (ticket : Ticket) (r : ℕ × HeldGrant) → is_node s who ≡ true → (s.nodes who.0).spent ≡ false → first (held_or_running ticket) (s.nodes who.0).asks 0 ≡ Some r
      → in_use (s.nodes who.0).asks r.0 r.1.wants r.1.grant ≡ false
      → (step sha k s (Abort who ticket)).farm ≡ (moved who (gives_up (at s who) r.0 r.1.grant.ticket (note.Aborted r.1.grant.ticket) (s.nodes who.0)) s).farm
  unfolding step
  abort_is s who ticket r there up e idle = rw (there, up, e, idle) refl

  -- what an ask sends again is among all that the node does
  again_at : (here : Place) (x : Node) (kept : KeptAsk) (m : Message) (asks : List KeptAsk) (before place : ℕ) → slice_get asks place ≡ Some kept → ((ask : Ask) → ask.0 ≡ before + 1 + place → In m (again k here x ask kept)) → In m (all_again k here x asks before)
  again_at here x kept m [] before place e i = none_some kept e
  again_at here x kept m (s ∷ asks) before zero e i = in_left m (again k here x (record { 0 = before + 1 }) s) (all_again k here x asks (before + 1))
      (subst (λ (z : KeptAsk). In m (again k here x (record { 0 = before + 1 }) z)) (sym (some_is s kept e)) (i (record { 0 = before + 1 }) (omega arith)))
  again_at here x kept m (s ∷ asks) before (suc place) e i = in_right m (again k here x (record { 0 = before + 1 }) s) (all_again k here x asks (before + 1))
      (again_at here x kept m asks (before + 1) place e (λ ask same. i ask (omega arith)))

  pub again_of : (here : Place) (x : Node) (kept : KeptAsk) (m : Message) (a : ℕ) → nth x.asks a ≡ Some kept → ((ask : Ask) → ask.0 ≡ a → In m (again k here x ask kept)) → In m (all_again k here x x.asks 0)
  again_of here x kept m zero e i = none_some kept e
  again_of here x kept m (suc place) e i = again_at here x kept m x.asks 0 place e (λ ask same. i ask (omega arith))

-- ---- what a farm comes to while nothing of it but one ask of one node changes

module _ (sha : List ℕ → Digest) (k : Limits) (h : Lease) where
  pub record Same (s t : Farm) : Type 0 where
    pub ledger : t.ledger ≡ s.ledger
    pub down : t.down ≡ s.down
    pub armed : t.armed ≡ s.armed
    pub size : t.size ≡ s.size
    pub sent : List Message
    pub pool : t.pool ≡ s.pool ++ sent
    pub life : (n : ℕ) → (t.nodes n).life ≡ (s.nodes n).life
    pub spent : (n : ℕ) → (t.nodes n).spent ≡ (s.nodes n).spent
    pub asks : (n a : ℕ) → (n ≡ h.node.0 → a ≡ h.ask.0 → ⊥) → nth (t.nodes n).asks a ≡ nth (s.nodes n).asks a

  same_then : (s t u : Farm) → Same s t → Same t u → Same s u
  same_then s t u f g = record {
    ledger = g.ledger ∙ f.ledger;
    down = g.down ∙ f.down;
    armed = g.armed ∙ f.armed;
    size = g.size ∙ f.size;
    sent = f.sent ++ g.sent;
    pool = g.pool ∙ ap (λ (l : List Message). l ++ g.sent) f.pool ∙ append_assoc s.pool f.sent g.sent;
    life = λ n. g.life n ∙ f.life n;
    spent = λ n. g.spent n ∙ f.spent n;
    asks = λ n a other. g.asks n a other ∙ f.asks n a other;
  }

  same_longer : (s t : Farm) → Same s t → length s.pool ≤ length t.pool
  same_longer s t f = subst (λ (l : List Message). length s.pool ≤ length l) (sym f.pool) (length_more s.pool f.sent)

  -- the node of the lease does this work
  moved_same : (s : Farm) (work : NodeWork) → work.node.life ≡ (s.nodes h.node.0).life → work.node.spent ≡ (s.nodes h.node.0).spent
      → ((a : ℕ) → (a ≡ h.ask.0 → ⊥) → nth work.node.asks a ≡ nth (s.nodes h.node.0).asks a) → Same s (moved h.node work s).farm
  moved_same s work life spent asks = record {
    ledger = refl;
    down = refl;
    armed = refl;
    size = refl;
    sent = work.sends;
    pool = refl;
    life = put_all (λ n (z : Node). z.life ≡ (s.nodes n).life) h.node.0 work.node s.nodes life (λ n other. refl);
    spent = put_all (λ n (z : Node). z.spent ≡ (s.nodes n).spent) h.node.0 work.node s.nodes spent (λ n other. refl);
    asks = λ n a. put_all (λ j (z : Node). (j ≡ h.node.0 → a ≡ h.ask.0 → ⊥) → nth z.asks a ≡ nth (s.nodes j).asks a) h.node.0 work.node s.nodes
        (λ other. asks a (λ e. other refl e)) (λ j other r. refl) n;
  }

  -- ---- single events

  nudge_after : (s : Farm) → s.down ≡ false → s.armed ≡ None → IsAfter k sha 0 s (nudged k (begin_work s.ledger)) (step sha k s Nudge).farm
  unfolding step
  nudge_after s up safe =
      let w : Work = nudged k (begin_work s.ledger) in
      subst (λ b. IsAfter k sha 0 s w (coordinated b (Ok w) s).farm) (sym up)
      (subst (λ o. IsAfter k sha 0 s w (settled w.changed o w s).farm) (sym safe) (settles k sha 0 w.changed w s up safe))

  nudge_stays : (s : Farm) → StaysAs s (step sha k s Nudge).farm
  unfolding step
  nudge_stays s = coordinated_same s.down (Ok (nudged k (begin_work s.ledger))) s

  nudge_same : (s : Farm) → s.down ≡ false → s.armed ≡ None → Same s (step sha k s Nudge).farm
  nudge_same s up safe =
      let is = nudge_after s up safe in
      let stays = nudge_stays s in
      record {
        ledger = is.ledger ∙ nudge_ledger k s.ledger.live (begin_work s.ledger);
        down = is.down ∙ sym up;
        armed = is.armed ∙ sym safe;
        size = stays.size;
        sent = map Told (nudged k (begin_work s.ledger)).sends;
        pool = is.pool;
        life = λ n. ap (λ (f : ℕ → Node). (f n).life) stays.nodes;
        spent = λ n. ap (λ (f : ℕ → Node). (f n).spent) stays.nodes;
        asks = λ n a other. ap (λ (f : ℕ → Node). nth (f n).asks a) stays.nodes;
      }

  nudges_sent : (g : Lease) (w : Work) (m : FromCoord) → In m w.sends → In m (nudges k g w).sends
  nudges_sent g w m i = elim (cases_Bool (is_awaited w.ledger.parked g)) [
    | inl t ↦ rw t (in_left m (w.sends ++ told.Granted (grant_of k.empty w.ledger.line g) ∷ []) _ (in_left m w.sends _ i))
    | inr t ↦ rw t (in_left m w.sends _ i)
  ]

  nudges_tells : (g : Lease) (w : Work) → In (told.Granted (grant_of k.empty w.ledger.line g)) (nudges k g w).sends
  nudges_tells g w =
      let m : FromCoord = told.Granted (grant_of k.empty w.ledger.line g) in
      elim (cases_Bool (is_awaited w.ledger.parked g)) [
        | inl t ↦ rw t (in_left m (w.sends ++ m ∷ []) _ (in_right m w.sends (m ∷ []) (inl refl)))
        | inr t ↦ rw t (in_right m w.sends (m ∷ []) (inl refl))
      ]

  nudge_sent : (gs : List Lease) (w : Work) (m : FromCoord) → In m w.sends → In m (nudge_all k gs w).sends
  nudge_sent [] w m i = i
  nudge_sent (g ∷ gs) w m i = nudge_sent gs (nudges k g w) m (nudges_sent g w m i)

  pub nudge_tells : (gs : List Lease) (w : Work) (g : Lease) → In g gs → In (told.Granted (grant_of k.empty w.ledger.line g)) (nudge_all k gs w).sends
  nudge_tells [] w g i = absurd i
  nudge_tells (x ∷ gs) w g (inl e) = subst (λ (z : Lease). In (told.Granted (grant_of k.empty w.ledger.line z)) (nudge_all k (x ∷ gs) w).sends) (sym e) (nudge_sent gs (nudges k x w) _ (nudges_tells x w))
  nudge_tells (x ∷ gs) w g (inr i) = subst (λ (l : Ledger). In (told.Granted (grant_of k.empty l.line g)) (nudge_all k (x ∷ gs) w).sends) (nudges_ledger k x w) (nudge_tells gs (nudges k x w) g i)

  -- the Grant of the lease, as the lines stand
  abbrev pub its : Farm → Grant
  its s = grant_of k.empty s.ledger.line h

  pub nudge_is_told : (s : Farm) → s.down ≡ false → s.armed ≡ None → In h s.ledger.live → In (Told (told.Granted (its s))) (step sha k s Nudge).farm.pool
  nudge_is_told s up safe i =
      let m : Message = Told (told.Granted (its s)) in
      let sent : List Message = map Told (nudged k (begin_work s.ledger)).sends in
      subst (λ (l : List Message). In m l) (sym (nudge_after s up safe).pool)
      (in_right m s.pool sent (in_map Told (told.Granted (its s)) (nudged k (begin_work s.ledger)).sends (nudge_tells s.ledger.live (begin_work s.ledger) h i)))

  pub told_step : (s : Farm) (number : ℕ) (y : FromCoord) → nth s.pool number ≡ Some (Told y) → told_to y ≡ h.node → is_node s h.node ≡ true → (s.nodes h.node.0).spent ≡ false
      → (step sha k s (Deliver number)).farm ≡ (moved h.node (heard k (at s h.node) y (s.nodes h.node.0)) s).farm
  unfolding step
  told_step s number y e to there up = subst (λ (n : NodeId). (delivered sha k (nth s.pool number) s).farm ≡ (moved n (heard k (at s n) y (s.nodes n.0)) s).farm) to
      (let there' : is_node s (told_to y) ≡ true = subst (λ (n : NodeId). is_node s n ≡ true) (sym to) there in
      let up' : (s.nodes (told_to y).0).spent ≡ false = subst (λ (n : NodeId). (s.nodes n.0).spent ≡ false) (sym to) up in
      rw (e, there', up') refl)

  -- ---- the lease is given back

  -- what comes of it
  pub record Given (s later : Farm) : Type 0 where
    pub down : later.down ≡ false
    pub armed : later.armed ≡ None
    pub size : later.size ≡ s.size
    pub sent : List Message
    pub pool : later.pool ≡ s.pool ++ sent
    pub life : (n : ℕ) → (later.nodes n).life ≡ (s.nodes n).life
    pub spent : (n : ℕ) → (later.nodes n).spent ≡ (s.nodes n).spent
    pub asks : (n a : ℕ) → (n ≡ h.node.0 → a ≡ h.ask.0 → ⊥) → nth (later.nodes n).asks a ≡ nth (s.nodes n).asks a
    pub gone : later.ledger.gone ≡ s.ledger.gone
    pub fewer : size_of later.ledger + 1 ≤ size_of s.ledger
    pub served : (p : Parked) → In p s.ledger.parked → (s.nodes p.node.0).life ≡ p.life → In p later.ledger.parked ⊎ IsAnswered p sent
    pub ended : In h later.ledger.live → ⊥

  ends_it : (s t : Farm) → Same s t → s.down ≡ false → s.armed ≡ None → (number : ℕ) (y : ToCoord) → nth t.pool number ≡ Some (Said y) → y.node ≡ h.node → y.life ≡ (s.nodes h.node.0).life
      → (handled k y (begin_work s.ledger)).ledger.gone ≡ s.ledger.gone
      → Lets k s.ledger h y (handled k y (begin_work s.ledger)) → Given s (step sha k t (Deliver number)).farm
  ends_it s t f up safe number y e n l gone lets =
      let w : Work = handled k y (begin_work s.ledger) in
      let is : IsAfter k sha 0 t w (step sha k t (Deliver number)).farm = subst (λ (q : Ledger). IsAfter k sha 0 t (handled k y (begin_work q)) (step sha k t (Deliver number)).farm) f.ledger (delivery_is sha k t number y e (f.down ∙ up) (f.armed ∙ safe)) in
      let stays = delivery_same sha k t number y e in
      record {
        down = is.down;
        armed = is.armed;
        size = stays.size ∙ f.size;
        sent = f.sent ++ map Told w.sends;
        pool = is.pool ∙ ap (λ (l : List Message). l ++ map Told w.sends) f.pool ∙ append_assoc s.pool f.sent (map Told w.sends);
        life = λ j. ap (λ (g : ℕ → Node). (g j).life) stays.nodes ∙ f.life j;
        spent = λ j. ap (λ (g : ℕ → Node). (g j).spent) stays.nodes ∙ f.spent j;
        asks = λ j a other. ap (λ (g : ℕ → Node). nth (g j).asks a) stays.nodes ∙ f.asks j a other;
        gone = ap (λ (q : Ledger). q.gone) is.ledger ∙ gone;
        fewer = subst (λ (q : Ledger). size_of q + 1 ≤ size_of s.ledger) (sym is.ledger) lets.fewer;
        served = λ p i young. elim (lets.served p i (λ same. sym young ∙ ap (λ (z : NodeId). (s.nodes z.0).life) (same ∙ n) ∙ sym l)) [
          | inl still ↦ inl (subst (λ (q : Ledger). In p q.parked) (sym is.ledger) still)
          | inr served ↦ inr (answered_right k sha 0 p f.sent (map Told w.sends) (served_is k p w.sends served))
        ];
        ended = subst (λ (q : Ledger). In h q.live → ⊥) (sym is.ledger) lets.ended;
      }

-- ---- the five states of an ask

-- what a farm of a schedule has while its coordinator is up and no failed save is ahead
abbrev pub IsItsOwn : Lease → ℕ → ℕ → Grant → Type 0
IsItsOwn h n a g = g.ticket.0 ≡ h.ticket.0 → (lease_from g ≡ h) × (n ≡ h.node.0) × (a ≡ h.ask.0)

abbrev pub IsOwn : Lease → ℕ → ℕ → KeptAsk → Type 0
IsOwn h n a (Open wants tenure) = ⊤
IsOwn h n a (Holding wants g r) = IsItsOwn h n a g
IsOwn h n a (Running wants g r) = IsItsOwn h n a g
IsOwn h n a (Finished wants g news) = IsItsOwn h n a g × (slots_of news ≡ written g.slots) × (news ≢ [])
IsOwn h n a (Over ending) = ⊤

pub record Here (top : ℕ) (s : Farm) : Type 0 where
  pub lawful : IsLawfulFarm top s
  pub size : s.size ≡ top
  pub held : AreHeldUp s.ledger
  pub lives : (n : ℕ) → s.ledger.lives n ≤ (s.nodes n).life.0
  pub up : s.down ≡ false
  pub safe : s.armed ≡ None
  pub own : (h : Lease) → In h s.ledger.live → (n a : ℕ) (st : KeptAsk) → nth (s.nodes n).asks a ≡ Some st → IsOwn h n a st

pub one_more : (P : Event → Type 0) (e : Event) → P e → (es : List Event) → ((v : Event) → In v es → P v) → (v : Event) → In v (e ∷ es) → P v
one_more P e p es all v (inl q) = subst P (sym q) p
one_more P e p es all v (inr j) = all v j

-- what the ask wants
abbrev pub wants_at : KeptAsk → List Want
wants_at (Open wants tenure) = wants
wants_at (Holding wants g r) = wants
wants_at (Running wants g r) = wants
wants_at (Finished wants g news) = wants
wants_at (Over ending) = []

some_first : {A : Type 0} (test : KeptAsk → Option A) (asks : List KeptAsk) (before place : ℕ) (st : KeptAsk) (v : A) → slice_get asks place ≡ Some st → test st ≡ Some v → (r : ℕ × A) × (first test asks before ≡ Some r)
some_first test [] before place st v e f = none_some st e
some_first {A} test (x ∷ asks) before zero st v e f = (let here : test x ≡ Some v = subst (λ z. test z ≡ Some v) (sym (some_is x st e)) f in ((before + 1, v), rw here refl))
some_first {A} test (x ∷ asks) before (suc place) st v e f = by (test x) refl (some_first test asks (before + 1) place st v e f)
  where
    by : (o : Option A) → test x ≡ o → ((r : ℕ × A) × (first test asks (before + 1) ≡ Some r)) → (r : ℕ × A) × (first test (x ∷ asks) before ≡ Some r)
    by (Some u) t r = ((before + 1, u), rw t refl)
    by None t r = (r.0, rw t r.1)

pub first_at : {A : Type 0} (test : KeptAsk → Option A) (asks : List KeptAsk) (a : ℕ) (st : KeptAsk) (v : A) → nth asks a ≡ Some st → test st ≡ Some v → (r : ℕ × A) × (first test asks 0 ≡ Some r)
first_at test asks zero st v e f = none_some st e
first_at test asks (suc place) st v e f = some_first test asks 0 place st v e f

others_same : (wants : List Want) (v : KeptAsk) (asks : List KeptAsk) (before place number : ℕ) → number ≡ before + 1 + place → others_use number wants (slice_set asks place v) before ≡ others_use number wants asks before
others_same wants v [] before place number e = refl
others_same wants v (x ∷ asks) before zero number e = (let same : eqb (before + 1) number ≡ true = subst (λ z. eqb (before + 1) z ≡ true) (let f : before + 1 ≡ number = omega arith in f) (eqb_same (before + 1)) in rw same refl)
others_same wants v (x ∷ asks) before (suc place) number e = ap (λ b. (not (eqb (before + 1) number) && list_any (λ (w : Want). uses w.folder x) wants) || b) (others_same wants v asks (before + 1) place number (omega arith))

others_set : (wants : List Want) (v : KeptAsk) (asks : List KeptAsk) (a : ℕ) → others_use a wants (set_nth asks a v) 0 ≡ others_use a wants asks 0
others_set wants v asks zero = refl
others_set wants v asks (suc place) = others_same wants v asks 0 place (suc place) (omega arith)

le_true : (a b : ℕ) → a ≤ b → nat_le a b ≡ true
le_true a b e = grind (arith, nat_tests)

pub lease_there : (top : ℕ) (s : Farm) → Here top s → (h : Lease) → In h s.ledger.live → is_node s h.node ≡ true
lease_there top s here h i =
    let number = (here.lawful.ledger.core.holders h i).asker.speaker.node in
    subst (λ z. (nat_le 1 h.node.0 && nat_le h.node.0 z) ≡ true) (sym here.size) (both_true (nat_le 1 h.node.0) (nat_le h.node.0 top) (le_true 1 h.node.0 number.0) (le_true h.node.0 top number.1))

module _ (sha : List ℕ → Digest) (k : Limits) (top : ℕ) (touches : EveryMessageTouchesItsOwn) (s : Farm) (here : Here top s) (h : Lease) (i : In h s.ledger.live) (alive : (s.nodes h.node.0).spent ≡ false) where
  abbrev x : Node
  x = s.nodes h.node.0

  its_asker : IsAsker top s.ledger.lives s.ledger.gone h.node h.life h.ask
  its_asker = (here.lawful.ledger.core.holders h i).asker

  there : is_node s h.node ≡ true
  there = lease_there top s here h i

  gone_same : (y : ToCoord) → (handled k y (begin_work s.ledger)).ledger.gone ≡ s.ledger.gone
  gone_same y = (touches top k s.ledger here.lawful.ledger y).gone

  abbrev pub Back : Type 0
  Back = (events : List Event) × ((e : Event) → In e events → IsGivingBack (length s.pool) e) × (length events ≤ 4) × Given sha k h s (run sha k events s)

  -- a message to the coordinator that was sent since ends it
  abbrev Ending : Farm → Type 0
  Ending t = (number : ℕ) × (length s.pool < number) × Given sha k h s (step sha k t (Deliver number)).farm

  said_ends : (t : Farm) (f : Same sha k h s t) (base more : List Message) → t.pool ≡ base ++ more → length s.pool ≤ length base → (y : ToCoord) → In (Said y) more → y.node ≡ h.node → y.life ≡ x.life → Lets k s.ledger h y (handled k y (begin_work s.ledger)) → Ending t
  said_ends t f base more pool longer y j n l lets =
      let r = new_nth base more (Said y) j in
      (r.0, (let a : length base < r.0 = r.1 in omega arith), ends_it sha k h s t f here.up here.safe r.0 y (subst (λ (p : List Message). nth p r.0 ≡ Some (Said y)) (sym pool) r.2) n l (gone_same y) lets)

  -- ---- its node is in a newer life

  newer_back : h.life.0 < x.life.0 → Back
  newer_back new =
      let work : NodeWork = resend_work sha k s h.node in
      let t : Farm = (moved h.node work s).farm in
      let e : (step sha k s (Resend h.node)).farm ≡ t = resend_step sha k s h.node there alive in
      let r = said_ends t (moved_same sha k h s work refl refl (λ a other. refl)) s.pool work.sends refl (omega arith) (record { node = h.node; life = x.life; request = Hello }) (inl refl) refl refl (hello_lets k top s.ledger here.lawful.ledger h i x.life new) in (
        Resend h.node ∷ Deliver r.0 ∷ [],
        one_more (IsGivingBack (length s.pool)) (Resend h.node) tt (Deliver r.0 ∷ []) (one_more (IsGivingBack (length s.pool)) (Deliver r.0) r.1 [] (λ v j. absurd j)),
        omega arith,
        subst (λ (f : Farm). Given sha k h s (step sha k f (Deliver r.0)).farm) (sym e) r.2,
      )

  -- ---- a Grant that no ask waits for

  abbrev nudge : Farm
  nudge = (step sha k s Nudge).farm

  nudged_node : nudge.nodes h.node.0 ≡ x
  nudged_node = ap (λ (f : ℕ → Node). f h.node.0) (nudge_stays sha k h s).nodes

  nudged_there : is_node nudge h.node ≡ true
  nudged_there = subst (λ z. (nat_le 1 h.node.0 && nat_le h.node.0 z) ≡ true) (sym (nudge_stays sha k h s).size) there

  -- the Grant that a nudge sends comes, and the node does this work at it
  abbrev At_grant : NodeWork → Type 0
  At_grant work = (number : ℕ) × (length s.pool < number) × ((step sha k nudge (Deliver number)).farm ≡ (moved h.node work nudge).farm)

  grant_comes : (work : NodeWork) → heard k (at nudge h.node) (told.Granted (its sha k h s)) x ≡ work → At_grant work
  unfolding nudge_same
  grant_comes work is =
      let same = nudge_same sha k h s here.up here.safe in
      let tells : In (Told (told.Granted (its sha k h s))) same.sent = in_map Told (told.Granted (its sha k h s)) (nudged k (begin_work s.ledger)).sends (nudge_tells sha k h s.ledger.live (begin_work s.ledger) h i) in
      let r = new_nth s.pool same.sent (Told (told.Granted (its sha k h s))) tells in
      let at_it : nth nudge.pool r.0 ≡ Some (Told (told.Granted (its sha k h s))) = subst (λ (p : List Message). nth p r.0 ≡ Some (Told (told.Granted (its sha k h s)))) (sym same.pool) r.2 in
      let up : (nudge.nodes h.node.0).spent ≡ false = subst (λ (z : Node). z.spent ≡ false) (sym nudged_node) alive in (
        r.0,
        r.1,
        told_step sha k h nudge r.0 (told.Granted (its sha k h s)) at_it refl nudged_there up
            ∙ ap (λ (w : NodeWork). (moved h.node w nudge).farm) (ap (heard k (at nudge h.node) (told.Granted (its sha k h s))) nudged_node ∙ is),
      )

  module _ (same_life : x.life ≡ h.life) where
    -- a message of the Grant's life is heard
    of_its_life : (work : NodeWork) → of_life h.life x work ≡ work
    of_its_life work = (let e : eqb h.life.0 x.life.0 ≡ true = subst (λ (l : Life). eqb h.life.0 l.0 ≡ true) (sym same_life) (eqb_same h.life.0) in rw e refl)

    let_go : (t : Farm) (f : Same sha k h s t) (base more : List Message) → t.pool ≡ base ++ more → length s.pool ≤ length base → In (release h.node x.life h.ticket) more → Ending t
    let_go t f base more pool longer j = said_ends t f base more pool longer (release_of h) (subst (λ (l : Life). In (release h.node l h.ticket) more) same_life j) refl (sym same_life) (release_lets k top s.ledger here.lawful.ledger h i)

    bounced : granted k (at nudge h.node) (its sha k h s) x (nth x.asks h.ask.0) ≡ gives_back (at nudge h.node) (its sha k h s) false x → Back
    bounced is =
        let work : NodeWork = gives_back (at nudge h.node) (its sha k h s) false x in
        let c = grant_comes work (of_its_life (granted k (at nudge h.node) (its sha k h s) x (nth x.asks h.ask.0)) ∙ is) in
        let t : Farm = (moved h.node work nudge).farm in
        let first_same = nudge_same sha k h s here.up here.safe in
        let same : Same sha k h s t = same_then sha k h s nudge t first_same (moved_same sha k h nudge work (ap (λ (z : Node). z.life) (sym nudged_node)) (ap (λ (z : Node). z.spent) (sym nudged_node)) (λ a other. ap (λ (z : Node). nth z.asks a) (sym nudged_node))) in
        let r = let_go t same nudge.pool work.sends refl (same_longer sha k h s nudge first_same) (inl refl) in (
          Nudge ∷ Deliver c.0 ∷ Deliver r.0 ∷ [],
          one_more (IsGivingBack (length s.pool)) Nudge tt (Deliver c.0 ∷ Deliver r.0 ∷ []) (one_more (IsGivingBack (length s.pool)) (Deliver c.0) c.1 (Deliver r.0 ∷ []) (one_more (IsGivingBack (length s.pool)) (Deliver r.0) r.1 [] (λ v j. absurd j))),
          omega arith,
          subst (λ (f : Farm). Given sha k h s (step sha k f (Deliver r.0)).farm) (sym c.2) r.2,
        )

    -- ---- a grant that is given up

    -- the ask under the ticket may be given up at the node, as it is now
    pub record MayStop (z : Node) : Type 0 where
      pub life : z.life ≡ x.life
      pub spent : z.spent ≡ false
      pub place : ℕ
      pub found_it : HeldGrant
      pub first_is : first (held_or_running h.ticket) z.asks 0 ≡ Some (place, found_it)
      pub its_place : place ≡ h.ask.0
      pub its_ticket : found_it.grant.ticket ≡ h.ticket
      pub idle : in_use z.asks place found_it.wants found_it.grant ≡ false

    abbrev Stopping : Farm → Type 0
    Stopping t = (number : ℕ) × (length s.pool < number) × Given sha k h s (step sha k (step sha k t (Abort h.node h.ticket)).farm (Deliver number)).farm

    stopped : (t : Farm) → Same sha k h s t → (z : Node) → t.nodes h.node.0 ≡ z → MayStop z → Stopping t
    stopped t f z e stops =
        let y : Node = t.nodes h.node.0 in
        let m : MayStop y = subst MayStop (sym e) stops in
        let ticket : Ticket = m.found_it.grant.ticket in
        let work : NodeWork = gives_up (at t h.node) m.place ticket (note.Aborted ticket) y in
        let there' : is_node t h.node ≡ true = subst (λ c. (nat_le 1 h.node.0 && nat_le h.node.0 c) ≡ true) (sym f.size) there in
        let does : (step sha k t (Abort h.node h.ticket)).farm ≡ (moved h.node work t).farm = abort_is sha k t h.node h.ticket (m.place, m.found_it) there' m.spent m.first_is m.idle in
        let u : Farm = (moved h.node work t).farm in
        let same : Same sha k h s u = same_then sha k h s t u f (moved_same sha k h t work refl refl (λ a other. nth-set_other y.asks m.place a (Over (how.Released ticket)) (λ q. other (q ∙ m.its_place)))) in
        let said : In (release h.node x.life h.ticket) work.sends = inl (ap (λ (l : Life). release h.node l h.ticket) (sym m.life) ∙ ap (λ (c : Ticket). release h.node y.life c) (sym m.its_ticket)) in
        let r = let_go u same t.pool work.sends refl (same_longer sha k h s t f) said in
        (r.0, r.1, subst (λ (v : Farm). Given sha k h s (step sha k v (Deliver r.0)).farm) (sym does) r.2)

    -- what the node holds under the ticket is the lease's
    is_own : (a : ℕ) (st : KeptAsk) → nth x.asks a ≡ Some st → IsOwn h h.node.0 a st
    is_own a st e = here.own h i h.node.0 a st e

    held_own : (a : ℕ) (st : KeptAsk) (v : HeldGrant) → nth x.asks a ≡ Some st → held_or_running h.ticket st ≡ Some v → (lease_from v.grant ≡ h) × (a ≡ h.ask.0) × (v.grant.ticket ≡ h.ticket) × (wants_at st ≡ v.wants)
    held_own a st v e f =
        let r = either_is h.ticket st v f in
        elim r.0 [
          | inl q ↦ (let o : IsOwn h h.node.0 a (Holding v.wants v.grant v.recalled) = subst (IsOwn h h.node.0 a) q (is_own a st e) in let own = o (ap (λ (c : Ticket). c.0) r.1) in (own.0, own.2, r.1, ap wants_at q))
          | inr q ↦ (let o : IsOwn h h.node.0 a (Running v.wants v.grant v.recalled) = subst (IsOwn h h.node.0 a) q (is_own a st e) in let own = o (ap (λ (c : Ticket). c.0) r.1) in (own.0, own.2, r.1, ap wants_at q))
        ]

    -- where it is a tenure no other ask of its node uses its folder
    abbrev pub Unused : Type 0
    Unused = (st : KeptAsk) → nth x.asks h.ask.0 ≡ Some st → (h.tenure && others_use h.ask.0 (wants_at st) x.asks 0) ≡ false

    tenure_of : (g : Grant) → lease_from g ≡ h → is_tenure g.kind ≡ h.tenure
    tenure_of g e = ap (λ (l : Lease). l.tenure) e

    -- the ask holds the grant, or runs under it
    holds_stops : Unused → (st : KeptAsk) (v : HeldGrant) → nth x.asks h.ask.0 ≡ Some st → held_or_running h.ticket st ≡ Some v → MayStop x
    holds_stops unused st v e f =
        let r = first_at (held_or_running h.ticket) x.asks h.ask.0 st v e f in
        let o = found (held_or_running h.ticket) x.asks r.0 r.1 in
        let own = held_own r.0.0 o.0 r.0.1 o.1 o.2 in
        record {
          life = refl;
          spent = alive;
          place = r.0.0;
          found_it = r.0.1;
          first_is = r.1;
          its_place = own.1;
          its_ticket = own.2;
          idle = subst (λ (b : Bool). (b && others_use r.0.0 r.0.1.wants x.asks 0) ≡ false) (sym (tenure_of r.0.1.grant own.0))
              (subst (λ (ws : List Want). (h.tenure && others_use r.0.0 ws x.asks 0) ≡ false) own.3
              (subst (λ z. (h.tenure && others_use z (wants_at o.0) x.asks 0) ≡ false) (sym own.1)
              (unused o.0 (subst (λ z. nth x.asks z ≡ Some o.0) own.1 o.1))));
        }

    holds_back : MayStop x → Back
    holds_back stops =
        let none : Same sha k h s s = record { ledger = refl; down = refl; armed = refl; size = refl; sent = []; pool = sym (append-nil s.pool); life = λ n. refl; spent = λ n. refl; asks = λ n a other. refl } in
        let r = stopped s none x refl stops in (
          Abort h.node h.ticket ∷ Deliver r.0 ∷ [],
          one_more (IsGivingBack (length s.pool)) (Abort h.node h.ticket) tt (Deliver r.0 ∷ []) (one_more (IsGivingBack (length s.pool)) (Deliver r.0) r.1 [] (λ v j. absurd j)),
          omega arith,
          r.2,
        )

    -- an open ask that took its grant
    open_stops : Unused → (wants : List Want) (tenure : Bool) → nth x.asks h.ask.0 ≡ Some (Open wants tenure) → MayStop (takes k (at nudge h.node) (its sha k h s) wants x).node
    open_stops unused wants tenure e =
        let g : Grant = its sha k h s in
        let asks : List KeptAsk = set_nth x.asks h.ask.0 (Holding wants g false) in
        let v : HeldGrant = record { wants = wants; grant = g; recalled = false } in
        let there_now : nth asks h.ask.0 ≡ Some (Holding wants g false) = nth-set_same x.asks h.ask.0 (Holding wants g false) (Open wants tenure) e in
        let same : eqb h.ticket.0 h.ticket.0 ≡ true = eqb_same h.ticket.0 in
        let test : held_or_running h.ticket (Holding wants g false) ≡ Some v = rw same refl in
        let r = first_at (held_or_running h.ticket) asks h.ask.0 (Holding wants g false) v there_now test in
        let o = found (held_or_running h.ticket) asks r.0 r.1 in
        elim (nth_set_cases x.asks h.ask.0 (Holding wants g false) (Open wants tenure) r.0.0 o.0 e o.1) [
          | inr c ↦ absurd (c.0 (held_own r.0.0 o.0 r.0.1 c.1 o.2).1)
          | inl c ↦
              let is : v ≡ r.0.1 = some_is v r.0.1 (sym test ∙ ap (held_or_running h.ticket) (sym c.1) ∙ o.2) in
              let idle : in_use asks h.ask.0 wants g ≡ false = subst (λ (b : Bool). (b && others_use h.ask.0 wants asks 0) ≡ false) (sym (tenure_back h.shared h.tenure))
              (subst (λ (b : Bool). (h.tenure && b) ≡ false) (sym (others_set wants (Holding wants g false) x.asks h.ask.0)) (unused (Open wants tenure) e)) in
              record {
                life = refl;
                spent = alive;
                place = r.0.0;
                found_it = r.0.1;
                first_is = r.1;
                its_place = c.0;
                its_ticket = ap (λ (u : HeldGrant). u.grant.ticket) (sym is);
                idle = subst (λ (u : HeldGrant). in_use asks r.0.0 u.wants u.grant ≡ false) is (subst (λ z. in_use asks z wants g ≡ false) (sym c.0) idle);
              }
        ]

    -- the ask is open: the Grant comes, and is given up
    open_back : Unused → (wants : List Want) (tenure : Bool) → nth x.asks h.ask.0 ≡ Some (Open wants tenure) → Back
    open_back unused wants tenure e =
        let g : Grant = its sha k h s in
        let work : NodeWork = takes k (at nudge h.node) g wants x in
        let is : granted k (at nudge h.node) g x (nth x.asks h.ask.0) ≡ work = ap (granted k (at nudge h.node) g x) e in
        let c = grant_comes work (of_its_life (granted k (at nudge h.node) g x (nth x.asks h.ask.0)) ∙ is) in
        let t : Farm = (moved h.node work nudge).farm in
        let first_same = nudge_same sha k h s here.up here.safe in
        let same : Same sha k h s t = same_then sha k h s nudge t first_same (moved_same sha k h nudge work (ap (λ (z : Node). z.life) (sym nudged_node)) (ap (λ (z : Node). z.spent) (sym nudged_node))
        (λ a other. nth-set_other x.asks h.ask.0 a (Holding wants g false) other ∙ ap (λ (z : Node). nth z.asks a) (sym nudged_node))) in
        let r = stopped t same work.node (put_same h.node.0 work.node nudge.nodes) (open_stops unused wants tenure e) in (
          Nudge ∷ Deliver c.0 ∷ Abort h.node h.ticket ∷ Deliver r.0 ∷ [],
          one_more (IsGivingBack (length s.pool)) Nudge tt (Deliver c.0 ∷ Abort h.node h.ticket ∷ Deliver r.0 ∷ []) (one_more (IsGivingBack (length s.pool)) (Deliver c.0) c.1 (Abort h.node h.ticket ∷ Deliver r.0 ∷ [])
              (one_more (IsGivingBack (length s.pool)) (Abort h.node h.ticket) tt (Deliver r.0 ∷ []) (one_more (IsGivingBack (length s.pool)) (Deliver r.0) r.1 [] (λ v j. absurd j)))),
          omega arith,
          subst (λ (f : Farm). Given sha k h s (step sha k (step sha k f (Abort h.node h.ticket)).farm (Deliver r.0)).farm) (sym c.2) r.2,
        )

    -- the news were sent: they are sent again
    finished_back : (wants : List Want) (g : Grant) (news : List News) → nth x.asks h.ask.0 ≡ Some (Finished wants g news) → g.ticket.0 ≡ h.ticket.0 → Back
    finished_back wants g news e ticket =
        let own = is_own h.ask.0 (Finished wants g news) e in
        let its_lease : lease_from g ≡ h = (own.0 ticket).0 in
        let work : NodeWork = resend_work sha k s h.node in
        let t : Farm = (moved h.node work s).farm in
        let does : (step sha k s (Resend h.node)).farm ≡ t = resend_step sha k s h.node there alive in
        let same : slots_of news ≡ writable_slots h.slots = own.1 ∙ sym (writable-from g.slots) ∙ ap (λ (l : Lease). writable_slots l.slots) its_lease in
        let said : In (commit h.node h.life h.ticket news) work.sends = inr (again_of sha k (at s h.node) x (Finished wants g news) (commit h.node h.life h.ticket news) h.ask.0 e
        (λ ask q. inl (ap (λ (l : Life). commit h.node l h.ticket news) (sym same_life) ∙ ap (λ (c : Ticket). commit h.node x.life c news) (sym (ap (λ (l : Lease). l.ticket) its_lease))))) in
        let r = said_ends t (moved_same sha k h s work refl refl (λ a other. refl)) s.pool work.sends refl (omega arith) (record { node = h.node; life = h.life; request = Commit h.ticket news }) said refl (sym same_life) (commit_lets k top s.ledger here.lawful.ledger h i news same own.2) in (
          Resend h.node ∷ Deliver r.0 ∷ [],
          one_more (IsGivingBack (length s.pool)) (Resend h.node) tt (Deliver r.0 ∷ []) (one_more (IsGivingBack (length s.pool)) (Deliver r.0) r.1 [] (λ v j. absurd j)),
          omega arith,
          subst (λ (f : Farm). Given sha k h s (step sha k f (Deliver r.0)).farm) (sym does) r.2,
        )

    -- the five states, and an ask that the node hasn't
    same_back : Unused → Back
    same_back unused = by (nth x.asks h.ask.0) refl
      where
        g : Grant
        g = its sha k h s

        keeping : (o : Option KeptAsk) (other : Grant) → nth x.asks h.ask.0 ≡ o → eqb other.ticket.0 h.ticket.0 ≡ false → granted k (at nudge h.node) (its sha k h s) x o ≡ gives_back (at nudge h.node) (its sha k h s) (eqb other.ticket.0 h.ticket.0) x → Back
        keeping o other e apart is = bounced (ap (granted k (at nudge h.node) (its sha k h s) x) e ∙ is ∙ ap (λ (b : Bool). gives_back (at nudge h.node) (its sha k h s) b x) apart)

        by : (o : Option KeptAsk) → nth x.asks h.ask.0 ≡ o → Back
        by None e = bounced (ap (granted k (at nudge h.node) (its sha k h s) x) e)
        by (Some (Open wants tenure)) e = open_back unused wants tenure e
        by (Some (Holding wants other r)) e = elim (cases_Bool (eqb other.ticket.0 h.ticket.0)) [
          | inl t ↦ holds_back (holds_stops unused (Holding wants other r) (record { wants = wants; grant = other; recalled = r }) e (rw t refl))
          | inr t ↦ keeping (Some (Holding wants other r)) other e t refl
        ]
        by (Some (Running wants other r)) e = elim (cases_Bool (eqb other.ticket.0 h.ticket.0)) [
          | inl t ↦ holds_back (holds_stops unused (Running wants other r) (record { wants = wants; grant = other; recalled = r }) e (rw t refl))
          | inr t ↦ keeping (Some (Running wants other r)) other e t refl
        ]
        by (Some (Finished wants other news)) e = elim (cases_Bool (eqb other.ticket.0 h.ticket.0)) [
          | inl t ↦ finished_back wants other news e (eqb-true other.ticket.0 h.ticket.0 t)
          | inr t ↦ keeping (Some (Finished wants other news)) other e t refl
        ]
        by (Some (Over ending)) e = bounced (ap (granted k (at nudge h.node) (its sha k h s) x) e)

  -- whichever life its node is in
  pub give_back : ((same : x.life ≡ h.life) → Unused same) → Back
  give_back unused = elim (cases_eq x.life.0 h.life.0) [
    | inl e ↦ (let same : x.life ≡ h.life = life_is x.life h.life e in same_back same (unused same))
    | inr ne ↦ newer_back (let a : s.ledger.lives h.node.0 ≤ x.life.0 = here.lives h.node.0 in let b : s.ledger.lives h.node.0 ≡ h.life.0 = its_asker.life in less h.life.0 x.life.0 (omega arith) ne)
  ]
    where
      less : (a b : ℕ) → a ≤ b → b ≢ a → a < b
      less a b le ne = omega arith
