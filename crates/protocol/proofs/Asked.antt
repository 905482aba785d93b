-- Each ask is answered as the machine has it.
use Rattle.std.proofs.Common.{◌≡◌, ◌≢◌, ℕ, ◌<◌, ◌≤◌, List, [], ◌∷◌, Bool, true, false, not, ◌&&◌, ◌||◌, eqb, filter, Option, Some, None, refl, sym, ◌∙◌, ap, subst, inl, inr, arith}
use Rattle.std.proofs.lemmas.Bool.{cases_Bool, and_parts, or_parts, eqb-true}
use Rattle.std.proofs.lemmas.Bool.Decides.{nat_tests}
use Rattle.std.specs.List.{list_any}
use Rattle.std.specs.Prelude.{nat_lt}
use Rattle.protocol.specs.Lists.{In}
use Rattle.protocol.specs.Names.{leased_wants, Slot, NodeId, Life}
use Rattle.protocol.specs.Machine.{Grant, Parked, Machine, Live}
use Rattle.farm_base.specs.declared.message.Request.TheVariants.{Acquire}
use Rattle.farm_base.specs.declared.message.Why.{Why}
use Rattle.farm_base.specs.declared.message.Why.TheVariants.{InstancesSpent, TicketsSpent}
use Rattle.events.specs.declared.answer.CoordNote.TheVariants as note
use Rattle.protocol.specs.Ledger.{Limits, Ledger, Lease, Work, begin_work, has_slot, some_lease, Give, Deny, Wait, elsewhere, all_taken, busy, is_free, is_leased, Decision, decision, is_of, lease_of, is_parked, is_older, is_home, sees, newer_life, decided, acquiring, handled, grant_of}
use Rattle.protocol.specs.World.{start}
use Rattle.protocol.specs.Replay.{Farm, run, opening}
use Rattle.protocol.specs.Follows.{lease_from, Agrees, MayBeGranted, after_life}
use Rattle.protocol.specs.Meaning.{CouldBeGranted, IsOf}
use Rattle.protocol.specs.Chronicle.{NoParkedAskCouldBeGranted, EndsNothing, IsNew, EveryAskIsAnswered}
use Rattle.protocol.proofs.Base.{true_false, any_in, from_any, from_filter, cases_option, node_is, names_same}
use Rattle.protocol.proofs.Steps.{Sound}
use Rattle.protocol.proofs.Worlds.{moves_inv, start_whole}
use Rattle.protocol.proofs.Leases.{Core, core_of, grant-lease, find_some, find_none, find_in}
use Rattle.protocol.proofs.Following.{pick_give}
use Rattle.protocol.proofs.Parking.{Fewer, less_ready, newer_was, not_cleared, no_parked_ask_is_ready}
use Rattle.protocol.proofs.Wanting.{names_are, give_could, could_give, held_waits, elsewhere_waits, spent_denies, tickets_deny}
use Rattle.protocol.proofs.Asking.{only_itself}
use Rattle.protocol.proofs.Answering.{fitting_ask_is_granted}

pub no_parked_ask_could_be_granted : NoParkedAskCouldBeGranted
no_parked_ask_could_be_granted sha k farm size events u shows p i could =
    let s : Farm = run sha k events (opening sha size) in
    no_parked_ask_is_ready sha k size events p (subst (In p) (sym shows.now.parked) i) (could_give k u.machine s.ledger (core_of k.empty u.pool u.machine s.ledger (subst (λ z. Agrees z u.pool u.machine s.ledger) (sym farm.empty) shows.now)) p could)

lt_is : (a b : ℕ) → a < b → nat_lt a b ≡ true
lt_is a b h = grind (arith, nat_tests)

not_lt : (a b : ℕ) → b ≤ a → nat_lt a b ≡ false
not_lt a b h = grind (arith, nat_tests)

lt_from : (a b : ℕ) → nat_lt a b ≡ true → a < b
lt_from a b h = grind (arith, nat_tests)

module _ (k : Limits) (m : Machine) (q : Ledger) (core : Core k.empty m q) where
  -- the machine has no live grant of the ask, so the ledger no lease
  no_lease : (p : Parked) → ((g : Grant) → Live m g → IsOf p.node p.life p.ask g → ⊥) → lease_of q.live p.node p.life p.ask ≡ None
  no_lease p none = elim (cases_option (lease_of q.live p.node p.life p.ask)) [
    | inl e ↦ e
    | inr r ↦ (let f = find_some (is_of p.node p.life p.ask) q.live r.0 r.1 in
        let g = core.live_made r.0 f.0 in
        let is = names_are r.0.node p.node r.0.life p.life r.0.ask p.ask f.1 in
        absurd (none g.0 g.1 (ap (λ (z : Lease). z.node) g.2 ∙ is.0, ap (λ (z : Lease). z.life) g.2 ∙ is.1, ap (λ (z : Lease). z.ask) g.2 ∙ is.2)))
  ]

  parked_note : (b : Bool) (p : Parked) (w : Work) → decision k w.ledger p ≡ Wait → (acquiring k None b p w).note ≡ note.Parked
  parked_note true p w e = refl
  parked_note false p w e = subst (λ d. (decided k d p w).note ≡ note.Parked) (sym e) refl

  denied_note : (p : Parked) (w : Work) (y : Why) → decision k w.ledger p ≡ Deny y → (acquiring k None false p w).note ≡ note.Denied y
  denied_note p w y e = subst (λ d. (decided k d p w).note ≡ note.Denied y) (sym e) refl

  -- the machine has no parked ask of these names, so the ledger none
  not_parked : (p : Parked) → q.parked ≡ m.parked → ((r : Parked) → In r m.parked → (r.node ≡ p.node) × (r.life ≡ p.life) × (r.ask ≡ p.ask) → ⊥) → is_parked q.parked p.node p.life p.ask ≡ false
  not_parked p same none = elim (cases_Bool (is_parked q.parked p.node p.life p.ask)) [
    | inr f ↦ f
    | inl t ↦ (let r = from_any (λ (x : Parked). (eqb x.node.0 p.node.0) && (eqb x.life.0 p.life.0) && (eqb x.ask.0 p.ask.0)) q.parked t in
        absurd (none r.0 (subst (In r.0) same r.1) (names_are r.0.node p.node r.0.life p.life r.0.ask p.ask r.2)))
  ]

  -- the answer to an Acquire of the present life
  now_handled : (p : Parked) → q.gone p.node.0 ≡ false → q.lives p.node.0 ≡ p.life.0
      → handled k (record { node = p.node; life = p.life; request = Acquire p.ask p.wants p.tenure }) (begin_work q) ≡ acquiring k (lease_of q.live p.node p.life p.ask) (is_parked q.parked p.node p.life p.ask) p (begin_work q)
  unfolding handled
  now_handled p here same =
      let old : nat_lt p.life.0 (q.lives p.node.0) ≡ false = not_lt p.life.0 (q.lives p.node.0) (omega arith) in
      let new : nat_lt (q.lives p.node.0) p.life.0 ≡ false = not_lt (q.lives p.node.0) p.life.0 (omega arith) in
      rw (here, old, new) refl

  -- what the coordinator has after the step on the life of the ask
  abbrev seen : Parked → Work
  seen p = after_life k p.node p.life (begin_work q)

  -- the answer to an Acquire of no older life
  life_handled : (p : Parked) → q.gone p.node.0 ≡ false → nat_lt p.life.0 (q.lives p.node.0) ≡ false
      → handled k (record { node = p.node; life = p.life; request = Acquire p.ask p.wants p.tenure }) (begin_work q) ≡ acquiring k (lease_of (seen p).ledger.live p.node p.life p.ask) (is_parked (seen p).ledger.parked p.node p.life p.ask) p (seen p)
  unfolding handled
  life_handled p here old = elim (cases_Bool (nat_lt (q.lives p.node.0) p.life.0)) [ inl t ↦ rw (here, old, t) refl | inr t ↦ rw (here, old, t) refl ]

  -- a newer life that ends nothing
  no_older : (n : NodeId) (l : Life) → ((g : Grant) → Live m g → g.node ≡ n → g.life.0 < l.0 → ⊥) → list_any (is_older n l) q.live ≡ false
  no_older n l none = elim (cases_Bool (list_any (is_older n l) q.live)) [
    | inr f ↦ f
    | inl t ↦ (let r = from_any (is_older n l) q.live t in
        let b = and_parts (eqb r.0.node.0 n.0) (nat_lt r.0.life.0 l.0) r.2 in
        let g = core.live_made r.0 r.1 in
        absurd (none g.0 g.1 (ap (λ (z : Lease). z.node) g.2 ∙ node_is r.0.node n (eqb-true r.0.node.0 n.0 b.0)) (subst (λ (z : Lease). z.life.0 < l.0) (sym g.2) (lt_from r.0.life.0 l.0 b.1))))
  ]

  no_home : (n : NodeId) → (m.old_home ≢ Some n) → is_home n q.old_home ≡ false
  no_home n home = by q.old_home (λ e. home (sym core.old_home ∙ e))
    where
      by : (o : Option NodeId) → (o ≢ Some n) → is_home n o ≡ false
      by None h = refl
      by (Some x) h = elim (cases_Bool (eqb x.0 n.0)) [ inr f ↦ f | inl t ↦ absurd (h (ap Some (node_is x n (eqb-true x.0 n.0 t)))) ]

  -- after a step on the life that ends nothing no less could be granted
  less_after : (n : NodeId) (l : Life) → EndsNothing m n l → Fewer (after_life k n l (begin_work q)).ledger q × ((h : Lease) → In h (after_life k n l (begin_work q)).ledger.live → In h q.live)
  unfolding newer_life
  less_after n l (inl same) =
      let at : q.lives n.0 ≡ l.0 = ap (λ (f : ℕ → ℕ). f n.0) core.lives ∙ same in
      let no : nat_lt (q.lives n.0) l.0 ≡ false = not_lt (q.lives n.0) l.0 (omega arith) in
      rw no (record { home = refl; leased = λ s e. e; retired = λ s e. e; last = omega arith }, λ h i. i)
  less_after n l (inr (newer, none, home)) =
      let at : q.lives n.0 ≡ m.lives n.0 = ap (λ (f : ℕ → ℕ). f n.0) core.lives in
      let yes : nat_lt (q.lives n.0) l.0 ≡ true = lt_is (q.lives n.0) l.0 (omega arith) in
      let older = no_older n l none in
      let away = no_home n home in
      let quiet : (list_any (is_older n l) q.live || is_home n q.old_home) ≡ false = rw (older, away) refl in
      rw (yes, quiet) (
        record {
          home = sym (not_cleared k n q.old_home away);
          leased = λ s e. fewer s e;
          retired = λ s e. e;
          last = omega arith;
        },
        λ h i. (from_filter (λ (g : Lease). not (is_older n l g)) h q.live i).0,
      )
    where
      fewer : (s : Slot) → some_lease (filter (λ (g : Lease). not (is_older n l g)) q.live) s ≡ true → some_lease q.live s ≡ true
      fewer s e =
          let r = from_any (λ (g : Lease). has_slot g.slots s) (filter (λ (g : Lease). not (is_older n l g)) q.live) e in
          any_in (λ (g : Lease). has_slot g.slots s) r.0 q.live (from_filter (λ (g : Lease). not (is_older n l g)) r.0 q.live r.1).0 r.2

  -- so the decision stays
  all_left : (test : Lease → Bool) (live : List Lease) → list_any test live ≡ false → filter (λ g. not (test g)) live ≡ live
  all_left test [] e = refl
  all_left test (g ∷ gs) e = (let o = or_parts (test g) (list_any test gs) e in let here = o.0 in rw here (ap (λ hs. g ∷ hs) (all_left test gs o.1)))

  same_decision : (p : Parked) (v : Ledger) → v.live ≡ q.live → v.retired ≡ q.retired → v.old_home ≡ q.old_home → v.last ≡ q.last → decision k v p ≡ decision k q p
  unfolding decision
  same_decision p v live retired home last =
      ap (λ hs. by hs v.retired v.old_home v.last) live ∙ ap (λ f. by q.live f v.old_home v.last) retired ∙ ap (λ o. by q.live q.retired o v.last) home ∙ ap (by q.live q.retired q.old_home) last
    where
      by : List Lease → (Slot → Bool) → Option NodeId → ℕ → Decision
      by hs f o n = decision k (record q { live = hs; retired = f; old_home = o; last = n }) p

  decision_after : (p : Parked) → EndsNothing m p.node p.life → decision k (seen p).ledger p ≡ decision k q p
  unfolding newer_life
  decision_after p (inl same) =
      let at : q.lives p.node.0 ≡ p.life.0 = ap (λ (f : ℕ → ℕ). f p.node.0) core.lives ∙ same in
      let no : nat_lt (q.lives p.node.0) p.life.0 ≡ false = not_lt (q.lives p.node.0) p.life.0 (omega arith) in
      rw no refl
  decision_after p (inr (newer, none, home)) =
      let at : q.lives p.node.0 ≡ m.lives p.node.0 = ap (λ (f : ℕ → ℕ). f p.node.0) core.lives in
      let yes : nat_lt (q.lives p.node.0) p.life.0 ≡ true = lt_is (q.lives p.node.0) p.life.0 (omega arith) in
      let older = no_older p.node p.life none in
      let away = no_home p.node home in
      let quiet : (list_any (is_older p.node p.life) q.live || is_home p.node q.old_home) ≡ false = rw (older, away) refl in
      rw (yes, quiet) (same_decision p (sees p.node p.life (begin_work q)).ledger (all_left (is_older p.node p.life) q.live older) refl (not_cleared k p.node q.old_home away) refl)

  -- the ask has no lease then, nor is it parked where it wasn't
  unleased : (p : Parked) → EndsNothing m p.node p.life → ((g : Grant) → Live m g → IsOf p.node p.life p.ask g → ⊥) → lease_of (seen p).ledger.live p.node p.life p.ask ≡ None
  unleased p ends none = elim (cases_option (lease_of (seen p).ledger.live p.node p.life p.ask)) [
    | inl e ↦ e
    | inr r ↦ (let f = find_some (is_of p.node p.life p.ask) (seen p).ledger.live r.0 r.1 in
        true_false (is_of p.node p.life p.ask r.0) f.1 (find_none (is_of p.node p.life p.ask) q.live (no_lease p none) r.0 ((less_after p.node p.life ends).1 r.0 f.0)))
  ]

  seen_was : (p r : Parked) → In r (seen p).ledger.parked → In r q.parked
  seen_was p r = elim (cases_Bool (nat_lt (q.lives p.node.0) p.life.0)) [ inl t ↦ rw t (newer_was k p.node p.life (begin_work q) r) | inr t ↦ rw t (λ i. i) ]

  unparked : (p : Parked) → is_parked q.parked p.node p.life p.ask ≡ false → is_parked (seen p).ledger.parked p.node p.life p.ask ≡ false
  unparked p none = elim (cases_Bool (is_parked (seen p).ledger.parked p.node p.life p.ask)) [
    | inr f ↦ f
    | inl t ↦ (let its : Parked → Bool = λ x. (eqb x.node.0 p.node.0) && (eqb x.life.0 p.life.0) && (eqb x.ask.0 p.ask.0) in
        let r = from_any its (seen p).ledger.parked t in
        true_false (is_parked q.parked p.node p.life p.ask) (any_in its r.0 q.parked (seen_was p r.0 r.1) r.2) none)
  ]

  -- what could be granted may be, after the step on the life
  may_after : (p : Parked) → EndsNothing m p.node p.life → ((g : Grant) → Live m g → IsOf p.node p.life p.ask g → ⊥) → CouldBeGranted k m p → MayBeGranted k (after_life k p.node p.life (begin_work q)).ledger p
  unfolding decision
  may_after p ends none could =
      let v : Ledger = (after_life k p.node p.life (begin_work q)).ledger in
      let less = less_after p.node p.life ends in
      let give : decision k v p ≡ Give = less_ready k v q p less.0 (could_give k m q core p could) in
      let all = pick_give (elsewhere v p) (all_taken k.instances (is_free v) (leased_wants p.tenure p.wants)) (busy (is_leased v) (leased_wants p.tenure p.wants)) (not (nat_lt v.last k.greatest)) give in
      record {
        new = unleased p ends none;
        here = all.here;
        left = all.left;
        idle = all.idle;
        ticket = left_ticket v.last k.greatest all.below;
      }
    where
      left_ticket : (a b : ℕ) → not (nat_lt a b) ≡ false → nat_lt a b ≡ true
      left_ticket a b h = grind (arith, nat_tests)

-- what is answered Granted was decided on so
given_by : (k : Limits) (b : Bool) (p : Parked) (w : Work) (g : Grant) → (acquiring k None b p w).note ≡ note.Granted g → decision k w.ledger p ≡ Give
given_by k true p w g e = cc
given_by k false p w g e = by (decision k w.ledger p) e
  where
    by : (d : Decision) → (decided k d p w).note ≡ note.Granted g → d ≡ Give
    by Give e = refl
    by (Deny why) e = cc
    by Wait e = cc

pub every_ask_is_answered : EveryAskIsAnswered
every_ask_is_answered sha k farm size events u moves shows p sent here = record {
  before = λ now g live of.
      (let same : q.lives p.node.0 ≡ p.life.0 = ap (λ (f : ℕ → ℕ). f p.node.0) core.lives ∙ now in
      let i : In (lease_from g) q.live = core.live_kept g live in
      let is : is_of p.node p.life p.ask (lease_from g) ≡ true = names_same g.node p.node g.life p.life g.ask p.ask of.0 of.1 of.2 in
      let r = find_in (is_of p.node p.life p.ask) q.live (lease_from g) i is in
      let f = find_some (is_of p.node p.life p.ask) q.live r.0 r.1 in
      let h = core.live_made r.0 f.0 in
      let its = names_are r.0.node p.node r.0.life p.life r.0.ask p.ask f.1 in (
        h.0,
        h.1,
        (ap (λ (z : Lease). z.node) h.2 ∙ its.0, ap (λ (z : Lease). z.life) h.2 ∙ its.1, ap (λ (z : Lease). z.ask) h.2 ∙ its.2),
        ap (λ (w : Work). w.note) (now_handled k u.machine q core p here' same ∙ ap (λ o. acquiring k o (is_parked q.parked p.node p.life p.ask) p (begin_work q)) r.1)
            ∙ ap note.GrantedBefore (ap (grant_of k.empty q.line) (sym h.2) ∙ grant-lease k.empty u.machine q h.0 sound core h.1),
      ));
  granted = λ ends none could.
      (let may = may_after k u.machine q core p ends none could in
      let r = fitting_ask_is_granted k p (begin_work q) (no_parked_ask_is_ready sha k size events) (only_itself sha k farm size events u moves shows p sent) here' (current ends) may in
      (_, r.0));
  could = λ ends none g told.
      (let v : Work = seen k u.machine q core p in
      give_could k u.machine q core p (sym (decision_after k u.machine q core p ends) ∙ given_by k (is_parked v.ledger.parked p.node p.life p.ask) p v g (sym (ap (λ (w : Work). w.note) (answer ends none)) ∙ told)));
  elsewhere = λ ends none away. waits ends none (elsewhere_waits k u.machine q core p away);
  instances = λ ends new tenure w i private all. denied ends new InstancesSpent (spent_denies k u.machine q core p w tenure i private all);
  tickets = λ ends new at_home free spent. denied ends new TicketsSpent (tickets_deny k u.machine q core p at_home free spent);
  parked = λ ends none held. waits ends none (held_waits k u.machine q core p held);
}
  where
    q : Ledger
    q = (run sha k events (opening sha size)).ledger

    agrees : Agrees k.empty u.pool u.machine q
    agrees = subst (λ z. Agrees z u.pool u.machine q) (sym farm.empty) shows.now

    core : Core k.empty u.machine q
    core = core_of k.empty u.pool u.machine q agrees

    sound : Sound k.empty u.machine
    sound = subst (λ z. Sound z u.machine) (sym farm.empty) (moves_inv sha (start sha) u (start_whole sha) moves).0.now.sound

    here' : q.gone p.node.0 ≡ false
    here' = ap (λ (f : ℕ → Bool). f p.node.0) core.gone ∙ here

    lives : q.lives p.node.0 ≡ u.machine.lives p.node.0
    lives = ap (λ (f : ℕ → ℕ). f p.node.0) core.lives

    current : EndsNothing u.machine p.node p.life → nat_lt p.life.0 (q.lives p.node.0) ≡ false
    current (inl same) = (let at : q.lives p.node.0 ≡ p.life.0 = lives ∙ same in not_lt p.life.0 (q.lives p.node.0) (omega arith))
    current (inr (newer, none, home)) = (let at : q.lives p.node.0 ≡ u.machine.lives p.node.0 = lives in not_lt p.life.0 (q.lives p.node.0) (omega arith))

    answer : EndsNothing u.machine p.node p.life → ((g : Grant) → Live u.machine g → IsOf p.node p.life p.ask g → ⊥)
        → handled k (record { node = p.node; life = p.life; request = Acquire p.ask p.wants p.tenure }) (begin_work q) ≡ acquiring k None (is_parked (seen k u.machine q core p).ledger.parked p.node p.life p.ask) p (seen k u.machine q core p)
    answer ends none =
        let v : Work = seen k u.machine q core p in
        life_handled k u.machine q core p here' (current ends) ∙ ap (λ o. acquiring k o (is_parked v.ledger.parked p.node p.life p.ask) p v) (unleased k u.machine q core p ends none)

    waits : EndsNothing u.machine p.node p.life → ((g : Grant) → Live u.machine g → IsOf p.node p.life p.ask g → ⊥) → decision k q p ≡ Wait
        → (handled k (record { node = p.node; life = p.life; request = Acquire p.ask p.wants p.tenure }) (begin_work q)).note ≡ note.Parked
    waits ends none e =
        let v : Work = seen k u.machine q core p in
        ap (λ (w : Work). w.note) (answer ends none) ∙ parked_note k u.machine q core (is_parked v.ledger.parked p.node p.life p.ask) p v (decision_after k u.machine q core p ends ∙ e)

    denied : EndsNothing u.machine p.node p.life → IsNew u.machine p → (y : Why) → decision k q p ≡ Deny y → (handled k (record { node = p.node; life = p.life; request = Acquire p.ask p.wants p.tenure }) (begin_work q)).note ≡ note.Denied y
    denied ends new y e =
        let v : Work = seen k u.machine q core p in
        ap (λ (w : Work). w.note) (answer ends new.0 ∙ ap (λ b. acquiring k None b p v) (unparked k u.machine q core p (not_parked k u.machine q core p agrees.parked new.1)))
        ∙ denied_note k u.machine q core p v y (decision_after k u.machine q core p ends ∙ e)
