-- Where leases are given back each parked ask is answered.
use Rattle.std.proofs.Common.{◌≡◌, ℕ, zero, suc, ◌+◌, ◌<◌, ◌≤◌, List, [], ◌∷◌, ◌++◌, ◌⊎◌, length, map, Bool, true, false, not, ◌&&◌, ◌||◌, eqb, filter, Option, Some, None, Result, Ok, Err, refl, sym, ◌∙◌, ap, subst, inl, inr, arith}
use Rattle.std.proofs.lemmas.Bool.{and_parts, cases_Bool, or_parts}
use Rattle.std.proofs.lemmas.Bool.Decides.{nat_tests}
use Rattle.std.specs.List.{list_any, find}
use Rattle.std.specs.Prelude.{⊤, nat_lt, if◌then◌else◌}
use Rattle.farm_base.specs.declared.message.Request.{Request}
use Rattle.farm_base.specs.declared.message.Request.TheVariants.{Hello, Acquire, Commit, Release}
use Rattle.farm_base.specs.declared.message.Message.TheVariants as to
use Rattle.farm_base.specs.declared.message.FromCoord.TheVariants as told
use Rattle.farm_base.specs.declared.message.Why.{Why}
use Rattle.events.specs.declared.answer.CoordRefusal.{CoordRefusal}
use Rattle.events.specs.declared.answer.CoordRefusal.TheVariants as coord
use Rattle.events.specs.declared.answer.Kept.{Kept}
use Rattle.events.specs.declared.answer.Kept.TheVariants.{Old, New}
use Rattle.events.specs.declared.answer.CoordNote.TheVariants as note
use Rattle.protocol.specs.Lists.{In, is_nil, nth}
use Rattle.protocol.specs.Names.{Slot, is_private, only_slot, NodeId, Life, Ticket, Digest, Want, leased_wants}
use Rattle.protocol.specs.Machine.{Told, Grant, Message, FromCoord, ToCoord, Parked, News, cleared}
use Rattle.protocol.specs.Ledger.{Limits, Ledger, Lease, Work, begin_work, has_slot, some_lease, is_leased, is_free, all_taken, busy, pick, another, elsewhere, Decision, Give, Deny, Wait, decision, lease_for, grant_of, gives, carried_out, waits, tried, stays, try_all, waiting, retried, holds_wanted, recall, recalls, decided, acquiring, lease_of, is_parked, has_ticket, lease_under, without, may_commit, on_all, answered, committing, may_release, released, answering, is_older, is_older_ask, sees, is_home, newer_life, handled, withdraws, withdrawing, withdrawn, is_at, goes, retired, prunes, pruned, is_awaited, nudges, nudge_all, nudged, notes, ends}
use Rattle.protocol.specs.Nodes.{NodeAnswer, may_restart}
use Rattle.protocol.specs.Replay.{Event, Tenure, Deliver, Begin, Finish, Abort, Resend, Nudge, Withdraw, Prune, Retire, RestartNode, RestartCoordinator, Forge, Forget, FailSave, Farm, Turn, opening, settled, coordinated, is_node, at_node, restarts, delivered, step, run, scheduled}
use Rattle.protocol.specs.Replay as replay
use Rattle.protocol.specs.Meaning.{IsAnswered}
use Rattle.protocol.specs.Lawful.{IsLawful, IsSaid, IsLawfulFarm, AllApart, EveryLedgerStaysLawful, EveryFarmStaysLawful, EveryOpeningIsLawful}
use Rattle.protocol.proofs.Base.{in_left, in_right, in_append, in_one, in_map, any_in, from_any, any_none, in_filter, from_filter, true_false, eqb_same, both_true}
use Rattle.protocol.specs.Follows.{EveryScheduleIsSafe}
use Rattle.progress.proofs.Lives.{no_home}
use Rattle.progress.specs.Progress.{release_of, size_of, WaitsForLease, given_back, Gives_back, Rests, And_one, GoesOn, AreEvents, GivingBackGoesOn, EveryParkedAskCanBeAnswered}

-- ---- lists

pub length_push : {A : Type 0} (xs : List A) (x : A) → length (xs ++ x ∷ []) ≡ length xs + 1
length_push [] x = refl
length_push (y ∷ ys) x = (let r = length_push ys x in omega arith)

pub filter_le : {A : Type 0} (test : A → Bool) (xs : List A) → length (filter test xs) ≤ length xs
filter_le test [] = omega arith
filter_le test (x ∷ xs) = elim (cases_Bool (test x)) [
  | inl t ↦ rw t (let r = filter_le test xs in omega arith)
  | inr t ↦ rw t (let r = filter_le test xs in omega arith)
]

pub filter_less : {A : Type 0} (test : A → Bool) (xs : List A) (x : A) → In x xs → test x ≡ false → length (filter test xs) + 1 ≤ length xs
filter_less test [] x i f = absurd i
filter_less test (y ∷ ys) x (inl e) f = (let g : test y ≡ false = subst (λ z. test z ≡ false) e f in rw g (let r = filter_le test ys in omega arith))
filter_less test (y ∷ ys) x (inr i) f = elim (cases_Bool (test y)) [
  | inl t ↦ rw t (let r = filter_less test ys x i f in omega arith)
  | inr t ↦ rw t (let r = filter_le test ys in omega arith)
]

pub some_in : {A : Type 0} (xs : List A) (x : A) → In x xs → 1 ≤ length xs
some_in [] x i = absurd i
some_in (y ∷ ys) x i = omega arith

pub lt_other : (a b : ℕ) → a < b → eqb a b ≡ false
lt_other a b h = grind (arith, nat_tests)

pub not_older : (a b : ℕ) → a ≡ b → nat_lt b a ≡ false
not_older a b h = grind (arith, nat_tests)

pub not_newer : (a b : ℕ) → a ≡ b → nat_lt a b ≡ false
not_newer a b h = grind (arith, nat_tests)

-- ---- held up

-- the ask waits for the old home, or for a slot that is leased
abbrev pub is_held_up : Ledger → Parked → Bool
is_held_up q p = elsewhere q p || busy (is_leased q) (leased_wants p.tenure p.wants)

abbrev pub AreHeldUp : Ledger → Type 0
AreHeldUp q = (p : Parked) → In p q.parked → is_held_up q p ≡ true

-- what is leased in the first is leased in the second, and the old home is the same
pub record LeasesMore (q q' : Ledger) : Type 0 where
  pub home : q'.old_home ≡ q.old_home
  pub leased : (s : Slot) → some_lease q.live s ≡ true → some_lease q'.live s ≡ true

more_same : (q : Ledger) → LeasesMore q q
more_same q = record { home = refl; leased = λ s e. e }

more_twice : (a b c : Ledger) → LeasesMore a b → LeasesMore b c → LeasesMore a c
more_twice a b c f g = record { home = g.home ∙ f.home; leased = λ s e. g.leased s (f.leased s e) }

any_more : {A : Type 0} (test test' : A → Bool) (xs : List A) → ((x : A) → In x xs → test x ≡ true → test' x ≡ true) → list_any test xs ≡ true → list_any test' xs ≡ true
any_more test test' xs more e = (let r = from_any test xs e in any_in test' r.0 xs r.1 (more r.0 r.1 r.2))

either_more : (a b c : Bool) → (a || b) ≡ true → (b ≡ true → c ≡ true) → (a || c) ≡ true
either_more true b c h more = refl
either_more false b c h more = more h

still_held : (q q' : Ledger) (p : Parked) → LeasesMore q q' → is_held_up q p ≡ true → is_held_up q' p ≡ true
still_held q q' p more held =
    let wants : List Want = leased_wants p.tenure p.wants in
    subst (λ (o : Option NodeId). ((p.tenure && another o p.node) || busy (is_leased q') wants) ≡ true) (sym more.home)
    (either_more (elsewhere q p) (busy (is_leased q) wants) (busy (is_leased q') wants) held
    (any_more (λ (w : Want). not (is_private w.folder.mode) && is_leased q (only_slot w.folder)) (λ (w : Want). not (is_private w.folder.mode) && is_leased q' (only_slot w.folder)) wants
    (λ w i t. (let b = and_parts (not (is_private w.folder.mode)) (is_leased q (only_slot w.folder)) t in
    let other = b.0 in
    let on = more.leased (only_slot w.folder) b.1 in
    rw (other, on) refl))))

keeps : (q q' : Ledger) → LeasesMore q q' → ((p : Parked) → In p q'.parked → In p q.parked) → AreHeldUp q → AreHeldUp q'
keeps q q' more less held p i = still_held q q' p more (held p (less p i))

-- what it waits for
pub waits_for : (q : Ledger) (p : Parked) → is_held_up q p ≡ true → (elsewhere q p ≡ true) ⊎ WaitsForLease q p
waits_for q p held = elim (cases_Bool (elsewhere q p)) [
  | inl t ↦ inl t
  | inr f ↦
      let wants : List Want = leased_wants p.tenure p.wants in
      let on : busy (is_leased q) wants ≡ true = rw f at held in
      let w = from_any (λ (w : Want). not (is_private w.folder.mode) && is_leased q (only_slot w.folder)) wants on in
      let b = and_parts (not (is_private w.0.folder.mode)) (is_leased q (only_slot w.0.folder)) w.2 in
      let h = from_any (λ (h : Lease). has_slot h.slots (only_slot w.0.folder)) q.live b.1 in
      inr (h.0, h.1, any_in (λ (x : Want). has_slot h.0.slots (only_slot x.folder)) w.0 wants w.1 h.2)
]

picks_held : (a b c d : Bool) → waits (pick a b c d) ≡ true → (a || c) ≡ true
picks_held true b c d e = refl
picks_held false true c d e = (let bad : false ≡ true = e in absurd (cc bad))
picks_held false false true d e = refl
picks_held false false false true e = (let bad : false ≡ true = e in absurd (cc bad))
picks_held false false false false e = (let bad : false ≡ true = e in absurd (cc bad))

pub nobody : (p : Parked) (q : Ledger) → q.old_home ≡ None → elsewhere q p ≡ false
nobody p q none = subst (λ (o : Option NodeId). (p.tenure && another o p.node) ≡ false) (sym none) (and_false p.tenure)
  where
    and_false : (b : Bool) → (b && false) ≡ false
    and_false true = refl
    and_false false = refl

module _ (k : Limits) where
  -- ---- trying asks

  gives_more : (p : Parked) (w : Work) → LeasesMore w.ledger (gives k p w).ledger
  unfolding gives
  gives_more p w = record {
    home = refl;
    leased = λ s e. (let r = from_any (λ (g : Lease). has_slot g.slots s) w.ledger.live e in any_in (λ (g : Lease). has_slot g.slots s) r.0 (w.ledger.live ++ lease_for k w.ledger p ∷ []) (in_left r.0 w.ledger.live (lease_for k w.ledger p ∷ []) r.1) r.2);
  }

  carried_more : (d : Decision) (p : Parked) (w : Work) → LeasesMore w.ledger (carried_out k d p w).ledger
  carried_more Give p w = gives_more p w
  carried_more (Deny why) p w = more_same w.ledger
  carried_more Wait p w = more_same w.ledger

  pub tried_more : (p : Parked) (w : Work) → LeasesMore w.ledger (tried k p w).ledger
  unfolding tried
  tried_more p w = carried_more (decision k w.ledger p) p w

  try_more : (ps : List Parked) (w : Work) → LeasesMore w.ledger (try_all k ps w).ledger
  try_more [] w = more_same w.ledger
  try_more (p ∷ ps) w = more_twice w.ledger (tried k p w).ledger (try_all k ps (tried k p w)).ledger (tried_more p w) (try_more ps (tried k p w))

  waits_held : (q : Ledger) (p : Parked) → waits (decision k q p) ≡ true → is_held_up q p ≡ true
  unfolding decision
  waits_held q p e =
      let wants : List Want = leased_wants p.tenure p.wants in
      picks_held (elsewhere q p) (all_taken k.instances (is_free q) wants) (busy (is_leased q) wants) (not (nat_lt q.last k.greatest)) e

  pub stays_held : (p : Parked) (w : Work) → stays k p w ≡ true → is_held_up w.ledger p ≡ true
  unfolding stays
  stays_held p w t = waits_held w.ledger p t

  stay_held : (ps : List Parked) (w : Work) (p : Parked) → In p (waiting k ps w) → is_held_up (try_all k ps w).ledger p ≡ true
  stay_held [] w p i = absurd i
  stay_held (r ∷ ps) w p i = elim (cases_Bool (stays k r w)) [
    | inr t ↦ stay_held ps (tried k r w) p (rw t at i)
    | inl t ↦ elim (let j : In p (r ∷ waiting k ps (tried k r w)) = rw t at i in j) [
      | inl same ↦
          subst (λ (z : Parked). is_held_up (try_all k (r ∷ ps) w).ledger z ≡ true) (sym same)
          (still_held w.ledger (try_all k (r ∷ ps) w).ledger r (try_more (r ∷ ps) w) (stays_held r w t))
      | inr j ↦ stay_held ps (tried k r w) p j
    ]
  ]

  pub retried_held : (w : Work) → AreHeldUp (retried k w).ledger
  unfolding retried
  retried_held w p i = stay_held w.ledger.parked w p i

  pub retried_home : (w : Work) → (retried k w).ledger.old_home ≡ w.ledger.old_home
  unfolding retried
  retried_home w = (try_more w.ledger.parked w).home

  -- ---- how many leases and parked asks there are then

  carried_most : (d : Decision) (p : Parked) (w : Work) → length (carried_out k d p w).ledger.live ≤ length w.ledger.live + 1
  unfolding gives
  carried_most Give p w = (let e = length_push w.ledger.live (lease_for k w.ledger p) in omega arith)
  carried_most (Deny why) p w = omega arith
  carried_most Wait p w = omega arith

  carried_waits : (d : Decision) (p : Parked) (w : Work) → waits d ≡ true → length (carried_out k d p w).ledger.live ≤ length w.ledger.live
  carried_waits Give p w e = (let bad : false ≡ true = e in absurd (cc bad))
  carried_waits (Deny why) p w e = omega arith
  carried_waits Wait p w e = omega arith

  tried_most : (p : Parked) (w : Work) → length (tried k p w).ledger.live ≤ length w.ledger.live + 1
  unfolding tried
  tried_most p w = carried_most (decision k w.ledger p) p w

  tried_waits : (p : Parked) (w : Work) → stays k p w ≡ true → length (tried k p w).ledger.live ≤ length w.ledger.live
  unfolding tried stays
  tried_waits p w e = carried_waits (decision k w.ledger p) p w e

  try_size : (ps : List Parked) (w : Work) → length (try_all k ps w).ledger.live + length (waiting k ps w) ≤ length w.ledger.live + length ps
  try_size [] w = omega arith
  try_size (p ∷ ps) w = elim (cases_Bool (stays k p w)) [
    | inl t ↦ rw t (let r = try_size ps (tried k p w) in let s = tried_waits p w t in omega arith)
    | inr t ↦ rw t (let r = try_size ps (tried k p w) in let s = tried_most p w in omega arith)
  ]

  pub retried_size : (w : Work) → size_of (retried k w).ledger ≤ size_of w.ledger
  unfolding retried
  retried_size w = try_size w.ledger.parked w

  -- ---- an ask that is tried stays, or is answered

  abbrev pub Served : Parked → List FromCoord → Type 0
  Served p sends = ((g : Grant) × In (told.Granted g) sends × (g.node ≡ p.node) × (g.life ≡ p.life) × (g.ask ≡ p.ask)) ⊎ ((why : Why) × In (told.Denied p.node p.life p.ask why) sends)

  pub served_is : (p : Parked) (sends : List FromCoord) → Served p sends → IsAnswered p (map Told sends)
  served_is p sends (inl (g, i, n, l, a)) = inl (g, in_map Told (told.Granted g) sends i, n, l, a)
  served_is p sends (inr (why, i)) = inr (why, in_map Told (told.Denied p.node p.life p.ask why) sends i)

  carried_sent : (d : Decision) (p : Parked) (w : Work) (m : FromCoord) → In m w.sends → In m (carried_out k d p w).sends
  unfolding gives
  carried_sent Give p w m i = in_left m w.sends _ i
  carried_sent (Deny why) p w m i = in_left m w.sends _ i
  carried_sent Wait p w m i = i

  tried_sent : (p : Parked) (w : Work) (m : FromCoord) → In m w.sends → In m (tried k p w).sends
  unfolding tried
  tried_sent p w m i = carried_sent (decision k w.ledger p) p w m i

  pub try_sent : (ps : List Parked) (w : Work) (m : FromCoord) → In m w.sends → In m (try_all k ps w).sends
  try_sent [] w m i = i
  try_sent (p ∷ ps) w m i = try_sent ps (tried k p w) m (tried_sent p w m i)

  one_served : (d : Decision) (p : Parked) (w : Work) → waits d ≡ false → Served p (carried_out k d p w).sends
  unfolding gives
  one_served Give p w e = inl (grant_of k.empty w.ledger.line (lease_for k w.ledger p), in_right _ w.sends _ (inl refl), refl, refl, refl)
  one_served (Deny why) p w e = inr (why, in_right _ w.sends _ (inl refl))
  one_served Wait p w e = (let bad : true ≡ false = e in cc)

  pub tried_served : (p : Parked) (w : Work) → stays k p w ≡ false → Served p (tried k p w).sends
  unfolding tried stays
  tried_served p w t = one_served (decision k w.ledger p) p w t

  pub later_served : (ps : List Parked) (w : Work) (p : Parked) → Served p w.sends → Served p (try_all k ps w).sends
  later_served ps w p (inl (g, i, n, l, a)) = inl (g, try_sent ps w (told.Granted g) i, n, l, a)
  later_served ps w p (inr (why, i)) = inr (why, try_sent ps w (told.Denied p.node p.life p.ask why) i)

  all_served : (ps : List Parked) (w : Work) (p : Parked) → In p ps → In p (waiting k ps w) ⊎ Served p (try_all k ps w).sends
  all_served [] w p i = absurd i
  all_served (r ∷ ps) w p i = elim (cases_Bool (stays k r w)) [
    | inl t ↦ rw t (elim i [
      | inl e ↦ inl (inl e)
      | inr j ↦ elim (all_served ps (tried k r w) p j) [ inl x ↦ inl (inr x) | inr x ↦ inr x ]
    ])
    | inr t ↦ rw t (elim i [
      | inl e ↦ inr (subst (λ z. Served z (try_all k ps (tried k r w)).sends) (sym e) (later_served ps (tried k r w) r (tried_served r w t)))
      | inr j ↦ all_served ps (tried k r w) p j
    ])
  ]

  pub retried_served : (w : Work) (p : Parked) → In p w.ledger.parked → In p (retried k w).ledger.parked ⊎ Served p (retried k w).sends
  unfolding retried
  retried_served w p i = all_served w.ledger.parked w p i

  -- ---- a lease is given back

  pub under_it : (live : List Lease) (h : Lease) → AllApart live → In h live → lease_under live h.ticket ≡ Some h
  under_it [] h all i = absurd i
  under_it (g ∷ live) h all (inl e) = (let same : eqb g.ticket.0 h.ticket.0 ≡ true = subst (λ (z : Lease). eqb z.ticket.0 h.ticket.0 ≡ true) e (eqb_same h.ticket.0) in rw same (ap Some (sym e)))
  under_it (g ∷ live) h all (inr i) = (let other : eqb g.ticket.0 h.ticket.0 ≡ false = lt_other g.ticket.0 h.ticket.0 (all.0 h i).ticket in rw other (under_it live h all.1 i))

  unfoldable pub ended : Lease → Ledger → Work
  ended h q = notes (note.Released h.ticket) (retried k (ends h (begin_work q)))

  released_is : (h : Lease) (b : Bool) (o : Option Lease) (w : Work) → b ≡ true → o ≡ Some h → released k b h.ticket o w ≡ notes (note.Released h.ticket) (retried k (ends h w))
  released_is h b o w e f = rw (e, f) refl

  may : (h : Lease) → may_release h.node h.life (Some h) ≡ true
  may h = both_true (eqb h.node.0 h.node.0) (eqb h.life.0 h.life.0) (eqb_same h.node.0) (eqb_same h.life.0)

  module _ (top : ℕ) where
    pub given_is : (h : Lease) (q : Ledger) → IsLawful top q → In h q.live → given_back k h q ≡ ended h q
    unfolding handled ended
    given_is h q lawful i =
        let asker = (lawful.core.holders h i).asker in
        let stays : q.gone h.node.0 ≡ false = asker.stays in
        let older : nat_lt h.life.0 (q.lives h.node.0) ≡ false = not_older (q.lives h.node.0) h.life.0 asker.life in
        let newer : nat_lt (q.lives h.node.0) h.life.0 ≡ false = not_newer (q.lives h.node.0) h.life.0 asker.life in
        let found : lease_under q.live h.ticket ≡ Some h = under_it q.live h lawful.core.apart i in
        rw (stays, older, newer)
        (released_is h (may_release h.node h.life (lease_under q.live h.ticket)) (lease_under q.live h.ticket) (begin_work q) (ap (may_release h.node h.life) found ∙ may h) found)

    -- what it comes to
    record Onward (q : Ledger) (w : Work) : Type 0 where
      pub lawful : IsLawful top w.ledger
      pub held : AreHeldUp w.ledger
      pub home : w.ledger.old_home ≡ q.old_home
      pub size : size_of w.ledger + 1 ≤ size_of q
      pub served : (p : Parked) → In p q.parked → In p w.ledger.parked ⊎ Served p w.sends

    ended_onward : (h : Lease) (q : Ledger) → In h q.live → IsLawful top (ended h q).ledger → Onward q (ended h q)
    unfolding ended
    ended_onward h q i lawful =
        let w : Work = ends h (begin_work q) in
        record {
          lawful = lawful;
          held = retried_held w;
          home = retried_home w;
          size = (let a : size_of (retried k w).ledger ≤ length (without h.ticket q.live) + length q.parked = retried_size w in
              let b : length (without h.ticket q.live) + 1 ≤ length q.live = filter_less (λ (g : Lease). not (has_ticket h.ticket g)) q.live h i (ap not (eqb_same h.ticket.0)) in
              omega arith);
          served = retried_served w;
        }

    module _ (law : EveryLedgerStaysLawful) where
      given_onward : (h : Lease) (q : Ledger) → IsLawful top q → In h q.live → Onward q (given_back k h q)
      given_onward h q lawful i =
          let same = given_is h q lawful i in
          let said : IsSaid top (release_of h) = record { speaker = (lawful.core.holders h i).asker.speaker; request = tt } in
          subst (Onward q) (sym same) (ended_onward h q i (subst (λ (w : Work). IsLawful top w.ledger) same ((law top k q lawful).message (release_of h) said)))

      record Reached (before : Ledger) (count : ℕ) (now : Ledger) (sends : List FromCoord) : Type 0 where
        pub lawful : IsLawful top now
        pub held : AreHeldUp now
        pub home : now.old_home ≡ before.old_home
        pub size : count + size_of now ≤ size_of before
        pub served : (p : Parked) → In p before.parked → In p now.parked ⊎ Served p sends

      served_left : (p : Parked) (xs ys : List FromCoord) → Served p xs → Served p (xs ++ ys)
      served_left p xs ys (inl (g, i, n, l, a)) = inl (g, in_left (told.Granted g) xs ys i, n, l, a)
      served_left p xs ys (inr (why, i)) = inr (why, in_left (told.Denied p.node p.life p.ask why) xs ys i)

      served_right : (p : Parked) (xs ys : List FromCoord) → Served p ys → Served p (xs ++ ys)
      served_right p xs ys (inl (g, i, n, l, a)) = inl (g, in_right (told.Granted g) xs ys i, n, l, a)
      served_right p xs ys (inr (why, i)) = inr (why, in_right (told.Denied p.node p.life p.ask why) xs ys i)

      reached : (before : Ledger) → IsLawful top before → AreHeldUp before → (count : ℕ) (now : Ledger) (sends : List FromCoord) → Gives_back k before count now sends → Reached before count now sends
      reached before lawful held zero now sends Rests = record { lawful = lawful; held = held; home = refl; size = omega arith; served = λ p i. inl i }
      reached before lawful held n now sends (And_one count q xs h more i) =
          let r = reached before lawful held count q xs more in
          let o = given_onward h q r.lawful i in
          record {
            lawful = o.lawful;
            held = o.held;
            home = o.home ∙ r.home;
            size = (let a : count + size_of q ≤ size_of before = r.size in let b : size_of (given_back k h q).ledger + 1 ≤ size_of q = o.size in omega arith);
            served = λ p j. elim (r.served p j) [
              | inr s ↦ inr (served_left p xs (given_back k h q).sends s)
              | inl still ↦ elim (o.served p still) [ inl x ↦ inl x | inr s ↦ inr (served_right p xs (given_back k h q).sends s) ]
            ];
          }

      goes_on : (before : Ledger) → IsLawful top before → AreHeldUp before → before.old_home ≡ None → (count : ℕ) (now : Ledger) (sends : List FromCoord) → Gives_back k before count now sends → GoesOn k before count now sends
      goes_on before lawful held none count now sends g =
          let r = reached before lawful held count now sends g in
          record {
            ends = r.size;
            answers = λ p i. elim (r.served p i) [ inl x ↦ inl x | inr s ↦ inr (served_is p sends s) ];
            waits = λ p i. elim (waits_for now p (r.held p i)) [
              | inr w ↦ w
              | inl away ↦ true_false (elsewhere now p) away (nobody p now (r.home ∙ none))
            ];
          }

      -- a parked ask is answered, where at most this many leases and parked asks are left
      abbrev Answered : Ledger → Parked → Type 0
      Answered before p = (count : ℕ) × (after : Ledger) × (sends : List FromCoord) × Gives_back k before count after sends × IsAnswered p (map Told sends)

      answer_it : (fuel : ℕ) (before : Ledger) → IsLawful top before → AreHeldUp before → (p : Parked) → elsewhere before p ≡ false → (count : ℕ) (now : Ledger) (sends : List FromCoord) → Gives_back k before count now sends → In p now.parked → size_of now ≤ fuel → Answered before p
      answer_it zero before lawful held p here count now sends g i le = (let one : 1 ≤ length now.parked = some_in now.parked p i in absurd (omega arith))
      answer_it (suc fuel) before lawful held p here count now sends g i le =
          let r = reached before lawful held count now sends g in
          elim (waits_for now p (r.held p i)) [
            | inl away ↦ true_false (elsewhere now p) away (subst (λ (o : Option NodeId). (p.tenure && another o p.node) ≡ false) (sym r.home) here)
            | inr w ↦
                let o = given_onward w.0 now r.lawful w.1 in
                let next = And_one count now sends w.0 g w.1 in
                elim (o.served p i) [
                  | inr s ↦ (count + 1, (given_back k w.0 now).ledger, sends ++ (given_back k w.0 now).sends, next, served_is p (sends ++ (given_back k w.0 now).sends) (served_right p sends (given_back k w.0 now).sends s))
                  | inl still ↦ answer_it fuel before lawful held p here (count + 1) (given_back k w.0 now).ledger (sends ++ (given_back k w.0 now).sends) next still (let less : size_of (given_back k w.0 now).ledger + 1 ≤ size_of now = o.size in omega arith)
                ]
          ]

-- ---- in the farm of a schedule each parked ask is held up

pub recalling : (b : Bool) (o : Option Lease) (p : Parked) (w : Work) → o ≡ find (holds_wanted p) w.ledger.live → (recalls b p w).ledger ≡ w.ledger
recalling false o p w e = refl
recalling true o p w e = ap (λ (x : Option Lease). (recall x w).ledger) (sym e) ∙ by o
  where
    by : (x : Option Lease) → (recall x w).ledger ≡ w.ledger
    by None = refl
    by (Some g) = refl

none_picked : (test : Lease → Bool) (live : List Lease) (s : Slot) → list_any test live ≡ false → some_lease live s ≡ true → some_lease (filter (λ g. not (test g)) live) s ≡ true
none_picked test live s none on =
    let r = from_any (λ (g : Lease). has_slot g.slots s) live on in
    any_in (λ (g : Lease). has_slot g.slots s) r.0 (filter (λ g. not (test g)) live) (in_filter (λ (g : Lease). not (test g)) r.0 live r.1 (ap not (any_none test r.0 live none r.1))) r.2

other_home : (n : NodeId) (o : Option NodeId) → is_home n o ≡ false → cleared n o ≡ o
other_home n None h = refl
other_home n (Some x) h = (let e : eqb x.0 n.0 ≡ false = h in rw e refl)

parks_held : (p : Parked) (w v : Work) → v.ledger ≡ w.ledger → AreHeldUp w.ledger → is_held_up w.ledger p ≡ true → AreHeldUp (record v.ledger { parked = w.ledger.parked ++ p ∷ [] })
parks_held p w v same held here r i =
    subst (λ (q : Ledger). is_held_up q r ≡ true) (sym same) (elim (in_append r w.ledger.parked (p ∷ []) i) [ inl j ↦ held r j | inr j ↦ subst (λ z. is_held_up w.ledger z ≡ true) (sym (in_one r p j)) here ])

module _ (k : Limits) where
  abbrev pub H : Work → Type 0
  H w = AreHeldUp w.ledger

  decided_held : (d : Decision) (p : Parked) (w : Work) → decision k w.ledger p ≡ d → H w → H (decided k d p w)
  unfolding gives
  decided_held Give p w e held = keeps w.ledger (gives k p w).ledger (gives_more k p w) (λ r i. i) held
  decided_held (Deny why) p w e held = held
  decided_held Wait p w e held =
      let b : Bool = p.tenure && not (elsewhere w.ledger p) in
      parks_held p w (recalls b p w) (recalling b _ p w refl) held (waits_held k w.ledger p (ap waits e))

  acquiring_held : (o : Option Lease) (b : Bool) (p : Parked) (w : Work) → H w → H (acquiring k o b p w)
  acquiring_held (Some g) b p w held = held
  acquiring_held None true p w held = held
  acquiring_held None false p w held = decided_held (decision k w.ledger p) p w refl held

  answered_held : (b : Bool) (n : NodeId) (l : Life) (t : Ticket) (news : List News) (w : Work) → H w → H (answered b n l t news w)
  answered_held true n l t news w held = held
  answered_held false n l t news w held = held

  committing_held : (b : Bool) (n : NodeId) (l : Life) (t : Ticket) (news : List News) (w : Work) → H w → H (committing k b n l t news w)
  committing_held true n l t news w held = retried_held k _
  committing_held false n l t news w held = answered_held (not (is_nil news) && on_all w.ledger.line t news) n l t news w held

  released_held : (b : Bool) (t : Ticket) (o : Option Lease) (w : Work) → H w → H (released k b t o w)
  released_held b t None w held = held
  released_held false t (Some g) w held = held
  released_held true t (Some g) w held = retried_held k _

  answering_held : (n : NodeId) (l : Life) (r : Request) (w : Work) → H w → H (answering k n l r w)
  answering_held n l Hello w held = held
  answering_held n l (Acquire a wants tenure) w held = acquiring_held (lease_of w.ledger.live n l a) (is_parked w.ledger.parked n l a) (record { node = n; life = l; ask = a; wants = wants; tenure = tenure }) w held
  answering_held n l (Commit t news) w held = committing_held (may_commit n l news (lease_under w.ledger.live t)) n l t news w held
  answering_held n l (Release t) w held = released_held (may_release n l (lease_under w.ledger.live t)) t (lease_under w.ledger.live t) w held

  pub newer_held : (n : NodeId) (l : Life) (w : Work) → H w → H (newer_life k n l w)
  unfolding newer_life
  newer_held n l w held = elim (cases_Bool (list_any (is_older n l) w.ledger.live || is_home n w.ledger.old_home)) [
    | inl t ↦ rw t (retried_held k (sees n l w))
    | inr t ↦ rw t (let o = or_parts (list_any (is_older n l) w.ledger.live) (is_home n w.ledger.old_home) t in
        keeps w.ledger (sees n l w).ledger (record { home = other_home n w.ledger.old_home o.1; leased = λ s e. none_picked (is_older n l) w.ledger.live s o.0 e })
        (λ p i. (from_filter (λ (r : Parked). not (is_older_ask n l r)) p w.ledger.parked i).0) held)
  ]

  handled_held : (y : ToCoord) (w : Work) → H w → H (handled k y w)
  unfolding handled
  handled_held y w held = elim (cases_Bool (w.ledger.gone y.node.0)) [
    | inl t ↦ rw t held
    | inr here ↦ rw here (elim (cases_Bool (nat_lt y.life.0 (w.ledger.lives y.node.0))) [
      | inl t ↦ rw t held
      | inr t ↦ rw t (elim (cases_Bool (nat_lt (w.ledger.lives y.node.0) y.life.0)) [
        | inl newer ↦ rw newer (answering_held y.node y.life y.request (newer_life k y.node y.life w) (newer_held y.node y.life w held))
        | inr same ↦ rw same (answering_held y.node y.life y.request w held)
      ])
    ])
  ]

  abbrev OnWork : Result Work CoordRefusal → Type 0
  OnWork (Ok w) = H w
  OnWork (Err e) = ⊤

  if_work : (b : Bool) (e : CoordRefusal) (r : Result Work CoordRefusal) → (b ≡ false → OnWork r) → OnWork (if b then Err e else r)
  if_work true e r h = tt
  if_work false e r h = h refl

  withdrawing_held : (o : Option Lease) (w : Work) → OnWork (withdrawing k o w)
  withdrawing_held None w = tt
  withdrawing_held (Some g) w = if_work g.tenure coord.Tenure (Ok (notes (note.Withdrawn g.ticket) (retried k (withdraws g w)))) (λ f. retried_held k (withdraws g w))

  retired_held : (n : NodeId) (w : Work) → H w → OnWork (retired k n w)
  retired_held n w held = if_work (w.ledger.gone n.0) coord.NodeRetired _ (λ f. if_work (list_any (λ (g : Lease). is_at n g && g.tenure) w.ledger.live || is_home n w.ledger.old_home) coord.TenureHeld _ (λ h. leaves (list_any (is_at n) w.ledger.live) refl))
    where
      leaves : (b : Bool) → list_any (is_at n) w.ledger.live ≡ b → H (if b then retried k (goes n w) else goes n w)
      leaves true e = retried_held k (goes n w)
      leaves false e = keeps w.ledger (goes n w).ledger (record { home = refl; leased = λ s t. none_picked (is_at n) w.ledger.live s e t })
          (λ p i. (from_filter (λ (r : Parked). not (eqb r.node.0 n.0)) p w.ledger.parked i).0) held

  pruned_held : (s : Slot) (w : Work) → H w → OnWork (pruned k s w)
  pruned_held s w held = if_work (is_leased w.ledger s) coord.SlotLeased _ (λ f. if_work (is_nil (w.ledger.line s)) coord.NoSuchSlot _ (λ h. by (nat_lt w.ledger.last k.greatest)))
    where
      by : (b : Bool) → OnWork (if b then Ok (notes (note.Pruned (record { 0 = w.ledger.last + 1 })) (prunes k s w)) else Err coord.TicketsSpent)
      by true = keeps w.ledger (prunes k s w).ledger (record { home = refl; leased = λ x e. e }) (λ p i. i) held
      by false = tt

  pub nudges_ledger : (g : Lease) (w : Work) → (nudges k g w).ledger ≡ w.ledger
  nudges_ledger g w = elim (cases_Bool (is_awaited w.ledger.parked g)) [ inl t ↦ rw t refl | inr t ↦ rw t refl ]

  pub nudge_ledger : (gs : List Lease) (w : Work) → (nudge_all k gs w).ledger ≡ w.ledger
  nudge_ledger [] w = refl
  nudge_ledger (g ∷ gs) w = nudge_ledger gs (nudges k g w) ∙ nudges_ledger g w

  settled_held : (changed : Bool) (armed : Option Kept) (w : Work) (s : Farm) → H w → AreHeldUp s.ledger → AreHeldUp (settled changed armed w s).farm.ledger
  settled_held false armed w s held old = held
  settled_held true None w s held old = held
  settled_held true (Some Old) w s held old = old
  settled_held true (Some New) w s held old = old

  coordinated_held : (d : Bool) (r : Result Work CoordRefusal) (s : Farm) → OnWork r → AreHeldUp s.ledger → AreHeldUp (coordinated d r s).farm.ledger
  coordinated_held true r s held old = old
  coordinated_held false (Err e) s held old = old
  coordinated_held false (Ok w) s held old = settled_held w.changed s.armed w s held old

  at_node_held : (b : Bool) (n : NodeId) (a : NodeAnswer) (s : Farm) → AreHeldUp s.ledger → AreHeldUp (at_node b n a s).farm.ledger
  at_node_held true n (Ok w) s old = old
  at_node_held true n (Err e) s old = old
  at_node_held false n a s old = old

  delivered_held : (sha : List ℕ → Digest) (o : Option Message) (s : Farm) → AreHeldUp s.ledger → AreHeldUp (delivered sha k o s).farm.ledger
  delivered_held sha None s old = old
  delivered_held sha (Some (to.ToCoord y)) s old = coordinated_held s.down (Ok (handled k y (begin_work s.ledger))) s (handled_held y (begin_work s.ledger) old) old
  delivered_held sha (Some (to.ToNode y)) s old = at_node_held (is_node s (replay.receiver y)) (replay.receiver y) _ s old

  restarts_held : (n : NodeId) (s : Farm) → AreHeldUp s.ledger → AreHeldUp (restarts k n s).farm.ledger
  restarts_held n s old = elim (cases_Bool (may_restart k (s.nodes n.0))) [ inl t ↦ rw t old | inr t ↦ rw t old ]

  pub step_held : (sha : List ℕ → Digest) (s : Farm) (e : Event) → AreHeldUp s.ledger → AreHeldUp (step sha k s e).farm.ledger
  unfolding step
  step_held sha s (replay.Ask n wants) old = at_node_held (is_node s n) n _ s old
  step_held sha s (Tenure n f) old = at_node_held (is_node s n) n _ s old
  step_held sha s (Deliver number) old = delivered_held sha (nth s.pool number) s old
  step_held sha s (Begin n t) old = at_node_held (is_node s n) n _ s old
  step_held sha s (Finish n t lefts) old = at_node_held (is_node s n) n _ s old
  step_held sha s (Abort n t) old = at_node_held (is_node s n) n _ s old
  step_held sha s (Resend n) old = at_node_held (is_node s n) n _ s old
  step_held sha s Nudge old = coordinated_held s.down (Ok (nudged k (begin_work s.ledger))) s (subst AreHeldUp (sym (nudge_ledger s.ledger.live (begin_work s.ledger))) old) old
  step_held sha s (Withdraw t) old = coordinated_held s.down (withdrawn k t (begin_work s.ledger)) s (withdrawing_held (lease_under s.ledger.live t) (begin_work s.ledger)) old
  step_held sha s (Prune slot) old = coordinated_held s.down (pruned k slot (begin_work s.ledger)) s (pruned_held slot (begin_work s.ledger) old) old
  step_held sha s (Retire n) old = elim (cases_Bool (is_node s n)) [ inl t ↦ rw t (coordinated_held s.down (retired k n (begin_work s.ledger)) s (retired_held n (begin_work s.ledger) old) old) | inr t ↦ rw t old ]
  step_held sha s (RestartNode n) old = elim (cases_Bool (is_node s n)) [ inl t ↦ rw t (restarts_held n s old) | inr t ↦ rw t old ]
  step_held sha s RestartCoordinator old = λ p i. absurd i
  step_held sha s (Forge n c) old = at_node_held (is_node s n) n _ s old
  step_held sha s (Forget n d) old = at_node_held (is_node s n) n _ s old
  step_held sha s (FailSave kept) old = old

  pub run_held : (sha : List ℕ → Digest) (events : List Event) (s : Farm) → AreHeldUp s.ledger → AreHeldUp (run sha k events s).ledger
  run_held sha [] s old = old
  run_held sha (e ∷ es) s old = run_held sha es (step sha k s e).farm (step_held sha s e old)

  pub run_lawful : EveryFarmStaysLawful → (sha : List ℕ → Digest) (top : ℕ) (events : List Event) (s : Farm) → AreEvents events → IsLawfulFarm top s → IsLawfulFarm top (run sha k events s)
  run_lawful law sha top [] s are lawful = lawful
  run_lawful law sha top (e ∷ es) s are lawful = run_lawful law sha top es (step sha k s e).farm (λ x i. are x (inr i)) (law sha k top s e (are e (inl refl)) lawful)

pub giving_back_goes_on : EveryLedgerStaysLawful → EveryOpeningIsLawful → EveryFarmStaysLawful → EveryScheduleIsSafe → GivingBackGoesOn
giving_back_goes_on ledgers opens farms safes sha k is_farm size events are =
    goes_on k size ledgers (scheduled sha k size events).ledger (run_lawful k farms sha size events (opening sha size) are (opens sha size size (omega arith))).ledger
    (run_held k sha events (opening sha size) (λ p i. absurd i)) (no_home safes sha k is_farm size events)

pub every_parked_ask_can_be_answered : EveryLedgerStaysLawful → EveryOpeningIsLawful → EveryFarmStaysLawful → EveryScheduleIsSafe → EveryParkedAskCanBeAnswered
every_parked_ask_can_be_answered ledgers opens farms safes sha k is_farm size events are p i =
    let before : Ledger = (scheduled sha k size events).ledger in
    answer_it k size ledgers (size_of before) before (run_lawful k farms sha size events (opening sha size) are (opens sha size size (omega arith))).ledger
    (run_held k sha events (opening sha size) (λ p i. absurd i)) p (nobody p before (no_home safes sha k is_farm size events)) 0 before [] Rests i (omega arith)
