-- A parked ask that waits for one folder comes forward each time that the folder's lease ends.
use Rattle.std.proofs.Common.{length, ◌≡◌, ◌≢◌, ℕ, zero, suc, ◌+◌, List, [], ◌∷◌, ◌++◌, ◌⊎◌, map, filter, Bool, true, false, not, ◌&&◌, ◌||◌, eqb, Option, Some, None, Result, Ok, Err, refl, sym, ◌∙◌, ap, subst, inl, inr}
use Rattle.std.proofs.lemmas.Bool.{cases_Bool, and_parts, eqb-true}
use Rattle.std.specs.List.{list_any, find}
use Rattle.std.specs.Prelude.{⊤, nat_lt, if◌then◌else◌}
use Rattle.farm_base.specs.declared.message.Request.{Request}
use Rattle.farm_base.specs.declared.message.Request.TheVariants.{Hello, Acquire, Commit, Release}
use Rattle.farm_base.specs.declared.message.FromCoord.TheVariants as told
use Rattle.farm_base.specs.declared.message.Message.TheVariants as to
use Rattle.events.specs.declared.answer.CoordNote.TheVariants as note
use Rattle.events.specs.declared.answer.CoordRefusal.{CoordRefusal}
use Rattle.events.specs.declared.answer.CoordRefusal.TheVariants as coord
use Rattle.protocol.specs.Lists.{In, is_nil, nth}
use Rattle.protocol.specs.Names.{Slot, slot_eq, is_private, only_slot, NodeId, Life, Ticket, Want, Digest, leased_wants}
use Rattle.protocol.specs.Machine.{Said, Told, Message, FromCoord, ToCoord, Parked, News, cleared}
use Rattle.protocol.specs.Ledger.{Limits, Ledger, Lease, Work, begin_work, has_slot, some_lease, is_leased, is_free, slot_for, instance_for, all_taken, busy, elsewhere, Decision, Give, Deny, Wait, decision, lease_for, gives, carried_out, waits, tried, stays, try_all, waiting, retried, holds_wanted, recall, recalls, decided, acquiring, lease_of, is_parked, has_ticket, lease_under, without, may_commit, on_all, answered, confirms, commits, committing, may_release, ends, released, answering, is_older, is_older_ask, sees, is_home, newer_life, handled, withdraws, withdrawing, withdrawn, is_at, goes, retired, prunes, pruned, nudged, notes}
use Rattle.protocol.specs.Nodes.{NodeAnswer, may_restart}
use Rattle.protocol.specs.Replay.{Event, Tenure, Deliver, Begin, Finish, Abort, Resend, Nudge, Withdraw, Prune, Retire, RestartNode, RestartCoordinator, Forge, Forget, FailSave, Farm, settled, coordinated, is_node, at_node, moved, restarts, delivered, step}
use Rattle.protocol.specs.Replay as replay
use Rattle.protocol.specs.Meaning.{IsAnswered}
use Rattle.protocol.proofs.Base.{in_left, in_append, in_one, from_map, from_any, any_none, from_filter, true_false, slot_eq_is, put_same}
use Rattle.protocol.proofs.Following.{pick_give}
use Rattle.progress.proofs.Progressing.{AreHeldUp, is_held_up, tried_more, stays_held, tried_served, later_served, newer_held, try_sent, retried_home, Served, served_is, recalling, nobody, nudge_ledger}
use Rattle.progress.proofs.Freeing.{IsAfter, settles}

-- the ask is among this many that stand first
abbrev pub Within : Parked → List Parked → ℕ → Type 0
Within p ps zero = ⊥
Within p [] (suc j) = ⊥
Within p (r ∷ ps) (suc j) = (p ≡ r) ⊎ Within p ps j

pub within_in : (p : Parked) (ps : List Parked) (j : ℕ) → Within p ps j → In p ps
within_in p ps zero i = absurd i
within_in p [] (suc j) i = absurd i
within_in p (r ∷ ps) (suc j) (inl e) = inl e
within_in p (r ∷ ps) (suc j) (inr i) = inr (within_in p ps j i)

pub in_within : (p : Parked) (ps : List Parked) → In p ps → Within p ps (length ps)
in_within p [] i = absurd i
in_within p (r ∷ ps) (inl e) = inl e
in_within p (r ∷ ps) (inr i) = inr (in_within p ps i)

within_more : (p : Parked) (ps : List Parked) (j : ℕ) → Within p ps j → Within p ps (suc j)
within_more p ps zero i = absurd i
within_more p [] (suc j) i = absurd i
within_more p (r ∷ ps) (suc j) (inl e) = inl e
within_more p (r ∷ ps) (suc j) (inr i) = inr (within_more p ps j i)

within_append : (p : Parked) (ps more : List Parked) (j : ℕ) → Within p ps j → Within p (ps ++ more) j
within_append p ps more zero i = absurd i
within_append p [] more (suc j) i = absurd i
within_append p (r ∷ ps) more (suc j) (inl e) = inl e
within_append p (r ∷ ps) more (suc j) (inr i) = inr (within_append p ps more j i)

within_filter : (test : Parked → Bool) (p : Parked) (ps : List Parked) (j : ℕ) → test p ≡ true → Within p ps j → Within p (filter test ps) j
within_filter test p ps zero t i = absurd i
within_filter test p [] (suc j) t i = absurd i
within_filter test p (r ∷ ps) (suc j) t (inl e) = (let here : test r ≡ true = subst (λ z. test z ≡ true) e t in rw here (inl e))
within_filter test p (r ∷ ps) (suc j) t (inr i) = elim (cases_Bool (test r)) [
  | inl u ↦ rw u (inr (within_filter test p ps j t i))
  | inr u ↦ rw u (within_more p (filter test ps) j (within_filter test p ps j t i))
]

module _ (k : Limits) (s : Slot) (plain : is_private s.folder.mode ≡ false) where
  -- ---- a slot that is leased isn't granted

  -- the only slot of a folder that isn't PRIVATE
  its_slot : (q : Ledger) (w : Want) → slot_for k.instances (is_free q) w ≡ s → only_slot w.folder ≡ s
  its_slot q w e =
      let mode : is_private w.folder.mode ≡ false = subst (λ (z : Slot). is_private z.folder.mode ≡ false) (sym e) plain in
      let instance : instance_for k.instances (is_free q) w.folder (is_private w.folder.mode) ≡ 0 = ap (instance_for k.instances (is_free q) w.folder) mode in
      (λ i. record { folder = w.folder; instance = (sym instance) i }) ∙ e

  gives_free : (p : Parked) (q : Ledger) → decision k q p ≡ Give → has_slot (lease_for k q p).slots s ≡ true → some_lease q.live s ≡ false
  unfolding decision
  gives_free p q give has =
      let wants : List Want = leased_wants p.tenure p.wants in
      let picked = pick_give (elsewhere q p) (all_taken k.instances (is_free q) wants) (busy (is_leased q) wants) (not (nat_lt q.last k.greatest)) give in
      let r = from_any (λ (x : Slot × Bool). slot_eq x.0 s) (lease_for k q p).slots has in
      let o = from_map (λ (w : Want). (slot_for k.instances (is_free q) w, w.writable)) r.0 wants r.1 in
      let is : slot_for k.instances (is_free q) o.0 ≡ s = ap (λ (x : Slot × Bool). x.0) (sym o.2) ∙ slot_eq_is r.0.0 s r.2 in
      let only : only_slot o.0.folder ≡ s = its_slot q o.0 is in
      let mode : is_private o.0.folder.mode ≡ false = subst (λ (z : Slot). is_private z.folder.mode ≡ false) (sym only) plain in
      let none : (not (is_private o.0.folder.mode) && is_leased q (only_slot o.0.folder)) ≡ false = any_none (λ (w : Want). not (is_private w.folder.mode) && is_leased q (only_slot w.folder)) o.0 wants picked.idle o.1 in
      let not_leased : is_leased q (only_slot o.0.folder) ≡ false = rw mode at none in
      subst (λ (z : Slot). some_lease q.live z ≡ false) only not_leased

  carried_new : (d : Decision) (p : Parked) (w : Work) → decision k w.ledger p ≡ d → (g : Lease) → In g (carried_out k d p w).ledger.live → has_slot g.slots s ≡ true → In g w.ledger.live ⊎ (some_lease w.ledger.live s ≡ false)
  unfolding gives
  carried_new Give p w e g i has = elim (in_append g w.ledger.live (lease_for k w.ledger p ∷ []) i) [
    | inl j ↦ inl j
    | inr j ↦ inr (gives_free p w.ledger e (subst (λ (z : Lease). has_slot z.slots s ≡ true) (in_one g (lease_for k w.ledger p) j) has))
  ]
  carried_new (Deny why) p w e g i has = inl i
  carried_new Wait p w e g i has = inl i

  tried_new : (p : Parked) (w : Work) (g : Lease) → In g (tried k p w).ledger.live → has_slot g.slots s ≡ true → In g w.ledger.live ⊎ (some_lease w.ledger.live s ≡ false)
  unfolding tried
  tried_new p w g i has = carried_new (decision k w.ledger p) p w refl g i has

  leased_stays : (ps : List Parked) (w : Work) → some_lease w.ledger.live s ≡ true → (g : Lease) → In g (try_all k ps w).ledger.live → has_slot g.slots s ≡ true → In g w.ledger.live
  leased_stays [] w leased g i has = i
  leased_stays (p ∷ ps) w leased g i has = elim (tried_new p w g (leased_stays ps (tried k p w) ((tried_more k p w).leased s leased) g i has) has) [
    | inl j ↦ j
    | inr free ↦ true_false (some_lease w.ledger.live s) leased free
  ]

  waits_same : (d : Decision) (p : Parked) (w : Work) → waits d ≡ true → carried_out k d p w ≡ w
  waits_same Give p w e = (let bad : false ≡ true = e in absurd (cc bad))
  waits_same (Deny why) p w e = (let bad : false ≡ true = e in absurd (cc bad))
  waits_same Wait p w e = refl

  tried_same : (p : Parked) (w : Work) → stays k p w ≡ true → tried k p w ≡ w
  unfolding tried stays
  tried_same p w e = waits_same (decision k w.ledger p) p w e

  -- ---- an ask that waits for this slot alone

  module _ (p : Parked) (only : (w : Want) → In w (leased_wants p.tenure p.wants) → is_private w.folder.mode ≡ false → only_slot w.folder ≡ s) where
    -- while it waits the slot is leased
    pub held_leased : (q : Ledger) → q.old_home ≡ None → is_held_up q p ≡ true → some_lease q.live s ≡ true
    held_leased q home held = elim (or_cases (elsewhere q p) (busy (is_leased q) (leased_wants p.tenure p.wants)) held) [
      | inl away ↦ true_false (elsewhere q p) away (nobody p q home)
      | inr on ↦
          let r = from_any (λ (w : Want). not (is_private w.folder.mode) && is_leased q (only_slot w.folder)) (leased_wants p.tenure p.wants) on in
          let b = and_parts (not (is_private r.0.folder.mode)) (is_leased q (only_slot r.0.folder)) r.2 in
          subst (λ (z : Slot). some_lease q.live z ≡ true) (only r.0 r.1 (not_not (is_private r.0.folder.mode) b.0)) b.1
    ]
      where
        or_cases : (a b : Bool) → (a || b) ≡ true → (a ≡ true) ⊎ (b ≡ true)
        or_cases true b e = inl refl
        or_cases false b e = inr e

        not_not : (b : Bool) → not b ≡ true → b ≡ false
        not_not true e = (let bad : false ≡ true = e in cc)
        not_not false e = refl

    -- no lease of the slot is new
    abbrev pub SlotKept : Ledger → Ledger → Type 0
    SlotKept q q' = (g : Lease) → In g q'.live → has_slot g.slots s ≡ true → In g q.live

    -- the ask is answered, or comes forward, or stands where it stood while no lease of the slot is new
    abbrev pub Onward : ℕ → Ledger → Work → Type 0
    Onward j q w = Served k p w.sends ⊎ (Within p w.ledger.parked j ⊎ (Within p w.ledger.parked (suc j) × SlotKept q w.ledger))

    try_on : (j : ℕ) (ps : List Parked) (w : Work) → w.ledger.old_home ≡ None → Within p ps (suc j)
        → Served k p (try_all k ps w).sends ⊎ (Within p (waiting k ps w) j ⊎ (Within p (waiting k ps w) (suc j) × SlotKept w.ledger (try_all k ps w).ledger))
    try_on j [] w home i = absurd i
    try_on j (r ∷ ps) w home (inl e) = elim (cases_Bool (stays k r w)) [
      | inr f ↦ rw f (inl (subst (λ (z : Parked). Served k z (try_all k ps (tried k r w)).sends) (sym e) (later_served k ps (tried k r w) r (tried_served k r w f))))
      | inl t ↦ rw t (inr (inr (
        inl e,
        λ g i has.
            leased_stays ps w (held_leased w.ledger home (subst (λ (z : Parked). is_held_up w.ledger z ≡ true) (sym e) (stays_held k r w t))) g
            (subst (λ (v : Work). In g (try_all k ps v).ledger.live) (tried_same r w t) i) has,
      )))
    ]
    try_on zero (r ∷ ps) w home (inr i) = absurd i
    try_on (suc j) (r ∷ ps) w home (inr i) = (
        let rest = try_on j ps (tried k r w) ((tried_more k r w).home ∙ home) i in
        elim (cases_Bool (stays k r w)) [
          | inl t ↦ rw t (elim rest [
            | inl served ↦ inl served
            | inr (inl nearer) ↦ inr (inl (inr nearer))
            | inr (inr (same, kept)) ↦ inr (inr (inr same, subst (λ (v : Work). SlotKept v.ledger (try_all k ps (tried k r w)).ledger) (tried_same r w t) kept))
          ])
          | inr f ↦ rw f (elim rest [
            | inl served ↦ inl served
            | inr (inl nearer) ↦ inr (inl (within_more p (waiting k ps (tried k r w)) j nearer))
            | inr (inr (same, kept)) ↦ inr (inl same)
          ])
        ])

    retried_on : (j : ℕ) (w : Work) → w.ledger.old_home ≡ None → Within p w.ledger.parked (suc j) → Onward j w.ledger (retried k w)
    unfolding retried
    retried_on j w home i = try_on j w.ledger.parked w home i

    -- the same from a ledger with more leases
    after_less : (j : ℕ) (q : Ledger) (w : Work) → w.ledger.old_home ≡ None → Within p w.ledger.parked (suc j) → ((g : Lease) → In g w.ledger.live → In g q.live) → Onward j q (retried k w)
    after_less j q w home i less = elim (retried_on j w home i) [
      | inl served ↦ inl served
      | inr (inl nearer) ↦ inr (inl nearer)
      | inr (inr (same, kept)) ↦ inr (inr (same, λ g l has. less g (kept g l has)))
    ]

    still : (j : ℕ) (q : Ledger) (w : Work) → Within p w.ledger.parked (suc j) → ((g : Lease) → In g w.ledger.live → In g q.live) → Onward j q w
    still j q w i less = inr (inr (i, λ g l has. less g l))

    served_more : (sends sends' : List FromCoord) → ((m : FromCoord) → In m sends → In m sends') → Served k p sends → Served k p sends'
    served_more sends sends' sent (inl (g, i, n, l, a)) = inl (g, sent (told.Granted g) i, n, l, a)
    served_more sends sends' sent (inr (why, i)) = inr (why, sent (told.Denied p.node p.life p.ask why) i)

    -- one after another
    then_on : (j : ℕ) (q : Ledger) (w w' : Work) → ((m : FromCoord) → In m w.sends → In m w'.sends) → ((i : ℕ) → Within p w.ledger.parked (suc i) → Onward i w.ledger w') → Onward j q w → Onward j q w'
    then_on j q w w' sent next (inl served) = inl (served_more w.sends w'.sends sent served)
    then_on zero q w w' sent next (inr (inl nearer)) = absurd nearer
    then_on (suc j) q w w' sent next (inr (inl nearer)) = elim (next j nearer) [
      | inl served ↦ inl served
      | inr (inl nearer') ↦ inr (inl (within_more p w'.ledger.parked j nearer'))
      | inr (inr (same, kept)) ↦ inr (inl same)
    ]
    then_on j q w w' sent next (inr (inr (same, kept))) = elim (next j same) [
      | inl served ↦ inl served
      | inr (inl nearer) ↦ inr (inl nearer)
      | inr (inr (same', kept')) ↦ inr (inr (same', λ g l has. kept g (kept' g l has) has))
    ]

    -- ---- each work of the coordinator

    -- the ledger as it is while the ask waits
    pub record Waiting (q : Ledger) : Type 0 where
      pub held : AreHeldUp q
      pub home : q.old_home ≡ None

    leased_now : (q : Ledger) (j : ℕ) → Waiting q → Within p q.parked (suc j) → some_lease q.live s ≡ true
    leased_now q j w i = held_leased q w.home (w.held p (within_in p q.parked (suc j) i))

    decided_on : (j : ℕ) (d : Decision) (r : Parked) (w : Work) → decision k w.ledger r ≡ d → Waiting w.ledger → Within p w.ledger.parked (suc j) → Onward j w.ledger (decided k d r w)
    unfolding gives
    decided_on j Give r w e waits i = inr (inr (
      i,
      λ g l has. elim (in_append g w.ledger.live (lease_for k w.ledger r ∷ []) l) [
        | inl m ↦ m
        | inr m ↦ true_false (some_lease w.ledger.live s) (leased_now w.ledger j waits i) (gives_free r w.ledger e (subst (λ (z : Lease). has_slot z.slots s ≡ true) (in_one g (lease_for k w.ledger r) m) has))
      ],
    ))
    decided_on j (Deny why) r w e waits i = still j w.ledger (decided k (Deny why) r w) i (λ g l. l)
    decided_on j Wait r w e waits i =
        let b : Bool = r.tenure && not (elsewhere w.ledger r) in
        let live : (recalls b r w).ledger.live ≡ w.ledger.live = ap (λ (q : Ledger). q.live) (recalling b _ r w refl) in
        still j w.ledger (decided k Wait r w) (within_append p w.ledger.parked (r ∷ []) (suc j) i) (λ g l. subst (In g) live l)

    acquiring_on : (j : ℕ) (o : Option Lease) (b : Bool) (r : Parked) (w : Work) → Waiting w.ledger → Within p w.ledger.parked (suc j) → Onward j w.ledger (acquiring k o b r w)
    acquiring_on j (Some h) b r w waits i = still j w.ledger (acquiring k (Some h) b r w) i (λ g l. l)
    acquiring_on j None true r w waits i = still j w.ledger (acquiring k None true r w) i (λ g l. l)
    acquiring_on j None false r w waits i = decided_on j (decision k w.ledger r) r w refl waits i

    without_less : (t : Ticket) (live : List Lease) (g : Lease) → In g (without t live) → In g live
    without_less t live g i = (from_filter (λ (h : Lease). not (has_ticket t h)) g live i).0

    committing_on : (j : ℕ) (b : Bool) (n : NodeId) (l : Life) (t : Ticket) (news : List News) (w : Work) → Waiting w.ledger → Within p w.ledger.parked (suc j) → Onward j w.ledger (committing k b n l t news w)
    committing_on j true n l t news w waits i = after_less j w.ledger (confirms n l t news (commits t news w)) waits.home i (without_less t w.ledger.live)
    committing_on j false n l t news w waits i = by (not (is_nil news) && on_all w.ledger.line t news)
      where
        by : (b : Bool) → Onward j w.ledger (answered b n l t news w)
        by true = still j w.ledger (answered true n l t news w) i (λ g l. l)
        by false = still j w.ledger (answered false n l t news w) i (λ g l. l)

    released_on : (j : ℕ) (b : Bool) (t : Ticket) (o : Option Lease) (w : Work) → Waiting w.ledger → Within p w.ledger.parked (suc j) → Onward j w.ledger (released k b t o w)
    released_on j b t None w waits i = still j w.ledger w i (λ g l. l)
    released_on j false t (Some h) w waits i = still j w.ledger w i (λ g l. l)
    released_on j true t (Some h) w waits i = after_less j w.ledger (ends h w) waits.home i (without_less h.ticket w.ledger.live)

    answering_on : (j : ℕ) (n : NodeId) (l : Life) (r : Request) (w : Work) → Waiting w.ledger → Within p w.ledger.parked (suc j) → Onward j w.ledger (answering k n l r w)
    answering_on j n l Hello w waits i = still j w.ledger w i (λ g l. l)
    answering_on j n l (Acquire a wants tenure) w waits i = acquiring_on j (lease_of w.ledger.live n l a) (is_parked w.ledger.parked n l a) (record { node = n; life = l; ask = a; wants = wants; tenure = tenure }) w waits i
    answering_on j n l (Commit t news) w waits i = committing_on j (may_commit n l news (lease_under w.ledger.live t)) n l t news w waits i
    answering_on j n l (Release t) w waits i = released_on j (may_release n l (lease_under w.ledger.live t)) t (lease_under w.ledger.live t) w waits i

    -- ---- what was said stays said

    recalls_sent : (b : Bool) (r : Parked) (w : Work) (m : FromCoord) → In m w.sends → In m (recalls b r w).sends
    recalls_sent false r w m i = i
    recalls_sent true r w m i = by (find (holds_wanted r) w.ledger.live)
      where
        by : (o : Option Lease) → In m (recall o w).sends
        by None = i
        by (Some h) = in_left m w.sends _ i

    decided_sent : (d : Decision) (r : Parked) (w : Work) (m : FromCoord) → In m w.sends → In m (decided k d r w).sends
    unfolding gives
    decided_sent Give r w m i = in_left m w.sends _ i
    decided_sent (Deny why) r w m i = in_left m w.sends _ i
    decided_sent Wait r w m i = recalls_sent (r.tenure && not (elsewhere w.ledger r)) r w m i

    retried_sent : (w : Work) (m : FromCoord) → In m w.sends → In m (retried k w).sends
    unfolding retried
    retried_sent w m i = try_sent k w.ledger.parked w m i

    answering_sent : (n : NodeId) (l : Life) (r : Request) (w : Work) (m : FromCoord) → In m w.sends → In m (answering k n l r w).sends
    answering_sent n l Hello w m i = i
    answering_sent n l (Acquire a wants tenure) w m i = by (lease_of w.ledger.live n l a) (is_parked w.ledger.parked n l a)
      where
        r : Parked
        r = record { node = n; life = l; ask = a; wants = wants; tenure = tenure }

        by : (o : Option Lease) (b : Bool) → In m (acquiring k o b (record { node = n; life = l; ask = a; wants = wants; tenure = tenure }) w).sends
        by (Some h) b = in_left m w.sends _ i
        by None true = i
        by None false = decided_sent (decision k w.ledger (record { node = n; life = l; ask = a; wants = wants; tenure = tenure })) (record { node = n; life = l; ask = a; wants = wants; tenure = tenure }) w m i
    answering_sent n l (Commit t news) w m i = by (may_commit n l news (lease_under w.ledger.live t))
      where
        says : (b : Bool) → In m (answered b n l t news w).sends
        says true = in_left m w.sends _ i
        says false = in_left m w.sends _ i

        by : (b : Bool) → In m (committing k b n l t news w).sends
        by true = retried_sent (confirms n l t news (commits t news w)) m (in_left m w.sends _ i)
        by false = elim (cases_Bool (not (is_nil news) && on_all w.ledger.line t news)) [
          | inl e ↦ rw e (in_left m w.sends _ i)
          | inr e ↦ rw e (in_left m w.sends _ i)
        ]
    answering_sent n l (Release t) w m i = by (may_release n l (lease_under w.ledger.live t)) (lease_under w.ledger.live t)
      where
        by : (b : Bool) (o : Option Lease) → In m (released k b t o w).sends
        by b None = i
        by false (Some h) = i
        by true (Some h) = retried_sent (ends h w) m i

    -- ---- a message

    newer_on : (j : ℕ) (n : NodeId) (l : Life) (w : Work) → Waiting w.ledger → is_older_ask n l p ≡ false → Within p w.ledger.parked (suc j) → Onward j w.ledger (newer_life k n l w)
    unfolding newer_life
    newer_on j n l w waits young i =
        let v : Work = sees n l w in
        let less : (g : Lease) → In g v.ledger.live → In g w.ledger.live = λ g m. (from_filter (λ (h : Lease). not (is_older n l h)) g w.ledger.live m).0 in
        let there : Within p v.ledger.parked (suc j) = within_filter (λ (r : Parked). not (is_older_ask n l r)) p w.ledger.parked (suc j) (ap not young) i in
        elim (cases_Bool (list_any (is_older n l) w.ledger.live || is_home n w.ledger.old_home)) [
          | inl t ↦ rw t (after_less j w.ledger v (ap (cleared n) waits.home) there less)
          | inr t ↦ rw t (still j w.ledger v there less)
        ]

    newer_home : (n : NodeId) (l : Life) (w : Work) → w.ledger.old_home ≡ None → (newer_life k n l w).ledger.old_home ≡ None
    unfolding newer_life
    newer_home n l w home = elim (cases_Bool (list_any (is_older n l) w.ledger.live || is_home n w.ledger.old_home)) [
      | inl t ↦ rw t (retried_home k (sees n l w) ∙ ap (cleared n) home)
      | inr t ↦ rw t (ap (cleared n) home)
    ]

    pub handled_on : (j : ℕ) (y : ToCoord) (w : Work) → Waiting w.ledger → is_older_ask y.node y.life p ≡ false → Within p w.ledger.parked (suc j) → Onward j w.ledger (handled k y w)
    unfolding handled
    handled_on j y w waits young i = elim (cases_Bool (w.ledger.gone y.node.0)) [
      | inl t ↦ rw t (still j w.ledger w i (λ g l. l))
      | inr here ↦ rw here (elim (cases_Bool (nat_lt y.life.0 (w.ledger.lives y.node.0))) [
        | inl t ↦ rw t (still j w.ledger w i (λ g l. l))
        | inr t ↦ rw t (elim (cases_Bool (nat_lt (w.ledger.lives y.node.0) y.life.0)) [
          | inl newer ↦ rw newer (
              let v : Work = newer_life k y.node y.life w in
              then_on j w.ledger v (answering k y.node y.life y.request v) (answering_sent y.node y.life y.request v)
              (λ c m. answering_on c y.node y.life y.request v (record { held = newer_held k y.node y.life w waits.held; home = newer_home y.node y.life w waits.home }) m)
              (newer_on j y.node y.life w waits young i))
          | inr same ↦ rw same (answering_on j y.node y.life y.request w waits i)
        ])
      ])
    ]

    -- ---- a call

    abbrev OnResult : ℕ → Ledger → Result Work CoordRefusal → Type 0
    OnResult j q (Ok w) = Onward j q w
    OnResult j q (Err why) = ⊤

    on_test : (j : ℕ) (q : Ledger) (b : Bool) (why : CoordRefusal) (r : Result Work CoordRefusal) → OnResult j q r → OnResult j q (if b then Err why else r)
    on_test j q true why r on = tt
    on_test j q false why r on = on

    withdrawing_on : (j : ℕ) (o : Option Lease) (w : Work) → Waiting w.ledger → Within p w.ledger.parked (suc j) → OnResult j w.ledger (withdrawing k o w)
    withdrawing_on j None w waits i = tt
    withdrawing_on j (Some h) w waits i = on_test j w.ledger h.tenure coord.Tenure (Ok (notes (note.Withdrawn h.ticket) (retried k (withdraws h w)))) (after_less j w.ledger (withdraws h w) waits.home i (without_less h.ticket w.ledger.live))

    retired_on : (j : ℕ) (n : NodeId) (w : Work) → Waiting w.ledger → eqb p.node.0 n.0 ≡ false → Within p w.ledger.parked (suc j) → OnResult j w.ledger (retired k n w)
    retired_on j n w waits other i = on_test j w.ledger (w.ledger.gone n.0) coord.NodeRetired _ (on_test j w.ledger (list_any (λ (g : Lease). is_at n g && g.tenure) w.ledger.live || is_home n w.ledger.old_home) coord.TenureHeld _ (by (list_any (is_at n) w.ledger.live)))
      where
        by : (b : Bool) → Onward j w.ledger (notes (note.Retired n) (if b then retried k (goes n w) else goes n w))
        by true = after_less j w.ledger (goes n w) waits.home (within_filter (λ (r : Parked). not (eqb r.node.0 n.0)) p w.ledger.parked (suc j) (ap not other) i) (λ g m. (from_filter (λ (h : Lease). not (is_at n h)) g w.ledger.live m).0)
        by false = still j w.ledger (notes (note.Retired n) (goes n w)) (within_filter (λ (r : Parked). not (eqb r.node.0 n.0)) p w.ledger.parked (suc j) (ap not other) i) (λ g m. (from_filter (λ (h : Lease). not (is_at n h)) g w.ledger.live m).0)

    carried_gone : (d : Decision) (r : Parked) (w : Work) → (carried_out k d r w).ledger.gone ≡ w.ledger.gone
    unfolding gives
    carried_gone Give r w = refl
    carried_gone (Deny why) r w = refl
    carried_gone Wait r w = refl

    try_gone : (ps : List Parked) (w : Work) → (try_all k ps w).ledger.gone ≡ w.ledger.gone
    unfolding tried
    try_gone [] w = refl
    try_gone (r ∷ ps) w = try_gone ps (tried k r w) ∙ carried_gone (decision k w.ledger r) r w

    goes_gone : (n : NodeId) (w : Work) (b : Bool) → (if b then retried k (goes n w) else goes n w).ledger.gone n.0 ≡ true
    unfolding retried
    goes_gone n w true = ap (λ (f : ℕ → Bool). f n.0) (try_gone (goes n w).ledger.parked (goes n w)) ∙ put_same n.0 true w.ledger.gone
    goes_gone n w false = put_same n.0 true w.ledger.gone

    abbrev Gone : NodeId → Result Work CoordRefusal → Type 0
    Gone n (Ok w) = w.ledger.gone n.0 ≡ true
    Gone n (Err why) = ⊤

    gone_test : (n : NodeId) (b : Bool) (why : CoordRefusal) (r : Result Work CoordRefusal) → Gone n r → Gone n (if b then Err why else r)
    gone_test n true why r g = tt
    gone_test n false why r g = g

    retired_gone : (n : NodeId) (w : Work) → Gone n (retired k n w)
    retired_gone n w = gone_test n (w.ledger.gone n.0) coord.NodeRetired _ (gone_test n (list_any (λ (g : Lease). is_at n g && g.tenure) w.ledger.live || is_home n w.ledger.old_home) coord.TenureHeld _ (goes_gone n w (list_any (is_at n) w.ledger.live)))

    -- whichever node is retired, if it isn't the ask's
    retires_on : (j : ℕ) (n : NodeId) (w : Work) → Waiting w.ledger → Within p w.ledger.parked (suc j) → ((w' : Work) → retired k n w ≡ Ok w' → w'.ledger.gone p.node.0 ≡ false) → OnResult j w.ledger (retired k n w)
    retires_on j n w waits i stays = elim (cases_Bool (eqb p.node.0 n.0)) [
      | inr other ↦ retired_on j n w waits other i
      | inl same ↦ by (retired k n w) refl (retired_gone n w)
          (λ w' e. subst (λ z. w'.ledger.gone z ≡ false) (eqb-true p.node.0 n.0 same) (stays w' e))
    ]
      where
        by : (r : Result Work CoordRefusal) → retired k n w ≡ r → Gone n r → ((w' : Work) → retired k n w ≡ Ok w' → w'.ledger.gone n.0 ≡ false) → OnResult j w.ledger r
        by (Ok w') e gone here = true_false (w'.ledger.gone n.0) gone (here w' e)
        by (Err why) e gone here = tt

    pruned_on : (j : ℕ) (slot : Slot) (w : Work) → Within p w.ledger.parked (suc j) → OnResult j w.ledger (pruned k slot w)
    pruned_on j slot w i = on_test j w.ledger (is_leased w.ledger slot) coord.SlotLeased _ (on_test j w.ledger (is_nil (w.ledger.line slot)) coord.NoSuchSlot _ (by (nat_lt w.ledger.last k.greatest)))
      where
        by : (b : Bool) → OnResult j w.ledger (if b then Ok (notes (note.Pruned (record { 0 = w.ledger.last + 1 })) (prunes k slot w)) else Err coord.TicketsSpent)
        by true = still j w.ledger (notes (note.Pruned (record { 0 = w.ledger.last + 1 })) (prunes k slot w)) i (λ g l. l)
        by false = tt

    -- ---- an event

    -- what comes of one event
    abbrev pub OnFarm : ℕ → Farm → Farm → Type 0
    OnFarm j f t = ((sent : List Message) × (t.pool ≡ f.pool ++ sent) × IsAnswered p sent) ⊎ (Within p t.ledger.parked j ⊎ (Within p t.ledger.parked (suc j) × SlotKept f.ledger t.ledger))

    module _ (sha : List ℕ → Digest) (f : Farm) (up : f.down ≡ false) (safe : f.armed ≡ None) (waits : Waiting f.ledger) (j : ℕ) (i : Within p f.ledger.parked (suc j)) where
      same_on : (t : Farm) → t.ledger ≡ f.ledger → OnFarm j f t
      same_on t e = inr (inr (subst (λ (q : Ledger). Within p q.parked (suc j)) (sym e) i, subst (SlotKept f.ledger) (sym e) (λ g l has. l)))

      work_on : (w : Work) → Onward j f.ledger w → OnFarm j f (settled w.changed None w f).farm
      work_on w on =
          let is : IsAfter k sha 0 f w (settled w.changed None w f).farm = settles k sha 0 w.changed w f up safe in
          elim on [
            | inl served ↦ inl (map Told w.sends, is.pool, served_is k p w.sends served)
            | inr (inl nearer) ↦ inr (inl (subst (λ (q : Ledger). Within p q.parked j) (sym is.ledger) nearer))
            | inr (inr (same, kept)) ↦ inr (inr (subst (λ (q : Ledger). Within p q.parked (suc j)) (sym is.ledger) same, subst (SlotKept f.ledger) (sym is.ledger) kept))
          ]

      result_on : (r : Result Work CoordRefusal) → OnResult j f.ledger r → OnFarm j f (coordinated f.down r f).farm
      result_on (Ok w) on = subst (λ b. OnFarm j f (coordinated b (Ok w) f).farm) (sym up) (subst (λ o. OnFarm j f (settled w.changed o w f).farm) (sym safe) (work_on w on))
      result_on (Err why) on = subst (λ b. OnFarm j f (coordinated b (Err why) f).farm) (sym up) (same_on f refl)

      node_on : (b : Bool) (n : NodeId) (a : NodeAnswer) → OnFarm j f (at_node b n a f).farm
      node_on true n (Ok w) = same_on (moved n w f).farm refl
      node_on true n (Err why) = same_on f refl
      node_on false n a = same_on f refl

      restarts_ledger : (n : NodeId) → (restarts k n f).farm.ledger ≡ f.ledger
      restarts_ledger n = elim (cases_Bool (may_restart k (f.nodes n.0))) [ inl t ↦ rw t refl | inr t ↦ rw t refl ]

      after_result : (r : Result Work CoordRefusal) (w : Work) → r ≡ Ok w → (coordinated f.down r f).farm.ledger.gone p.node.0 ≡ false → w.ledger.gone p.node.0 ≡ false
      after_result r w e gone =
          let is : IsAfter k sha 0 f w (settled w.changed None w f).farm = settles k sha 0 w.changed w f up safe in
          let now : (coordinated f.down (Ok w) f).farm.ledger.gone p.node.0 ≡ false = subst (λ (z : Result Work CoordRefusal). (coordinated f.down z f).farm.ledger.gone p.node.0 ≡ false) e gone in
          subst (λ (q : Ledger). q.gone p.node.0 ≡ false) is.ledger
          (subst (λ o. (settled w.changed o w f).farm.ledger.gone p.node.0 ≡ false) safe (subst (λ b. (coordinated b (Ok w) f).farm.ledger.gone p.node.0 ≡ false) up now))

      -- no message of a newer life of its node comes, it isn't retired, and the coordinator doesn't restart
      delivered_on : (o : Option Message) → ((y : ToCoord) → o ≡ Some (Said y) → is_older_ask y.node y.life p ≡ false) → OnFarm j f (delivered sha k o f).farm
      delivered_on None young = same_on f refl
      delivered_on (Some (to.ToCoord y)) young = result_on (Ok (handled k y (begin_work f.ledger))) (handled_on j y (begin_work f.ledger) waits (young y refl) i)
      delivered_on (Some (to.ToNode y)) young = node_on (is_node f (replay.receiver y)) (replay.receiver y) _

      pub step_on : (e : Event) → ((number : ℕ) (y : ToCoord) → e ≡ Deliver number → nth f.pool number ≡ Some (Said y) → is_older_ask y.node y.life p ≡ false)
          → (step sha k f e).farm.ledger.gone p.node.0 ≡ false → (e ≢ RestartCoordinator) → OnFarm j f (step sha k f e).farm
      unfolding step
      step_on (replay.Ask n wants) young others stays = node_on (is_node f n) n _
      step_on (Tenure n folder) young others stays = node_on (is_node f n) n _
      step_on (Deliver number) young others stays = delivered_on (nth f.pool number) (λ y e. young number y refl e)
      step_on (Begin n t) young others stays = node_on (is_node f n) n _
      step_on (Finish n t lefts) young others stays = node_on (is_node f n) n _
      step_on (Abort n t) young others stays = node_on (is_node f n) n _
      step_on (Resend n) young others stays = node_on (is_node f n) n _
      step_on Nudge young others stays = result_on (Ok (nudged k (begin_work f.ledger))) (still j f.ledger (nudged k (begin_work f.ledger)) (subst (λ (q : Ledger). Within p q.parked (suc j)) (sym (nudge_ledger k f.ledger.live (begin_work f.ledger))) i) (λ g l. subst (λ (q : Ledger). In g q.live) (nudge_ledger k f.ledger.live (begin_work f.ledger)) l))
      step_on (Withdraw t) young others stays = result_on (withdrawn k t (begin_work f.ledger)) (withdrawing_on j (lease_under f.ledger.live t) (begin_work f.ledger) waits i)
      step_on (Prune slot) young others stays = result_on (pruned k slot (begin_work f.ledger)) (pruned_on j slot (begin_work f.ledger) i)
      step_on (Retire n) young others stays = elim (cases_Bool (is_node f n)) [
        | inl t ↦ rw t (result_on (retired k n (begin_work f.ledger)) (retires_on j n (begin_work f.ledger) waits i (λ w e. after_result (retired k n (begin_work f.ledger)) w e (rw t at others))))
        | inr t ↦ rw t (same_on f refl)
      ]
      step_on (RestartNode n) young others stays = elim (cases_Bool (is_node f n)) [
        | inl t ↦ rw t (same_on (restarts k n f).farm (restarts_ledger n))
        | inr t ↦ rw t (same_on f refl)
      ]
      step_on RestartCoordinator young others stays = absurd (stays refl)
      step_on (Forge n c) young others stays = node_on (is_node f n) n _
      step_on (Forget n d) young others stays = node_on (is_node f n) n _
      step_on (FailSave kept) young others stays = same_on (record f { armed = Some kept }) refl
