-- Where the record is said to have changed, it has.
use Rattle.std.proofs.Common.{◌≡◌, ◌≢◌, ℕ, ◌+◌, ◌<◌, ◌≤◌, ◌⊎◌, List, [], ◌∷◌, ◌++◌, Bool, true, false, not, ◌&&◌, ◌||◌, eqb, length, Option, Some, None, Result, Ok, Err, refl, sym, ◌∙◌, ap, subst, inl, inr, arith}
use Rattle.std.proofs.lemmas.Bool.{cases_Bool, and_parts, not-true, eqb-true}
use Rattle.std.proofs.lemmas.Bool.Decides.{nat_tests}
use Rattle.std.specs.List.{list_any, find}
use Rattle.std.specs.Prelude.{⊤, nat_lt, min, if◌then◌else◌}
use Rattle.protocol.specs.Lists.{In, is_nil}
use Rattle.protocol.specs.Names.{Slot, slots_eq, leased_wants, NodeId, Life, Ticket}
use Rattle.protocol.specs.Machine.{ToCoord, Parked, News, LineVersion, version_of, digest_for, slots_of}
use Rattle.farm_base.specs.declared.message.Request.{Request}
use Rattle.farm_base.specs.declared.message.Request.TheVariants.{Hello, Acquire, Commit, Release}
use Rattle.events.specs.declared.answer.CoordRefusal.{CoordRefusal}
use Rattle.events.specs.declared.answer.CoordRefusal.TheVariants as coord
use Rattle.events.specs.declared.answer.CoordNote.TheVariants as note
use Rattle.protocol.specs.Ledger.{Limits, Ledger, Lease, Saved, saves, Work, begin_work, says, notes, is_saved, is_leased, is_free, all_taken, busy, Decision, Give, Deny, Wait, elsewhere, decision, lease_for, raised, gives, denies, carried_out, tried, try_all, waiting, parks, retried, holds_wanted, recall, recalls, decided, acquiring, lease_of, is_parked, has_ticket, without, ends, lease_under, may_commit, is_its, writable_slots, on_all, committing, confirms, commits, may_release, released, answering, handled, withdraws, withdrawing, withdrawn, is_at, is_home, goes, retired, prunes, pruned, is_awaited, nudges, nudge_all, nudged}
use Rattle.protocol.specs.Ledger as ledger
use Rattle.protocol.proofs.Base.{true_false, in_left, in_right, in_append, in_one, in_filter, from_filter, slot_eq_same, eqb_same, put_same}
use Rattle.protocol.proofs.Leases.{find_some}
use Rattle.protocol.proofs.Following.{pick_give}
use Rattle.protocol.proofs.Saving.{Apart}

-- what the record of the second ledger has that the first's hasn't
pub data Differs (q q' : Ledger) : Type 0 where
  By_life : (n : ℕ) → q.lives n < q'.lives n → Differs q q'
  By_ceiling : q.ceiling < q'.ceiling → Differs q q'
  By_line : (s : Slot) → length (q.line s) < length (q'.line s) → Differs q q'
  By_node : (n : ℕ) → q.gone n ≡ false → q'.gone n ≡ true → Differs q q'
  By_end : (g : Lease) → In g q.live → is_saved g ≡ true → ((h : Lease) → In h q'.live → h.ticket.0 ≢ g.ticket.0) → Differs q q'
  By_grant : (g : Lease) → In g q'.live → is_saved g ≡ true → q.last < g.ticket.0 → Differs q q'

less_not_same : (a b : ℕ) → a < b → b ≡ a → ⊥
less_not_same a b lt e = omega arith

pub differs_is : (q q' : Ledger) → Apart q → Differs q q' → saves q' ≡ saves q → ⊥
differs_is q q' a (By_life n lt) e = less_not_same (q.lives n) (q'.lives n) lt (ap (λ (r : Saved). r.lives n) e)
differs_is q q' a (By_ceiling lt) e = less_not_same q.ceiling q'.ceiling lt (ap (λ (r : Saved). r.ceiling) e)
differs_is q q' a (By_line s lt) e = less_not_same (length (q.line s)) (length (q'.line s)) lt (ap (λ (r : Saved). length (r.line s)) e)
differs_is q q' a (By_node n off on) e = true_false (q'.gone n) on (ap (λ (r : Saved). r.gone n) e ∙ off)
differs_is q q' a (By_end g i s none) e = none g (from_filter is_saved g q'.live (subst (In g) (sym (ap (λ (r : Saved). r.live) e)) (in_filter is_saved g q.live i s))).0 refl
differs_is q q' a (By_grant g i s lt) e = (let le : g.ticket.0 ≤ q.last = a.top g (from_filter is_saved g q.live (subst (In g) (ap (λ (r : Saved). r.live) e) (in_filter is_saved g q'.live i s))).0 in omega arith)

-- the second ledger grants more than the first, and is else the same
record More (q q' : Ledger) : Type 0 where
  last : q.last ≤ q'.last
  ceiling : q.ceiling ≤ q'.ceiling
  lives : q'.lives ≡ q.lives
  line : q'.line ≡ q.line
  gone : q'.gone ≡ q.gone
  live : (g : Lease) → In g q.live → In g q'.live
  new : (g : Lease) → In g q'.live → In g q.live ⊎ (q.last < g.ticket.0)

module _ (k : Limits) (q : Ledger) (a : Apart q) where
  differs_more : (x y : Ledger) → q.last ≤ x.last → More x y → Differs q x → Differs q y
  differs_more x y le m (By_life n lt) = By_life n (subst (λ (f : ℕ → ℕ). q.lives n < f n) (sym m.lives) lt)
  differs_more x y le m (By_ceiling lt) = By_ceiling (let up : x.ceiling ≤ y.ceiling = m.ceiling in omega arith)
  differs_more x y le m (By_line s lt) = By_line s (subst (λ (f : Slot → List LineVersion). length (q.line s) < length (f s)) (sym m.line) lt)
  differs_more x y le m (By_node n off on) = By_node n off (ap (λ (f : ℕ → Bool). f n) m.gone ∙ on)
  differs_more x y le m (By_end g i s none) = By_end g i s (λ h j. elim (m.new h j) [
    | inl was ↦ none h was
    | inr above ↦ (let top : g.ticket.0 ≤ q.last = a.top g i in λ e. omega arith)
  ])
  differs_more x y le m (By_grant g i s lt) = By_grant g (m.live g i) s lt

  -- the work that says so has changed the record
  record M (w : Work) : Type 0 where
    last : q.last ≤ w.ledger.last
    ceiling : q.ceiling ≤ w.ledger.ceiling
    differs : w.changed ≡ true → Differs q w.ledger

  begins : M (begin_work q)
  begins = record { last = omega arith; ceiling = omega arith; differs = λ c. (let bad : false ≡ true = c in cc) }

  -- other work on the same ledger
  same_work : (w v : Work) → v.ledger ≡ w.ledger → v.changed ≡ w.changed → M w → M v
  same_work w v e c m = record {
    last = subst (λ (z : Ledger). q.last ≤ z.last) (sym e) m.last;
    ceiling = subst (λ (z : Ledger). q.ceiling ≤ z.ceiling) (sym e) m.ceiling;
    differs = λ t. subst (Differs q) (sym e) (m.differs (sym c ∙ t));
  }

  left_below : (a b : ℕ) → not (nat_lt a b) ≡ false → a < b
  left_below a b h = grind (arith, nat_tests)

  min_above : (a b c : ℕ) → c < a → c < b → c < min a b
  min_above a b c p q = elim (cases_Bool (nat_lt b a)) [ inl t ↦ grind (arith, nat_tests) | inr t ↦ grind (arith, nat_tests) ]

  -- a ceiling that is reached rises
  raised_up : (x : Ledger) → x.last < k.greatest → (x.ceiling ≤ raised k x) × (eqb x.last x.ceiling ≡ true → x.ceiling < raised k x)
  raised_up x below = elim (cases_Bool (eqb x.last x.ceiling)) [
    | inr f ↦ rw f (omega arith, λ t. (let bad : false ≡ true = t in cc))
    | inl t ↦ (let at : x.last ≡ x.ceiling = eqb-true x.last x.ceiling t in
        let up : x.ceiling < min (x.ceiling + 64) k.greatest = min_above (x.ceiling + 64) k.greatest x.ceiling (omega arith) (omega arith) in
        rw t (omega arith, λ z. up))
  ]

  or_some : (a b c : Bool) → (a || b || c) ≡ true → (a ≡ true) ⊎ ((b ≡ true) ⊎ (c ≡ true))
  or_some true b c e = inl refl
  or_some false true c e = inr (inl refl)
  or_some false false true e = inr (inr refl)
  or_some false false false e = (let bad : false ≡ true = e in cc)

  gives_m : (p : Parked) (w : Work) → decision k w.ledger p ≡ Give → M w → M (gives k p w)
  unfolding gives decision
  gives_m p w e m =
      let all = pick_give (elsewhere w.ledger p) (all_taken k.instances (is_free w.ledger) (leased_wants p.tenure p.wants)) (busy (is_leased w.ledger) (leased_wants p.tenure p.wants)) (not (nat_lt w.ledger.last k.greatest)) e in
      let below : w.ledger.last < k.greatest = left_below w.ledger.last k.greatest all.below in
      let up = raised_up w.ledger below in
      let h : Lease = lease_for k w.ledger p in
      let le : q.last ≤ w.ledger.last = m.last in
      let le' : q.ceiling ≤ w.ledger.ceiling = m.ceiling in
      let rises : w.ledger.ceiling ≤ raised k w.ledger = up.0 in
      let more : More w.ledger (gives k p w).ledger = record {
        last = omega arith;
        ceiling = rises;
        lives = refl;
        line = refl;
        gone = refl;
        live = λ g i. in_left g w.ledger.live (h ∷ []) i;
        new = λ g i. elim (in_append g w.ledger.live (h ∷ []) i) [ inl j ↦ inl j | inr j ↦ inr (let at : g.ticket.0 ≡ w.ledger.last + 1 = ap (λ (z : Lease). z.ticket.0) (in_one g h j) in omega arith) ];
      } in
      record {
        last = omega arith;
        ceiling = omega arith;
        differs = λ c. elim (or_some w.changed (eqb w.ledger.last w.ledger.ceiling) (is_saved h) c) [
          | inl was ↦ differs_more w.ledger (gives k p w).ledger m.last more (m.differs was)
          | inr r ↦ elim r [
            | inl full ↦ By_ceiling (let rises' : w.ledger.ceiling < raised k w.ledger = up.1 full in omega arith)
            | inr kept ↦ By_grant h (in_right h w.ledger.live (h ∷ []) (inl refl)) kept (omega arith)
          ]
        ];
      }

  carried_m : (d : Decision) (p : Parked) (w : Work) → decision k w.ledger p ≡ d → M w → M (carried_out k d p w)
  carried_m Give p w e m = gives_m p w e m
  carried_m (Deny why) p w e m = same_work w (denies why p w) refl refl m
  carried_m Wait p w e m = m

  try_m : (ps : List Parked) (w : Work) → M w → M (try_all k ps w)
  unfolding tried
  try_m [] w m = m
  try_m (p ∷ ps) w m = try_m ps (tried k p w) (carried_m (decision k w.ledger p) p w refl m)

  -- which asks are parked is no part of the record
  parks_m : (ps : List Parked) (w : Work) → M w → M (parks ps w)
  parks_m ps w m = record {
    last = m.last;
    ceiling = m.ceiling;
    differs = λ c. differs_more w.ledger (record w.ledger { parked = ps }) m.last (record { last = omega arith; ceiling = omega arith; lives = refl; line = refl; gone = refl; live = λ g i. i; new = λ g i. inl i }) (m.differs c);
  }

  retried_m : (w : Work) → M w → M (retried k w)
  unfolding retried
  retried_m w m = parks_m (waiting k w.ledger.parked w) (try_all k w.ledger.parked w) (try_m w.ledger.parked w m)

  -- ---- messages

  recall_m : (o : Option Lease) (w : Work) → M w → M (recall o w)
  recall_m None w m = m
  recall_m (Some g) w m = same_work w (recall (Some g) w) refl refl m

  recalls_m : (b : Bool) (p : Parked) (w : Work) → M w → M (recalls b p w)
  recalls_m true p w m = recall_m (find (holds_wanted p) w.ledger.live) w m
  recalls_m false p w m = m

  notes_m : (w v : Work) → v.ledger ≡ w.ledger → v.changed ≡ w.changed → M w → M v
  notes_m w v e c m = same_work w v e c m

  recalls-live : (b : Bool) (p : Parked) (w : Work) → (recalls b p w).ledger ≡ w.ledger
  recalls-live false p w = refl
  recalls-live true p w = by (find (holds_wanted p) w.ledger.live)
    where
      by : (o : Option Lease) → (recall o w).ledger ≡ w.ledger
      by None = refl
      by (Some g) = refl

  decided_m : (d : Decision) (p : Parked) (w : Work) → decision k w.ledger p ≡ d → M w → M (decided k d p w)
  decided_m Give p w e m = same_work (gives k p w) (decided k Give p w) refl refl (gives_m p w e m)
  decided_m (Deny why) p w e m = same_work w (decided k (Deny why) p w) refl refl m
  decided_m Wait p w e m =
      let v : Work = recalls (p.tenure && not (elsewhere w.ledger p)) p w in
      same_work (parks (w.ledger.parked ++ p ∷ []) v) (decided k Wait p w) refl refl (parks_m (w.ledger.parked ++ p ∷ []) v (recalls_m (p.tenure && not (elsewhere w.ledger p)) p w m))

  acquiring_m : (o : Option Lease) (b : Bool) (p : Parked) (w : Work) → M w → M (acquiring k o b p w)
  acquiring_m (Some g) b p w m = same_work w (acquiring k (Some g) b p w) refl refl m
  acquiring_m None true p w m = same_work w (acquiring k None true p w) refl refl m
  acquiring_m None false p w m = decided_m (decision k w.ledger p) p w refl m

  -- the line of the first slot of some news grows
  longer : (line : List LineVersion) (v : LineVersion) → length line < length (line ++ v ∷ [])
  longer [] v = omega arith
  longer (x ∷ xs) v = (let r = longer xs v in omega arith)

  commits_m : (t : Ticket) (news : List News) → is_nil news ≡ false → M (commits t news (begin_work q))
  commits_m t [] some = (let bad : true ≡ false = some in absurd (cc))
  commits_m t (x ∷ xs) some = record {
    last = omega arith;
    ceiling = omega arith;
    differs = λ c. By_line x.slot (let has : digest_for x.slot (x ∷ xs) ≡ Some x.digest = (let e = slot_eq_same x.slot in rw e refl) in
        subst (λ o. length (q.line x.slot) < length (q.line x.slot ++ version_of t o)) (sym has) (longer (q.line x.slot) (record { ticket = t; digest = x.digest })));
  }

  committing_m : (b : Bool) (n : NodeId) (l : Life) (t : Ticket) (news : List News) → (b ≡ true → is_nil news ≡ false) → M (committing k b n l t news (begin_work q))
  committing_m true n l t news some =
      let c : Work = commits t news (begin_work q) in
      let v : Work = confirms n l t news c in
      same_work (retried k v) (committing k true n l t news (begin_work q)) refl refl (retried_m v (same_work c v refl refl (commits_m t news (some refl))))
  committing_m false n l t news some = by (not (is_nil news) && on_all q.line t news)
    where
      by : (b : Bool) → M (ledger.answered b n l t news (begin_work q))
      by true = same_work (begin_work q) (ledger.answered true n l t news (begin_work q)) refl refl begins
      by false = same_work (begin_work q) (ledger.answered false n l t news (begin_work q)) refl refl begins

  -- a lease that ended is in the record no longer
  gone_lease : (g : Lease) → In g q.live → is_saved g ≡ true → (x : Ledger) → x.live ≡ without g.ticket q.live → Differs q x
  gone_lease g i s x e = By_end g i s (λ h j same. (let r = from_filter (λ (z : Lease). not (has_ticket g.ticket z)) h q.live (subst (In h) e j) in
      true_false (has_ticket g.ticket h) (subst (λ z. eqb h.ticket.0 z ≡ true) same (eqb_same h.ticket.0)) (not-true (has_ticket g.ticket h) r.1)))

  ends_m : (g : Lease) → In g q.live → M (ends g (begin_work q))
  ends_m g i = record { last = omega arith; ceiling = omega arith; differs = λ c. gone_lease g i c (ends g (begin_work q)).ledger refl }

  released_m : (b : Bool) (t : Ticket) (o : Option Lease) → lease_under q.live t ≡ o → M (released k b t o (begin_work q))
  released_m b t None e = begins
  released_m false t (Some g) e = begins
  released_m true t (Some g) e =
      let v : Work = ends g (begin_work q) in
      same_work (retried k v) (released k true t (Some g) (begin_work q)) refl refl (retried_m v (ends_m g (find_some (has_ticket t) q.live g e).0))

  committed_some : (n : NodeId) (l : Life) (news : List News) (o : Option Lease) → may_commit n l news o ≡ true → is_nil news ≡ false
  committed_some n l news None e = (let bad : false ≡ true = e in cc)
  committed_some n l news (Some g) e = not-true (is_nil news) (and_parts (is_its n l g && slots_eq (slots_of news) (writable_slots g.slots)) (not (is_nil news)) e).1

  answering_m : (n : NodeId) (l : Life) (r : Request) → M (answering k n l r (begin_work q))
  answering_m n l Hello = begins
  answering_m n l (Acquire b wants tenure) = acquiring_m (lease_of q.live n l b) (is_parked q.parked n l b) (record { node = n; life = l; ask = b; wants = wants; tenure = tenure }) (begin_work q) begins
  answering_m n l (Commit t news) = committing_m (may_commit n l news (lease_under q.live t)) n l t news (committed_some n l news (lease_under q.live t))
  answering_m n l (Release t) = released_m (may_release n l (lease_under q.live t)) t (lease_under q.live t) refl

  -- a message of a life that was seen before
  pub handled_differs : (y : ToCoord) → nat_lt (q.lives y.node.0) y.life.0 ≡ false → (handled k y (begin_work q)).changed ≡ true → Differs q (handled k y (begin_work q)).ledger
  unfolding handled
  handled_differs y seen = (by seen).differs
    where
      by : nat_lt (q.lives y.node.0) y.life.0 ≡ false → M (handled k y (begin_work q))
      by seen = elim (cases_Bool (q.gone y.node.0)) [
        | inl t ↦ rw t (same_work (begin_work q) (notes note.NodeRetired (begin_work q)) refl refl begins)
        | inr here ↦ rw here (elim (cases_Bool (nat_lt y.life.0 (q.lives y.node.0))) [
          | inl t ↦ rw t (same_work (begin_work q) (notes note.OldLife (begin_work q)) refl refl begins)
          | inr t ↦ rw (t, seen) (answering_m y.node y.life y.request)
        ])
      ]

  pub gone_same : (y : ToCoord) → q.gone y.node.0 ≡ true → (handled k y (begin_work q)).changed ≡ false
  unfolding handled
  gone_same y gone = rw gone refl

  -- ---- calls

  abbrev pub DiffersOk : Result Work CoordRefusal → Type 0
  DiffersOk (Ok w) = w.changed ≡ true → Differs q w.ledger
  DiffersOk (Err e) = ⊤

  abbrev OnM : Result Work CoordRefusal → Type 0
  OnM (Ok w) = M w
  OnM (Err e) = ⊤

  on_m : (r : Result Work CoordRefusal) → OnM r → DiffersOk r
  on_m (Ok w) m = m.differs
  on_m (Err e) m = tt

  if_m : (b : Bool) (e : CoordRefusal) (r : Result Work CoordRefusal) → (b ≡ false → OnM r) → OnM (if b then Err e else r)
  if_m true e r h = tt
  if_m false e r h = h refl

  withdrawing_m : (o : Option Lease) (t : Ticket) → lease_under q.live t ≡ o → OnM (withdrawing k o (begin_work q))
  withdrawing_m None t e = tt
  withdrawing_m (Some g) t e = if_m g.tenure coord.Tenure (Ok (notes (note.Withdrawn g.ticket) (retried k (withdraws g (begin_work q))))) (λ no_tenure.
      (let v : Work = withdraws g (begin_work q) in
      same_work (retried k v) (notes (note.Withdrawn g.ticket) (retried k v)) refl refl (retried_m v (record { last = omega arith; ceiling = omega arith; differs = λ c. gone_lease g (find_some (has_ticket t) q.live g e).0 c v.ledger refl }))))

  pub withdrawn_differs : (t : Ticket) → DiffersOk (withdrawn k t (begin_work q))
  withdrawn_differs t = on_m (withdrawn k t (begin_work q)) (withdrawing_m (lease_under q.live t) t refl)

  pub retired_differs : (n : NodeId) → DiffersOk (retired k n (begin_work q))
  retired_differs n = on_m (retired k n (begin_work q)) (if_m (q.gone n.0) coord.NodeRetired _ (λ here. if_m (list_any (λ (g : Lease). is_at n g && g.tenure) q.live || is_home n q.old_home) coord.TenureHeld _ (λ quiet. by here (list_any (is_at n) q.live))))
    where
      gone' : q.gone n.0 ≡ false → M (goes n (begin_work q))
      gone' here = record { last = omega arith; ceiling = omega arith; differs = λ c. By_node n.0 here (put_same n.0 true q.gone) }

      by : q.gone n.0 ≡ false → (b : Bool) → M (notes (note.Retired n) (if b then retried k (goes n (begin_work q)) else goes n (begin_work q)))
      by here true = same_work (retried k (goes n (begin_work q))) (notes (note.Retired n) (retried k (goes n (begin_work q)))) refl refl (retried_m (goes n (begin_work q)) (gone' here))
      by here false = same_work (goes n (begin_work q)) (notes (note.Retired n) (goes n (begin_work q))) refl refl (gone' here)

  pub pruned_differs : (s : Slot) → DiffersOk (pruned k s (begin_work q))
  pruned_differs s = on_m (pruned k s (begin_work q)) (if_m (is_leased q s) coord.SlotLeased _ (λ free. if_m (is_nil (q.line s)) coord.NoSuchSlot _ (λ some. by (nat_lt q.last k.greatest) refl)))
    where
      by : (b : Bool) → nat_lt q.last k.greatest ≡ b → OnM (if b then Ok (notes (note.Pruned (record { 0 = q.last + 1 })) (prunes k s (begin_work q))) else Err coord.TicketsSpent)
      by true t = (let below : q.last < k.greatest = (let l : not (nat_lt q.last k.greatest) ≡ false = rw t refl in left_below q.last k.greatest l) in
          let rises : q.ceiling ≤ raised k q = (raised_up q below).0 in
          record {
            last = omega arith;
            ceiling = rises;
            differs = λ c. By_line s (let e = slot_eq_same s in rw e (longer (q.line s) (record { ticket = record { 0 = q.last + 1 }; digest = k.empty })));
          })
      by false t = tt

  nudges_m : (gs : List Lease) (w : Work) → M w → M (nudge_all k gs w)
  nudges_m [] w m = m
  nudges_m (g ∷ gs) w m = nudges_m gs (nudges k g w) (elim (cases_Bool (is_awaited w.ledger.parked g)) [ inl t ↦ rw t (same_work w _ refl refl m) | inr t ↦ rw t (same_work w _ refl refl m) ])

  pub nudged_differs : (nudged k (begin_work q)).changed ≡ true → Differs q (nudged k (begin_work q)).ledger
  nudged_differs = (nudges_m q.live (begin_work q) begins).differs
