-- A new lease has the lowest instances, and passes over no ask that came before its own.
use Rattle.std.proofs.Common.{◌≡◌, ℕ, zero, suc, ◌+◌, ◌-◌, ◌<◌, ◌≤◌, ◌⊎◌, List, [], ◌∷◌, ◌++◌, Bool, true, false, not, ◌&&◌, ◌||◌, eqb, filter, Option, Some, None, Result, Ok, Err, refl, sym, ◌∙◌, ap, subst, inl, inr, arith}
use Rattle.std.proofs.lemmas.Bool.{cases_Bool, cases_eq, and_parts, or_parts, not-false}
use Rattle.std.proofs.lemmas.Bool.Decides.{nat_tests}
use Rattle.std.specs.List.{list_any, find}
use Rattle.std.specs.Prelude.{⊤, nat_lt, if◌then◌else◌}
use Rattle.protocol.specs.Lists.{In, is_nil}
use Rattle.protocol.specs.Names.{Slot, slot_eq, slots_eq, Private, is_private, leased_wants, NodeId, Life, Ask, Ticket, Want, FolderName}
use Rattle.protocol.specs.Machine.{Grant, Granted, News, slots_of, Message, FromCoord, ToCoord, Parked, HasPart, Ends_part, Keeps, Leaves, Machine, Has, Live, Retired, Ending, Withdrawn, ticket_of, line, LineVersion}
use Rattle.farm_base.specs.declared.message.Request.{Request}
use Rattle.farm_base.specs.declared.message.Request.TheVariants.{Hello, Acquire, Commit, Release}
use Rattle.farm_base.specs.declared.message.FromCoord.TheVariants as told
use Rattle.events.specs.declared.answer.CoordRefusal.{CoordRefusal}
use Rattle.events.specs.declared.answer.CoordRefusal.TheVariants as refusal
use Rattle.events.specs.declared.answer.CoordNote.{CoordNote}
use Rattle.events.specs.declared.answer.CoordNote.TheVariants as note
use Rattle.protocol.specs.Ledger.{Limits, Ledger, Lease, Work, begin_work, says, notes, has_slot, some_lease, is_leased, is_free, lowest, slot_for, Decision, Give, Deny, Wait, elsewhere, decision, lease_for, grant_of, gives, denies, carried_out, tried, try_all, parks, retried, is_of, lease_of, is_parked, holds_wanted, recall, recalls, decided, acquiring, ends, commits, versions_of, lease_under, has_ticket, is_its, writable_slots, may_commit, may_release, on_all, confirms, committing, released, answering, is_older, is_older_ask, sees, is_home, newer_life, handled, withdraws, withdrawing, withdrawn, is_at, goes, retired, prunes, pruned, is_awaited, nudges, nudge_all, nudged}
use Rattle.protocol.specs.Ledger as ledger
use Rattle.protocol.specs.Follows.{lease_from, NoneReady, Agrees}
use Rattle.protocol.specs.Meaning.{instance_of, HasLowest, before, WasFirst, CouldBeGranted, PassesOverNone}
use Rattle.protocol.proofs.Base.{true_false, none_some, in_append, in_left, in_right, in_one, in_filter, from_filter, from_map, from_any, any_in, any_none, eqb_same, slot_eq_is}
use Rattle.protocol.proofs.Leases.{Core, core_of, lowest-none, lowest-free, lowest-taken, lease_has, has_lease, lease-grant, live_kind, find_some}
use Rattle.protocol.proofs.Following.{part_refl, part_filter}
use Rattle.protocol.proofs.Trying.{waiting_part}
use Rattle.protocol.proofs.Parking.{Fewer, less_ready, not_cleared, recalls-ledger}
use Rattle.protocol.proofs.Steps.{Sound, same_grant}
use Rattle.protocol.proofs.Wanting.{names_are, could_give, give_could}

-- the second ledger has all that the first has
pub record More (x y : Ledger) : Type 0 where
  home : y.old_home ≡ x.old_home
  live : (h : Lease) → In h x.live → In h y.live
  retired : (s : Slot) → x.retired s ≡ true → y.retired s ≡ true
  last : x.last ≤ y.last

more_refl : (x : Ledger) → More x x
more_refl x = record { home = refl; live = λ h i. i; retired = λ s e. e; last = omega arith }

more_trans : (x y z : Ledger) → More x y → More y z → More x z
more_trans x y z a b = record {
  home = b.home ∙ a.home;
  live = λ h i. b.live h (a.live h i);
  retired = λ s e. b.retired s (a.retired s e);
  last = (let p : x.last ≤ y.last = a.last in let q : y.last ≤ z.last = b.last in omega arith);
}

abbrev pub Tops : Ledger → Type 0
Tops x = (h : Lease) → In h x.live → h.ticket.0 ≤ x.last

-- ---- the lowest instance

-- the instance is retired, or leased by an older lease
abbrev TakenIn : Ledger → ℕ → Slot → Type 0
TakenIn x t s = (x.retired s ≡ true) ⊎ ((o : Lease) × In o x.live × (o.ticket.0 < t) × (has_slot o.slots s ≡ true))

-- so is each that is lower than the lease's
abbrev LowestIn : Ledger → Lease → Type 0
LowestIn x h = (s : Slot) (i : ℕ) → has_slot h.slots s ≡ true → s.folder.mode ≡ Private → 1 ≤ i → i < s.instance → TakenIn x h.ticket.0 (instance_of s.folder i)

lowest_more : (x y : Ledger) (h : Lease) → More x y → LowestIn x h → LowestIn y h
lowest_more x y h m low s i has private ge lt = elim (low s i has private ge lt) [ inl r ↦ inl (m.retired (instance_of s.folder i) r) | inr o ↦ inr (o.0, m.live o.0 o.1, o.2, o.3) ]

-- below the lowest free one none is free
below_lowest : (free : Slot → Bool) (f : FolderName) (k i j : ℕ) → i ≤ j → j < lowest free f i k → free (record { folder = f; instance = j }) ≡ false
below_lowest free f zero i j le lt = (let is : lowest free f i zero ≡ 0 = lowest-none free f i in absurd (omega arith))
below_lowest free f (suc k) i j le lt = elim (cases_Bool (free (record { folder = f; instance = i }))) [
  | inl t ↦ (let is : lowest free f i (suc k) ≡ i = lowest-free free f i k t in absurd (omega arith))
  | inr n ↦ (let is : lowest free f i (suc k) ≡ lowest free f (i + 1) k = lowest-taken free f i k n in
      elim (cases_eq j i) [
        | inl same ↦ subst (λ (z : ℕ). free (record { folder = f; instance = z }) ≡ false) (sym same) n
        | inr ne ↦ below_lowest free f k (i + 1) j (omega arith) (omega arith)
      ])
]

taken_in : (x : Ledger) (s : Slot) → Tops x → is_free x s ≡ false → TakenIn x (x.last + 1) s
taken_in x s tops e = elim (cases_Bool (some_lease x.live s)) [
  | inl t ↦ (let o = from_any (λ (g : Lease). has_slot g.slots s) x.live t in let le : o.0.ticket.0 ≤ x.last = tops o.0 o.1 in inr (o.0, o.1, omega arith, o.2))
  | inr f ↦ inl (not-false (x.retired s) (rw f at e))
]

module _ (k : Limits) where
  new_lowest : (p : Parked) (x : Ledger) → Tops x → LowestIn x (lease_for k x p)
  new_lowest p x tops s i has =
      let ws : List Want = leased_wants p.tenure p.wants in
      let r = from_any (λ (y : Slot × Bool). slot_eq y.0 s) (lease_for k x p).slots has in
      let f = from_map (λ (w : Want). (slot_for k.instances (is_free x) w, w.writable)) r.0 ws r.1 in
      let same : slot_for k.instances (is_free x) f.0 ≡ s = sym (ap (λ (z : Slot × Bool). z.0) f.2) ∙ slot_eq_is r.0.0 s r.2 in
      subst (λ (z : Slot). z.folder.mode ≡ Private → 1 ≤ i → i < z.instance → TakenIn x (x.last + 1) (instance_of z.folder i)) same (one f.0)
    where
      one : (w : Want) → w.folder.mode ≡ Private → 1 ≤ i → i < (slot_for k.instances (is_free x) w).instance → TakenIn x (x.last + 1) (instance_of w.folder i)
      one w private ge lt =
          let is : is_private w.folder.mode ≡ true = ap is_private private in
          let at : (slot_for k.instances (is_free x) w).instance ≡ lowest (is_free x) w.folder 1 k.instances = rw is refl in
          taken_in x (instance_of w.folder i) tops (below_lowest (is_free x) w.folder k.instances 1 i ge (omega arith))

  -- ---- the order of asks

  -- the ask has an older lease
  abbrev SoonerIn : Ledger → Parked → ℕ → Type 0
  SoonerIn x p t = (o : Lease) × In o x.live × (is_of p.node p.life p.ask o ≡ true) × (o.ticket.0 < t)

  -- it could not be granted in an earlier ledger
  pub record NotReady (x : Ledger) (p : Parked) (t : ℕ) : Type 0 where
    was : Ledger
    waits : decision k was p ≡ Give → ⊥
    more : More was x
    older : (o : Lease) → In o was.live → o.ticket.0 < t
    last : was.last < t

  abbrev Settled : Ledger → Parked → ℕ → Type 0
  Settled x p t = SoonerIn x p t ⊎ NotReady x p t

  settled_more : (x y : Ledger) (p : Parked) (t : ℕ) → More x y → Settled x p t → Settled y p t
  settled_more x y p t m (inl (o, i, of, lt)) = inl (o, m.live o i, of, lt)
  settled_more x y p t m (inr n) = inr (record { was = n.was; waits = n.waits; more = more_trans n.was x y n.more m; older = n.older; last = n.last })

  -- ---- trying parked asks

  gives_more : (p : Parked) (w : Work) → More w.ledger (gives k p w).ledger
  unfolding gives
  gives_more p w = record { home = refl; live = λ h i. in_left h w.ledger.live (lease_for k w.ledger p ∷ []) i; retired = λ s e. e; last = omega arith }

  carried_more : (d : Decision) (p : Parked) (w : Work) → More w.ledger (carried_out k d p w).ledger
  carried_more Give p w = gives_more p w
  carried_more (Deny why) p w = more_refl w.ledger
  carried_more Wait p w = more_refl w.ledger

  tried_more : (p : Parked) (w : Work) → More w.ledger (tried k p w).ledger
  unfolding tried
  tried_more p w = carried_more (decision k w.ledger p) p w

  try_more : (ps : List Parked) (w : Work) → More w.ledger (try_all k ps w).ledger
  try_more [] w = more_refl w.ledger
  try_more (p ∷ ps) w = more_trans w.ledger (tried k p w).ledger (try_all k ps (tried k p w)).ledger (tried_more p w) (try_more ps (tried k p w))

  gives_tops : (p : Parked) (w : Work) → Tops w.ledger → Tops (gives k p w).ledger
  unfolding gives
  gives_tops p w tops h i = elim (in_append h w.ledger.live (lease_for k w.ledger p ∷ []) i) [
    | inl j ↦ (let le : h.ticket.0 ≤ w.ledger.last = tops h j in omega arith)
    | inr j ↦ (let at : h.ticket.0 ≡ w.ledger.last + 1 = ap (λ (z : Lease). z.ticket.0) (in_one h (lease_for k w.ledger p) j) in omega arith)
  ]

  tried_tops : (p : Parked) (w : Work) → Tops w.ledger → Tops (tried k p w).ledger
  unfolding tried
  tried_tops p w tops = by (decision k w.ledger p)
    where
      by : (d : Decision) → Tops (carried_out k d p w).ledger
      by Give = gives_tops p w tops
      by (Deny why) = tops
      by Wait = tops

  its_own : (p : Parked) (x : Ledger) → is_of p.node p.life p.ask (lease_for k x p) ≡ true
  its_own p x = (let a = eqb_same p.node.0 in let b = eqb_same p.life.0 in let c = eqb_same p.ask.0 in rw (a, b, c) refl)

  -- an ask that is tried has a lease then, or could not be granted
  one_settled : (p : Parked) (w : Work) (z : Ledger) (t : ℕ) → Tops w.ledger → More (tried k p w).ledger z → (tried k p w).ledger.last < t → Settled z p t
  unfolding tried gives
  one_settled p w z t tops = by (decision k w.ledger p) refl
    where
      not_given : (d : Decision) → decision k w.ledger p ≡ d → (d ≡ Give → ⊥) → More w.ledger z → w.ledger.last < t → Settled z p t
      not_given d e other m lt = inr (record { was = w.ledger; waits = λ g. other (sym e ∙ g); more = m; older = λ o i. (let le : o.ticket.0 ≤ w.ledger.last = tops o i in omega arith); last = lt })

      by : (d : Decision) → decision k w.ledger p ≡ d → More (carried_out k d p w).ledger z → (carried_out k d p w).ledger.last < t → Settled z p t
      by Give e m lt = inl (lease_for k w.ledger p, m.live (lease_for k w.ledger p) (in_right (lease_for k w.ledger p) w.ledger.live (lease_for k w.ledger p ∷ []) (inl refl)), its_own p w.ledger, lt)
      by (Deny why) e m lt = not_given (Deny why) e (λ bad. (cc)) m lt
      by Wait e m lt = not_given Wait e (λ bad. (cc)) m lt

  try_settled : (ps : List Parked) (w : Work) → Tops w.ledger → (t : ℕ) → (try_all k ps w).ledger.last < t → (p : Parked) → In p ps → Settled (try_all k ps w).ledger p t
  try_settled [] w tops t lt p i = absurd i
  try_settled (r ∷ ps) w tops t lt p (inr i) = try_settled ps (tried k r w) (tried_tops r w tops) t lt p i
  try_settled (r ∷ ps) w tops t lt p (inl e) =
      let m = try_more ps (tried k r w) in
      let up : (tried k r w).ledger.last ≤ (try_all k ps (tried k r w)).ledger.last = m.last in
      subst (λ z. Settled (try_all k ps (tried k r w)).ledger z t) (sym e) (one_settled r w (try_all k ps (tried k r w)).ledger t tops m (omega arith))

  -- a lease is this grant's, by the lines as they were at some time
  abbrev HasLease : Ledger → Grant → Type 0
  HasLease x g = (lines : Slot → List LineVersion) × (h : Lease) × In h x.live × (grant_of k.empty lines h ≡ g)

  -- what is sent as granted is leased
  abbrev SendsLeased : Work → Type 0
  SendsLeased w = (g : Grant) → In (told.Granted g) w.sends → HasLease w.ledger g

  grant_is : (g h : Grant) → told.Granted g ≡ told.Granted h → g ≡ h
  grant_is g h e = cc

  no_denial : (n : NodeId) (l : Life) (a : Ask) (why : _) (g : Grant) → told.Granted g ≡ told.Denied n l a why → ⊥
  no_denial n l a why g e = cc

  says_leased : (y : FromCoord) (w : Work) → ((g : Grant) → told.Granted g ≡ y → ⊥) → SendsLeased w → SendsLeased (says y w)
  says_leased y w other s g i = elim (in_append (told.Granted g) w.sends (y ∷ []) i) [ inl j ↦ s g j | inr j ↦ absurd (other g (in_one (told.Granted g) y j)) ]

  again_leased : (h : Lease) (w : Work) → In h w.ledger.live → SendsLeased w → SendsLeased (says (told.Granted (grant_of k.empty w.ledger.line h)) w)
  again_leased h w at s g i = elim (in_append (told.Granted g) w.sends (told.Granted (grant_of k.empty w.ledger.line h) ∷ []) i) [
    | inl j ↦ s g j
    | inr j ↦ (w.ledger.line, h, at, sym (grant_is g (grant_of k.empty w.ledger.line h) (in_one (told.Granted g) (told.Granted (grant_of k.empty w.ledger.line h)) j)))
  ]

  gives_leased : (p : Parked) (w : Work) → SendsLeased w → SendsLeased (gives k p w)
  unfolding gives
  gives_leased p w s g i =
      let h : Lease = lease_for k w.ledger p in
      elim (in_append (told.Granted g) w.sends (told.Granted (grant_of k.empty w.ledger.line h) ∷ []) i) [
        | inl j ↦ (let r = s g j in (r.0, r.1, in_left r.1 w.ledger.live (h ∷ []) r.2, r.3))
        | inr j ↦ (w.ledger.line, h, in_right h w.ledger.live (h ∷ []) (inl refl), sym (grant_is g (grant_of k.empty w.ledger.line h) (in_one (told.Granted g) (told.Granted (grant_of k.empty w.ledger.line h)) j)))
      ]

  carried_leased : (d : Decision) (p : Parked) (w : Work) → SendsLeased w → SendsLeased (carried_out k d p w)
  carried_leased Give p w s = gives_leased p w s
  carried_leased (Deny why) p w s = says_leased (told.Denied p.node p.life p.ask why) w (no_denial p.node p.life p.ask why) s
  carried_leased Wait p w s = s

  try_leased : (ps : List Parked) (w : Work) → SendsLeased w → SendsLeased (try_all k ps w)
  unfolding tried
  try_leased [] w s = s
  try_leased (p ∷ ps) w s = try_leased ps (tried k p w) (carried_leased (decision k w.ledger p) p w s)

  -- ---- an event on this ledger, which drops these asks

  module _ (q : Ledger) (D : Parked → Type 0) where
    -- each of the asks up to the lease's own is dropped, has an older lease or could not be granted
    abbrev pub Passed : Ledger → List Parked → Lease → Type 0
    Passed x [] h = ⊤
    Passed x (p ∷ ps) h = (is_of p.node p.life p.ask h ≡ true) ⊎ ((D p ⊎ Settled x p h.ticket.0) × Passed x ps h)

    passed_more : (x y : Ledger) (ps : List Parked) (h : Lease) → More x y → Passed x ps h → Passed y ps h
    passed_more x y [] h m a = tt
    passed_more x y (p ∷ ps) h m (inl e) = inl e
    passed_more x y (p ∷ ps) h m (inr (inl d, rest)) = inr (inl d, passed_more x y ps h m rest)
    passed_more x y (p ∷ ps) h m (inr (inr s, rest)) = inr (inr (settled_more x y p h.ticket.0 m s), passed_more x y ps h m rest)

    passed_all : (x : Ledger) (ps : List Parked) (h : Lease) → ((p : Parked) → In p ps → D p ⊎ Settled x p h.ticket.0) → Passed x ps h
    passed_all x [] h all = tt
    passed_all x (p ∷ ps) h all = inr (all p (inl refl), passed_all x ps h (λ r i. all r (inr i)))

    -- those that a filter takes out are dropped
    passed_filter : (x : Ledger) (test : Parked → Bool) (ps : List Parked) (h : Lease) → ((p : Parked) → test p ≡ false → D p) → Passed x (filter test ps) h → Passed x ps h
    passed_filter x test [] h drops a = tt
    passed_filter x test (p ∷ ps) h drops a = elim (cases_Bool (test p)) [
      | inl t ↦ elim (let b : Passed x (p ∷ filter test ps) h = rw t at a in b) [ inl e ↦ inl e | inr s ↦ inr (s.0, passed_filter x test ps h drops s.1) ]
      | inr t ↦ inr (inl (drops p t), passed_filter x test ps h drops (rw t at a))
    ]

    -- the leases that are new among those after asks were tried
    try_new : (ps : List Parked) (w : Work) → Tops w.ledger → (h : Lease) → In h (try_all k ps w).ledger.live → In h w.ledger.live ⊎ ((w.ledger.last < h.ticket.0) × LowestIn (try_all k ps w).ledger h × Passed (try_all k ps w).ledger ps h)
    unfolding tried gives
    try_new [] w tops h i = inl i
    try_new (p ∷ ps) w tops h i =
        let v : Work = tried k p w in
        let z : Ledger = (try_all k ps v).ledger in
        let m = try_more ps v in
        elim (try_new ps v (tried_tops p w tops) h i) [
          | inr r ↦ (let up : w.ledger.last ≤ v.ledger.last = (tried_more p w).last in let lt : v.ledger.last < h.ticket.0 = r.0 in
              inr (omega arith, r.1, inr (inr (one_settled p w z h.ticket.0 tops m lt), r.2)))
          | inl j ↦ by (decision k w.ledger p) z m j
        ]
      where
        by : (d : Decision) (z : Ledger) → More (carried_out k d p w).ledger z → In h (carried_out k d p w).ledger.live → In h w.ledger.live ⊎ ((w.ledger.last < h.ticket.0) × LowestIn z h × Passed z (p ∷ ps) h)
        by Give z m j = elim (in_append h w.ledger.live (lease_for k w.ledger p ∷ []) j) [
          | inl old ↦ inl old
          | inr new ↦ inr (subst (λ (x : Lease). (w.ledger.last < x.ticket.0) × LowestIn z x × Passed z (p ∷ ps) x) (sym (in_one h (lease_for k w.ledger p) new))
              (omega arith, lowest_more w.ledger z (lease_for k w.ledger p) (more_trans w.ledger (gives k p w).ledger z (gives_more p w) m) (new_lowest p w.ledger tops), inl (its_own p w.ledger)))
        ]
        by (Deny why) z m j = inl j
        by Wait z m j = inl j

    -- what is granted is leased, and each lease that is new is in order
    pub record Orderly (w : Work) : Type 0 where
      pub sends : (g : Grant) → In (told.Granted g) w.sends → HasLease w.ledger g
      pub new : (h : Lease) → In h w.ledger.live → (h.ticket.0 ≤ q.last) ⊎ (LowestIn w.ledger h × (NoneReady k q → Passed w.ledger q.parked h))

    noted : (c : CoordNote) (w : Work) → Orderly w → Orderly (notes c w)
    noted c w o = record { sends = o.sends; new = o.new }

    -- nothing was granted yet
    pub record Fresh (w : Work) : Type 0 where
      tops : Tops w.ledger
      last : w.ledger.last ≡ q.last
      quiet : (g : Grant) → In (told.Granted g) w.sends → ⊥
      asks : (x : Ledger) (h : Lease) → Passed x w.ledger.parked h → Passed x q.parked h

    fresh_orderly : (w : Work) → Fresh w → Orderly w
    fresh_orderly w f = record { sends = λ g i. absurd (f.quiet g i); new = λ h i. inl (let le : h.ticket.0 ≤ w.ledger.last = f.tops h i in let same : w.ledger.last ≡ q.last = f.last in omega arith) }

    retried_orderly : (w : Work) → Fresh w → Orderly (retried k w)
    unfolding retried
    retried_orderly w f = record {
      sends = try_leased w.ledger.parked w (λ g i. absurd (f.quiet g i));
      new = λ h i. elim (try_new w.ledger.parked w f.tops h i) [
        | inl old ↦ inl (let le : h.ticket.0 ≤ w.ledger.last = f.tops h old in let same : w.ledger.last ≡ q.last = f.last in omega arith)
        | inr r ↦ inr (r.1, λ none. passed_again h (f.asks (try_all k w.ledger.parked w).ledger h r.2))
      ];
    }
      where
        parked_more : More (try_all k w.ledger.parked w).ledger (retried k w).ledger
        parked_more = record { home = refl; live = λ h i. i; retired = λ s e. e; last = omega arith }

        passed_again : (h : Lease) → Passed (try_all k w.ledger.parked w).ledger q.parked h → Passed (retried k w).ledger q.parked h
        passed_again h a = passed_more (try_all k w.ledger.parked w).ledger (retried k w).ledger q.parked h parked_more a

    says_orderly : (y : FromCoord) (w : Work) → ((g : Grant) → told.Granted g ≡ y → ⊥) → Orderly w → Orderly (says y w)
    says_orderly y w other o = record { sends = says_leased y w other o.sends; new = o.new }

    -- ---- messages

    no_commit : (n : NodeId) (l : Life) (t : Ticket) (vs : _) (g : Grant) → told.Granted g ≡ told.Committed n l t vs → ⊥
    no_commit n l t vs g e = cc

    no_fence : (n : NodeId) (l : Life) (t : Ticket) (g : Grant) → told.Granted g ≡ told.Fenced n l t → ⊥
    no_fence n l t g e = cc

    no_recall : (n : NodeId) (l : Life) (t : Ticket) (g : Grant) → told.Granted g ≡ told.Recall n l t → ⊥
    no_recall n l t g e = cc

    recall_leased : (o : Option Lease) (w : Work) → SendsLeased w → SendsLeased (recall o w)
    recall_leased None w s = s
    recall_leased (Some g) w s = says_leased (told.Recall g.node g.life g.ticket) w (no_recall g.node g.life g.ticket) s

    recalls_leased : (b : Bool) (p : Parked) (w : Work) → SendsLeased w → SendsLeased (recalls b p w)
    recalls_leased true p w s = recall_leased (find (holds_wanted p) w.ledger.live) w s
    recalls_leased false p w s = s

    -- each ask that was parked before has been dropped, has a lease or could not be granted
    abbrev AllSettled : Work → Type 0
    AllSettled w = NoneReady k q → (t : ℕ) → w.ledger.last < t → (p : Parked) → In p q.parked → D p ⊎ Settled w.ledger p t

    decided_orderly : (d : Decision) (p : Parked) (w : Work) → Tops w.ledger → AllSettled w → Orderly w → Orderly (decided k d p w)
    unfolding gives
    decided_orderly Give p w tops all o = record {
      sends = gives_leased p w o.sends;
      new = λ h i. elim (in_append h w.ledger.live (lease_for k w.ledger p ∷ []) i) [
        | inl j ↦ elim (o.new h j) [
          | inl old ↦ inl old
          | inr r ↦ inr (lowest_more w.ledger (gives k p w).ledger h (gives_more p w) r.0, λ none. passed_more w.ledger (gives k p w).ledger q.parked h (gives_more p w) (r.1 none))
        ]
        | inr j ↦ inr (subst (λ (x : Lease). LowestIn (gives k p w).ledger x × (NoneReady k q → Passed (gives k p w).ledger q.parked x)) (sym (in_one h (lease_for k w.ledger p) j)) (
          lowest_more w.ledger (gives k p w).ledger (lease_for k w.ledger p) (gives_more p w) (new_lowest p w.ledger tops),
          λ none. passed_more w.ledger (gives k p w).ledger q.parked (lease_for k w.ledger p) (gives_more p w) (passed_all w.ledger q.parked (lease_for k w.ledger p) (all none (w.ledger.last + 1) (omega arith))),
        ))
      ];
    }
    decided_orderly (Deny why) p w tops all o = noted (note.Denied why) (denies why p w) (says_orderly (told.Denied p.node p.life p.ask why) w (no_denial p.node p.life p.ask why) o)
    decided_orderly Wait p w tops all o =
        let b : Bool = p.tenure && not (elsewhere w.ledger p) in
        let same = recalls-ledger k b p w in
        let s : SendsLeased (recalls b p w) = recalls_leased b p w o.sends in
        let z : Ledger = record (recalls b p w).ledger { parked = w.ledger.parked ++ p ∷ [] } in
        let m : More w.ledger z = subst (λ (x : Ledger). More x z) same (record { home = refl; live = λ h i. i; retired = λ s e. e; last = omega arith }) in
        record {
          sends = s;
          new = λ h i. elim (o.new h (subst (λ (x : Ledger). In h x.live) same i)) [ inl old ↦ inl old | inr r ↦ inr (lowest_more w.ledger z h m r.0, λ none. passed_more w.ledger z q.parked h m (r.1 none)) ];
        }

    acquiring_orderly : (o : Option Lease) (b : Bool) (p : Parked) (w : Work) → lease_of w.ledger.live p.node p.life p.ask ≡ o → Tops w.ledger → AllSettled w → Orderly w → Orderly (acquiring k o b p w)
    acquiring_orderly (Some g) b p w e tops all o = record { sends = again_leased g w (find_some (is_of p.node p.life p.ask) w.ledger.live g e).0 o.sends; new = o.new }
    acquiring_orderly None true p w e tops all o = noted note.Parked w o
    acquiring_orderly None false p w e tops all o = decided_orderly (decision k w.ledger p) p w tops all o

    -- no lease is this node's in this life
    abbrev pub NoneOf : NodeId → Life → Work → Type 0
    NoneOf n l w = (h : Lease) → In h w.ledger.live → is_its n l h ≡ true → ⊥

    committed_its : (n : NodeId) (l : Life) (news : List News) (t : Ticket) (w : Work) (o : Option Lease) → lease_under w.ledger.live t ≡ o → may_commit n l news o ≡ true → NoneOf n l w → ⊥
    committed_its n l news t w None e m none = (let bad : false ≡ true = m in cc)
    committed_its n l news t w (Some g) e m none =
        let b = and_parts (is_its n l g && slots_eq (slots_of news) (writable_slots g.slots)) (not (is_nil news)) m in
        none g (find_some (has_ticket t) w.ledger.live g e).0 (and_parts (is_its n l g) (slots_eq (slots_of news) (writable_slots g.slots)) b.0).0

    answered_orderly : (b : Bool) (n : NodeId) (l : Life) (t : Ticket) (news : List News) (w : Work) → Orderly w → Orderly (ledger.answered b n l t news w)
    answered_orderly true n l t news w o = noted (note.CommittedBefore t) (confirms n l t news w) (says_orderly (told.Committed n l t (versions_of w.ledger.line t news)) w (no_commit n l t (versions_of w.ledger.line t news)) o)
    answered_orderly false n l t news w o = noted (note.Fenced t) (says (told.Fenced n l t) w) (says_orderly (told.Fenced n l t) w (no_fence n l t) o)

    fewer_fresh : (test : Lease → Bool) (w v : Work) → v.ledger.live ≡ filter test w.ledger.live → v.ledger.last ≡ w.ledger.last → v.sends ≡ w.sends → v.ledger.parked ≡ w.ledger.parked → Fresh w → Fresh v
    fewer_fresh test w v live last sends parked f = record {
      tops = λ h i. (let le : h.ticket.0 ≤ w.ledger.last = f.tops h (from_filter test h w.ledger.live (subst (In h) live i)).0 in omega arith);
      last = last ∙ f.last;
      quiet = λ g i. f.quiet g (subst (In (told.Granted g)) sends i);
      asks = λ x h a. f.asks x h (subst (λ ps. Passed x ps h) parked a);
    }

    says_fresh : (y : FromCoord) (w : Work) → ((g : Grant) → told.Granted g ≡ y → ⊥) → Fresh w → Fresh (says y w)
    says_fresh y w other f = record {
      tops = f.tops;
      last = f.last;
      quiet = λ g i. elim (in_append (told.Granted g) w.sends (y ∷ []) i) [ inl j ↦ f.quiet g j | inr j ↦ other g (in_one (told.Granted g) y j) ];
      asks = f.asks;
    }

    committing_orderly : (b : Bool) (n : NodeId) (l : Life) (t : Ticket) (news : List News) (w : Work) → may_commit n l news (lease_under w.ledger.live t) ≡ b → Fresh w ⊎ NoneOf n l w → Orderly w → Orderly (committing k b n l t news w)
    committing_orderly true n l t news w m (inr never) o = absurd (committed_its n l news t w (lease_under w.ledger.live t) refl m never)
    committing_orderly true n l t news w m (inl f) o =
        let v : Work = commits t news w in
        noted (note.Committed t) (retried k (confirms n l t news v)) (retried_orderly (confirms n l t news v) (says_fresh (told.Committed n l t (versions_of v.ledger.line t news)) v (no_commit n l t (versions_of v.ledger.line t news)) (fewer_fresh (λ (g : Lease). not (has_ticket t g)) w v refl refl refl refl f)))
    committing_orderly false n l t news w m may o = answered_orderly (not (is_nil news) && on_all w.ledger.line t news) n l t news w o

    released_orderly : (b : Bool) (n : NodeId) (l : Life) (t : Ticket) (g : Option Lease) (w : Work) → lease_under w.ledger.live t ≡ g → may_release n l g ≡ b → Fresh w ⊎ NoneOf n l w → Orderly w → Orderly (released k b t g w)
    released_orderly b n l t None w e m may o = o
    released_orderly false n l t (Some g) w e m may o = o
    released_orderly true n l t (Some g) w e m (inr never) o = absurd (never g (find_some (has_ticket t) w.ledger.live g e).0 m)
    released_orderly true n l t (Some g) w e m (inl f) o = noted (note.Released t) (retried k (ends g w)) (retried_orderly (ends g w) (fewer_fresh (λ (h : Lease). not (has_ticket g.ticket h)) w (ends g w) refl refl refl refl f))

    answering_orderly : (n : NodeId) (l : Life) (r : Request) (w : Work) → Fresh w ⊎ NoneOf n l w → Tops w.ledger → AllSettled w → Orderly w → Orderly (answering k n l r w)
    answering_orderly n l Hello w may tops all o = o
    answering_orderly n l (Acquire a wants tenure) w may tops all o = acquiring_orderly (lease_of w.ledger.live n l a) (is_parked w.ledger.parked n l a) (record { node = n; life = l; ask = a; wants = wants; tenure = tenure }) w refl tops all o
    answering_orderly n l (Commit t news) w may tops all o = committing_orderly (may_commit n l news (lease_under w.ledger.live t)) n l t news w refl may o
    answering_orderly n l (Release t) w may tops all o = released_orderly (may_release n l (lease_under w.ledger.live t)) n l t (lease_under w.ledger.live t) w refl refl may o

    -- ---- this ledger's own events

    module _ (tops : Tops q) where
      begins_fresh : Fresh (begin_work q)
      begins_fresh = record { tops = tops; last = refl; quiet = λ g i. absurd i; asks = λ x h a. a }

      begins_settled : AllSettled (begin_work q)
      begins_settled none t lt p i = inr (inr (record { was = q; waits = none p i; more = more_refl q; older = λ h j. (let le : h.ticket.0 ≤ q.last = tops h j in omega arith); last = lt }))

      module _ (n : NodeId) (l : Life) (drops : (p : Parked) → is_older_ask n l p ≡ true → D p) where
        dropped : (p : Parked) → not (is_older_ask n l p) ≡ false → D p
        dropped p e = drops p (not-false (is_older_ask n l p) e)

        seen_fresh : Fresh (sees n l (begin_work q))
        seen_fresh = record {
          tops = λ h i. tops h (from_filter (λ (g : Lease). not (is_older n l g)) h q.live i).0;
          last = refl;
          quiet = λ g i. absurd i;
          asks = λ x h a. passed_filter x (λ (p : Parked). not (is_older_ask n l p)) q.parked h dropped a;
        }

        record Newer (w : Work) : Type 0 where
          top : Tops w.ledger
          settled : AllSettled w
          orderly : Orderly w

        retried_newer : Newer (retried k (sees n l (begin_work q)))
        unfolding retried
        retried_newer = record {
          top = try_tops w.ledger.parked w seen_fresh.tops;
          settled = λ none t lt p i. elim (cases_Bool (not (is_older_ask n l p))) [
            | inr older ↦ inl (dropped p older)
            | inl stays ↦ inr (settled_more (try_all k w.ledger.parked w).ledger (retried k w).ledger p t (record { home = refl; live = λ h i. i; retired = λ s e. e; last = omega arith })
                (try_settled w.ledger.parked w seen_fresh.tops t lt p (in_filter (λ (r : Parked). not (is_older_ask n l r)) p q.parked i stays)))
          ];
          orderly = retried_orderly w seen_fresh;
        }
          where
            w : Work
            w = sees n l (begin_work q)

            try_tops : (ps : List Parked) (v : Work) → Tops v.ledger → Tops (try_all k ps v).ledger
            try_tops [] v t = t
            try_tops (p ∷ ps) v t = try_tops ps (tried k p v) (tried_tops p v t)

        quiet_newer : list_any (is_older n l) q.live ≡ false → is_home n q.old_home ≡ false → Newer (sees n l (begin_work q))
        quiet_newer none here = record {
          top = seen_fresh.tops;
          settled = λ ready t lt p i. inr (inr (record {
            was = q;
            waits = ready p i;
            more = record {
              home = not_cleared k n q.old_home here;
              live = λ h j. in_filter (λ (g : Lease). not (is_older n l g)) h q.live j (ap not (any_none (is_older n l) h q.live none j));
              retired = λ s e. e;
              last = omega arith;
            };
            older = λ h j. (let le : h.ticket.0 ≤ q.last = tops h j in let lt' : q.last < t = lt in omega arith);
            last = lt;
          }));
          orderly = fresh_orderly (sees n l (begin_work q)) seen_fresh;
        }

        newer_life_newer : Newer (newer_life k n l (begin_work q))
        unfolding newer_life
        newer_life_newer = elim (cases_Bool (list_any (is_older n l) q.live || is_home n q.old_home)) [
          | inl t ↦ rw t retried_newer
          | inr t ↦ rw t (let o = or_parts (list_any (is_older n l) q.live) (is_home n q.old_home) t in quiet_newer o.0 o.1)
        ]

      pub handled_orderly : (y : ToCoord) → ((p : Parked) → is_older_ask y.node y.life p ≡ true → D p) → (nat_lt (q.lives y.node.0) y.life.0 ≡ true → NoneOf y.node y.life (newer_life k y.node y.life (begin_work q))) → Orderly (handled k y (begin_work q))
      unfolding handled
      handled_orderly y drops never = elim (cases_Bool (q.gone y.node.0)) [
        | inl t ↦ rw t (noted note.NodeRetired (begin_work q) start')
        | inr here ↦ rw here (elim (cases_Bool (nat_lt y.life.0 (q.lives y.node.0))) [
          | inl t ↦ rw t (noted note.OldLife (begin_work q) start')
          | inr current ↦ rw current (elim (cases_Bool (nat_lt (q.lives y.node.0) y.life.0)) [
            | inl newer ↦ rw newer (let z = newer_life_newer y.node y.life drops in answering_orderly y.node y.life y.request (newer_life k y.node y.life (begin_work q)) (inr (never newer)) z.top z.settled z.orderly)
            | inr same ↦ rw same (answering_orderly y.node y.life y.request (begin_work q) (inl begins_fresh) tops begins_settled start')
          ])
        ])
      ]
        where
          start' : Orderly (begin_work q)
          start' = fresh_orderly (begin_work q) begins_fresh

      -- ---- calls

      abbrev pub OnOrderly : Result Work CoordRefusal → Type 0
      OnOrderly (Ok w) = Orderly w
      OnOrderly (Err e) = ⊤

      orderly_if : (b : Bool) (e : CoordRefusal) (r : Result Work CoordRefusal) → OnOrderly r → OnOrderly (if b then Err e else r)
      orderly_if true e r h = tt
      orderly_if false e r h = h

      withdrawing_orderly : (o : Option Lease) → OnOrderly (withdrawing k o (begin_work q))
      withdrawing_orderly None = tt
      withdrawing_orderly (Some g) = orderly_if g.tenure refusal.Tenure (Ok (notes (note.Withdrawn g.ticket) (retried k (withdraws g (begin_work q)))))
          (noted (note.Withdrawn g.ticket) (retried k (withdraws g (begin_work q))) (retried_orderly (withdraws g (begin_work q)) (fewer_fresh (λ (h : Lease). not (has_ticket g.ticket h)) (begin_work q) (withdraws g (begin_work q)) refl refl refl refl begins_fresh)))

      pub withdrawn_orderly : (t : Ticket) → OnOrderly (withdrawn k t (begin_work q))
      withdrawn_orderly t = withdrawing_orderly (lease_under q.live t)

      pub pruned_orderly : (s : Slot) → OnOrderly (pruned k s (begin_work q))
      pruned_orderly s = orderly_if (is_leased q s) refusal.SlotLeased _ (orderly_if (is_nil (q.line s)) refusal.NoSuchSlot _ (by (nat_lt q.last k.greatest)))
        where
          by : (b : Bool) → OnOrderly (if b then Ok (notes (note.Pruned (record { 0 = q.last + 1 })) (prunes k s (begin_work q))) else Err refusal.TicketsSpent)
          by true = record { sends = λ g i. absurd i; new = λ h i. inl (tops h i) }
          by false = tt

      pub retired_orderly : (n : NodeId) → ((p : Parked) → eqb p.node.0 n.0 ≡ true → D p) → OnOrderly (retired k n (begin_work q))
      retired_orderly n drops = orderly_if (q.gone n.0) refusal.NodeRetired _ (orderly_if (list_any (λ (g : Lease). is_at n g && g.tenure) q.live || is_home n q.old_home) refusal.TenureHeld _ (by (list_any (is_at n) q.live)))
        where
          gone_fresh : Fresh (goes n (begin_work q))
          gone_fresh = record {
            tops = λ h i. tops h (from_filter (λ (g : Lease). not (is_at n g)) h q.live i).0;
            last = refl;
            quiet = λ g i. absurd i;
            asks = λ x h a. passed_filter x (λ (p : Parked). not (eqb p.node.0 n.0)) q.parked h (λ p e. drops p (not-false (eqb p.node.0 n.0) e)) a;
          }

          by : (b : Bool) → Orderly (notes (note.Retired n) (if b then retried k (goes n (begin_work q)) else goes n (begin_work q)))
          by true = noted (note.Retired n) (retried k (goes n (begin_work q))) (retried_orderly (goes n (begin_work q)) gone_fresh)
          by false = noted (note.Retired n) (goes n (begin_work q)) (fresh_orderly (goes n (begin_work q)) gone_fresh)

      -- ---- nudges

      record Nudging (w : Work) : Type 0 where
        same : w.ledger ≡ q
        leased : SendsLeased w

      nudges_one : (h : Lease) (w : Work) → In h q.live → Nudging w → Nudging (nudges k h w)
      nudges_one h w i a = by (is_awaited w.ledger.parked h) refl
        where
          again : SendsLeased (says (told.Granted (grant_of k.empty w.ledger.line h)) w)
          again = again_leased h w (subst (λ (x : Ledger). In h x.live) (sym a.same) i) a.leased

          by : (b : Bool) → is_awaited w.ledger.parked h ≡ b → Nudging (nudges k h w)
          by false e = rw e (record { same = a.same; leased = again })
          by true e = rw e (record { same = a.same; leased = says_leased (told.Recall h.node h.life h.ticket) (says (told.Granted (grant_of k.empty w.ledger.line h)) w) (no_recall h.node h.life h.ticket) again })

      nudges_all : (hs : List Lease) (w : Work) → ((h : Lease) → In h hs → In h q.live) → Nudging w → Nudging (nudge_all k hs w)
      nudges_all [] w all a = a
      nudges_all (h ∷ hs) w all a = nudges_all hs (nudges k h w) (λ x i. all x (inr i)) (nudges_one h w (all h (inl refl)) a)

      pub nudged_orderly : Orderly (nudged k (begin_work q))
      nudged_orderly = (let a = nudges_all q.live (begin_work q) (λ h i. i) (record { same = refl; leased = λ g i. absurd i }) in
          noted note.Nudged (nudge_all k q.live (begin_work q)) (record { sends = a.leased; new = λ h i. inl (tops h (subst (λ (x : Ledger). In h x.live) a.same i)) }))

-- ---- the order in which asks wait

part_trans : {A : Type 0} {xs ys zs : List A} → HasPart xs ys → HasPart ys zs → HasPart xs zs
part_trans (Leaves x xs ys a) b = Leaves x xs _ (part_trans a b)
part_trans Ends_part Ends_part = Ends_part
part_trans (Keeps x xs ys a) (Keeps y us zs b) = Keeps x xs zs (part_trans a b)
part_trans (Keeps x xs ys a) (Leaves y us zs b) = Leaves x xs zs (part_trans a b)

-- where an ask that is new may be one of these
module _ (k : Limits) (q : Ledger) (B : Parked → Type 0) where
  abbrev Part : Work → Type 0
  Part w = HasPart q.parked w.ledger.parked

  abbrev pub Queue : Work → Type 0
  Queue w = Part w ⊎ ((stay : List Parked) × (p : Parked) × HasPart q.parked stay × (In p q.parked → ⊥) × (w.ledger.parked ≡ stay ++ p ∷ []) × B p × (w.note ≡ note.Parked))

  retried_part : (w : Work) → Part w → Part (retried k w)
  unfolding retried
  retried_part w a = part_trans a (waiting_part k w.ledger.parked w)

  decided_queue : (d : Decision) (p : Parked) (w : Work) → (In p q.parked → ⊥) → B p → Part w → Queue (decided k d p w)
  unfolding gives
  decided_queue Give p w new b a = inl a
  decided_queue (Deny why) p w new b a = inl a
  decided_queue Wait p w new b a = inr (w.ledger.parked, p, a, new, refl, b, refl)

  acquiring_queue : (o : Option Lease) (b : Bool) (p : Parked) (w : Work) → (b ≡ false → In p q.parked → ⊥) → B p → Part w → Queue (acquiring k o b p w)
  acquiring_queue (Some g) b p w new of a = inl a
  acquiring_queue None true p w new of a = inl a
  acquiring_queue None false p w new of a = decided_queue (decision k w.ledger p) p w (new refl) of a

  answered_part : (b : Bool) (n : NodeId) (l : Life) (t : Ticket) (news : List News) (w : Work) → Part w → Part (ledger.answered b n l t news w)
  answered_part true n l t news w a = a
  answered_part false n l t news w a = a

  committing_part : (b : Bool) (n : NodeId) (l : Life) (t : Ticket) (news : List News) (w : Work) → Part w → Part (committing k b n l t news w)
  committing_part true n l t news w a = retried_part (confirms n l t news (commits t news w)) a
  committing_part false n l t news w a = answered_part (not (is_nil news) && on_all w.ledger.line t news) n l t news w a

  released_part : (b : Bool) (t : Ticket) (o : Option Lease) (w : Work) → Part w → Part (released k b t o w)
  released_part b t None w a = a
  released_part false t (Some g) w a = a
  released_part true t (Some g) w a = retried_part (ends g w) a

  -- an ask of this node and life that isn't parked now was not parked before
  abbrev Newcomer : NodeId → Life → Work → Type 0
  Newcomer n l w = (p : Parked) → p.node ≡ n → p.life ≡ l → is_parked w.ledger.parked p.node p.life p.ask ≡ false → In p q.parked → ⊥

  answering_queue : (n : NodeId) (l : Life) (r : Request) (w : Work) → ((a : Ask) (wants : List Want) (tenure : Bool) → r ≡ Acquire a wants tenure → B (record { node = n; life = l; ask = a; wants = wants; tenure = tenure })) → Newcomer n l w → Part w → Queue (answering k n l r w)
  answering_queue n l Hello w of new a = inl a
  answering_queue n l (Acquire b wants tenure) w of new a =
      let p : Parked = record { node = n; life = l; ask = b; wants = wants; tenure = tenure } in
      acquiring_queue (lease_of w.ledger.live n l b) (is_parked w.ledger.parked n l b) p w (new p refl refl) (of b wants tenure refl) a
  answering_queue n l (Commit t news) w of new a = inl (committing_part (may_commit n l news (lease_under w.ledger.live t)) n l t news w a)
  answering_queue n l (Release t) w of new a = inl (released_part (may_release n l (lease_under w.ledger.live t)) t (lease_under w.ledger.live t) w a)

  newer_part : (n : NodeId) (l : Life) → Part (newer_life k n l (begin_work q))
  unfolding newer_life
  newer_part n l = elim (cases_Bool (list_any (is_older n l) q.live || is_home n q.old_home)) [
    | inl t ↦ rw t (retried_part (sees n l (begin_work q)) (part_filter (λ (p : Parked). not (is_older_ask n l p)) q.parked))
    | inr t ↦ rw t (part_filter (λ (p : Parked). not (is_older_ask n l p)) q.parked)
  ]

  lt_is : (a b : ℕ) → nat_lt a b ≡ true → a < b
  lt_is a b h = grind (arith, nat_tests)

  pub handled_queue : (known : (p : Parked) → In p q.parked → p.life.0 ≤ q.lives p.node.0) (y : ToCoord) → ((a : Ask) (wants : List Want) (tenure : Bool) → y.request ≡ Acquire a wants tenure → B (record { node = y.node; life = y.life; ask = a; wants = wants; tenure = tenure })) → Queue (handled k y (begin_work q))
  unfolding handled
  handled_queue known y of = elim (cases_Bool (q.gone y.node.0)) [
    | inl t ↦ rw t (inl (part_refl q.parked))
    | inr here ↦ rw here (elim (cases_Bool (nat_lt y.life.0 (q.lives y.node.0))) [
      | inl t ↦ rw t (inl (part_refl q.parked))
      | inr current ↦ rw current (elim (cases_Bool (nat_lt (q.lives y.node.0) y.life.0)) [
        | inl newer ↦ rw newer (answering_queue y.node y.life y.request (newer_life k y.node y.life (begin_work q)) of (λ p n l e i. never p n l (lt_is (q.lives y.node.0) y.life.0 newer) i) (newer_part y.node y.life))
        | inr same ↦ rw same (answering_queue y.node y.life y.request (begin_work q) of (λ p n l e i. not_here p e i) (part_refl q.parked))
      ])
    ])
  ]
    where
      never : (p : Parked) → p.node ≡ y.node → p.life ≡ y.life → q.lives y.node.0 < y.life.0 → In p q.parked → ⊥
      never p n l newer i =
          let le : p.life.0 ≤ q.lives p.node.0 = known p i in
          let a : p.life.0 ≡ y.life.0 = ap (λ (x : Life). x.0) l in
          let b : q.lives p.node.0 ≡ q.lives y.node.0 = ap (λ (x : NodeId). q.lives x.0) n in
          absurd (omega arith)

      not_here : (p : Parked) → is_parked q.parked p.node p.life p.ask ≡ false → In p q.parked → ⊥
      not_here p e i =
          let f = any_none (λ (r : Parked). (eqb r.node.0 p.node.0) && (eqb r.life.0 p.life.0) && (eqb r.ask.0 p.ask.0)) p q.parked e i in
          let a = eqb_same p.node.0 in
          let b = eqb_same p.life.0 in
          let c = eqb_same p.ask.0 in
          true_false ((eqb p.node.0 p.node.0) && (eqb p.life.0 p.life.0) && (eqb p.ask.0 p.ask.0)) (rw (a, b, c) refl) f

  abbrev pub OnQueue : Result Work CoordRefusal → Type 0
  OnQueue (Ok w) = Queue w
  OnQueue (Err e) = ⊤

  queue_if : (b : Bool) (e : CoordRefusal) (r : Result Work CoordRefusal) → OnQueue r → OnQueue (if b then Err e else r)
  queue_if true e r h = tt
  queue_if false e r h = h

  withdrawing_queue : (o : Option Lease) → OnQueue (withdrawing k o (begin_work q))
  withdrawing_queue None = tt
  withdrawing_queue (Some g) = queue_if g.tenure refusal.Tenure (Ok (notes (note.Withdrawn g.ticket) (retried k (withdraws g (begin_work q))))) (inl (retried_part (withdraws g (begin_work q)) (part_refl q.parked)))

  pub withdrawn_queue : (t : Ticket) → OnQueue (withdrawn k t (begin_work q))
  withdrawn_queue t = withdrawing_queue (lease_under q.live t)

  pub pruned_queue : (s : Slot) → OnQueue (pruned k s (begin_work q))
  pruned_queue s = queue_if (is_leased q s) refusal.SlotLeased _ (queue_if (is_nil (q.line s)) refusal.NoSuchSlot _ (by (nat_lt q.last k.greatest)))
    where
      by : (b : Bool) → OnQueue (if b then Ok (notes (note.Pruned (record { 0 = q.last + 1 })) (prunes k s (begin_work q))) else Err refusal.TicketsSpent)
      by true = inl (part_refl q.parked)
      by false = tt

  pub retired_queue : (n : NodeId) → OnQueue (retired k n (begin_work q))
  retired_queue n = queue_if (q.gone n.0) refusal.NodeRetired _ (queue_if (list_any (λ (g : Lease). is_at n g && g.tenure) q.live || is_home n q.old_home) refusal.TenureHeld _ (by (list_any (is_at n) q.live)))
    where
      gone_part : Part (goes n (begin_work q))
      gone_part = part_filter (λ (p : Parked). not (eqb p.node.0 n.0)) q.parked

      by : (b : Bool) → Queue (notes (note.Retired n) (if b then retried k (goes n (begin_work q)) else goes n (begin_work q)))
      by true = inl (retried_part (goes n (begin_work q)) gone_part)
      by false = inl gone_part

  nudge-parked : (hs : List Lease) (w : Work) → (nudge_all k hs w).ledger.parked ≡ w.ledger.parked
  nudge-parked [] w = refl
  nudge-parked (h ∷ hs) w = nudge-parked hs (nudges k h w) ∙ by (is_awaited w.ledger.parked h) refl
    where
      by : (b : Bool) → is_awaited w.ledger.parked h ≡ b → (nudges k h w).ledger.parked ≡ w.ledger.parked
      by true e = rw e refl
      by false e = rw e refl

  pub nudged_queue : Queue (nudged k (begin_work q))
  nudged_queue = inl (subst (HasPart q.parked) (sym (nudge-parked q.live (begin_work q))) (part_refl q.parked))

-- ---- of the machine

lt_true : (a b : ℕ) → a < b → nat_lt a b ≡ true
lt_true a b h = grind (arith, nat_tests)

-- work of an event on a ledger that agrees with the machine before it, and the machine after it
module _ (k : Limits) (pool : List Message) (m : Machine) (q : Ledger) (D : Parked → Type 0) (agrees : Agrees k.empty pool m q) (made : (g : Grant) → In (Granted g) m.made → g.ticket.0 ≤ m.last)
    (v : Machine) (w : Work) (sound : Sound k.empty v) (agrees' : Agrees k.empty pool v w.ledger) (granted : (g : Grant) → In (Granted g) v.made → In (Granted g) m.made ⊎ In (told.Granted g) w.sends) (o : Orderly k q D w) where
  leased_so : (g : Grant) → In (told.Granted g) w.sends → In (lease_from g) w.ledger.live
  leased_so g sent =
      let r = o.sends g sent in
      let back : lease_from (grant_of k.empty r.0 r.1) ≡ r.1 = lease-grant k.empty r.0 r.1 (live_kind k.empty v w.ledger r.1 (core_of k.empty pool v w.ledger agrees') r.2) in
      subst (λ z. In z w.ledger.live) (sym back ∙ ap lease_from r.3) r.2

  new_lease : (g : Grant) → In (told.Granted g) w.sends → m.last < g.ticket.0 → LowestIn w.ledger (lease_from g) × (NoneReady k q → Passed k q D w.ledger q.parked (lease_from g))
  new_lease g sent above = elim (o.new (lease_from g) (leased_so g sent)) [
    | inl le ↦ (let le' : g.ticket.0 ≤ q.last = le in let last : q.last ≡ m.last = agrees.last in absurd (omega arith))
    | inr r ↦ r
  ]

  pub lowest_so : (g : Grant) → In (told.Granted g) w.sends → m.last < g.ticket.0 → HasLowest v g
  lowest_so g sent above s i has private ge lt = taken_so (instance_of s.folder i) ((new_lease g sent above).0 s i (lease_has g s has) private ge lt)
    where
      taken_so : (s : Slot) → TakenIn w.ledger g.ticket.0 s → Retired v s ⊎ ((h : Grant) × Live v h × (h.ticket.0 < g.ticket.0) × Has h s)
      taken_so s (inl r) = inl (agrees'.retired_made s r)
      taken_so s (inr (h, i, lt, has)) = (let z = agrees'.live_made h i in
          inr (z.0, z.1, subst (λ (x : Lease). x.ticket.0 < g.ticket.0) (sym z.2) lt, has_lease z.0 s (subst (λ (x : Lease). has_slot x.slots s ≡ true) (sym z.2) has)))

  -- what has ended was not given in the event
  old_ended : (g : Grant) (y : Ending) → In (Granted g) v.made → v.ending g.ticket.0 ≡ Some y → g.ticket.0 ≤ q.last
  old_ended g y i e = elim (granted g i) [
    | inl old ↦ (let le : g.ticket.0 ≤ m.last = made g old in let last : q.last ≡ m.last = agrees.last in omega arith)
    | inr sent ↦ (let z = agrees'.live_made (lease_from g) (leased_so g sent) in
        let same : z.0 ≡ g = same_grant k.empty v sound z.0 g z.1.0 i (ap (λ (x : Lease). x.ticket.0) z.2) in
        none_some y (sym (subst (λ (x : Grant). v.ending x.ticket.0 ≡ None) same z.1.1) ∙ e))
  ]

  -- the ledger as it stood when the ticket was given
  abbrev was_then : Ticket → Ledger
  was_then t = record {
    live = filter (λ h. nat_lt h.ticket.0 t.0) w.ledger.live;
    retired = w.ledger.retired;
    gone = w.ledger.gone;
    line = λ s. line k.empty (before t v) s;
    last = t.0 - 1;
    ceiling = t.0 - 1;
    old_home = w.ledger.old_home;
    lives = w.ledger.lives;
    parked = [];
  }

  was_core : (t : Ticket) → q.last < t.0 → Core k.empty (before t v) (was_then t)
  was_core t new = record {
    live_made = λ h i. (let f = from_filter (λ (h : Lease). nat_lt h.ticket.0 t.0) h w.ledger.live i in let z = agrees'.live_made h f.0 in
        (z.0, (in_filter (λ x. nat_lt (ticket_of x) t.0) (Granted z.0) v.made z.1.0 (subst (λ (x : Lease). nat_lt x.ticket.0 t.0 ≡ true) (sym z.2) f.1), z.1.1), z.2));
    live_kept = λ g l. (let f = from_filter (λ x. nat_lt (ticket_of x) t.0) (Granted g) v.made l.0 in in_filter (λ (h : Lease). nat_lt h.ticket.0 t.0) (lease_from g) w.ledger.live (agrees'.live_kept g (f.0, l.1)) f.1);
    retired_made = λ s e. (let r = agrees'.retired_made s e in let g = r.1.0 in let le : g.ticket.0 ≤ q.last = old_ended g Withdrawn r.1.1 r.1.2 in
        (r.0, (g, in_filter (λ x. nat_lt (ticket_of x) t.0) (Granted g) v.made r.1.1 (lt_true g.ticket.0 t.0 (omega arith)), r.1.2, r.1.3)));
    retired_kept = λ s r. agrees'.retired_kept s (r.0, (r.1.0, (from_filter (λ x. nat_lt (ticket_of x) t.0) (Granted r.1.0) v.made r.1.1).0, r.1.2, r.1.3));
    lines = λ s. refl;
    last = refl;
    ceiling = omega arith;
    block = omega arith;
    seen = λ h i. agrees'.seen h (from_filter (λ (h : Lease). nat_lt h.ticket.0 t.0) h w.ledger.live i).0;
    old_home = agrees'.old_home;
    gone = agrees'.gone;
    lives = agrees'.lives;
  }

  was_fewer : (t : Ticket) (p : Parked) (n : NotReady k w.ledger p t.0) → Fewer n.was (was_then t)
  was_fewer t p n = record {
    home = n.more.home;
    leased = λ s e. (let r = from_any (λ (g : Lease). has_slot g.slots s) n.was.live e in
        any_in (λ (g : Lease). has_slot g.slots s) r.0 (was_then t).live (in_filter (λ (h : Lease). nat_lt h.ticket.0 t.0) r.0 w.ledger.live (n.more.live r.0 r.1) (lt_true r.0.ticket.0 t.0 (n.older r.0 r.1))) r.2);
    retired = λ s e. elim (cases_Bool (n.was.retired s)) [ inl on ↦ true_false (w.ledger.retired s) (n.more.retired s on) e | inr off ↦ off ];
    last = (let lt : n.was.last < t.0 = n.last in omega arith);
  }

  settled_so : (g : Grant) (p : Parked) → q.last < g.ticket.0 → Settled k w.ledger p g.ticket.0 → WasFirst v p g.ticket ⊎ (CouldBeGranted k (before g.ticket v) p → ⊥)
  settled_so g p new (inl (h, i, of, lt)) = (let z = agrees'.live_made h i in let names = names_are h.node p.node h.life p.life h.ask p.ask of in
      inl (z.0, z.1, (ap (λ (x : Lease). x.node) z.2 ∙ names.0, ap (λ (x : Lease). x.life) z.2 ∙ names.1, ap (λ (x : Lease). x.ask) z.2 ∙ names.2), subst (λ (x : Lease). x.ticket.0 < g.ticket.0) (sym z.2) lt))
  settled_so g p new (inr n) = inr (λ could. n.waits (less_ready k n.was (was_then g.ticket) p (was_fewer g.ticket p n) (could_give k (before g.ticket v) (was_then g.ticket) (was_core g.ticket new) p could)))

  passed_at : (early late : List Parked) (p : Parked) (h : Lease) → Passed k q D w.ledger (early ++ p ∷ late) h → ((r : Parked) → In r (early ++ p ∷ []) → is_of r.node r.life r.ask h ≡ true → ⊥) → D p ⊎ Settled k w.ledger p h.ticket.0
  passed_at [] late p h (inl e) other = absurd (other p (inl refl) e)
  passed_at [] late p h (inr s) other = s.0
  passed_at (r ∷ early) late p h (inl e) other = absurd (other r (inl refl) e)
  passed_at (r ∷ early) late p h (inr s) other = passed_at early late p h s.1 (λ z i. other z (inr i))

  pub oldest_so : (g : Grant) → In (told.Granted g) w.sends → m.last < g.ticket.0 → PassesOverNone k D m v g
  oldest_so g sent above ready early late p is others =
      let none : NoneReady k q = λ r i e. ready r (subst (In r) agrees.parked i) (give_could k m q (core_of k.empty pool m q agrees) r e) in
      let all : Passed k q D w.ledger (early ++ p ∷ late) (lease_from g) = subst (λ ps. Passed k q D w.ledger ps (lease_from g)) (agrees.parked ∙ is) ((new_lease g sent above).1 none) in
      let last : q.last ≡ m.last = agrees.last in
      elim (passed_at early late p (lease_from g) all (λ r i e. others r i (names_are g.node r.node g.life r.life g.ask r.ask e))) [ inl drops ↦ inl drops | inr s ↦ inr (settled_so g p (omega arith) s) ]
