-- How an ask is decided on, by the machine's free slots.
use Rattle.std.proofs.Common.{◌≡◌, ◌≢◌, ℕ, zero, suc, ◌+◌, ◌<◌, ◌≤◌, ◌⊎◌, List, Bool, true, false, not, ◌&&◌, eqb, Option, Some, None, refl, sym, ◌∙◌, ap, subst, inl, inr, arith}
use Rattle.std.proofs.lemmas.Bool.{ne_eqb, cases_Bool, cases_eq, and_parts, not-true, not-false, eqb-true}
use Rattle.std.proofs.lemmas.Bool.Decides.{nat_tests}
use Rattle.std.specs.Prelude.{nat_lt}
use Rattle.protocol.specs.Lists.{In}
use Rattle.protocol.specs.Names.{Mode, Shared, Private, Locked, Slot, is_private, is_shared, only_slot, wants_shared, leased_wants, NodeId, Life, Ask, Want, FolderName}
use Rattle.protocol.specs.Machine.{Parked, Machine, Leased, Retired, Free}
use Rattle.farm_base.specs.declared.message.Why.TheVariants as why
use Rattle.protocol.specs.Ledger.{Limits, Ledger, Lease, has_slot, some_lease, is_leased, is_free, lowest, all_taken, busy, pick, another, elsewhere, Give, Deny, Wait, decision}
use Rattle.protocol.specs.Follows.{lease_from}
use Rattle.protocol.specs.Meaning.{takes_slot, instance_of, HasFreeSlot, AllTaken, IsElsewhere, AreFree, CouldBeGranted, IsHeldUp}
use Rattle.protocol.proofs.Base.{node_is, life_is, ask_is, true_false, none_some, some_is, eqb_same, any_in, from_any, in_filter, from_filter, any_none, both_true}
use Rattle.protocol.proofs.Leases.{Core, has_lease, lease_has, lowest-free, lowest-taken, lowest_is, free_is}
use Rattle.protocol.proofs.Following.{pick_give}
use Rattle.protocol.specs.Rules.{WaitsForSlot}
use Rattle.protocol.proofs.Parking.{picks, HeldUp}

-- an ask of these three names
pub names_are : (n n' : NodeId) (l l' : Life) (a a' : Ask) → ((eqb n.0 n'.0) && (eqb l.0 l'.0) && (eqb a.0 a'.0)) ≡ true → (n ≡ n') × (l ≡ l') × (a ≡ a')
names_are n n' l l' a a' e =
    let b = and_parts ((eqb n.0 n'.0) && (eqb l.0 l'.0)) (eqb a.0 a'.0) e in
    let c = and_parts (eqb n.0 n'.0) (eqb l.0 l'.0) b.0 in
    (node_is n n' (eqb-true n.0 n'.0 c.0), life_is l l' (eqb-true l.0 l'.0 c.1), ask_is a a' (eqb-true a.0 a'.0 b.1))

-- ---- modes

pub private_mode : (m : Mode) → is_private m ≡ true → m ≡ Private
private_mode Shared h = (let bad : false ≡ true = h in cc)
private_mode Private h = refl
private_mode Locked h = (let bad : false ≡ true = h in cc)

pub shared_mode : (m : Mode) → is_shared m ≡ true → m ≡ Shared
shared_mode Shared h = refl
shared_mode Private h = (let bad : false ≡ true = h in cc)
shared_mode Locked h = (let bad : false ≡ true = h in cc)

private_is : (m : Mode) → is_private m ≡ false → m ≢ Private
private_is m h e = true_false (is_private m) (ap is_private e) h

takes_shared : (m : Mode) → takes_slot true m ≡ is_shared m
takes_shared Shared = refl
takes_shared Private = refl
takes_shared Locked = refl

takes_other : (m : Mode) → takes_slot false m ≡ not (is_shared m)
takes_other Shared = refl
takes_other Private = refl
takes_other Locked = refl

pub leased_in : (tenure : Bool) (w : Want) (wants : List Want) → In w wants → takes_slot tenure w.folder.mode ≡ true → In w (leased_wants tenure wants)
leased_in true w wants i t = in_filter wants_shared w wants i (sym (takes_shared w.folder.mode) ∙ t)
leased_in false w wants i t = in_filter (λ v. not (wants_shared v)) w wants i (sym (takes_other w.folder.mode) ∙ t)

pub leased_from : (tenure : Bool) (w : Want) (wants : List Want) → In w (leased_wants tenure wants) → In w wants × (takes_slot tenure w.folder.mode ≡ true)
leased_from true w wants i = (let r = from_filter wants_shared w wants i in (r.0, takes_shared w.folder.mode ∙ r.1))
leased_from false w wants i = (let r = from_filter (λ v. not (wants_shared v)) w wants i in (r.0, takes_other w.folder.mode ∙ r.1))

takes_private : (tenure : Bool) → takes_slot tenure Private ≡ true → tenure ≡ false
takes_private true h = (let bad : false ≡ true = h in cc)
takes_private false h = refl

-- ---- instances

-- where none is the lowest free one, none of the k from i on is free
pub none_free : (free : Slot → Bool) (f : FolderName) (k i j : ℕ) → 1 ≤ i → lowest free f i k ≡ 0 → i ≤ j → j < i + k → free (record { folder = f; instance = j }) ≡ false
none_free free f zero i j one e le lt = absurd (omega arith)
none_free free f (suc k) i j one e le lt = elim (cases_Bool (free (record { folder = f; instance = i }))) [
  | inl t ↦ (let is : lowest free f i (suc k) ≡ i = lowest-free free f i k t in absurd (omega arith))
  | inr n ↦ (let is : lowest free f i (suc k) ≡ lowest free f (i + 1) k = lowest-taken free f i k n in
      elim (cases_eq j i) [
        | inl same ↦ subst (λ (z : ℕ). free (record { folder = f; instance = z }) ≡ false) (sym same) n
        | inr ne ↦ none_free free f k (i + 1) j (omega arith) (sym is ∙ e) (omega arith) (omega arith)
      ])
]

module _ (k : Limits) (m : Machine) (q : Ledger) (core : Core k.empty m q) where
  -- ---- slots

  leased_is : (s : Slot) → some_lease q.live s ≡ true → Leased m s
  leased_is s t =
      let r = from_any (λ (g : Lease). has_slot g.slots s) q.live t in
      let g = core.live_made r.0 r.1 in
      (g.0, g.1, has_lease g.0 s (subst (λ (z : Lease). has_slot z.slots s ≡ true) (sym g.2) r.2))

  pub leased_to : (s : Slot) → Leased m s → some_lease q.live s ≡ true
  leased_to s l = any_in (λ (g : Lease). has_slot g.slots s) (lease_from l.0) q.live (core.live_kept l.0 l.1) (lease_has l.0 s l.2)

  pub taken_is : (s : Slot) → is_free q s ≡ false → Leased m s ⊎ Retired m s
  taken_is s e = elim (cases_Bool (some_lease q.live s)) [
    | inl t ↦ inl (leased_is s t)
    | inr f ↦ inr (core.retired_made s (not-false (q.retired s) (rw f at e)))
  ]

  free_to : (s : Slot) → Free m s → is_free q s ≡ true
  free_to s free = elim (cases_Bool (is_free q s)) [
    | inl t ↦ t
    | inr f ↦ elim (taken_is s f) [ inl l ↦ absurd (free.0 l) | inr r ↦ absurd (free.1 r) ]
  ]

  -- ---- decisions

  below_greatest : (a b : ℕ) → a < b → not (nat_lt a b) ≡ false
  below_greatest a b h = grind (arith, nat_tests)

  here_is : (p : Parked) → (IsElsewhere m p → ⊥) → elsewhere q p ≡ false
  here_is p here = by p.tenure refl q.old_home refl
    where
      by : (t : Bool) → p.tenure ≡ t → (o : Option NodeId) → q.old_home ≡ o → (t && another o p.node) ≡ false
      by false e o at = refl
      by true e None at = refl
      by true e (Some h) at = elim (cases_Bool (eqb h.0 p.node.0)) [
        | inl same ↦ rw same refl
        | inr ne ↦ absurd (here (e, (h, sym core.old_home ∙ at, λ same. true_false (eqb h.0 p.node.0) (subst (λ z. eqb h.0 z ≡ true) same (eqb_same h.0)) ne)))
      ]

  -- a want that has a free slot isn't one of a PRIVATE folder whose instances are all taken
  has_left : (f : FolderName) → HasFreeSlot k.instances m f Private → eqb (lowest (is_free q) f 1 k.instances) 0 ≡ false
  has_left f (i, low, high, free) = elim (cases_Bool (eqb (lowest (is_free q) f 1 k.instances) 0)) [
    | inr n ↦ n
    | inl t ↦ true_false (is_free q (instance_of f i)) (free_to (instance_of f i) free) (none_free (is_free q) f k.instances 1 i (omega arith) (eqb-true (lowest (is_free q) f 1 k.instances) 0 t) low (omega arith))
  ]

  none_taken : (wants : List Want) → ((w : Want) → In w wants → w.folder.mode ≡ Private → HasFreeSlot k.instances m w.folder Private) → all_taken k.instances (is_free q) wants ≡ false
  none_taken wants all = elim (cases_Bool (all_taken k.instances (is_free q) wants)) [
    | inr n ↦ n
    | inl t ↦ (let r = from_any (λ (w : Want). is_private w.folder.mode && eqb (lowest (is_free q) w.folder 1 k.instances) 0) wants t in
        let b = and_parts (is_private r.0.folder.mode) (eqb (lowest (is_free q) r.0.folder 1 k.instances) 0) r.2 in
        true_false (eqb (lowest (is_free q) r.0.folder 1 k.instances) 0) b.1 (has_left r.0.folder (all r.0 r.1 (private_mode r.0.folder.mode b.0))))
  ]

  other_free : (f : FolderName) (mode : Mode) → is_private mode ≡ false → HasFreeSlot k.instances m f mode → Leased m (only_slot f) → ⊥
  other_free f Shared h free = free
  other_free f Private h free = (let bad : true ≡ false = h in cc)
  other_free f Locked h free = free

  none_busy : (wants : List Want) → ((w : Want) → In w wants → HasFreeSlot k.instances m w.folder w.folder.mode) → busy (is_leased q) wants ≡ false
  none_busy wants all = elim (cases_Bool (busy (is_leased q) wants)) [
    | inr n ↦ n
    | inl t ↦ (let r = from_any (λ (w : Want). not (is_private w.folder.mode) && is_leased q (only_slot w.folder)) wants t in
        let b = and_parts (not (is_private r.0.folder.mode)) (is_leased q (only_slot r.0.folder)) r.2 in
        absurd (other_free r.0.folder r.0.folder.mode (not-true (is_private r.0.folder.mode) b.0) (all r.0 r.1) (leased_is (only_slot r.0.folder) b.1)))
  ]

  -- what could be granted is
  pub could_give : (p : Parked) → CouldBeGranted k m p → decision k q p ≡ Give
  unfolding decision
  could_give p could =
      let ws : List Want = leased_wants p.tenure p.wants in
      let all : (w : Want) → In w ws → HasFreeSlot k.instances m w.folder w.folder.mode = λ w i. (let r = leased_from p.tenure w p.wants i in could.free w r.0 r.1) in
      let ticket : m.last < k.greatest = could.ticket in
      let last : q.last ≡ m.last = core.last in
      picks (elsewhere q p) (all_taken k.instances (is_free q) ws) (busy (is_leased q) ws) (not (nat_lt q.last k.greatest))
      (here_is p could.here)
      (none_taken ws (λ w i private. subst (HasFreeSlot k.instances m w.folder) private (all w i)))
      (none_busy ws all)
      (below_greatest q.last k.greatest (omega arith))

  -- where another node is the old home
  elsewhere_is : (p : Parked) → IsElsewhere m p → elsewhere q p ≡ true
  elsewhere_is p (tenure, (h, at, ne)) = by p.tenure tenure q.old_home (core.old_home ∙ at)
    where
      by : (t : Bool) → t ≡ true → (o : Option NodeId) → o ≡ Some h → (t && another o p.node) ≡ true
      by false e o at = (let bad : false ≡ true = e in cc)
      by true e None at = none_some h at
      by true e (Some x) at = (let same : eqb x.0 p.node.0 ≡ false = subst (λ (z : NodeId). eqb z.0 p.node.0 ≡ false) (sym (some_is x h at)) (ne_eqb h.0 p.node.0 ne) in rw same refl)

  pub elsewhere_waits : (p : Parked) → IsElsewhere m p → decision k q p ≡ Wait
  unfolding decision
  elsewhere_waits p away = (let e = elsewhere_is p away in rw e refl)

  -- a want of an ask that is granted has a free slot
  slot_left : (f : FolderName) (mode : Mode) → (is_private mode && eqb (lowest (is_free q) f 1 k.instances) 0) ≡ false → (not (is_private mode) && is_leased q (only_slot f)) ≡ false → HasFreeSlot k.instances m f mode
  slot_left f Shared left idle = λ l. true_false (some_lease q.live (only_slot f)) (leased_to (only_slot f) l) idle
  slot_left f Locked left idle = λ l. true_false (some_lease q.live (only_slot f)) (leased_to (only_slot f) l) idle
  slot_left f Private left idle =
      let low = lowest_is (is_free q) f k.instances 1 (λ z. true_false (eqb (lowest (is_free q) f 1 k.instances) 0) (subst (λ n. eqb n 0 ≡ true) (sym z) refl) left) in
      let high : lowest (is_free q) f 1 k.instances < 1 + k.instances = low.2 in
      (lowest (is_free q) f 1 k.instances, low.1, omega arith, free_is k.empty m q (instance_of f (lowest (is_free q) f 1 k.instances)) core low.0)

  -- what is granted could be
  pub give_could : (p : Parked) → decision k q p ≡ Give → CouldBeGranted k m p
  unfolding decision
  give_could p e =
      let ws : List Want = leased_wants p.tenure p.wants in
      let all = pick_give (elsewhere q p) (all_taken k.instances (is_free q) ws) (busy (is_leased q) ws) (not (nat_lt q.last k.greatest)) e in
      let last : q.last ≡ m.last = core.last in
      record {
        here = λ away. true_false (elsewhere q p) (elsewhere_is p away) all.here;
        free = λ w i takes. (let j = leased_in p.tenure w p.wants i takes in
            slot_left w.folder w.folder.mode (any_none (λ (v : Want). is_private v.folder.mode && eqb (lowest (is_free q) v.folder 1 k.instances) 0) w ws all.left j) (any_none (λ (v : Want). not (is_private v.folder.mode) && is_leased q (only_slot v.folder)) w ws all.idle j));
        ticket = (let below : q.last < k.greatest = left_of q.last k.greatest all.below in omega arith);
      }
    where
      left_of : (a b : ℕ) → not (nat_lt a b) ≡ false → a < b
      left_of a b h = grind (arith, nat_tests)

  not_free : (s : Slot) → Leased m s ⊎ Retired m s → is_free q s ≡ false
  not_free s (inl l) = (let t = leased_to s l in rw t refl)
  not_free s (inr r) = (let t : q.retired s ≡ true = core.retired_kept s r in taken (some_lease q.live s) (q.retired s) t)
    where
      taken : (a b : Bool) → b ≡ true → (not a && not b) ≡ false
      taken true b e = refl
      taken false b e = rw e refl

  -- a folder whose instances are all taken has no lowest free one
  none_lowest : (f : FolderName) → AllTaken k.instances m f → eqb (lowest (is_free q) f 1 k.instances) 0 ≡ true
  none_lowest f all = elim (cases_eq (lowest (is_free q) f 1 k.instances) 0) [
    | inl z ↦ subst (λ n. eqb n 0 ≡ true) (sym z) refl
    | inr ne ↦ (let low = lowest_is (is_free q) f k.instances 1 ne in
        let i : ℕ = lowest (is_free q) f 1 k.instances in
        let hi : i < 1 + k.instances = low.2 in
        true_false (is_free q (instance_of f i)) low.0 (not_free (instance_of f i) (all i low.1 (omega arith))))
  ]

  deny_picks : (a b c d : Bool) → a ≡ false → b ≡ true → pick a b c d ≡ Deny why.InstancesSpent
  deny_picks a b c d e f = rw (e, f) refl

  no_tenure : (t : Bool) (o : Option NodeId) (n : NodeId) → t ≡ false → (t && another o n) ≡ false
  no_tenure t o n e = rw e refl

  pub spent_denies : (p : Parked) (w : Want) → p.tenure ≡ false → In w p.wants → w.folder.mode ≡ Private → AllTaken k.instances m w.folder → decision k q p ≡ Deny why.InstancesSpent
  unfolding decision
  spent_denies p w tenure i private all =
      let ws : List Want = leased_wants p.tenure p.wants in
      let takes : takes_slot p.tenure w.folder.mode ≡ true = subst (λ t. takes_slot t w.folder.mode ≡ true) (sym tenure) (ap (takes_slot false) private) in
      let is : is_private w.folder.mode ≡ true = ap is_private private in
      let none = none_lowest w.folder all in
      deny_picks (elsewhere q p) (all_taken k.instances (is_free q) ws) (busy (is_leased q) ws) (not (nat_lt q.last k.greatest))
      (no_tenure p.tenure q.old_home p.node tenure)
      (any_in (λ (v : Want). is_private v.folder.mode && eqb (lowest (is_free q) v.folder 1 k.instances) 0) w ws (leased_in p.tenure w p.wants i takes) (both_true (is_private w.folder.mode) (eqb (lowest (is_free q) w.folder 1 k.instances) 0) is none))

  ticket_picks : (a b c d : Bool) → a ≡ false → b ≡ false → c ≡ false → d ≡ true → pick a b c d ≡ Deny why.TicketsSpent
  ticket_picks a b c d e f g h = rw (e, f, g, h) refl

  above_greatest : (a b : ℕ) → b ≤ a → not (nat_lt a b) ≡ true
  above_greatest a b h = grind (arith, nat_tests)

  pub tickets_deny : (p : Parked) → (IsElsewhere m p → ⊥) → AreFree k m p → k.greatest ≤ m.last → decision k q p ≡ Deny why.TicketsSpent
  unfolding decision
  tickets_deny p here free spent =
      let ws : List Want = leased_wants p.tenure p.wants in
      let all : (w : Want) → In w ws → HasFreeSlot k.instances m w.folder w.folder.mode = λ w i. (let r = leased_from p.tenure w p.wants i in free w r.0 r.1) in
      let last : q.last ≡ m.last = core.last in
      ticket_picks (elsewhere q p) (all_taken k.instances (is_free q) ws) (busy (is_leased q) ws) (not (nat_lt q.last k.greatest))
      (here_is p here)
      (none_taken ws (λ w i private. subst (HasFreeSlot k.instances m w.folder) private (all w i)))
      (none_busy ws all)
      (above_greatest q.last k.greatest (omega arith))

  wait_picks : (a b c d : Bool) → b ≡ false → c ≡ true → pick a b c d ≡ Wait
  wait_picks true b c d e f = refl
  wait_picks false b c d e f = rw (e, f) refl

  -- what is held up waits
  pub held_waits : (p : Parked) → IsHeldUp k m p → decision k q p ≡ Wait
  unfolding decision
  held_waits p held =
      let ws : List Want = leased_wants p.tenure p.wants in
      let l = held.leased in
      let i : In l.0 ws = leased_in p.tenure l.0 p.wants l.1 l.2 in
      let other : is_private l.0.folder.mode ≡ false = elim (cases_Bool (is_private l.0.folder.mode)) [ inr n ↦ n | inl t ↦ absurd (l.3 (private_mode l.0.folder.mode t)) ] in
      let on : is_leased q (only_slot l.0.folder) ≡ true = leased_to (only_slot l.0.folder) l.4 in
      wait_picks (elsewhere q p) (all_taken k.instances (is_free q) ws) (busy (is_leased q) ws) (not (nat_lt q.last k.greatest))
      (none_taken ws (λ w i private. held.free w (leased_from p.tenure w p.wants i).0 private))
      (any_in (λ (w : Want). not (is_private w.folder.mode) && is_leased q (only_slot w.folder)) l.0 ws i (rw (other, on) refl))

  away_from : (p : Parked) → elsewhere q p ≡ true → IsElsewhere m p
  away_from p t = by q.old_home refl (and_parts p.tenure (another q.old_home p.node) t)
    where
      by : (o : Option NodeId) → q.old_home ≡ o → (p.tenure ≡ true) × (another o p.node ≡ true) → IsElsewhere m p
      by None e (tenure, other) = (let bad : false ≡ true = other in cc)
      by (Some h) e (tenure, other) = (tenure, (h, sym core.old_home ∙ e, λ same. true_false (eqb h.0 p.node.0) (subst (λ z. eqb h.0 z ≡ true) same (eqb_same h.0)) (not-true (eqb h.0 p.node.0) other)))

  -- a parked ask waits for the old home or for a slot
  pub held_up : (p : Parked) → HeldUp q p → IsElsewhere m p ⊎ WaitsForSlot m p
  held_up p h = elim (cases_Bool (elsewhere q p)) [
    | inl t ↦ inl (away_from p t)
    | inr n ↦ (let r = from_any (λ (w : Want). not (is_private w.folder.mode) && is_leased q (only_slot w.folder)) (leased_wants p.tenure p.wants) (rw n at h) in
        let b = and_parts (not (is_private r.0.folder.mode)) (is_leased q (only_slot r.0.folder)) r.2 in
        let w = leased_from p.tenure r.0 p.wants r.1 in
        inr (r.0, w.0, w.1, private_is r.0.folder.mode (not-true (is_private r.0.folder.mode) b.0), leased_is (only_slot r.0.folder) b.1))
  ]
