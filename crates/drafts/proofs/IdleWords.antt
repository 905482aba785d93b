-- Parked asks that need no look.
use Rattle.std.proofs.Common.{◌≡◌, ℕ, zero, suc, ◌<◌, ◌≤◌, ◌+◌, ◌-◌, List, [], ◌∷◌, ◌++◌, Bool, true, false, not, ◌&&◌, ◌||◌, eqb, cond, filter, get_or, length, drop, refl, sym, ◌∙◌, ap, subst, inl, inr, arith}
use Rattle.std.proofs.lemmas.Bool.{cases_Bool, and_parts, eqb-true, ne_eqb}
use Rattle.std.proofs.lemmas.List.Folds.{list_any-append}
use Rattle.std.proofs.lemmas.List.Elements.{All-head, All-tail}
use Rattle.std.specs.Prelude.{All, AllPairs, nat_lt}
use Rattle.std.specs.List.{list_any, flat_map}
use Rattle.protocol.specs.Lists.{In}
use Rattle.protocol.specs.Names.{Slot, slot_eq, is_private, only_slot, FolderName, Ticket, Want, leased_wants, wants_shared}
use Rattle.protocol.specs.Machine.{Parked}
use Rattle.protocol.specs.Ledger.{Limits, Ledger, Lease, Work, pick, elsewhere, another, all_taken, busy, lowest, is_free, is_leased, some_lease, has_slot, has_ticket, lease_under, without, decision, tried, stays, try_all, waiting}
use Rattle.events.specs.declared.answer.Decision.TheVariants.{Wait}
use Rattle.holdings.specs.Endings.{ends_lease}
use Rattle.leases.specs.Changes.{slots_ended}
use Rattle.holdings.specs.Leases.{IsBefore}
use Rattle.holdings.specs.declared.ending.Ending.{Ending}
use Rattle.holdings.proofs.LeaseLemmas.{AllPairs-head, AllPairs-tail}
use Rattle.protocol.proofs.Base.{true_false, any_in, from_any, from_filter, slot_eq_is}
use Rattle.drafts.specs.Idle.{slots_under, is_open, IsIdle, AreIdle}
use Rattle.effects.specs.Sound.{is_held_up, AreHeldUp}
use Rattle.parked.specs.Noted.{is_noted, WantsNoneOf, WantsNone}
use Rattle.effects.specs.Spent.{is_private_spent, IsNoted}
use Rattle.names.specs.declared.limits.TheConstants.{INSTANCES}
use Rattle.protocol.specs.Farm.{farm_limits}
use Rattle.names.specs.Folders.{folder_eq}
use Rattle.names.proofs.CompareLaws.{folder_eq-itself}
use Rattle.holdings.proofs.PlaceLemmas.{drop-item}
use Rattle.parked.specs.Over.{Begins, still_at}
use Rattle.parked.proofs.WaitingWords.{begins-before, stays-first}
use Rattle.drafts.proofs.HeldUp.{LeasesMore, tried-more, any_more, either_more}
use Rattle.drafts.proofs.StateWords.{decision-is}
use Rattle.drafts.proofs.Trying.{tried-is, stays-is}

picks_wait : (a b c d : Bool) → b ≡ false → (a || c) ≡ true → pick a b c d ≡ Wait
picks_wait true b c d e h = refl
picks_wait false true c d e h = (let bad : true ≡ false = e in absurd (cc bad))
picks_wait false false true d e h = refl
picks_wait false false false d e h = (let bad : false ≡ true = h in absurd (cc bad))

-- ---- trying others

idle-fewer : (freed : List (Slot × Bool)) (q q' : Ledger) (p : Parked) → LeasesMore q q' → IsIdle freed q p → IsIdle freed q' p
idle-fewer freed q q' p more idle =
    let wants : List Want = leased_wants p.tenure p.wants in
    subst (λ o. ((p.tenure && another o p.node) || busy (λ s. is_leased q' s || has_slot freed s) wants) ≡ true) (sym more.home)
    (either_more (elsewhere q p) (busy (λ s. is_leased q s || has_slot freed s) wants) (busy (λ s. is_leased q' s || has_slot freed s) wants) idle
    (any_more (λ (w : Want). not (is_private w.folder.mode) && (is_leased q (only_slot w.folder) || has_slot freed (only_slot w.folder))) (λ (w : Want). not (is_private w.folder.mode) && (is_leased q' (only_slot w.folder) || has_slot freed (only_slot w.folder))) wants
    (λ w i t. (let b = and_parts (not (is_private w.folder.mode)) (is_leased q (only_slot w.folder) || has_slot freed (only_slot w.folder)) t in
    let other = b.0 in
    elim (cases_Bool (is_leased q (only_slot w.folder))) [
      | inl on ↦ (let now = more.leased (only_slot w.folder) on in rw (other, now) refl)
      | inr off ↦ (let has : has_slot freed (only_slot w.folder) ≡ true = rw off at b.1 in elim (cases_Bool (is_leased q' (only_slot w.folder))) [ inl now ↦ rw (other, now) refl | inr not_now ↦ rw (other, not_now) has ])
    ]))))

-- idle asks are still idle when another was tried
idle-next : (k : Limits) (freed : List (Slot × Bool)) (p : Parked) (w w' : Work) (ps : List Parked) → w' ≡ tried k p w → AreIdle freed w.ledger ps → AreIdle freed w'.ledger ps
idle-next k freed p w w' ps e idle = subst (λ (x : Work). AreIdle freed x.ledger ps) (sym e) (λ q i. idle-fewer freed w.ledger (tried k p w).ledger q (tried-more k p w) (idle q i))

-- the same, unless it was over
pub idle-unless : (k : Limits) (freed : List (Slot × Bool)) (p : Parked) (b : Bool) (w w' : Work) (ps : List Parked) → w' ≡ cond b w (tried k p w) → AreIdle freed w.ledger ps → AreIdle freed w'.ledger ps
idle-unless k freed p true w w' ps e idle = subst (λ (x : Work). AreIdle freed x.ledger ps) (sym e) idle
idle-unless k freed p false w w' ps e idle = idle-next k freed p w w' ps e idle

-- ---- asks that wait change nothing

-- asks that wait, of which none is at these places, are passed over from one place to another
pub record Passes (k : Limits) (asks : List Parked) (over : List ℕ) (w : Work) (from to : ℕ) : Type 0 where
  pub work : try_all k (still_at from over (drop from asks)) w ≡ try_all k (still_at to over (drop to asks)) w
  pub stay : (os : List ℕ) → Begins to os → still_at to os (drop to asks) ≡ waiting k (still_at to over (drop to asks)) w → still_at from os (drop from asks) ≡ waiting k (still_at from over (drop from asks)) w

passes : (k : Limits) (asks : List Parked) (over : List ℕ) (w : Work) (from n : ℕ) (d : Parked) → from + n ≤ length asks → Begins (from + n) over
    → ((j : ℕ) → from ≤ j → j < from + n → decision k w.ledger (get_or asks j d) ≡ Wait) → Passes k asks over w from (from + n)
passes k asks over w from zero d inside begins waits = (let same : from + 0 ≡ from = omega arith in subst (Passes k asks over w from) (sym same) (record { work = refl; stay = λ os b h. h }))
passes k asks over w from (suc n) d inside begins waits =
    let p : Parked = get_or asks from d in
    let first : drop from asks ≡ p ∷ drop (from + 1) asks = drop-item asks from d (omega arith) in
    let here : decision k w.ledger p ≡ Wait = waits from (omega arith) (omega arith) in
    let same : tried k p w ≡ w = tried-is k p w Wait here in
    let stay : stays k p w ≡ true = stays-is k p w Wait here in
    let to : from + 1 + n ≡ from + suc n = omega arith in
    let left : List Parked = still_at (from + 1) over (drop (from + 1) asks) in
    let split : still_at from over (drop from asks) ≡ p ∷ left =
    ap (still_at from over) first ∙ stays-first from over p (drop (from + 1) asks) (begins-before (from + 1) (from + suc n) over (omega arith) begins) in
    let rest : Passes k asks over w (from + 1) (from + suc n) =
    subst (Passes k asks over w (from + 1)) to (passes k asks over w (from + 1) n d (omega arith) (subst (λ m. Begins m over) (sym to) begins) (λ j low high. waits j (omega arith) (omega arith))) in
    record {
      work = ap (λ (ps : List Parked). try_all k ps w) split ∙ ap (try_all k left) same ∙ rest.work;
      stay = λ os b h.
          ap (still_at from os) first
          ∙ stays-first from os p (drop (from + 1) asks) (begins-before (from + 1) (from + suc n) os (omega arith) b)
          ∙ ap (λ (qs : List Parked). p ∷ qs) (rest.stay os b h)
          ∙ sym (ap (λ (qs : List Parked). waiting k qs w) split
          ∙ ap (λ (b : Bool). cond b (p ∷ waiting k left (tried k p w)) (waiting k left (tried k p w))) stay
          ∙ ap (λ (x : Work). p ∷ waiting k left x) same);
    }

-- so are all those that wait
pub waited-passes : (k : Limits) (asks : List Parked) (over : List ℕ) (w : Work) (from to : ℕ) (d : Parked) → from ≤ to → to ≤ length asks → Begins to over
    → ((j : ℕ) → from ≤ j → j < to → decision k w.ledger (get_or asks j d) ≡ Wait) → Passes k asks over w from to
waited-passes k asks over w from to d le inside begins waits =
    let same : from + (to - from) ≡ to = omega arith in
    subst (Passes k asks over w from) same (passes k asks over w from (to - from) d (omega arith) (subst (λ m. Begins m over) (sym same) begins) (λ j low high. waits j low (omega arith)))

-- ---- a lease ends

-- leases of greater tickets stay
others_stay : (t : Ticket) (n : ℕ) (live : List Lease) → t.0 ≡ n → All (λ h. n < h.ticket.0) live → without t live ≡ live
others_stay t n [] e above = refl
others_stay t n (x ∷ live) e above =
    let more : n < x.ticket.0 = All-head (λ h. n < h.ticket.0) x live above in
    let other : eqb x.ticket.0 t.0 ≡ false = ne_eqb x.ticket.0 t.0 (λ same. omega arith) in
    rw other (ap (λ (gs : List Lease). x ∷ gs) (others_stay t n live e (All-tail (λ h. n < h.ticket.0) x live above)))

-- what was leased is leased, or is free since
still_leased : (t : Ticket) (live : List Lease) (s : Slot) → AllPairs IsBefore live → some_lease live s ≡ true → (some_lease (without t live) s || has_slot (slots_under (lease_under live t)) s) ≡ true
still_leased t [] s before e = (let bad : false ≡ true = e in absurd (cc bad))
still_leased t (x ∷ live) s before e = elim (cases_Bool (has_ticket t x)) [
  | inl same ↦ (
      let rest : without t live ≡ live = others_stay t x.ticket.0 live (sym (eqb-true x.ticket.0 t.0 same)) (AllPairs-head IsBefore x live before) in
      rw same (rw rest (swapped (has_slot x.slots s) (some_lease live s) e)))
  | inr other ↦ rw other (elim (cases_Bool (has_slot x.slots s)) [
    | inl has ↦ rw has refl
    | inr not_has ↦ (let on : some_lease live s ≡ true = rw not_has at e in rw not_has (still_leased t live s (AllPairs-tail IsBefore x live before) on))
  ])
]
  where
    swapped : (a b : Bool) → (a || b) ≡ true → (b || a) ≡ true
    swapped true true h = refl
    swapped true false h = refl
    swapped false true h = refl
    swapped false false h = h

-- a parked ask that was held up is idle where each slot that was leased is leased, or is free since
idle-since : (freed : List (Slot × Bool)) (q q' : Ledger) (p : Parked) → q'.old_home ≡ q.old_home → ((s : Slot) → some_lease q.live s ≡ true → (some_lease q'.live s || has_slot freed s) ≡ true)
    → is_held_up q p ≡ true → IsIdle freed q' p
idle-since freed q q' p home still was =
    let wants : List Want = leased_wants p.tenure p.wants in
    subst (λ o. ((p.tenure && another o p.node) || busy (λ s. is_leased q' s || has_slot freed s) wants) ≡ true) (sym home)
    (either_more (elsewhere q p) (busy (is_leased q) wants) (busy (λ s. is_leased q' s || has_slot freed s) wants) was
    (any_more (λ (w : Want). not (is_private w.folder.mode) && is_leased q (only_slot w.folder)) (λ (w : Want). not (is_private w.folder.mode) && (is_leased q' (only_slot w.folder) || has_slot freed (only_slot w.folder))) wants
    (λ w i t'. (let b = and_parts (not (is_private w.folder.mode)) (is_leased q (only_slot w.folder)) t' in
    let other = b.0 in
    let on = still (only_slot w.folder) b.1 in
    rw other on))))

-- all that were held up are idle when one lease ends
pub are-idle-freed : (t : Ticket) (q q' : Ledger) → AllPairs IsBefore q.live → q'.live ≡ without t q.live → q'.old_home ≡ q.old_home → q'.parked ≡ q.parked
    → AreHeldUp q → AreIdle (slots_under (lease_under q.live t)) q' q'.parked
are-idle-freed t q q' before live home parked held p i =
    let freed : List (Slot × Bool) = slots_under (lease_under q.live t) in
    idle-since freed q q' p home
    (λ s e. subst (λ (gs : List Lease). (some_lease gs s || has_slot freed s) ≡ true) (sym live) (still_leased t q.live s before e))
    (held p (subst (In p) parked i))

-- ---- leases end

-- what was leased is leased, or is free since
still_leased_beside : (ends : Lease → Bool) (live : List Lease) (s : Slot) → some_lease live s ≡ true
    → (some_lease (filter (λ g. not (ends g)) live) s || has_slot (flat_map (λ g. g.slots) (filter ends live)) s) ≡ true
still_leased_beside ends [] s e = (let bad : false ≡ true = e in absurd (cc bad))
still_leased_beside ends (x ∷ live) s e = elim (cases_Bool (ends x)) [
  | inl t ↦ (
      let more : has_slot (x.slots ++ flat_map (λ g. g.slots) (filter ends live)) s ≡ (has_slot x.slots s || has_slot (flat_map (λ g. g.slots) (filter ends live)) s) =
      list_any-append (λ (y : Slot × Bool). slot_eq y.0 s) x.slots (flat_map (λ g. g.slots) (filter ends live)) in
      rw t (rw more (elim (cases_Bool (has_slot x.slots s)) [
        | inl has ↦ rw has (or_true (some_lease (filter (λ g. not (ends g)) live) s))
        | inr not_has ↦ rw not_has (still_leased_beside ends live s (rw not_has at e))
      ])))
  | inr f ↦ rw f (elim (cases_Bool (has_slot x.slots s)) [
    | inl has ↦ rw has refl
    | inr not_has ↦ rw not_has (still_leased_beside ends live s (rw not_has at e))
  ])
]
  where
    or_true : (a : Bool) → (a || true) ≡ true
    or_true true = refl
    or_true false = refl

-- all that were held up and still wait are idle when these leases end
pub are-idle-ended : (e : Ending) (q q' : Ledger) (test : Parked → Bool) → q'.live ≡ filter (λ g. not (ends_lease e g)) q.live → q'.old_home ≡ q.old_home → q'.parked ≡ filter test q.parked
    → AreHeldUp q → AreIdle (slots_ended e q.live) q' q'.parked
are-idle-ended e q q' test live home parked held p i =
    idle-since (slots_ended e q.live) q q' p home
    (λ s on. subst (λ (gs : List Lease). (some_lease gs s || has_slot (slots_ended e q.live) s) ≡ true) (sym live) (still_leased_beside (ends_lease e) q.live s on))
    (held p (from_filter test p q.parked (subst (In p) parked i)).0)

-- ---- asks that want no folder of the freed slots

has_slot-filter : (test : (Slot × Bool) → Bool) (s : Slot) (slots : List (Slot × Bool)) → ((x : Slot × Bool) → slot_eq x.0 s ≡ true → test x ≡ true) → has_slot slots s ≡ true → has_slot (filter test slots) s ≡ true
has_slot-filter test s [] passes e = e
has_slot-filter test s (x ∷ xs) passes e = elim (cases_Bool (slot_eq x.0 s)) [
  | inl same ↦ (let kept = passes x same in rw kept (rw same refl))
  | inr other ↦ (
      let rest : has_slot (filter test xs) s ≡ true = has_slot-filter test s xs passes (rw other at e) in
      elim (cases_Bool (test x)) [ inl kept ↦ rw kept (rw other rest) | inr dropped ↦ rw dropped rest ])
]

pub leased-among : (tenure : Bool) (w : Want) (wants : List Want) → In w (leased_wants tenure wants) → In w wants
leased-among true w wants i = (from_filter wants_shared w wants i).0
leased-among false w wants i = (from_filter (λ w. not (wants_shared w)) w wants i).0

-- of the freed slots those are enough that are not leased again
idle-open : (freed : List (Slot × Bool)) (q : Ledger) (p : Parked) → IsIdle freed q p → IsIdle (filter (is_open q.live) freed) q p
idle-open freed q p idle =
    let wants : List Want = leased_wants p.tenure p.wants in
    let left : List (Slot × Bool) = filter (is_open q.live) freed in
    either_more (elsewhere q p) (busy (λ s. is_leased q s || has_slot freed s) wants) (busy (λ s. is_leased q s || has_slot left s) wants) idle
    (any_more (λ (w : Want). not (is_private w.folder.mode) && (is_leased q (only_slot w.folder) || has_slot freed (only_slot w.folder))) (λ (w : Want). not (is_private w.folder.mode) && (is_leased q (only_slot w.folder) || has_slot left (only_slot w.folder))) wants
    (λ w i t. (let b = and_parts (not (is_private w.folder.mode)) (is_leased q (only_slot w.folder) || has_slot freed (only_slot w.folder)) t in
    let other = b.0 in
    elim (cases_Bool (is_leased q (only_slot w.folder))) [
      | inl on ↦ rw (other, on) refl
      | inr off ↦ (
          let has : has_slot freed (only_slot w.folder) ≡ true = rw off at b.1 in
          let unleased : (not (is_private w.folder.mode) && not (some_lease q.live (only_slot w.folder))) ≡ true = rw (other, off) refl in
          let kept : has_slot left (only_slot w.folder) ≡ true = has_slot-filter (is_open q.live) (only_slot w.folder) freed
          (λ x same. subst (λ (s : Slot). (not (is_private s.folder.mode) && not (some_lease q.live s)) ≡ true) (sym (slot_eq_is x.0 (only_slot w.folder) same)) unleased) has in
          rw (other, off) kept)
    ])))

pub are-idle-open : (freed : List (Slot × Bool)) (q : Ledger) (ps : List Parked) → AreIdle freed q ps → AreIdle (filter (is_open q.live) freed) q ps
are-idle-open freed q ps idle p i = idle-open freed q p (idle p i)

-- an ask waits that wants no folder of the freed slots, and no PRIVATE folder of which no instance is free
pub unwanted-waits : (freed : List (Slot × Bool)) (noted : List FolderName) (q : Ledger) (p : Parked) → IsIdle freed q p → IsNoted noted (is_free q) p → WantsNone freed p → WantsNoneOf noted p → decision farm_limits q p ≡ Wait
unwanted-waits freed noted q p idle known none free =
    let wants : List Want = leased_wants p.tenure p.wants in
    decision-is farm_limits q p ∙ picks_wait (elsewhere q p) (all_taken INSTANCES (is_free q) wants) (busy (is_leased q) wants) (not (nat_lt q.last farm_limits.greatest))
    (none_of_list (λ (w : Want). is_private w.folder.mode && eqb (lowest (is_free q) w.folder 1 INSTANCES) 0) wants (λ w i. left w (leased-among p.tenure w p.wants i)))
    (either_more (elsewhere q p) (busy (λ s. is_leased q s || has_slot freed s) wants) (busy (is_leased q) wants) idle
    (any_more (λ (w : Want). not (is_private w.folder.mode) && (is_leased q (only_slot w.folder) || has_slot freed (only_slot w.folder))) (λ (w : Want). not (is_private w.folder.mode) && is_leased q (only_slot w.folder)) wants
    (λ w i t. (let b = and_parts (not (is_private w.folder.mode)) (is_leased q (only_slot w.folder) || has_slot freed (only_slot w.folder)) t in
    let other = b.0 in
    elim (cases_Bool (is_leased q (only_slot w.folder))) [
      | inl on ↦ rw (other, on) refl
      | inr off ↦ (
          let has : has_slot freed (only_slot w.folder) ≡ true = rw off at b.1 in
          let r = from_any (λ (x : Slot × Bool). slot_eq x.0 (only_slot w.folder)) freed has in
          let same : r.0.0.folder ≡ w.folder = ap (λ (s : Slot). s.folder) (slot_eq_is r.0.0 (only_slot w.folder) r.2) in
          let among : list_any (λ (x : Slot × Bool). folder_eq x.0.folder w.folder) freed ≡ true =
          any_in (λ (x : Slot × Bool). folder_eq x.0.folder w.folder) r.0 freed r.1 (ap (λ (f : FolderName). folder_eq f w.folder) same ∙ folder_eq-itself w.folder) in
          true_false (list_any (λ (x : Slot × Bool). folder_eq x.0.folder w.folder) freed) among (none w (leased-among p.tenure w p.wants i)))
    ]))))
  where
    none_of_list : {A : Type 0} (test : A → Bool) (xs : List A) → ((x : A) → In x xs → test x ≡ false) → list_any test xs ≡ false
    none_of_list test [] h = refl
    none_of_list test (x ∷ xs) h = (let here = h x (inl refl) in rw here (none_of_list test xs (λ y i. h y (inr i))))

    left : (w : Want) → In w p.wants → is_private_spent (is_free q) w.folder ≡ false
    left w i = elim (cases_Bool (is_private_spent (is_free q) w.folder)) [
      | inl t ↦ true_false (is_noted noted w.folder) (known w i t) (free w i)
      | inr f ↦ f
    ]
