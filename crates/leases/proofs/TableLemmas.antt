-- Leases that may be live together: adding one. Which instances are free.
use Rattle.std.proofs.Common.{◌≡◌, ◌≢◌, ℕ, zero, suc, ◌+◌, ◌<◌, ◌≤◌, List, [], ◌∷◌, ◌++◌, Bool, true, false, not, ◌&&◌, ◌||◌, eqb, length, get_or, map, Some, refl, sym, ◌∙◌, ap, subst, inl, inr, arith}
use Rattle.std.proofs.lemmas.Bool.{ne_eqb, cases_Bool, cases_eq, not-true, and_parts, or_parts}
use Rattle.std.specs.Prelude.{All}
use Rattle.std.specs.List.{list_any, find, AllByRecursion}
use Rattle.std.specs.List.Sorted.{IsStrictlySortedBy}
use Rattle.std.specs.Ordering.{ordering_then, nat_cmp}
use Rattle.std.specs.declared.cmp.Ordering.TheVariants.{Less}
use Rattle.std.proofs.lemmas.List.Elements.{All-push, All-tail}
use Rattle.std.proofs.lemmas.List.Folds.{list_any-append}
use Rattle.std.proofs.lemmas.List.Quantifiers.{all_pairs_push}
use Rattle.names.specs.Folders.{folder_cmp}
use Rattle.names.specs.Slots.{slot_cmp}
use Rattle.farm_base.specs.Wanted.{folders, IsWants}
use Rattle.farm_base.specs.declared.lease.Lease.{Lease}
use Rattle.names.proofs.CompareLaws as laws
use Rattle.protocol.proofs.Leases as instances
use Rattle.protocol.specs.Names.{Slot, slot_eq, is_private, only_slot, FolderName, NodeId, Life, Ask, Ticket, Want, leased_wants}
use Rattle.protocol.specs.Ledger.{has_slot, some_lease, lowest, slot_for, all_taken, busy, has_ticket}
use Rattle.protocol.proofs.Base.{true_false, eqb_same}
use Rattle.leases.specs.Leases.{Table}
use Rattle.holdings.specs.Leases.{AreLeases, AreApart, IsBefore, Rises, among, takes}
use Rattle.holdings.proofs.LeaseLemmas.{leased-filter, wants_filter}
use Rattle.leases.specs.Table.{is_free, fit_of, first_fit, lease_for}
use Rattle.leases.specs.declared.lease_table.Fit.TheVariants.{Fits}

-- ---- adding a lease

pub lowest-end : (free : Slot → Bool) (f : FolderName) (i k : ℕ) → k ≡ 0 → lowest free f i k ≡ 0
lowest-end free f i k e = ap (lowest free f i) e ∙ instances.lowest-none free f i

pub lowest-free : (free : Slot → Bool) (f : FolderName) (i k : ℕ) → 0 < k → free (record { folder = f; instance = i }) ≡ true → lowest free f i k ≡ i
lowest-free free f i zero h e = absurd (omega arith)
lowest-free free f i (suc k) h e = instances.lowest-free free f i k e

pub lowest-taken : (free : Slot → Bool) (f : FolderName) (i k j : ℕ) → k ≡ suc j → free (record { folder = f; instance = i }) ≡ false → lowest free f i k ≡ lowest free f (i + 1) j
lowest-taken free f i k j h e = ap (lowest free f i) h ∙ instances.lowest-taken free f i j e

-- the lowest of the k instances from i on is j where j is free and none before it
pub lowest-is : (free : Slot → Bool) (f : FolderName) (k i j : ℕ) → i ≤ j → j < i + k → free (record { folder = f; instance = j }) ≡ true → ((n : ℕ) → i ≤ n → n < j → free (record { folder = f; instance = n }) ≡ false) → lowest free f i k ≡ j
lowest-is free f zero i j low high at before = absurd (omega arith)
lowest-is free f (suc k) i j low high at before = elim (cases_eq i j) [
  | inl same ↦ lowest-free free f i (suc k) (omega arith) (ap (λ (n : ℕ). free (record { folder = f; instance = n })) same ∙ at) ∙ same
  | inr other ↦ lowest-taken free f i (suc k) k refl (before i (omega arith) (omega arith)) ∙ lowest-is free f k (i + 1) j (omega arith) (omega arith) at (λ n from lt. before n (omega arith) lt)
]

-- there is none where none of them is free
pub lowest-none_free : (free : Slot → Bool) (f : FolderName) (k i : ℕ) → ((n : ℕ) → i ≤ n → n < i + k → free (record { folder = f; instance = n }) ≡ false) → lowest free f i k ≡ 0
lowest-none_free free f zero i none = lowest-end free f i 0 refl
lowest-none_free free f (suc k) i none = lowest-taken free f i (suc k) k refl (none i (omega arith) (omega arith)) ∙ lowest-none_free free f k (i + 1) (λ n from lt. none n (omega arith) (omega arith))

not_false : (b c : Bool) → c ≡ not b → c ≡ false → b ≡ true
not_false true c is h = refl
not_false false c is h = (let bad : true ≡ false = sym is ∙ h in absurd (cc bad))

not_taken : (b c : Bool) → c ≡ not b → c ≡ true → b ≡ false
not_taken true c is h = (let bad : false ≡ true = sym is ∙ h in absurd (cc bad))
not_taken false c is h = refl

-- the lowest number that a set lacks, of the instances that aren't free and 0
pub lowest-missing : (free : Slot → Bool) (f : FolderName) (had : ℕ → Bool) (n : ℕ) → ((i : ℕ) → 1 ≤ i → i ≤ 4096 → had i ≡ not (free (record { folder = f; instance = i }))) → had 0 ≡ true
    → n ≤ 4096 → had n ≡ false → ((i : ℕ) → i < n → i ≤ 4096 → had i ≡ true) → lowest free f 1 4096 ≡ n
lowest-missing free f had zero taken first to missing below = (let bad : true ≡ false = sym first ∙ missing in absurd (cc bad))
lowest-missing free f had (suc n) taken first to missing below =
    lowest-is free f 4096 1 (suc n) (omega arith) (omega arith) (not_false _ (had (suc n)) (taken (suc n) (omega arith) to) missing)
    (λ i from lt. not_taken _ (had i) (taken i from (omega arith)) (below i lt (omega arith)))

-- it lacks none of them
pub lowest-all_there : (free : Slot → Bool) (f : FolderName) (had : ℕ → Bool) (n : ℕ) → ((i : ℕ) → 1 ≤ i → i ≤ 4096 → had i ≡ not (free (record { folder = f; instance = i })))
    → 4096 < n → ((i : ℕ) → i < n → i ≤ 4096 → had i ≡ true) → lowest free f 1 4096 ≡ 0
lowest-all_there free f had n taken past below = lowest-none_free free f 4096 1 (λ i from lt. not_taken _ (had i) (taken i from (omega arith)) (below i (omega arith) (omega arith)))

-- the lowest free instance is free
pub lowest_is_free : (free : Slot → Bool) (f : FolderName) (k i : ℕ) → lowest free f i k ≢ 0 → free (record { folder = f; instance = lowest free f i k }) ≡ true
lowest_is_free free f zero i h = absurd (h (instances.lowest-none free f i))
lowest_is_free free f (suc k) i h = elim (cases_Bool (free (record { folder = f; instance = i }))) [
  | inl e ↦ subst (λ (z : ℕ). free (record { folder = f; instance = z }) ≡ true) (sym (instances.lowest-free free f i k e)) e
  | inr e ↦ (let is : lowest free f i (suc k) ≡ lowest free f (i + 1) k = instances.lowest-taken free f i k e in
      subst (λ (z : ℕ). free (record { folder = f; instance = z }) ≡ true) (sym is) (lowest_is_free free f k (i + 1) (λ z. h (is ∙ z))))
]

-- a free slot is not leased
abbrev pub FreeIsOpen : (Slot → Bool) → List Lease → Type 0
FreeIsOpen free live = (s : Slot) → free s ≡ true → some_lease live s ≡ false

pub free_is_open : (t : Table) → FreeIsOpen (is_free t) t.live
free_is_open t s e = not-true (some_lease t.live s) (and_parts _ _ e).0

-- the slot that a want gets is not leased
want_open : (n : ℕ) (free : Slot → Bool) (live : List Lease) (w : Want) → FreeIsOpen free live
    → (is_private w.folder.mode && eqb (lowest free w.folder 1 n) 0) ≡ false → (not (is_private w.folder.mode) && some_lease live (only_slot w.folder)) ≡ false
    → some_lease live (slot_for n free w) ≡ false
want_open n free live w is_open left right = by (is_private w.folder.mode) refl
  where
    by : (b : Bool) → is_private w.folder.mode ≡ b → some_lease live (slot_for n free w) ≡ false
    by true e =
        let some : eqb (lowest free w.folder 1 n) 0 ≡ false = rw e at left in
        let here : free (record { folder = w.folder; instance = lowest free w.folder 1 n }) ≡ true = lowest_is_free free w.folder n 1 (λ z. (let same : eqb (lowest free w.folder 1 n) 0 ≡ true = rw z refl in true_false (eqb (lowest free w.folder 1 n) 0) same some)) in
        rw e (is_open (record { folder = w.folder; instance = lowest free w.folder 1 n }) here)
    by false e = rw e (let out : some_lease live (only_slot w.folder) ≡ false = rw e at right in out)

-- the slots that some wants get
abbrev pub slots_by : ℕ → (Slot → Bool) → List Want → List (Slot × Bool)
slots_by n free ws = map (λ w. (slot_for n free w, w.writable)) ws

-- if wants fit, none of the slots that they get is leased
slots_apart : (n : ℕ) (free : Slot → Bool) (live : List Lease) (ws : List Want) → FreeIsOpen free live → all_taken n free ws ≡ false → busy (some_lease live) ws ≡ false
    → (s : Slot) → has_slot (slots_by n free ws) s ≡ true → some_lease live s ≡ false
slots_apart n free live [] is_open taken not_busy s h = (let bad : false ≡ true = h in cc)
slots_apart n free live (w ∷ ws) is_open taken not_busy s h =
    let a = or_parts _ _ taken in
    let b = or_parts _ _ not_busy in
    elim (cases_Bool (slot_eq (slot_for n free w) s)) [
      | inl e ↦ subst (λ z. some_lease live z ≡ false) (laws.slot_exact (slot_for n free w) s e) (want_open n free live w is_open a.0 b.0)
      | inr e ↦ slots_apart n free live ws is_open a.1 b.1 s (let g : has_slot (slots_by n free ws) s ≡ true = rw e at h in g)
    ]

any_at : {A : Type 0} (test : A → Bool) (xs : List A) (k : ℕ) (d : A) → k < length xs → test (get_or xs k d) ≡ true → list_any test xs ≡ true
any_at test [] k d inside e = absurd (omega arith)
any_at test (x ∷ xs) zero d inside e = rw e refl
any_at test (x ∷ xs) (suc k) d inside e = elim (cases_Bool (test x)) [ inl t ↦ rw t refl | inr t ↦ rw t (any_at test xs k d (omega arith) e) ]

pub fits_both : (a b : Bool) → first_fit a b ≡ Fits → (a ≡ false) × (b ≡ false)
fits_both true b e = absurd (cc e)
fits_both false true e = absurd (cc e)
fits_both false false e = (refl, refl)

below_all : (n : ℕ) (free : Slot → Bool) (w : Want) (ws : List Want) → AllByRecursion (λ f. folder_cmp w.folder f ≡ Less) (folders ws)
    → AllByRecursion (λ s. slot_cmp (slot_for n free w) s ≡ Less) (map (λ x. x.0) (slots_by n free ws))
below_all n free w [] h = tt
below_all n free w (v ∷ ws) h = (ap (λ o. ordering_then o (nat_cmp (slot_for n free w).instance (slot_for n free v).instance)) h.0, below_all n free w ws h.1)

-- slots of rising folders rise
slots_rise : (n : ℕ) (free : Slot → Bool) (ws : List Want) → IsStrictlySortedBy folder_cmp (folders ws) → IsStrictlySortedBy slot_cmp (map (λ x. x.0) (slots_by n free ws))
unfolding IsStrictlySortedBy
slots_rise n free [] h = tt
slots_rise n free (w ∷ ws) h = (below_all n free w ws h.0, slots_rise n free ws h.1)

-- adding a lease for wants that fit
pub leases_more : (n : ℕ) (free : Slot → Bool) (live : List Lease) (wants : List Want) (g : Lease) → FreeIsOpen free live → IsWants wants
    → all_taken n free (leased_wants g.tenure wants) ≡ false → busy (some_lease live) (leased_wants g.tenure wants) ≡ false
    → g.slots ≡ slots_by n free (leased_wants g.tenure wants) → All (λ h. h.ticket.0 < g.ticket.0) live → AreLeases live → AreLeases (live ++ g ∷ [])
leases_more n free live wants g is_open sorted taken not_busy is above h =
    let ws : List Want = leased_wants g.tenure wants in
    let apart : (k : ℕ) (d : Lease) → k < length live → AreApart (get_or live k d) g = λ k d inside s has. elim (cases_Bool (has_slot g.slots s)) [
      | inl e ↦ true_false (some_lease live s) (any_at (λ (g : Lease). has_slot g.slots s) live k d inside has) (slots_apart n free live ws is_open taken not_busy s (subst (λ (z : List (Slot × Bool)). has_slot z s ≡ true) is e))
      | inr e ↦ e
    ] in
    let rises : Rises g = subst (λ (z : List (Slot × Bool)). IsStrictlySortedBy slot_cmp (map (λ (x : Slot × Bool). x.0) z)) (sym is)
    (slots_rise n free ws (subst (λ (z : List Want). IsStrictlySortedBy folder_cmp (folders z)) (sym (leased-filter g.tenure wants)) (wants_filter (takes g.tenure) wants sorted.1))) in
    record {
      tickets = all_pairs_push IsBefore live g h.tickets above;
      apart = all_pairs_push AreApart live g h.apart apart;
      slots = All-push Rises live g h.slots rises;
    }

-- a lease that a table grants
pub leases-push : (t : Table) (n : NodeId) (l : Life) (a : Ask) (wants : List Want) (tenure : Bool) (ticket : Ticket) → AreLeases t.live → IsWants wants
    → fit_of t tenure wants ≡ Fits → All (λ g. g.ticket.0 < ticket.0) t.live → AreLeases (t.live ++ lease_for t n l a wants tenure ticket ∷ [])
leases-push t n l a wants tenure ticket h sorted fits above =
    let both = fits_both _ _ fits in
    leases_more 4096 (is_free t) t.live wants (lease_for t n l a wants tenure ticket) (free_is_open t) sorted both.0 both.1 refl above h

-- looking up the newest lease's ticket finds it
pub lease_under-push : (live : List Lease) (g : Lease) → All (λ h. h.ticket.0 < g.ticket.0) live → find (has_ticket g.ticket) (live ++ g ∷ []) ≡ Some g
lease_under-push [] g above = (let same = eqb_same g.ticket.0 in rw same refl)
lease_under-push (h ∷ live) g above =
    let lower : h.ticket.0 < g.ticket.0 = above 0 h (omega arith) in
    let other : eqb h.ticket.0 g.ticket.0 ≡ false = ne_eqb h.ticket.0 g.ticket.0 (λ same. omega arith) in
    rw other (lease_under-push live g (All-tail (λ h. h.ticket.0 < g.ticket.0) h live above))

-- ---- the instances that are not free

not_free : (a b c d : Bool) → (d || (c || (b || a))) ≡ not (not (a || b) && not (c || d))
not_free true b true true = refl
not_free true b false true = refl
not_free true b true false = refl
not_free true true false false = refl
not_free true false false false = refl
not_free false true true true = refl
not_free false true false true = refl
not_free false true true false = refl
not_free false true false false = refl
not_free false false true true = refl
not_free false false false true = refl
not_free false false true false = refl
not_free false false false false = refl

-- a slot that a lease has, old or new, or that is retired, now or before, isn't free
pub taken-changed : (live granted : List Lease) (retired more : List Slot) (s : Slot)
    → (among more s || (among retired s || (some_lease granted s || some_lease live s))) ≡ not (is_free (record { live = live ++ granted; retired = retired ++ more }) s)
taken-changed live granted retired more s =
    not_free (some_lease live s) (some_lease granted s) (among retired s) (among more s)
    ∙ ap (λ (b : Bool). not (not b && not (among retired s || among more s))) (sym (list_any-append (λ (g : Lease). has_slot g.slots s) live granted))
    ∙ ap (λ (b : Bool). not (not (some_lease (live ++ granted) s) && not b)) (sym (list_any-append (λ (x : Slot). slot_eq x s) retired more))
