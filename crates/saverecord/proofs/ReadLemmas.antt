-- What is read is a record of a lawful ledger.
use Rattle.std.proofs.Common.{◌≡◌, ℕ, ◌<◌, ◌≤◌, List, [], ◌∷◌, Bool, true, false, not, ◌&&◌, ◌||◌, eqb, length, map, Option, Some, None, Ordering, refl, sym, ap, ◌∙◌, subst, inl, inr, arith}
use Rattle.std.specs.Prelude.{All, nat_le, nat_lt, if◌then◌else◌}
use Rattle.std.specs.List.{list_all, list_any, AllByRecursion}
use Rattle.std.specs.List.Sorted.{IsStrictlyIncreasing, IsStrictlySortedBy}
use Rattle.std.specs.Ordering.{nat_cmp, is_eq, ordering_then}
use Rattle.std.specs.declared.cmp.Ordering.TheVariants.{Less, Equal, Greater}
use Rattle.std.proofs.lemmas.Bool.{and_cases, and_parts, eqb-true, false_from_ne_true, leb-true, ltb-true, not-true, or_parts}
use Rattle.std.proofs.lemmas.List.{length-map}
use Rattle.std.proofs.lemmas.List.Elements.{All-head, All-nil, All-tail}
use Rattle.std.proofs.lemmas.Map.Keys.{sorted_from_strictly_increasing}
use Rattle.farm_base.specs.declared.lease.NodeLife.{NodeLife}
use Rattle.names.specs.declared.limits.TheConstants.{NODES}
use Rattle.names.specs.Folders.{folder_cmp, folder_eq}
use Rattle.names.specs.Slots.{SlotParts, slot_cmp}
use Rattle.farm_base.specs.Wanted.{folders}
use Rattle.names.proofs.CompareLaws.{folder_cmp-tie}
use Rattle.names.proofs.FolderLemmas.{eq-by_cmp}
use Rattle.holdings.specs.Leases.{Rises, IsOpen}
use Rattle.holdings.specs.Leases.{among}
use Rattle.holdings.specs.Lives.{life_at, is_among}
use Rattle.lists.proofs.Rising.{less-from_cmp}
use Rattle.protocol.specs.Lists.{In}
use Rattle.protocol.specs.Names.{Slot, slot_eq, Mode, Shared, Private, Locked, is_shared, is_private, IsInstance, NodeId, Want, FolderName, leased_wants, tenure_wants}
use Rattle.protocol.specs.Machine.{LineVersion}
use Rattle.protocol.specs.Ledger.{Lease, has_slot}
use Rattle.protocol.specs.Lawful.{IsNumber, AreAsked, want_of, IsHolder, AllApart, IsCore}
use Rattle.protocol.proofs.Base.{all_in, true_false, some_is, none_some, slot_eq_is, in_map, from_any, any_none}
use Rattle.protocol.proofs.Moving.{all_in as each_passes}
use Rattle.protocol.proofs.Wanting.{shared_mode}
use Rattle.versions.specs.declared.lines.SlotLine.{SlotLine}
use Rattle.versions.specs.Line.{IsLine}
use Rattle.versions.specs.Lines.{line_at}
use Rattle.saverecord.specs.declared.record.Record.{Record}
use Rattle.recordlists.specs.Relations.{no_two, versions_up_to, lines_up_to, tickets_up_to, lives_there, shares, is_same_ask, clash, has_retired, is_same_private, is_tenured, some_shared, fits_tenure, is_gone, is_above_line, is_above_lines}
use Rattle.saverecord.specs.Relations.{fits_record, agrees}
use Rattle.recordparts.specs.Fits.{IsNode, IsHome}
use Rattle.recordlists.specs.EntryFits.{IsNodeLife, IsLease, IsVersion, IsSlotLine}
use Rattle.saverecord.specs.Fits.{IsRecord}
use Rattle.saverecord.specs.Ledgers.{ledger_of, IsKept, HasInstance, HasInstances, RecordIsKept}
use Rattle.saverecord.proofs.LedgerLemmas.{all_from_in, each_in, life_in, life_from, line_from, same_ask}

-- ---- the slots of a lease

only_instance : (m : Mode) (n : ℕ) → is_private m ≡ false → IsInstance m n → n ≡ 0
only_instance Shared n h i = i
only_instance Private n h i = absurd (cc h)
only_instance Locked n h i = i

-- of two rising slots, not both of one PRIVATE folder, the folders rise
folder_below : (s t : Slot) → IsInstance s.folder.mode s.instance → IsInstance t.folder.mode t.instance → slot_cmp s t ≡ Less → (is_private s.folder.mode && folder_eq s.folder t.folder) ≡ false → folder_cmp s.folder t.folder ≡ Less
folder_below s t p q up own = by (folder_cmp s.folder t.folder) refl
  where
    by : (o : Ordering) → folder_cmp s.folder t.folder ≡ o → folder_cmp s.folder t.folder ≡ Less
    by Less e = e
    by Equal e =
        let same : s.folder ≡ t.folder = folder_cmp-tie s.folder t.folder e in
        let equal : folder_eq s.folder t.folder ≡ true = eq-by_cmp s.folder t.folder ∙ ap is_eq e in
        let alone : is_private s.folder.mode ≡ false = elim (and_cases (is_private s.folder.mode) (folder_eq s.folder t.folder) own) [ inl f ↦ f | inr f ↦ true_false (folder_eq s.folder t.folder) equal f ] in
        let first : s.instance ≡ 0 = only_instance s.folder.mode s.instance alone p in
        let second : t.instance ≡ 0 = only_instance s.folder.mode t.instance alone (subst (λ (f : FolderName). IsInstance f.mode t.instance) (sym same) q) in
        let below : s.instance < t.instance = less-from_cmp s.instance t.instance (ap (λ o. ordering_then o (nat_cmp s.instance t.instance)) (sym e) ∙ up) in
        absurd (omega arith)
    by Greater e = absurd (let bad : Greater ≡ Less = ap (λ o. ordering_then o (nat_cmp s.instance t.instance)) (sym e) ∙ up in cc)

above_all : (x : Slot × Bool) (slots : List (Slot × Bool)) → ((y : Slot × Bool) → In y slots → folder_cmp x.0.folder y.0.folder ≡ Less) → AllByRecursion (λ f. folder_cmp x.0.folder f ≡ Less) (folders (map want_of slots))
above_all x [] f = tt
above_all x (y ∷ slots) f = (f y (inl refl), above_all x slots (λ z i. f z (inr i)))

pub folders_rise : (slots : List (Slot × Bool)) → IsStrictlySortedBy slot_cmp (map (λ x. x.0) slots) → All HasInstance slots → no_two is_same_private slots ≡ true → IsStrictlySortedBy folder_cmp (folders (map want_of slots))
unfolding IsStrictlySortedBy
folders_rise [] up typed own = tt
folders_rise (x ∷ slots) up typed own =
    let b = and_parts (not (list_any (is_same_private x) slots)) (no_two is_same_private slots) own in
    let none = not-true (list_any (is_same_private x) slots) b.0 in
    let rest = All-tail HasInstance x slots typed in (
      above_all x slots (λ y i. folder_below x.0 y.0 (All-head HasInstance x slots typed) (all_in HasInstance slots rest y i)
          (each_in (λ (s : Slot). slot_cmp x.0 s ≡ Less) (map (λ (z : Slot × Bool). z.0) slots) up.0 y.0 (in_map (λ (z : Slot × Bool). z.0) y slots i))
          (any_none (is_same_private x) y slots none i)),
      folders_rise slots up.1 rest b.1,
    )

-- ---- what a lease's ask wanted

one_folder : (f : FolderName) → IsStrictlySortedBy folder_cmp (f ∷ [])
unfolding IsStrictlySortedBy
one_folder f = (tt, tt)

same_wants : (x : Slot × Bool) → x.0.folder.mode ≡ Shared → x.1 ≡ true → map want_of (x ∷ []) ≡ tenure_wants x.0.folder
same_wants x m w = λ j. record { folder = record { id = x.0.folder.id; mode = m j; base = x.0.folder.base }; writable = w j } ∷ []

not_shared : (slots : List (Slot × Bool)) → some_shared slots ≡ false → map want_of slots ≡ leased_wants false (map want_of slots)
not_shared [] h = refl
not_shared (x ∷ slots) h =
    let b = or_parts (is_shared x.0.folder.mode) (some_shared slots) h in
    rw b.0 (ap (λ (ws : List Want). want_of x ∷ ws) (not_shared slots b.1))

pub wanted : (tenure : Bool) (slots : List (Slot × Bool)) → length slots ≤ 16 → IsStrictlySortedBy folder_cmp (folders (map want_of slots)) → (if tenure then is_tenured slots else not (some_shared slots)) ≡ true
    → (wants : List Want) × AreAsked tenure wants × (map want_of slots ≡ leased_wants tenure wants)
wanted true [] few up fits = absurd (cc fits)
wanted true (x ∷ []) few up fits =
    let b = and_parts (is_shared x.0.folder.mode) x.1 fits in (
      tenure_wants x.0.folder,
      record { sorted = (omega arith, one_folder (record x.0.folder { mode = Shared })); one = λ e. refl },
      same_wants x (shared_mode x.0.folder.mode b.0) b.1,
    )
wanted true (x ∷ y ∷ rest) few up fits = absurd (cc fits)
wanted false slots few up fits = (
  map want_of slots,
  record { sorted = (omega (arith, length-map slots want_of), up); one = λ e. absurd (cc e) },
  not_shared slots (not-true (some_shared slots) fits),
)

-- ---- leases

pub all_apart : (leases : List Lease) → IsStrictlySortedBy nat_cmp (map (λ g. g.ticket.0) leases) → no_two clash leases ≡ true → AllApart leases
unfolding IsStrictlySortedBy
all_apart [] up none = tt
all_apart (g ∷ leases) up none =
    let b = and_parts (not (list_any (clash g) leases)) (no_two clash leases) none in
    let no_clash : (h : Lease) → In h leases → (shares g h ≡ false) × (is_same_ask g h ≡ false) = λ h i. or_parts (shares g h) (is_same_ask g h) (any_none (clash g) h leases (not-true (list_any (clash g) leases) b.0) i) in (
      λ h i. record {
        ticket = less-from_cmp g.ticket.0 h.ticket.0 (each_in (λ n. nat_cmp g.ticket.0 n ≡ Less) (map (λ (z : Lease). z.ticket.0) leases) up.0 h.ticket.0 (in_map (λ (z : Lease). z.ticket.0) h leases i));
        ask = sym (same_ask g h) ∙ (no_clash h i).1;
        slots = λ s has.
            (let x = from_any (λ (x : Slot × Bool). slot_eq x.0 s) g.slots has in
            subst (λ z. has_slot h.slots z ≡ false) (slot_eq_is x.0.0 s x.2) (any_none (λ (x : Slot × Bool). has_slot h.slots x.0) x.0 g.slots (no_clash h i).0 x.1));
      },
      all_apart leases up.1 b.1,
    )

life_is : (lives : List NodeLife) → IsStrictlyIncreasing (map (λ x. x.node.0) lives) → (n l : ℕ) → list_any (λ (x : NodeLife). eqb x.node.0 n && eqb x.life.0 l) lives ≡ true → life_at lives n ≡ l
life_is lives up n l h =
    let x = from_any (λ (x : NodeLife). eqb x.node.0 n && eqb x.life.0 l) lives h in
    let b = and_parts (eqb x.0.node.0 n) (eqb x.0.life.0 l) x.2 in
    ap (life_at lives) (sym (eqb-true x.0.node.0 n b.0)) ∙ life_in lives up x.0 x.1 ∙ eqb-true x.0.life.0 l b.1

-- ---- what the parts' relations say

record Fitted (r : Record) (g : Lease) : Type 0 where
  there : lives_there r.lives g ≡ true
  unretired : has_retired r.retired g ≡ false
  own : no_two is_same_private g.slots ≡ true
  tenure : fits_tenure g ≡ true
  stays : is_gone r.retired_nodes g ≡ false
  ahead : is_above_lines r.lines g ≡ true

fitted : (r : Record) (g : Lease) → fits_record r g ≡ true → Fitted r g
unfolding fits_record
fitted r g h =
    let a = and_parts _ _ h in
    let b = and_parts _ _ a.1 in
    let c = and_parts _ _ b.1 in
    let d = and_parts _ _ c.1 in
    let e = and_parts _ _ d.1 in
    record { there = a.0; unretired = not-true (has_retired r.retired g) b.0; own = c.0; tenure = d.0; stays = not-true (is_gone r.retired_nodes g) e.0; ahead = e.1 }

record Agreed (r : Record) : Type 0 where
  tickets : tickets_up_to r.last.0 r.leases ≡ true
  lines : lines_up_to r.last.0 r.lines ≡ true
  retired : list_all (λ s. is_private s.folder.mode) r.retired ≡ true
  leases : list_all (fits_record r) r.leases ≡ true
  apart : no_two clash r.leases ≡ true

agreed : (r : Record) → agrees r ≡ true → Agreed r
unfolding agrees
agreed r h =
    let a = and_parts _ _ h in
    let b = and_parts _ _ a.1 in
    let c = and_parts _ _ b.1 in
    let d = and_parts _ _ c.1 in
    record { tickets = a.0; lines = b.0; retired = c.0; leases = d.0; apart = d.1 }

-- ---- parts

pub home_is : (o : Option NodeId) (h : NodeId) → o ≡ Some h → IsHome o → IsNode h
home_is None h e fits = none_some h e
home_is (Some x) h e fits = subst IsNode (some_is x h e) fits

filled : {A : Type 0} (xs : List A) → 1 ≤ length xs → xs ≡ [] → ⊥
filled [] some e = absurd (omega arith)
filled (x ∷ xs) some e = cc e

abbrev UpTo : ℕ → LineVersion → Type 0
UpTo n v = v.ticket.0 ≤ n

abbrev Below : ℕ → LineVersion → Type 0
Below n v = v.ticket.0 < n

module _ (r : Record) (typed : All HasInstances r.leases) (fits : IsRecord r) where
  agreement : Agreed r
  agreement = agreed r fits.relations

  fitting : (g : Lease) → In g r.leases → Fitted r g
  fitting g i = fitted r g (each_passes (fits_record r) r.leases agreement.leases g i)

  lease : (g : Lease) → In g r.leases → IsLease g
  lease = each_in IsLease r.leases fits.parts.leases

  line : (l : SlotLine) → In l r.lines → IsSlotLine l
  line = each_in IsSlotLine r.lines fits.parts.lines

  holder : (g : Lease) → In g r.leases → IsHolder NODES (life_at r.lives) (is_among r.retired_nodes) (among r.retired) g
  holder g i =
      let l = lease g i in
      let f = fitting g i in
      record {
        asker = record {
          speaker = record { node = l.node; life = l.life };
          ask = l.ask;
          life = life_is r.lives fits.parts.lives_rise g.node.0 g.life.0 f.there;
          stays = f.stays;
        };
        ticket = l.ticket;
        wants = wanted g.tenure g.slots l.few (folders_rise g.slots l.rise (all_in HasInstances r.leases typed g i) f.own) f.tenure;
        kept = λ s has. false_from_ne_true (among r.retired s) (λ gone.
            (let x = from_any (λ x. slot_eq x s) r.retired gone in
            true_false (has_slot g.slots x.0) (subst (λ z. has_slot g.slots z ≡ true) (sym (slot_eq_is x.0 s x.2)) has) (any_none (λ s. has_slot g.slots s) x.0 r.retired f.unretired x.1)));
      }

  retired_private : (s : Slot) → among r.retired s ≡ true → is_private s.folder.mode ≡ true
  retired_private s h =
      let x = from_any (λ x. slot_eq x s) r.retired h in
      subst (λ (z : Slot). is_private z.folder.mode ≡ true) (slot_eq_is x.0 s x.2) (each_passes (λ (s : SlotParts). is_private s.folder.mode) r.retired agreement.retired x.0 x.1)

  version : (s : Slot) (v : LineVersion) → In v (line_at r.lines s) → 1 ≤ v.ticket.0
  version s v j = elim (line_from r.lines s) [
    | inl e ↦ absurd (subst (In v) e j)
    | inr l ↦ each_in IsVersion l.0.line (line l.0 l.1).versions v (subst (In v) l.3 j)
  ]

  life : (n : ℕ) → 1 ≤ life_at r.lives n → IsNumber NODES (record { 0 = n })
  life n some =
      let x = life_from r.lives n some in
      subst (λ m. IsNumber NODES (record { 0 = m })) x.2 (each_in IsNodeLife r.lives fits.parts.lives x.0 x.1).node

  gone : (n : ℕ) → is_among r.retired_nodes n ≡ true → IsNumber NODES (record { 0 = n })
  gone n h =
      let x = from_any (λ (m : NodeId). eqb m.0 n) r.retired_nodes h in
      subst (λ m. IsNumber NODES (record { 0 = m })) (eqb-true x.0.0 n x.2) (each_in IsNode r.retired_nodes fits.parts.nodes x.0 x.1)

  core : IsCore NODES (ledger_of r)
  core = record {
    holders = holder;
    apart = all_apart r.leases (sorted_from_strictly_increasing (map (λ (g : Lease). g.ticket.0) r.leases) fits.parts.leases_rise) agreement.apart;
    given = λ g i. leb-true g.ticket.0 r.last.0 (each_passes (λ (g : Lease). nat_le g.ticket.0 r.last.0) r.leases agreement.tickets g i);
    retired = retired_private;
    versions = version;
    block = omega arith;
    home = λ h e. home_is r.old_home h e fits.parts.home;
    lives = life;
    gone = gone;
  }

  past : (s : Slot) → All (UpTo r.last.0) (line_at r.lines s)
  past s = elim (line_from r.lines s) [
    | inl e ↦ subst (All (UpTo r.last.0)) (sym e) (All-nil (UpTo r.last.0))
    | inr l ↦ (let low = each_passes (λ (l : SlotLine). versions_up_to r.last.0 l.line) r.lines agreement.lines l.0 l.1 in
        subst (All (UpTo r.last.0)) (sym l.3) (all_from_in (UpTo r.last.0) l.0.line (λ v k. leb-true v.ticket.0 r.last.0 (each_passes (λ (v : LineVersion). nat_le v.ticket.0 r.last.0) l.0.line low v k))))
  ]

  ahead : (g : Lease) → In g r.leases → IsOpen (line_at r.lines) g
  ahead g i s has = elim (line_from r.lines s) [
    | inl e ↦ subst (All (Below g.ticket.0)) (sym e) (All-nil (Below g.ticket.0))
    | inr l ↦ (let own : has_slot g.slots l.0.slot ≡ true = subst (λ z. has_slot g.slots z ≡ true) (sym l.2) has in
        let test = each_passes (λ (l : SlotLine). not (has_slot g.slots l.slot) || is_above_line g.ticket.0 l.line) r.lines (fitting g i).ahead l.0 l.1 in
        let high : is_above_line g.ticket.0 l.0.line ≡ true = rw own at test in
        subst (All (Below g.ticket.0)) (sym l.3) (all_from_in (Below g.ticket.0) l.0.line (λ v k. ltb-true v.ticket.0 g.ticket.0 (each_passes (λ (v : LineVersion). nat_lt v.ticket.0 g.ticket.0) l.0.line high v k))))
  ]

  is_kept : IsKept r
  is_kept = record {
    lawful = record { core = core; parked = record { each = λ p i. absurd i; waits = tt } };
    lives_rise = fits.parts.lives_rise;
    lives = all_from_in (λ (x : NodeLife). 1 ≤ x.life.0) r.lives (λ x i. (each_in IsNodeLife r.lives fits.parts.lives x i).life);
    nodes_rise = fits.parts.nodes_rise;
    retired_rise = fits.parts.retired_rise;
    slots_rise = all_from_in Rises r.leases (λ g i. (lease g i).rise);
    lines = record {
      rise = fits.parts.lines_rise;
      filled = all_from_in (λ (l : SlotLine). l.line ≡ [] → ⊥) r.lines (λ l i. filled l.line (line l i).some);
      tickets = all_from_in (λ (l : SlotLine). IsLine l.line) r.lines (λ l i. (line l i).rise);
    };
    past = past;
    ahead = all_from_in (IsOpen (line_at r.lines)) r.leases ahead;
  }

pub record_is_kept : RecordIsKept
record_is_kept r typed fits = is_kept r typed fits
