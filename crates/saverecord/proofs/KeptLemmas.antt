-- A record of a lawful ledger can be written.
use Rattle.std.proofs.Common.{◌≡◌, ℕ, ◌<◌, ◌≤◌, List, [], ◌∷◌, Bool, true, false, not, ◌&&◌, ◌||◌, eqb, length, map, filter, Option, Some, None, refl, sym, ap, ◌∙◌, subst, inl, inr, arith}
use Rattle.std.specs.Prelude.{All, nat_le, nat_lt, if◌then◌else◌}
use Rattle.std.specs.List.{list_any, AllByRecursion}
use Rattle.std.specs.List.Sorted.{IsStrictlySortedBy}
use Rattle.std.specs.Cmp.{nat_cmp_is}
use Rattle.std.specs.Ordering.{nat_cmp, is_eq}
use Rattle.std.specs.declared.cmp.Ordering.TheVariants.{Less}
use Rattle.std.proofs.lemmas.Bool.{cases_Bool, and_from, and_parts, and_right, eq-eqb, false_from_ne_true, le-leb, lt-ltb, not-true, not_from_false, or_from}
use Rattle.std.proofs.lemmas.List.{length-map}
use Rattle.std.proofs.lemmas.List.Elements.{All-map, recursion_from_All}
use Rattle.std.proofs.lemmas.List.Filters.{length-filter_both}
use Rattle.std.proofs.lemmas.Map.Keys.{sorted_head, sorted_tail, IsStrictlyIncreasing-from_sorted}
use Rattle.farm_base.specs.declared.lease.NodeLife.{NodeLife}
use Rattle.names.specs.Folders.{folder_cmp, folder_eq}
use Rattle.names.specs.Slots.{SlotParts}
use Rattle.farm_base.specs.Wanted.{folders}
use Rattle.names.proofs.FolderLemmas.{eq-by_cmp}
use Rattle.holdings.specs.Leases.{Rises, IsOpen}
use Rattle.holdings.specs.Leases.{among, takes}
use Rattle.holdings.specs.Lives.{life_at, is_among}
use Rattle.holdings.proofs.LeaseLemmas.{leased-filter, wants_filter}
use Rattle.protocol.specs.Lists.{In}
use Rattle.protocol.specs.Names.{Slot, slot_eq, is_shared, is_private, NodeId, Want, FolderName, wants_shared, leased_wants}
use Rattle.protocol.specs.Machine.{LineVersion}
use Rattle.protocol.specs.Ledger.{Lease, has_slot}
use Rattle.protocol.specs.Lawful.{IsNumber, are_for_tenure, AreAsked, want_of, IsHolder, AreApart, AllApart}
use Rattle.protocol.proofs.Base.{all_in, true_false, eqb_same, slot_eq_same, any_in, in_map, from_filter}
use Rattle.names.specs.declared.limits.TheConstants.{NODES}
use Rattle.versions.specs.declared.lines.SlotLine.{SlotLine}
use Rattle.versions.specs.Line.{IsLine}
use Rattle.versions.specs.Lines.{line_at}
use Rattle.saverecord.specs.declared.record.Record.{Record}
use Rattle.recordlists.specs.Relations.{no_two, versions_up_to, shares, is_same_ask, clash, has_retired, is_same_private, is_tenured, some_shared, is_above_line}
use Rattle.saverecord.specs.Relations.{fits_record, agrees}
use Rattle.recordparts.specs.Fits.{IsNode, IsHome}
use Rattle.recordlists.specs.EntryFits.{IsNodeLife, IsLease, IsVersion, IsSlotLine}
use Rattle.saverecord.specs.Fits.{HasParts}
use Rattle.saverecord.specs.Ledgers.{IsKept, KeptIsRecord}
use Rattle.saverecord.proofs.LedgerLemmas.{all_from_in, each_in, each_from_in, passes_from_in, none_from_in, life_in, line_in, same_ask}

-- ---- leases

less_is : (a b : ℕ) → a < b → nat_cmp a b ≡ Less
less_is a b h = sym (nat_cmp_is a b Less h)

-- the older lease has the lower ticket
pub tickets_rise : (leases : List Lease) → AllApart leases → IsStrictlySortedBy nat_cmp (map (λ g. g.ticket.0) leases)
unfolding IsStrictlySortedBy
tickets_rise [] all = tt
tickets_rise (g ∷ leases) all =
    let above : All (λ (h : Lease). nat_cmp g.ticket.0 h.ticket.0 ≡ Less) leases = all_from_in (λ (h : Lease). nat_cmp g.ticket.0 h.ticket.0 ≡ Less) leases (λ h i. less_is g.ticket.0 h.ticket.0 (all.0 h i).ticket) in (
      recursion_from_All (λ n. nat_cmp g.ticket.0 n ≡ Less) (map (λ (h : Lease). h.ticket.0) leases) (All-map (λ n. nat_cmp g.ticket.0 n ≡ Less) (λ (h : Lease). h.ticket.0) leases above),
      tickets_rise leases all.1,
    )

apart_slots : (g h : Lease) → AreApart g h → shares g h ≡ false
apart_slots g h apart = none_from_in (λ (x : Slot × Bool). has_slot h.slots x.0) g.slots (λ x i. apart.slots x.0 (any_in (λ (y : Slot × Bool). slot_eq y.0 x.0) x g.slots i (slot_eq_same x.0)))

pub none_clash : (leases : List Lease) → AllApart leases → no_two clash leases ≡ true
none_clash [] all = refl
none_clash (g ∷ leases) all = and_from _ _
    (not_from_false (list_any (clash g) leases) (none_from_in (clash g) leases (λ h i. or_from (shares g h) (is_same_ask g h) (apart_slots g h (all.0 h i)) (same_ask g h ∙ (all.0 h i).ask))))
    (none_clash leases all.1)

-- ---- the slots of a lease

-- slots of rising folders
pub own_folders : (slots : List (Slot × Bool)) → IsStrictlySortedBy folder_cmp (folders (map want_of slots)) → no_two is_same_private slots ≡ true
own_folders [] up = refl
own_folders (x ∷ slots) up =
    let later : List FolderName = folders (map want_of slots) in
    let apart : (y : Slot × Bool) → In y slots → is_same_private x y ≡ false = λ y i.
    (let less = each_in (λ f. folder_cmp x.0.folder f ≡ Less) later (sorted_head folder_cmp x.0.folder later up) y.0.folder (in_map (λ (w : Want). w.folder) (want_of y) (map want_of slots) (in_map want_of y slots i)) in
    and_right (is_private x.0.folder.mode) (folder_eq x.0.folder y.0.folder) (eq-by_cmp x.0.folder y.0.folder ∙ ap is_eq less)) in
    and_from _ _ (not_from_false (list_any (is_same_private x) slots) (none_from_in (is_same_private x) slots apart)) (own_folders slots (sorted_tail folder_cmp x.0.folder later up))

tenured : (slots : List (Slot × Bool)) (w : Want) → (is_shared w.folder.mode && w.writable) ≡ true → map want_of slots ≡ w ∷ [] → is_tenured slots ≡ true
tenured [] w h e = absurd (let one : 0 ≡ 1 = ap length e in omega arith)
tenured (x ∷ []) w h e = (subst (AllByRecursion (λ (w : Want). (is_shared w.folder.mode && w.writable) ≡ true)) (sym e) (h, tt)).0
tenured (x ∷ y ∷ rest) w h e = absurd (let one : length (map want_of (x ∷ y ∷ rest)) ≡ 1 = ap length e in omega arith)

tenure_slots : (slots : List (Slot × Bool)) (wants : List Want) → are_for_tenure wants ≡ true → map want_of slots ≡ leased_wants true wants → is_tenured slots ≡ true
tenure_slots slots [] h e = absurd (cc h)
tenure_slots slots (w ∷ []) h e = tenured slots w h (e ∙ (rw (and_parts (is_shared w.folder.mode) w.writable h).0 refl))
tenure_slots slots (w ∷ x ∷ wants) h e = absurd (cc h)

any_wanted : (slots : List (Slot × Bool)) → list_any wants_shared (map want_of slots) ≡ some_shared slots
any_wanted [] = refl
any_wanted (x ∷ slots) = ap (λ b. is_shared x.0.folder.mode || b) (any_wanted slots)

pub tenure_fits : (tenure : Bool) (slots : List (Slot × Bool)) (wants : List Want) → AreAsked tenure wants → map want_of slots ≡ leased_wants tenure wants → (if tenure then is_tenured slots else not (some_shared slots)) ≡ true
tenure_fits true slots wants asked e = tenure_slots slots wants (asked.one refl) e
tenure_fits false slots wants asked e = not_from_false (some_shared slots) (sym (any_wanted slots) ∙ ap (list_any wants_shared) e
    ∙ none_from_in wants_shared (leased_wants false wants) (λ w i. not-true (wants_shared w) (from_filter (λ (w : Want). not (wants_shared w)) w wants i).1))

-- ---- parts

life_there : (lives : List NodeLife) (n l : ℕ) → life_at lives n ≡ l → 1 ≤ l → list_any (λ (x : NodeLife). eqb x.node.0 n && eqb x.life.0 l) lives ≡ true
life_there [] n l e some = absurd (omega arith)
life_there (x ∷ lives) n l e some = elim (cases_Bool (eqb x.node.0 n)) [
  | inr other ↦ rw other (life_there lives n l (rw other at e) some)
  | inl same ↦ (let life : eqb x.life.0 l ≡ true = eq-eqb x.life.0 l (rw same at e) in rw (same, life) refl)
]

pub home_fits : (o : Option NodeId) → ((h : NodeId) → o ≡ Some h → IsNumber NODES h) → IsHome o
home_fits None f = tt
home_fits (Some h) f = f h refl

some_in : {A : Type 0} (xs : List A) → (xs ≡ [] → ⊥) → 1 ≤ length xs
some_in [] full = absurd (full refl)
some_in (x ∷ xs) full = omega arith

pub lease_folders : (g : Lease) → ((wants : List Want) × AreAsked g.tenure wants × (map want_of g.slots ≡ leased_wants g.tenure wants)) → IsStrictlySortedBy folder_cmp (folders (map want_of g.slots))
lease_folders g w = subst (λ (ws : List Want). IsStrictlySortedBy folder_cmp (folders ws)) (sym (w.2 ∙ leased-filter g.tenure w.0)) (wants_filter (takes g.tenure) w.0 w.1.sorted.1)

few : (g : Lease) → ((wants : List Want) × AreAsked g.tenure wants × (map want_of g.slots ≡ leased_wants g.tenure wants)) → length g.slots ≤ 16
few g w =
    let all : length w.0 ≤ 16 = w.1.sorted.0 in
    let slots : length (map want_of g.slots) ≡ length g.slots = length-map g.slots want_of in
    let wanted : length (map want_of g.slots) ≡ length (filter (takes g.tenure) w.0) = ap length (w.2 ∙ leased-filter g.tenure w.0) in
    let both = length-filter_both (takes g.tenure) (λ x. not (takes g.tenure x)) (λ x. refl) w.0 in
    omega arith

pub lease_is : {lives : ℕ → ℕ} {gone : ℕ → Bool} {retired : Slot → Bool} (g : Lease) → IsHolder NODES lives gone retired g → Rises g → IsLease g
lease_is g h rise = record {
  ticket = h.ticket;
  node = h.asker.speaker.node;
  life = h.asker.speaker.life;
  ask = h.asker.ask;
  few = few g h.wants;
  rise = rise;
}

module _ (r : Record) (kept : IsKept r) where
  line_is : (l : SlotLine) → In l r.lines → line_at r.lines l.slot ≡ l.line
  line_is = line_in r.lines kept.lines.rise

  holder : (g : Lease) → In g r.leases → IsHolder NODES (life_at r.lives) (is_among r.retired_nodes) (among r.retired) g
  holder = kept.lawful.core.holders

  line_fits : (l : SlotLine) → In l r.lines → IsSlotLine l
  line_fits l i = record {
    some = some_in l.line (all_in (λ (l : SlotLine). l.line ≡ [] → ⊥) r.lines kept.lines.filled l i);
    rise = all_in (λ (l : SlotLine). IsLine l.line) r.lines kept.lines.tickets l i;
    versions = each_from_in IsVersion l.line (λ v j. kept.lawful.core.versions l.slot v (subst (In v) (sym (line_is l i)) j));
  }

  parts : HasParts r
  parts = record {
    home = home_fits r.old_home kept.lawful.core.home;
    lives_rise = kept.lives_rise;
    lives = each_from_in IsNodeLife r.lives (λ x i.
        (let some = all_in (λ (x : NodeLife). 1 ≤ x.life.0) r.lives kept.lives x i in
        record { node = kept.lawful.core.lives x.node.0 (subst (λ n. 1 ≤ n) (sym (life_in r.lives kept.lives_rise x i)) some); life = some }));
    nodes_rise = kept.nodes_rise;
    nodes = each_from_in IsNode r.retired_nodes (λ n i. kept.lawful.core.gone n.0 (any_in (λ (m : NodeId). eqb m.0 n.0) n r.retired_nodes i (eqb_same n.0)));
    leases_rise = IsStrictlyIncreasing-from_sorted (map (λ (g : Lease). g.ticket.0) r.leases) (tickets_rise r.leases kept.lawful.core.apart);
    leases = each_from_in IsLease r.leases (λ g i. lease_is g (holder g i) (all_in Rises r.leases kept.slots_rise g i));
    retired_rise = kept.retired_rise;
    lines_rise = kept.lines.rise;
    lines = each_from_in IsSlotLine r.lines line_fits;
  }

  -- ---- relations

  none_retired : (g : Lease) → In g r.leases → has_retired r.retired g ≡ false
  none_retired g i = none_from_in (λ s. has_slot g.slots s) r.retired (λ s j. false_from_ne_true (has_slot g.slots s) (λ has.
      true_false (among r.retired s) (any_in (λ x. slot_eq x s) s r.retired j (slot_eq_same s)) ((holder g i).kept s has)))

  above_line : (g : Lease) → In g r.leases → (l : SlotLine) → In l r.lines → (not (has_slot g.slots l.slot) || is_above_line g.ticket.0 l.line) ≡ true
  above_line g i l j = elim (cases_Bool (has_slot g.slots l.slot)) [
    | inr none ↦ rw none refl
    | inl has ↦ (let ahead : All (λ (v : LineVersion). v.ticket.0 < g.ticket.0) l.line = subst (All (λ (v : LineVersion). v.ticket.0 < g.ticket.0)) (line_is l j) (all_in (IsOpen (line_at r.lines)) r.leases kept.ahead g i l.slot has) in
        rw has (passes_from_in (λ (v : LineVersion). nat_lt v.ticket.0 g.ticket.0) l.line (λ v k. lt-ltb v.ticket.0 g.ticket.0 (all_in (λ (v : LineVersion). v.ticket.0 < g.ticket.0) l.line ahead v k))))
  ]

  fits : (g : Lease) → In g r.leases → fits_record r g ≡ true
  unfolding fits_record
  fits g i =
      let h = holder g i in
      and_from _ _ (life_there r.lives g.node.0 g.life.0 h.asker.life h.asker.speaker.life)
      (and_from _ _ (not_from_false _ (none_retired g i))
      (and_from _ _ (own_folders g.slots (lease_folders g h.wants))
      (and_from _ _ (tenure_fits g.tenure g.slots h.wants.0 h.wants.1 h.wants.2)
      (and_from _ _ (not_from_false _ h.asker.stays)
      (passes_from_in (λ (l : SlotLine). not (has_slot g.slots l.slot) || is_above_line g.ticket.0 l.line) r.lines (above_line g i))))))

  line_up_to : (l : SlotLine) → In l r.lines → versions_up_to r.last.0 l.line ≡ true
  line_up_to l i =
      let past : All (λ (v : LineVersion). v.ticket.0 ≤ r.last.0) l.line = subst (All (λ (v : LineVersion). v.ticket.0 ≤ r.last.0)) (line_is l i) (kept.past l.slot) in
      passes_from_in (λ (v : LineVersion). nat_le v.ticket.0 r.last.0) l.line (λ v k. le-leb v.ticket.0 r.last.0 (all_in (λ (v : LineVersion). v.ticket.0 ≤ r.last.0) l.line past v k))

  relations : agrees r ≡ true
  unfolding agrees
  relations =
      and_from _ _ (passes_from_in (λ (g : Lease). nat_le g.ticket.0 r.last.0) r.leases (λ g i. le-leb g.ticket.0 r.last.0 (kept.lawful.core.given g i)))
      (and_from _ _ (passes_from_in (λ (l : SlotLine). versions_up_to r.last.0 l.line) r.lines line_up_to)
      (and_from _ _ (passes_from_in (λ (s : SlotParts). is_private s.folder.mode) r.retired (λ s i. kept.lawful.core.retired s (any_in (λ x. slot_eq x s) s r.retired i (slot_eq_same s))))
      (and_from _ _ (passes_from_in (fits_record r) r.leases fits) (none_clash r.leases kept.lawful.core.apart))))

pub kept_is_record : KeptIsRecord
kept_is_record r kept = record { parts = parts r kept; relations = relations r kept }
