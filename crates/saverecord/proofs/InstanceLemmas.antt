-- Each slot of a lease that is read has an instance of its folder.
use Rattle.std.proofs.Common.{◌≡◌, ℕ, zero, suc, Bool, true, false, ◌&&◌, leb, List, Option, Some, None, Result, Ok, Err, refl, subst}
use Rattle.std.specs.Prelude.{All, IfOk}
use Rattle.std.specs.Int.{w32, w64}
use Rattle.std.specs.List.{AllByRecursion}
use Rattle.std.specs.Option.{option_map}
use Rattle.std.proofs.lemmas.Bool.{and_parts, eqb-true, leb-true}
use Rattle.std.proofs.lemmas.List.Elements.{All-from_recursion}
use Rattle.codec.specs.Steps.{◌>>=◌}
use Rattle.names.specs.Slots.{SlotParts, IsInstance}
use Rattle.protocol.specs.Names.{Mode, Shared, Private, Locked}
use Rattle.protocol.specs.Ledger.{Lease}
use Rattle.recordparts.specs.declared.layout.Layout.{Layout}
use Rattle.recordparts.specs.declared.layout.Layout.TheVariants.{First, Second, Third}
use Rattle.saverecord.specs.declared.log_entry.LogEntry.{LogEntry}
use Rattle.saverecord.specs.declared.record.Record.{Record}
use Rattle.recordparts.specs.declared.refusal.Flaw.{Flaw}
use Rattle.recordparts.specs.declared.refusal.Flaw.TheVariants.{Range, Order, Trailing, Relation}
use Rattle.recordparts.specs.declared.refusal.RecordRefusal.{RecordRefusal}
use Rattle.recordparts.specs.Parts.{passed, number_at, flag_at, id_at, home_at}
use Rattle.recordparts.specs.Slots.{mode_at, base_at, has_instance, slot_at, is_slot_above, slot_after}
use Rattle.recordlists.specs.Entries.{Reader, each_at, counted_at, node_at, positive_at, ticket_after, ended_at, retired_node_at, retired_at, node_life_at, leased_at, tenure_at, lease_at, line_at, list_at}
use Rattle.saverecord.specs.Records.{retired_nodes_at, body_at, whole_body, opened_by, opened, from_first, judged, record_of}
use Rattle.saverecord.specs.LogEntries.{parts_at, whole_parts, entry_layout, entry_of}
use Rattle.saverecord.specs.Relations.{agrees, is_at_home}
use Rattle.saverecord.specs.Ledgers.{HasInstance, HasInstances, ReadIsKept}
use Rattle.saverecord.proofs.FirstLaws.{read_fits}
use Rattle.saverecord.proofs.ReadLemmas.{record_is_kept}

-- ---- steps

-- what holds after any first step
then : {A B : Type 0} (P : B → Type 0) (r : Result A RecordRefusal) (f : A → Result B RecordRefusal) → ((x : A) → IfOk (f x) P) → IfOk (r >>= f) P
then P (Ok x) f h = h x
then P (Err e) f h = tt

-- what holds after a first step of which something is known
then_with : {A B : Type 0} (Q : A → Type 0) (P : B → Type 0) (r : Result A RecordRefusal) (f : A → Result B RecordRefusal) → IfOk r Q → ((x : A) → Q x → IfOk (f x) P) → IfOk (r >>= f) P
then_with Q P (Ok x) f q h = h x q
then_with Q P (Err e) f q h = tt

if_passed : {A : Type 0} (P : A → Type 0) (flaw : Flaw) (b : Bool) (x : A) → (b ≡ true → P x) → IfOk (passed flaw b x) P
if_passed P flaw true x h = h refl
if_passed P flaw false x h = tt

-- ---- slots

instance_is : (m : Mode) (n : ℕ) → has_instance m n ≡ true → IsInstance m n
instance_is Shared n h = eqb-true n 0 h
instance_is Private n h = (let b = and_parts (leb 1 n) (leb n 4096) h in (leb-true 1 n b.0, leb-true n 4096 b.1))
instance_is Locked n h = eqb-true n 0 h

abbrev SlotFits : SlotParts × List ℕ → Type 0
SlotFits x = IsInstance x.0.folder.mode x.0.instance

slot_fits : (layout : Layout) (bytes : List ℕ) → IfOk (slot_at layout bytes) SlotFits
unfolding slot_at
slot_fits layout bytes =
    then SlotFits (mode_at layout bytes) _ (λ mode. then SlotFits (id_at mode.1) _ (λ id. then SlotFits (base_at id.1) _ (λ base. then SlotFits (number_at w32 0 0xffff_ffff base.1) _ (λ instance.
    if_passed SlotFits Range (has_instance mode.0 instance.0) (record { folder = record { id = id.0; mode = mode.0; base = base.0 }; instance = instance.0 }, instance.1) (instance_is mode.0 instance.0)))))

slot_after_fits : (layout : Layout) (before : Option SlotParts) (bytes : List ℕ) → IfOk (slot_after layout before bytes) SlotFits
unfolding slot_after
slot_after_fits layout before bytes = then_with SlotFits SlotFits (slot_at layout bytes) _ (slot_fits layout bytes) (λ slot h. if_passed SlotFits Order (is_slot_above before slot.0) slot (λ e. h))

abbrev LeasedFits : (SlotParts × Bool) × List ℕ → Type 0
LeasedFits x = HasInstance x.0

leased_fits : (layout : Layout) (before : Option (SlotParts × Bool)) (bytes : List ℕ) → IfOk (leased_at layout before bytes) LeasedFits
unfolding leased_at
leased_fits layout before bytes =
    then_with SlotFits LeasedFits (slot_after layout (option_map (λ held. held.0) before) bytes) _ (slot_after_fits layout (option_map (λ held. held.0) before) bytes) (λ slot h. then LeasedFits (flag_at slot.1) _ (λ writable. h))

-- ---- lists

module _ {X : Type 0} (read : Reader X) (layout : Layout) (P : X → Type 0) (entry : (before : Option X) (bytes : List ℕ) → IfOk (read layout before bytes) (λ x. P x.0)) where
  abbrev EachFits : List X × List ℕ → Type 0
  EachFits x = AllByRecursion P x.0

  each_fits : (before : Option X) (n : ℕ) (bytes : List ℕ) → IfOk (each_at read layout before n bytes) EachFits
  unfolding each_at
  each_fits before zero bytes = tt
  each_fits before (suc n) bytes = then_with (λ (x : X × List ℕ). P x.0) EachFits (read layout before bytes) _ (entry before bytes) (λ first p.
      then_with EachFits EachFits (each_at read layout (Some first.0) n first.1) _ (each_fits (Some first.0) n first.1) (λ others q. (p, q)))

  counted_fits : (low high : ℕ) (bytes : List ℕ) → IfOk (counted_at read layout low high bytes) EachFits
  unfolding counted_at
  counted_fits low high bytes = then EachFits (number_at w64 low high bytes) _ (λ count. each_fits None count.0 count.1)

-- ---- leases

abbrev LeaseFits : Lease × List ℕ → Type 0
LeaseFits x = HasInstances x.0

lease_fits : (layout : Layout) (before : Option Lease) (bytes : List ℕ) → IfOk (lease_at layout before bytes) LeaseFits
unfolding lease_at
lease_fits layout before bytes =
    then LeaseFits (ticket_after (option_map (λ lease. lease.ticket.0) before) bytes) _ (λ ticket.
    then LeaseFits (node_at ticket.1) _ (λ node.
    then LeaseFits (positive_at node.1) _ (λ life.
    then LeaseFits (positive_at life.1) _ (λ ask.
    then LeaseFits (flag_at ask.1) _ (λ shared.
    then LeaseFits (tenure_at layout shared.1) _ (λ tenure.
    then_with (λ (x : List (SlotParts × Bool) × List ℕ). AllByRecursion HasInstance x.0) LeaseFits (counted_at leased_at layout 0 16 tenure.1) _ (counted_fits leased_at layout HasInstance (leased_fits layout) 0 16 tenure.1) (λ slots q.
    All-from_recursion HasInstance slots.0 q)))))))

abbrev RecordFits : Record → Type 0
RecordFits r = All HasInstances r.leases

abbrev BodyFits : Record × List ℕ → Type 0
BodyFits x = RecordFits x.0

body_fits : (layout : Layout) (bytes : List ℕ) → IfOk (body_at layout bytes) BodyFits
unfolding body_at
body_fits layout bytes =
    then BodyFits (number_at w64 0 0xffff_ffff_ffff_ffff bytes) _ (λ last.
    then BodyFits (home_at last.1) _ (λ home.
    then BodyFits (list_at node_life_at layout home.1) _ (λ lives.
    then BodyFits (retired_nodes_at layout lives.1) _ (λ retired_nodes.
    then_with (λ (x : List Lease × List ℕ). AllByRecursion HasInstances x.0) BodyFits (list_at lease_at layout retired_nodes.1) _ (counted_fits lease_at layout HasInstances (lease_fits layout) 0 0xffff_ffff_ffff_ffff retired_nodes.1) (λ leases q.
    then BodyFits (list_at retired_at layout leases.1) _ (λ retired.
    then BodyFits (list_at line_at layout retired.1) _ (λ lines.
    All-from_recursion HasInstances leases.0 q)))))))

whole_fits : (layout : Layout) (bytes : List ℕ) → IfOk (whole_body layout bytes) RecordFits
unfolding whole_body
whole_fits layout bytes = then_with BodyFits RecordFits (body_at layout bytes) _ (body_fits layout bytes) (λ body h. if_passed RecordFits Trailing _ body.0 (λ e. h))

judged_fits : (layout : Layout) (r : Record) → RecordFits r → IfOk (judged layout r) RecordFits
unfolding judged
judged_fits First r h = if_passed RecordFits Relation (agrees r && is_at_home r) (from_first r) (λ e. h)
judged_fits Second r h = if_passed RecordFits Relation (agrees r) r (λ e. h)
judged_fits Third r h = if_passed RecordFits Relation (agrees r) r (λ e. h)

record_fits : (bytes : List ℕ) → IfOk (record_of bytes) RecordFits
unfolding record_of
record_fits bytes = then RecordFits (opened bytes) _ (λ parts. then_with RecordFits RecordFits (whole_body parts.0 parts.1) _ (whole_fits parts.0 parts.1) (λ body h. judged_fits parts.0 body h))

pub read_is_kept : ReadIsKept
read_is_kept bytes r fits e = record_is_kept r (subst (λ (x : Result Record RecordRefusal). IfOk x RecordFits) e (record_fits bytes)) (read_fits bytes r fits e)

-- ---- entries of a log

abbrev EntryFits : LogEntry → Type 0
EntryFits e = All HasInstances e.leases

abbrev PartsFit : LogEntry × List ℕ → Type 0
PartsFit x = EntryFits x.0

parts_fit : (bytes : List ℕ) → IfOk (parts_at bytes) PartsFit
unfolding parts_at
parts_fit bytes =
    then PartsFit (number_at w64 0 0xffff_ffff_ffff_ffff bytes) _ (λ last.
    then PartsFit (home_at last.1) _ (λ home.
    then PartsFit (list_at node_life_at Third home.1) _ (λ lives.
    then PartsFit (list_at retired_node_at Third lives.1) _ (λ retired_nodes.
    then PartsFit (list_at ended_at Third retired_nodes.1) _ (λ ended.
    then_with (λ (x : List Lease × List ℕ). AllByRecursion HasInstances x.0) PartsFit (list_at lease_at Third ended.1) _ (counted_fits lease_at Third HasInstances (lease_fits Third) 0 0xffff_ffff_ffff_ffff ended.1) (λ leases q.
    then PartsFit (list_at retired_at Third leases.1) _ (λ retired.
    then PartsFit (list_at line_at Third retired.1) _ (λ lines.
    All-from_recursion HasInstances leases.0 q))))))))

whole_parts_fit : (bytes : List ℕ) → IfOk (whole_parts bytes) EntryFits
unfolding whole_parts
whole_parts_fit bytes = then_with PartsFit EntryFits (parts_at bytes) _ (parts_fit bytes) (λ parts h. if_passed EntryFits Trailing _ parts.0 (λ e. h))

pub entry_instances : (bytes : List ℕ) (e : LogEntry) → entry_of bytes ≡ Ok e → All HasInstances e.leases
unfolding entry_of
entry_instances bytes e is = subst (λ (x : Result LogEntry RecordRefusal). IfOk x EntryFits) is (then EntryFits (opened_by entry_layout bytes) _ (λ parts. whole_parts_fit parts.1))
