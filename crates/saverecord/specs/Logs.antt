-- The ledger that kept texts hold: that of the whole record, and then what each entry changes. The rules are this project's
-- own (docs/FORMATS.md, "The log").
use Rattle.std.specs.Prelude.{◌≡◌, ℕ, ◌≤◌, ◌-◌, nat_le, nat_lt, ◌==◌, not, ◌&&◌, ◌||◌, if◌then◌else◌, Bool, true, List, [], ◌∷◌, ◌++◌, length, map, filter, slice_get, All, AllPairs, Option, Some, None, is_some, Result, Ok, Err}
use Rattle.std.specs.List.{list_all, list_any}
use Rattle.std.specs.List.Sorted.{IsStrictlyIncreasing, IsStrictlySortedBy}
use Rattle.codec.specs.Steps.{◌>>=◌}
use Rattle.farm_base.specs.declared.lease.Lease.{Lease}
use Rattle.farm_base.specs.declared.lease.NodeLife.{NodeLife}
use Rattle.names.specs.declared.limits.TheConstants.{NODES}
use Rattle.names.specs.Slots.{slot_cmp}
use Rattle.holdings.specs.Leases.{IsBefore, IsOpen, Rises}
use Rattle.holdings.specs.Leases.{among}
use Rattle.holdings.specs.Lives.{is_among, life_at}
use Rattle.protocol.specs.Lawful.{IsNumber, IsSpeaker, AreAsked, want_of, IsLawful}
use Rattle.protocol.specs.Lists.{put}
use Rattle.protocol.specs.Names.{Slot, is_private, NodeId, Ticket, Want, leased_wants}
use Rattle.protocol.specs.Machine.{LineVersion}
use Rattle.protocol.specs.Ledger.{Ledger, Saved, saves, reads, opening, has_ticket, lease_under, without, is_saved}
use Rattle.versions.specs.Additions.{adds}
use Rattle.versions.specs.Line.{is_above_all}
use Rattle.versions.specs.Lines.{LineOf, line_at}
use Rattle.versions.specs.declared.lines.SlotLine.{SlotLine}
use Rattle.saverecord.specs.declared.folded.Folded.{Folded}
use Rattle.saverecord.specs.declared.log_entry.LogEntry.{LogEntry}
use Rattle.recordparts.specs.declared.refusal.Flaw.TheVariants.{Relation}
use Rattle.recordparts.specs.declared.refusal.RecordRefusal.{RecordRefusal}
use Rattle.recordparts.specs.declared.refusal.RecordRefusal.TheVariants.{NotCanonical}
use Rattle.saverecord.specs.Ledgers.{ledger_of, record_in}
use Rattle.saverecord.specs.LogEntries.{entry_of}
use Rattle.recordparts.specs.Parts.{passed}
use Rattle.recordlists.specs.Relations.{no_two, lines_up_to, clash, is_same_private, fits_tenure}
use Rattle.saverecord.specs.Texts.{Texts}

-- ---- an entry

-- the lines with what an entry has of one slot: one version, whose ticket is above all on the slot's line
abbrev pub with_version : Slot → List LineVersion → LineOf → Result LineOf RecordRefusal
with_version s [] line = Err (NotCanonical Relation)
with_version s (v ∷ []) line = passed Relation (is_above_all v.ticket (line s)) (adds s v line)
with_version s (v ∷ w ∷ vs) line = Err (NotCanonical Relation)

-- the lines with what an entry has
abbrev pub with_versions : List SlotLine → LineOf → Result LineOf RecordRefusal
with_versions [] line = Ok line
with_versions (l ∷ ls) line = with_version l.slot l.line line >>= with_versions ls

-- the leases without that of a ticket, which is among them
abbrev pub without_one : Ticket → List Lease → Result (List Lease) RecordRefusal
without_one t live = passed Relation (is_some (lease_under live t)) (without t live)

-- the leases without those that ended
abbrev pub without_all : List Ticket → List Lease → Result (List Lease) RecordRefusal
without_all [] live = Ok live
without_all (t ∷ ts) live = without_one t live >>= without_all ts

abbrev pub ticket_of : Option Lease → ℕ
ticket_of None = 0
ticket_of (Some g) = g.ticket.0

-- the tickets of these leases are above that of the last of those
abbrev pub are_newer : List Lease → List Lease → Bool
are_newer live more = list_all (λ g. nat_lt (ticket_of (slice_get live (length live - 1))) g.ticket.0) more

-- the leases without those that ended, and behind them those that were granted
abbrev pub with_leases : List Ticket → List Lease → List Lease → Result (List Lease) RecordRefusal
with_leases ended more live = without_all ended live >>= λ left. passed Relation (are_newer left more) (left ++ more)

-- the lives with those that began
abbrev pub with_lives : List NodeLife → (ℕ → ℕ) → ℕ → ℕ
with_lives [] lives = lives
with_lives (x ∷ xs) lives = with_lives xs (put x.node.0 x.life.0 lives)

-- the retired nodes with more of them
abbrev pub with_gone : List NodeId → (ℕ → Bool) → ℕ → Bool
with_gone [] gone = gone
with_gone (n ∷ ns) gone = with_gone ns (put n.0 true gone)

-- the retired slots with more of them
abbrev pub with_retired : List Slot → (Slot → Bool) → Slot → Bool
with_retired slots retired s = retired s || among slots s

-- the lease is one that is saved, no two of its slots are of one PRIVATE folder, and it is a tenure or has no SHARED slot
abbrev pub is_coherent : Lease → Bool
is_coherent g = is_saved g && (no_two is_same_private g.slots && fits_tenure g)

-- the entry's last ticket isn't below the one before it nor below its versions, it retires PRIVATE slots, and each of its
-- leases is coherent
abbrev pub may_follow : ℕ → LogEntry → Bool
may_follow last e = nat_le last e.last.0 && (lines_up_to e.last.0 e.lines && (list_all (λ s. is_private s.folder.mode) e.retired && list_all is_coherent e.leases))

-- the ledger after an entry that leaves these lines and leases
abbrev pub changed : LogEntry → LineOf → List Lease → Ledger → Ledger
changed e line live q = record {
  live = live;
  retired = with_retired e.retired q.retired;
  gone = with_gone e.retired_nodes q.gone;
  line = line;
  last = e.last.0;
  ceiling = e.last.0;
  old_home = e.old_home;
  lives = with_lives e.lives q.lives;
  parked = [];
}

-- the ledger after an entry
abbrev pub with_entry : LogEntry → Ledger → Result Ledger RecordRefusal
with_entry e q = if may_follow q.ceiling e then (do
  line ← with_versions e.lines q.line
  live ← with_leases e.ended e.leases q.live
  Ok (changed e line live q)) else Err (NotCanonical Relation)

-- the ledger after the entry that a text spells
abbrev pub after_text : List ℕ → Ledger → Result Ledger RecordRefusal
after_text text q = entry_of text >>= λ e. with_entry e q

-- the ledger after these entries, or the first fault
abbrev pub with_entries : List (List ℕ) → Ledger → Result Ledger RecordRefusal
with_entries [] q = Ok q
with_entries (text ∷ texts) q = after_text text q >>= with_entries texts

-- ---- the texts

-- the lease's ticket is above all on the lines of its slots
abbrev pub is_open : LineOf → Lease → Bool
is_open line g = list_all (λ x. is_above_all g.ticket (line x.0)) g.slots

-- a slot of the lease is retired
abbrev pub some_retired : (Slot → Bool) → Lease → Bool
some_retired retired g = list_any (λ x. retired x.0) g.slots

-- the lease has a ticket that was given, of the last life of a node that stays, and slots that are not retired, and whose
-- lines it is above
abbrev pub fits : Ledger → Lease → Bool
fits q g = nat_le g.ticket.0 q.last && ((q.lives g.node.0 == g.life.0) && (not (q.gone g.node.0) && (not (some_retired q.retired g) && is_open q.line g)))

-- the ledger, if each of its leases fits it, and no two have a slot or an ask in common
abbrev pub agreed : Ledger → Result Ledger RecordRefusal
agreed q = passed Relation (list_all (fits q) q.live && no_two clash q.live) q

-- the ledger that texts hold, which has no lease that isn't saved
abbrev pub ledger_in : Texts → Result Ledger RecordRefusal
ledger_in t = do
  whole ← record_in t.whole
  folded ← with_entries t.entries (reads (saves (ledger_of whole)))
  agreed folded

abbrev pub saved_by : Result Ledger RecordRefusal → Saved
saved_by (Ok q) = saves q
saved_by (Err e) = saves opening

-- what texts hold of a ledger; where they hold none, that of an empty farm
unfoldable pub saved_in : Texts → Saved
saved_in t = saved_by (ledger_in t)

-- the texts hold a ledger, of which this is saved
pub record Holds (t : Texts) (s : Saved) : Type 0 where
  pub kept : Ledger
  pub read : ledger_in t ≡ Ok kept
  pub saved : saves kept ≡ s

-- ---- while texts are read

-- the ledger of what was read so far
abbrev pub folded_ledger : Folded → Ledger
folded_ledger f = record {
  live = f.leases.items;
  retired = among f.retired.items;
  gone = is_among f.retired_nodes.retired;
  line = line_at f.lines;
  last = f.last.0;
  ceiling = f.last.0;
  old_home = f.old_home;
  lives = life_at f.lives.seen;
  parked = [];
}

-- what a lease is by itself
pub record IsAsked (g : Lease) : Type 0 where
  pub speaker : IsSpeaker NODES g.node g.life
  pub ask : 1 ≤ g.ask.0
  pub ticket : 1 ≤ g.ticket.0
  pub wants : (wants : List Want) × AreAsked g.tenure wants × (map want_of g.slots ≡ leased_wants g.tenure wants)
  pub rise : Rises g

-- what holds after each entry, whether the leases fit or not
pub record IsReadable (q : Ledger) : Type 0 where
  pub tickets : AllPairs IsBefore q.live
  pub leases : All IsAsked q.live
  pub retired : (s : Slot) → q.retired s ≡ true → is_private s.folder.mode ≡ true
  pub versions : (s : Slot) → All (λ v. 1 ≤ v.ticket.0) (q.line s)
  pub past : (s : Slot) → All (λ v. v.ticket.0 ≤ q.ceiling) (q.line s)
  pub home : (h : NodeId) → q.old_home ≡ Some h → IsNumber NODES h
  pub lives : (n : ℕ) → 1 ≤ q.lives n → IsNumber NODES (record { 0 = n })
  pub gone : (n : ℕ) → q.gone n ≡ true → IsNumber NODES (record { 0 = n })

-- ---- what an entry says of an event

-- the lease's ticket is among those that ended
abbrev pub is_ended : List Ticket → Lease → Bool
is_ended ended g = list_any (λ t. has_ticket t g) ended

-- one version, which is above those that its slot has
abbrev pub Follows : LineOf → SlotLine → Type 0
Follows line l = (v : LineVersion) × (l.line ≡ v ∷ []) × (is_above_all v.ticket (line l.slot) ≡ true)

-- the entry has what changed
pub record IsChange (before after : Saved) (e : LogEntry) : Type 0 where
  pub last : e.last.0 ≡ after.ceiling
  pub rises : before.ceiling ≤ after.ceiling
  pub old_home : e.old_home ≡ after.old_home
  pub lives : after.lives ≡ with_lives e.lives before.lives
  pub gone : after.gone ≡ with_gone e.retired_nodes before.gone
  -- each ticket that ended is that of a lease
  pub ended : All (λ t. is_some (lease_under before.live t) ≡ true) e.ended
  pub live : after.live ≡ filter (λ g. not (is_ended e.ended g)) before.live ++ e.leases
  pub retired : (s : Slot) → after.retired s ≡ (before.retired s || among e.retired s)
  pub line : (s : Slot) → after.line s ≡ before.line s ++ line_at e.lines s
  pub above : All (Follows before.line) e.lines

-- each list of an entry is in order, and lives are counted from 1
pub record AreInOrder (e : LogEntry) : Type 0 where
  pub lives_rise : IsStrictlyIncreasing (map (λ x. x.node.0) e.lives)
  pub counted : All (λ x. 1 ≤ x.life.0) e.lives
  pub nodes_rise : IsStrictlyIncreasing (map (λ n. n.0) e.retired_nodes)
  pub ended_rise : IsStrictlyIncreasing (map (λ t. t.0) e.ended)
  pub retired_rise : IsStrictlySortedBy slot_cmp e.retired
  pub lines_rise : IsStrictlySortedBy slot_cmp (map (λ l. l.slot) e.lines)

-- what is saved of a ledger that a record can be written of
pub record IsSaved (s : Saved) : Type 0 where
  pub lawful : IsLawful NODES (reads s)
  pub past : (x : Slot) → All (λ v. v.ticket.0 ≤ s.ceiling) (s.line x)
  pub ahead : All (IsOpen s.line) s.live
  pub rise : All Rises s.live
  pub each : All (λ g. is_saved g ≡ true) s.live
