-- The ledger that a record keeps (docs/PROOFS.md, "The record"). The rules are this project's own.
use Rattle.std.specs.Prelude.{◌≡◌, ℕ, ◌≤◌, Bool, List, [], ◌∷◌, map, All, None, Result, Ok}
use Rattle.std.specs.List.Sorted.{IsStrictlyIncreasing, IsStrictlySortedBy}
use Rattle.names.specs.declared.limits.TheConstants.{NODES}
use Rattle.names.specs.Digests.{IsBytes}
use Rattle.names.specs.Slots.{slot_cmp}
use Rattle.holdings.specs.Leases.{Rises, IsOpen}
use Rattle.holdings.specs.Leases.{among}
use Rattle.holdings.specs.Lives.{life_at, is_among}
use Rattle.protocol.specs.Names.{Slot, IsInstance}
use Rattle.protocol.specs.Ledger.{Ledger, Lease}
use Rattle.protocol.specs.Lawful.{IsLawful}
use Rattle.versions.specs.Lines.{line_at}
use Rattle.versions.specs.Ordered.{AreLines}
use Rattle.saverecord.specs.declared.record.Record.{Record}
use Rattle.recordparts.specs.declared.refusal.RecordRefusal.{RecordRefusal}
use Rattle.saverecord.specs.Records.{record_of}
use Rattle.saverecord.specs.Fits.{IsRecord}

-- the ledger that a restart makes of a record: the last ticket is the ceiling, and no ask is parked
abbrev pub ledger_of : Record → Ledger
ledger_of r = record {
  live = r.leases;
  retired = among r.retired;
  gone = is_among r.retired_nodes;
  line = line_at r.lines;
  last = r.last.0;
  ceiling = r.last.0;
  old_home = r.old_home;
  lives = life_at r.lives;
  parked = [];
}

-- a record of a farm where nothing happened
abbrev pub blank : Record
blank = record { last = record { 0 = 0 }; old_home = None; lives = []; retired_nodes = []; leases = []; retired = []; lines = [] }

-- the whole record that kept bytes hold: none was saved yet where there are no bytes
abbrev pub record_in : List ℕ → Result Record RecordRefusal
record_in [] = Ok blank
record_in (b ∷ bytes) = record_of (b ∷ bytes)

-- a record of a lawful ledger, each list in its order
pub record IsKept (r : Record) : Type 0 where
  pub lawful : IsLawful NODES (ledger_of r)
  pub lives_rise : IsStrictlyIncreasing (map (λ x. x.node.0) r.lives)
  -- lives are counted from 1
  pub lives : All (λ x. 1 ≤ x.life.0) r.lives
  pub nodes_rise : IsStrictlyIncreasing (map (λ n. n.0) r.retired_nodes)
  pub retired_rise : IsStrictlySortedBy slot_cmp r.retired
  pub slots_rise : All Rises r.leases
  pub lines : AreLines r.lines
  -- no ticket is above the last
  pub past : (s : Slot) → All (λ v. v.ticket.0 ≤ r.last.0) (line_at r.lines s)
  pub ahead : All (IsOpen (line_at r.lines)) r.leases

-- the slot has an instance of its folder, as each slot of the program
abbrev pub HasInstance : Slot × Bool → Type 0
HasInstance x = IsInstance x.0.folder.mode x.0.instance

-- so has each slot of the lease
abbrev pub HasInstances : Lease → Type 0
HasInstances g = All HasInstance g.slots

-- a record of a lawful ledger can be written
abbrev pub KeptIsRecord : Type 0
KeptIsRecord = (r : Record) → IsKept r → IsRecord r

-- a record that can be written is of a lawful ledger
abbrev pub RecordIsKept : Type 0
RecordIsKept = (r : Record) → All HasInstances r.leases → IsRecord r → IsKept r

-- so is each record that is read
abbrev pub ReadIsKept : Type 0
ReadIsKept = (bytes : List ℕ) (r : Record) → IsBytes bytes → record_of bytes ≡ Ok r → IsKept r
