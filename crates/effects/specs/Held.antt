-- What contracts see of a coordinator.
use Rattle.std.specs.Prelude.{ℕ, List, Option}
use Rattle.protocol.specs.Names.{Slot, NodeId}
use Rattle.protocol.specs.Machine.{Parked}
use Rattle.protocol.specs.Ledger.{Lease, Ledger}
use Rattle.holdings.specs.Leases.{among}
pub use Rattle.holdings.specs.Lives.{life_at, is_among}
pub use Rattle.versions.specs.Lines.{line_at}
use Rattle.versions.specs.declared.lines.SlotLine.{SlotLine}
use Rattle.farm_base.specs.declared.lease.NodeLife.{NodeLife}

-- the ledger, as lists
pub record Held : Type 0 where
  pub live : List Lease
  pub retired : List Slot
  pub gone : List NodeId
  pub lines : List SlotLine
  pub last : ℕ
  pub ceiling : ℕ
  pub old_home : Option NodeId
  pub lives : List NodeLife
  pub parked : List Parked

-- the ledger that is held
abbrev pub ledger : Held → Ledger
ledger h = record {
  live = h.live;
  retired = among h.retired;
  gone = is_among h.gone;
  line = line_at h.lines;
  last = h.last;
  ceiling = h.ceiling;
  old_home = h.old_home;
  lives = life_at h.lives;
  parked = h.parked;
}
