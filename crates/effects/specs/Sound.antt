-- What a ledger keeps to.
use Rattle.std.specs.Prelude.{◌≡◌, ◌≤◌, Bool, true, ◌||◌, All}
use Rattle.farm_base.specs.Wanted.{IsWants}
use Rattle.names.specs.declared.limits.TheConstants.{NODES}
use Rattle.holdings.specs.Leases.{AreLeases}
pub use Rattle.holdings.specs.Leases.{IsOpen}
use Rattle.protocol.specs.Lists.{In}
use Rattle.protocol.specs.Names.{Slot, leased_wants}
use Rattle.protocol.specs.Machine.{Parked}
use Rattle.protocol.specs.Ledger.{Ledger, elsewhere, busy, is_leased}
use Rattle.protocol.specs.Lawful.{IsLawful}

-- the ask waits for the old home, or for a slot that is leased
abbrev pub is_held_up : Ledger → Parked → Bool
is_held_up q p = elsewhere q p || busy (is_leased q) (leased_wants p.tenure p.wants)

-- each parked ask waits so
abbrev pub AreHeldUp : Ledger → Type 0
AreHeldUp q = (p : Parked) → In p q.parked → is_held_up q p ≡ true

-- its leases may be live together, and its tickets are in order
pub record IsSound (q : Ledger) : Type 0 where
  pub leases : AreLeases q.live
  -- no ticket is above the last
  pub given : All (λ g. g.ticket.0 ≤ q.last) q.live
  pub past : (s : Slot) → All (λ v. v.ticket.0 ≤ q.last) (q.line s)
  pub ahead : All (IsOpen q.line) q.live
  pub asks : All (λ p. IsWants p.wants) q.parked

-- a ledger that the coordinator may keep: a record can be written of it
pub record IsRightful (q : Ledger) : Type 0 where
  pub sound : IsSound q
  pub lawful : IsLawful NODES q
  -- each parked ask waits for the old home or for a leased slot
  pub held_up : AreHeldUp q
