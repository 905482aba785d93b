-- What contracts see of a coordinator and of who keeps its record.
use Rattle.std.specs.Prelude.{◌≡◌, Bool, false}
use Rattle.protocol.specs.Ledger.{Saved, saves}
use Rattle.saverecord.specs.Logs.{Holds}
use Rattle.saverecord.specs.Texts.{Texts}
use Rattle.effects.specs.Held.{Held, ledger}

-- a coordinator, over a keeper of this kind
pub record Seen (K : Type 0) : Type 0 where
  -- the ledger that it keeps, as lists
  pub held : Held
  pub keeper : K
  -- a save failed, and it has not restarted since
  pub down : Bool

-- what is kept holds a ledger, and while the coordinator is up, what is saved of its own
pub record IsKeeping (texts : Texts) (held : Held) (down : Bool) : Type 0 where
  pub saved : Saved
  pub holds : Holds texts saved
  pub up : down ≡ false → saved ≡ saves (ledger held)
