-- What a coordinator answers, over a keeper whose saves and loads may leave what `saving` and `loading` say.
use Rattle.std.specs.Prelude.{◌≡◌, Bool, true, false, Option, Some, None, Result, Ok, Err, ⊤}
use Rattle.protocol.specs.Ledger.{Work, reads}
use Rattle.events.specs.declared.answer.CoordRefusal.{CoordRefusal}
use Rattle.events.specs.declared.answer.CoordRefusal.TheVariants.{Down, LoadFault, OutOfMemory}
use Rattle.ledger.specs.Logs.{saved_in}
use Rattle.ledger.specs.Texts.{Texts}
use Rattle.ledger.specs.KeeperRefusal.{KeeperRefusal}
use Rattle.ledger.specs.KeeperRefusal.TheVariants.{Fault}
use Rattle.effects.specs.Held.{ledger}
use Rattle.ledger.specs.Seen.{Seen}
pub use Rattle.ledger.specs.Settling.{Answers, Does, Fails, SavesIf}
pub use Rattle.ledger.specs.declared.handled.Handled.{Handled}

-- a coordinator that is down does nothing
abbrev pub SettlesWhile : {K : Type 0} → Bool → (K → Texts → Bool → K → Type 0) → Result Work CoordRefusal → Seen K
    → Seen K → Result Handled CoordRefusal → Type 0
SettlesWhile true saving work old new result = (result ≡ Err Down) × (new ≡ old)
SettlesWhile false saving work old new result = Answers saving work old new result

module _ {K : Type 0} (saving : K → Texts → Bool → K → Type 0) where
  -- the answer of a coordinator, where the rules make this work of the event
  abbrev pub Settles : Result Work CoordRefusal → Seen K → Seen K → Result Handled CoordRefusal → Type 0
  Settles work old new result = SettlesWhile old.down saving work old new result

-- a restart takes up what the keeper's texts hold
pub record TakesUp {K : Type 0} (loading : K → Option KeeperRefusal → K → Type 0) (texts : Texts) (old : K)
    (new : Seen K) : Type 0 where
  pub loaded : loading old None new.keeper
  pub ledger : ledger new.held ≡ reads (saved_in texts)
  pub up : new.down ≡ false

-- the answer of a restart: where the keeper's device fails the coordinator is down, where memory runs out it is as it
-- was
abbrev pub Restarts : {K : Type 0} → (K → Option KeeperRefusal → K → Type 0) → Texts → Seen K → Seen K
    → Result ⊤ CoordRefusal → Type 0
Restarts loading texts old new (Ok done) = TakesUp loading texts old.keeper new
Restarts loading texts old new (Err LoadFault) = loading old.keeper (Some Fault) new.keeper × (new.held ≡ old.held)
    × (new.down ≡ true)
Restarts loading texts old new (Err OutOfMemory) =
    ((refusal : Option KeeperRefusal) × loading old.keeper refusal new.keeper) × (new.held ≡ old.held)
    × (new.down ≡ old.down)
Restarts loading texts old new (Err e) = ⊥

-- a sync, and whether it succeeded: where it didn't the coordinator is down
abbrev pub Syncs : {K : Type 0} → (K → Bool → K → Type 0) → Seen K → Bool → Seen K → Type 0
Syncs syncing old true new = syncing old.keeper true new.keeper × (new.held ≡ old.held) × (new.down ≡ old.down)
Syncs syncing old false new = syncing old.keeper false new.keeper × (new.held ≡ old.held) × (new.down ≡ true)
