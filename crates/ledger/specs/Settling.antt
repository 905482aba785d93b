-- What saving and applying an event leaves, and a load, over a keeper whose saves and loads may leave what `saving` and `loading` say.
use Rattle.std.specs.Prelude.{◌≡◌, Bool, true, false, List, Option, Some, None, Result, Ok, Err}
use Rattle.protocol.specs.Lists.{IsFrontOf}
use Rattle.protocol.specs.Names.{Slot}
use Rattle.protocol.specs.Machine.{LineVersion}
use Rattle.protocol.specs.Ledger.{Work, Saved, saves, reads}
use Rattle.events.specs.declared.answer.CoordRefusal.{CoordRefusal}
use Rattle.events.specs.declared.answer.CoordRefusal.TheVariants.{SaveFault, BadRecord, LoadFault, OutOfMemory}
use Rattle.saverecord.specs.Logs.{Holds, ledger_in, saved_in}
use Rattle.saverecord.specs.Texts.{Texts}
use Rattle.recordparts.specs.declared.refusal.RecordRefusal.{RecordRefusal}
use Rattle.saverecord.specs.declared.refusal.KeeperRefusal.{KeeperRefusal}
use Rattle.saverecord.specs.declared.refusal.KeeperRefusal.TheVariants.{Fault}
use Rattle.effects.specs.Held.{Held, ledger}
use Rattle.ledger.specs.Seen.{Seen}
use Rattle.ledger.specs.declared.handled.Handled.{Handled}

-- no line loses or changes a version
abbrev pub OnlyGrow : (Slot → List LineVersion) → (Slot → List LineVersion) → Type 0
OnlyGrow old new = (s : Slot) → IsFrontOf (old s) (new s)

-- the keeper was asked once to keep texts that hold this: a whole record, or an entry behind those that it had
pub record Saves {K : Type 0} (saving : K → Texts → Bool → K → Type 0) (s : Saved) (ok : Bool)
    (old new : K) : Type 0 where
  pub texts : Texts
  pub holds : Holds texts s
  pub left : saving old texts ok new

-- the record is saved where it changed, and else the keeper is as it was
abbrev pub SavesIf : {K : Type 0} → (K → Texts → Bool → K → Type 0) → Bool → Saved → K → K → Type 0
SavesIf saving true s old new = Saves saving s true old new
SavesIf saving false s old new = new ≡ old

-- the work is saved and done, and what it sends is handed out
pub record Does {K : Type 0} (saving : K → Texts → Bool → K → Type 0) (w : Work) (old new : Seen K)
    (h : Handled) : Type 0 where
  pub saved : SavesIf saving w.changed (saves w.ledger) old.keeper new.keeper
  pub ledger : ledger new.held ≡ w.ledger
  pub up : new.down ≡ false
  pub sends : h.sends ≡ w.sends
  pub note : h.note ≡ w.note

-- the save failed: nothing is sent, and nothing is done until the restart
pub record Fails {K : Type 0} (saving : K → Texts → Bool → K → Type 0) (w : Work) (old new : Seen K) : Type 0 where
  pub changed : w.changed ≡ true
  pub saved : Saves saving (saves w.ledger) false old.keeper new.keeper
  pub held : new.held ≡ old.held
  pub down : new.down ≡ true

-- the answer is that the save failed
abbrev pub is_save_fault : Result Handled CoordRefusal → Bool
is_save_fault (Err SaveFault) = true
is_save_fault result = false

module _ {K : Type 0} (saving : K → Texts → Bool → K → Type 0) where
  -- the answer of a coordinator that is up, where the rules make this work of the event
  abbrev pub Answers : Result Work CoordRefusal → Seen K → Seen K → Result Handled CoordRefusal → Type 0
  Answers (Ok w) old new (Ok h) = Does saving w old new h
  Answers (Ok w) old new (Err SaveFault) = Fails saving w old new
  Answers (Ok w) old new (Err e) = (e ≡ OutOfMemory) × (new ≡ old)
  Answers (Err e) old new result = (result ≡ Err e) × (new ≡ old)

-- the answer of a load of these texts
abbrev pub Loads : {K : Type 0} → (K → Option KeeperRefusal → K → Type 0) → Texts → K → K → Result Held CoordRefusal
    → Type 0
Loads loading texts old new (Ok held) = loading old None new × ((s : Saved) × Holds texts s)
    × (ledger held ≡ reads (saved_in texts))
Loads loading texts old new (Err BadRecord) = loading old None new × ((e : RecordRefusal) × (ledger_in texts ≡ Err e))
Loads loading texts old new (Err LoadFault) = loading old (Some Fault) new
Loads loading texts old new (Err OutOfMemory) = (refusal : Option KeeperRefusal) × loading old refusal new
Loads loading texts old new (Err e) = ⊥
