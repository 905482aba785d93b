-- An event that was worked out and not applied yet.
use Rattle.std.specs.Prelude.{◌≡◌, ◌≤◌, false, [], Result, Ok, Err}
use Rattle.std.specs.Vec.{vec_capacity}
use Rattle.protocol.specs.Ledger.{Ledger, Work, saves}
use Rattle.events.specs.declared.answer.CoordRefusal.{CoordRefusal}
use Rattle.versions.specs.Additions.{IsReady}
use Rattle.versions.specs.Lines.{room_needed}
use Rattle.effects.specs.declared.effects.Prepared.{Prepared}
use Rattle.effects.specs.Held.{Held, ledger}
use Rattle.effects.specs.Shown.{work_of}
use Rattle.effects.specs.Sound.{IsRightful}

-- what the record holds is as before, unless the work says that it changed
abbrev pub ChangesAsTold : Ledger → Result Work CoordRefusal → Type 0
ChangesAsTold q (Ok w) = w.changed ≡ false → saves w.ledger ≡ saves q
ChangesAsTold q (Err e) = Unit {0}

-- what the event comes to can be saved and applied to what is held
pub record IsPrepared (h : Held) (p : Prepared) : Type 0 where
  pub told : ChangesAsTold (ledger h) (Ok (work_of h p.effects.value))
  pub rightful : IsRightful (work_of h p.effects.value).ledger
  -- the lines can take what is added, in the room that was made
  pub ready : IsReady h.lines p.effects.value.added
  pub empty : p.room.items ≡ []
  pub larger : room_needed h.lines p.effects.value.added ≤ vec_capacity p.room
