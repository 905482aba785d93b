-- Refusals of a line.
use Rattle.std.specs.Prelude.{ℕ}
use Rattle.schedule.specs.declared.refusal.ScheduleRefusal.{ScheduleRefusal}
use Rattle.schedule.specs.declared.refusal.ScheduleRefusal.TheVariants as schedule
use Rattle.words.specs.declared.refusal.ReadRefusal.{ReadRefusal}
use Rattle.words.specs.declared.refusal.ReadRefusal.TheVariants.{BadForm, OutOfMemory}

-- the refusal of a schedule whose line of this number can't be read
abbrev pub refusal_at : ReadRefusal → ℕ → ScheduleRefusal
refusal_at BadForm number = schedule.BadLine number
refusal_at OutOfMemory number = schedule.OutOfMemory
