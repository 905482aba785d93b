use Rattle.schedule.specs.Schedules.{lines}
use Rattle.schedule.proofs.ScheduleLaws.{said_same, refusals_same, said_or_refused}
use Rattle.schedule.proofs.laws.a_text_says_one_thing.Goals as goal

pub returns-clause-schedule : goal.returns-clause-schedule
returns-clause-schedule c = λ text s t es fs h k. said_same (lines text) s t es fs h.say k.say

pub returns-clause-fault : goal.returns-clause-fault
returns-clause-fault c = refusals_same

pub returns-clause-apart : goal.returns-clause-apart
returns-clause-apart c = said_or_refused
