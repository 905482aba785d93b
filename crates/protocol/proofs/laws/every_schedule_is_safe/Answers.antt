use Rattle.protocol.proofs.Schedules as schedules
use Rattle.protocol.proofs.laws.every_schedule_is_safe.Goals as goal

pub returns-clause-safe : goal.returns-clause-safe
returns-clause-safe c = schedules.every_schedule_is_safe

pub returns-clause-stays : goal.returns-clause-stays
returns-clause-stays c = schedules.every_schedule_stays_safe
