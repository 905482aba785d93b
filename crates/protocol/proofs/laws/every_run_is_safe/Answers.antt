use Rattle.protocol.proofs.Safety as safety
use Rattle.protocol.proofs.laws.every_run_is_safe.Goals as goal

pub returns-clause-safe : goal.returns-clause-safe
returns-clause-safe c = safety.every_run_is_safe

pub returns-clause-stays : goal.returns-clause-stays
returns-clause-stays c = safety.every_run_stays_safe
