use Rattle.protocol.proofs.Lawfulness.{every_ledger_stays_lawful}
use Rattle.protocol.proofs.laws.every_ledger_stays_lawful.Goals as goal

pub returns : goal.returns
returns c = every_ledger_stays_lawful
