use Rattle.protocol.proofs.LawfulFarms.{every_farm_stays_lawful, every_opening_is_lawful}
use Rattle.protocol.proofs.laws.every_farm_stays_lawful.Goals as goal

pub returns-clause-opening : goal.returns-clause-opening
returns-clause-opening c = every_opening_is_lawful

pub returns-clause-stays : goal.returns-clause-stays
returns-clause-stays c = every_farm_stays_lawful
