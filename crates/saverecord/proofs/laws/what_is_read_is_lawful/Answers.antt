use Rattle.saverecord.proofs.InstanceLemmas as instances
use Rattle.saverecord.proofs.ReadLemmas as law
use Rattle.saverecord.proofs.laws.what_is_read_is_lawful.Goals as goal

pub returns-clause-record : goal.returns-clause-record
returns-clause-record c = law.record_is_kept

pub returns-clause-read : goal.returns-clause-read
returns-clause-read c = instances.read_is_kept
