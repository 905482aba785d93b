use Rattle.saverecord.proofs.KeptLemmas as law
use Rattle.saverecord.proofs.laws.what_is_kept_is_a_record.Goals as goal

pub returns : goal.returns
returns c = law.kept_is_record
