use Rattle.nodefilter.proofs.RuleLemmas.{a_batch_is_a_run}
use Rattle.nodefilter.proofs.laws.a_batch_is_a_run.Goals as goal

pub returns : goal.returns
returns g c = a_batch_is_a_run g.S.Store.kept g.S.Store.last_life g.S.Store.had
