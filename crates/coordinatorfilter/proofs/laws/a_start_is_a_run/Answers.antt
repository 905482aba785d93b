use Rattle.coordinatorfilter.proofs.RuleLemmas.{a_start_is_a_run}
use Rattle.coordinatorfilter.proofs.laws.a_start_is_a_run.Goals as goal

pub returns : goal.returns
returns g c = λ honest. a_start_is_a_run g.K.Keeper.saving g.K.Keeper.loading g.K.Keeper.syncing g.K.Keeper.kept g.K.Keeper.lasting honest
