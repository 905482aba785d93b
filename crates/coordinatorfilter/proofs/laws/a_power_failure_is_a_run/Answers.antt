use Rattle.coordinatorfilter.proofs.PowerLemmas.{power_fails}
use Rattle.coordinatorfilter.proofs.laws.a_power_failure_is_a_run.Goals as goal

pub returns : goal.returns
returns g c = λ honest. power_fails g.K.Keeper.saving g.K.Keeper.loading g.K.Keeper.syncing g.K.Keeper.kept g.K.Keeper.lasting honest
