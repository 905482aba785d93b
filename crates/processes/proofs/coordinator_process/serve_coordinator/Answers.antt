use Rattle.std.proofs.Common.{◌∙◌, refl, subst}
use Rattle.std.proofs.lemmas.Option.{IfSome_then}
use Rattle.std.proofs.lemmas.Result.{on_ok_weaker}
use Rattle.coordinatorfilter.specs.Written.{Filters, MakesLast}
use Rattle.coordinatorfilter.specs.Rules.{filter_steps}
use Rattle.processes.proofs.FilterLemmas.{serves_seen}
use Rattle.processes.proofs.coordinator_process.serve_coordinator.Goals as goal
use Rattle.farmwire.specs.Sealed.{key_in}

pub returns-clause-served : goal.returns-clause-served
returns-clause-served g c = on_ok_weaker c.serve.result (λ h. IfSome_then (g.R.Read.remaining c.args.reader) h (λ text served.
    serves_seen _ (filter_steps g.K.Keeper.saving g.K.Keeper.loading g.K.Keeper.kept (key_in c.args.filter.now.keys)) _
    (MakesLast g.K.Keeper.syncing g.K.Keeper.loading g.K.Keeper.kept g.K.Keeper.lasting) (λ f. f.coordinator) (λ f. f.keys)
    c.args.filter.now.keys
    (λ old given answer new same step. (
      subst (λ k. Filters g.K.Keeper.saving g.K.Keeper.loading g.K.Keeper.kept (key_in k) given answer old.coordinator new.coordinator) same step.0,
      step.1 ∙ same,
    ))
    (λ old settled new made. made)
    _ _ _ c.args.filter.now c.serve.new.step _ _ refl (rw c.as_bytes.ensures.value at served))) c.serve.ensures
