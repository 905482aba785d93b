use Rattle.std.proofs.Common.{sym, refl, subst, ◌∙◌}
use Rattle.coordinator.specs.Settling.{Syncs}
use Rattle.coordinatorfilter.proofs.coordinator_filter.CoordinatorFilterStep.settle.Goals as goal

pub returns : goal.returns
returns g c = (
  (
    c.sync.new.self,
    subst (λ ok. Syncs g.K.Keeper.syncing c.args.self.now.coordinator ok c.sync.new.self) (sym c.is_ok.ensures.value ∙ c.if-is_ok.false) c.sync.ensures.answer,
    c.restart.ensures.answer,
  ),
  refl,
)
