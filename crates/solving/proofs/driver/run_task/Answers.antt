use Rattle.std.proofs.Common.{◌∙◌, List, subst}
use Rattle.std.specs.List.{All}
use Rattle.farm_base.specs.declared.want.Want.{Want}
use Rattle.solving.specs.Places.{IsSeenIn}
use Rattle.solving.proofs.driver.run_task.Goals as goal

pub run_leased-requires-clause-shared : goal.run_leased-requires-clause-shared
run_leased-requires-clause-shared g c =
    subst (λ (ws : List Want). All (IsSeenIn c.in_ok-shared.shared.items) ws) (c.as_slice.ensures.same ∙ c.wants.ensures) c.in_ok-shared.ensures
