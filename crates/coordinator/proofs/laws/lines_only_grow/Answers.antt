use Rattle.std.proofs.Common.{subst}
use Rattle.protocol.proofs.Base.{front_trans}
use Rattle.ledger.specs.Settling.{OnlyGrow}
use Rattle.effects.specs.Shown.{LineOf}
use Rattle.ledger.proofs.Growing.{stays}
use Rattle.coordinator.proofs.laws.lines_only_grow.Goals as goal

pub returns-clause-equal : goal.returns-clause-equal
returns-clause-equal c = λ old new same. subst (λ (line : LineOf). OnlyGrow old line) same (stays old)

pub returns-clause-again : goal.returns-clause-again
returns-clause-again c = λ old between new first then s. front_trans (old s) (between s) (new s) (first s) (then s)
