use Rattle.std.proofs.Common.{◌≡◌, ◌++◌, ◌∷◌, drop}
use Rattle.protocol.specs.Farm.{farm_limits}
use Rattle.protocol.specs.Machine.{hello}
use Rattle.nodecore.specs.Shown.{place, shown}
use Rattle.nodecore.proofs.AgainLemmas.{again_rows}
use Rattle.nodecore.proofs.node_core.NodeCore.all_again.Given as goal

abbrev pub invariant-loop-row : goal.invariant-loop-row
invariant-loop-row l = l.sends.items ++ again_rows farm_limits (place l.self) (shown l.self) (drop l.row-index l.self.asks.rows.items)
    ≡ hello l.self.node l.self.life ∷ again_rows farm_limits (place l.self) (shown l.self) l.self.asks.rows.items
