-- How many asks a node holds. This project's own.
use Rattle.std.specs.Prelude.{ℕ, ◌+◌, ◌*◌, ◌≤◌, length}
use Rattle.nodecore.specs.declared.node_core.NodeCore.{NodeCore}
use Rattle.nodeasks.specs.Rows.{present_asks}
use Rattle.nodecore.specs.Shown.{shown}

-- how many asks the node holds, present or over
abbrev pub asks_held_by : NodeCore → ℕ
asks_held_by x = length x.asks.rows.items

-- at most twice as many asks are held as are present, and 2,048 more
abbrev pub IsFewHeld : NodeCore → Type 0
IsFewHeld x = asks_held_by x ≤ 2 * present_asks (shown x).asks + 2048
