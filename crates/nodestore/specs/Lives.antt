-- How a node's last life is written in its folder (this project's own).
use Rattle.std.specs.Prelude.{ℕ, List, ◌++◌, codes, decimal}
use Rattle.protocol.specs.Names.{NodeId, Life}

-- `node N life L` and a line's end
abbrev pub life_line : NodeId → Life → List ℕ
life_line node life = codes "node " ++ (decimal node.0 ++ (codes " life " ++ (decimal life.0 ++ codes "\n")))
