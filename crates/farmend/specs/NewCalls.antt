-- The new calls of executors, as they are looked for (this project's own).
use Rattle.std.specs.Prelude.{⊤, ◌≡◌, List, [], ◌∷◌, ◌++◌}
use Rattle.std.specs.Borrow.{Bor}
use Rattle.names.specs.declared.number.NodeId.{NodeId}
use Rattle.executions.specs.declared.call.Call.{Call}
pub use Rattle.reasons.specs.NewCalls.{new_calls}

-- of each executor, in order, its node, the calls that it had, those at the end, and its node with its new calls
abbrev pub AreNew : List NodeId → List (List Call) → List (List Call) → List (NodeId × Bor (List Call)) → Type 0
AreNew [] [] [] [] = ⊤
AreNew (n ∷ nodes) (had ∷ hads) (end ∷ ends) (each ∷ news) = (each.0 ≡ n) × (end ≡ had ++ each.1.now)
    × AreNew nodes hads ends news
AreNew nodes hads ends news = ⊥
