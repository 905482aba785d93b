-- The calls that executors made during a run (this project's own).
use Rattle.std.specs.Prelude.{◌≡◌, ◌==◌, ℕ, ℤ, if◌then◌else◌, List, [], ◌∷◌, drop, length, Result, Ok, Err, Some, None, slice_get}
use Rattle.std.specs.Borrow.{Bor}
use Rattle.std.specs.List.{Contains}
use Rattle.names.specs.declared.digest.Digest.{Digest}
use Rattle.names.specs.declared.digest.Key.{Key}
use Rattle.names.specs.declared.number.NodeId.{NodeId}
use Rattle.executions.specs.declared.call.Call.{Call}
use Rattle.executions.specs.Calls.{call}

-- the calls that executors on a node made since they were handed in: of each executor, in order, its node, the calls
-- that it had then, and those at the end
abbrev pub new_calls : NodeId → List NodeId → List (List Call) → List (List Call) → List (List Call)
new_calls node [] hads ends = []
new_calls node (n ∷ nodes) [] ends = []
new_calls node (n ∷ nodes) (had ∷ hads) [] = []
new_calls node (n ∷ nodes) (had ∷ hads) (end ∷ ends) =
    if n.0 == node.0 then drop (length had) end ∷ new_calls node nodes hads ends else new_calls node nodes hads ends

-- the call is among those that one of the executors made
pub record IsAmong (news : List (List Call)) (c : Call) : Type 0 where
  pub calls : List Call
  pub made : Contains news calls
  pub there : Contains calls c

-- such a call for this key
abbrev pub IsCallFor : List (List Call) → Key → Call → Type 0
IsCallFor news key c = IsAmong news c × (c.key ≡ key)

-- a call gave outputs of the key
abbrev pub GaveOutputs : List (List Call) → Key → Type 0
GaveOutputs news key = (outputs : List Digest) × IsAmong news (call key (Ok outputs))

-- the outputs that a call gave, by their index; one that failed gave none
abbrev pub outputs_in : Result (List Digest) ℤ → List Digest
outputs_in (Ok outputs) = outputs
outputs_in (Err status) = []

-- a call for the key gave this output
abbrev pub Gave : List (List Call) → Key → ℕ → Digest → Type 0
Gave news key index digest = (c : Call) × IsCallFor news key c × (slice_get (outputs_in c.result) index ≡ Some digest)

-- a call for the key failed, or gave no output of this index
abbrev pub HasNone : List (List Call) → Key → ℕ → Type 0
HasNone news key index = (c : Call) × IsCallFor news key c × (slice_get (outputs_in c.result) index ≡ None)

-- ---- while they are looked for

-- the new calls of the executors on a node
abbrev pub on_node : NodeId → List (NodeId × Bor (List Call)) → List (List Call)
on_node node [] = []
on_node node (each ∷ news) = if each.0.0 == node.0 then each.1.now ∷ on_node node news else on_node node news
