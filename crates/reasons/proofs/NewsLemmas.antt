-- The new calls of the executors on a node.
use Rattle.std.proofs.Common.{◌≡◌, zero, suc, ◌==◌, Bool, true, false, if◌then◌else◌, List, [], ◌∷◌, ap, ◌∙◌, subst, arith}
use Rattle.std.specs.Borrow.{Bor}
use Rattle.std.specs.List.{Contains}
use Rattle.names.specs.declared.number.NodeId.{NodeId}
use Rattle.executions.specs.declared.call.Call.{Call}
use Rattle.lists.proofs.Places.{Contains-head, Contains-tail}
use Rattle.reasons.specs.NewCalls.{on_node}

-- if the first executor is on the node or not, what another one made is among those
behind : (node : NodeId) (x : NodeId × Bor (List Call)) (news : List (NodeId × Bor (List Call))) (calls : List Call) (here : Bool)
    → Contains (on_node node news) calls → Contains (if here then x.1.now ∷ on_node node news else on_node node news) calls
behind node x news calls true there = Contains-tail x.1.now (on_node node news) calls there
behind node x news calls false there = there

-- the new calls of an executor on the node are among those
pub on_node_has : (node : NodeId) (news : List (NodeId × Bor (List Call))) (each : NodeId × Bor (List Call)) → Contains news each → (each.0.0 == node.0) ≡ true
    → Contains (on_node node news) each.1.now
on_node_has node [] each (k, less, is) here = absurd (omega (arith, less))
on_node_has node (x ∷ news) each (zero, less, is) here =
    let first : (x.0.0 == node.0) ≡ true = ap (λ (y : NodeId × Bor (List Call)). y.0.0 == node.0) is ∙ here in
    let same : x.1.now ≡ each.1.now = ap (λ (y : NodeId × Bor (List Call)). y.1.now) is in
    rw first (subst (λ (calls : List Call). Contains (x.1.now ∷ on_node node news) calls) same (Contains-head x.1.now (on_node node news)))
on_node_has node (x ∷ news) each (suc k, less, is) here = behind node x news each.1.now (x.0.0 == node.0) (on_node_has node news each (k, omega (arith, less), is) here)
