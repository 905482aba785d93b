-- The new calls of executors, of each of them and of those on a node.
use Rattle.std.proofs.Common.{◌≡◌, ℕ, ◌+◌, ◌==◌, List, [], ◌∷◌, ◌++◌, map, take, drop, length, Some, slice_get, refl, sym, ap, ◌∙◌}
use Rattle.std.specs.Borrow.{Bor}
use Rattle.std.specs.List.{AllZip}
use Rattle.std.proofs.Math.Seq.{drop-append_seam}
use Rattle.std.proofs.lemmas.List.{map_push}
use Rattle.names.specs.declared.number.NodeId.{NodeId}
use Rattle.executions.specs.Calls.{Grew}
use Rattle.executions.specs.declared.call.Call.{Call}
use Rattle.lists.proofs.Places.{take_push}
use Rattle.farmend.specs.NewCalls.{AreNew}
use Rattle.reasons.specs.NewCalls.{new_calls, on_node}
use Rattle.farmend.specs.declared.hired.Hired.{Hired}

-- one executor more
AreNew-push : (nodes : List NodeId) (hads ends : List (List Call)) (news : List (NodeId × Bor (List Call))) (node : NodeId) (had end : List Call) (each : NodeId × Bor (List Call))
    → AreNew nodes hads ends news → each.0 ≡ node → end ≡ had ++ each.1.now → AreNew (nodes ++ node ∷ []) (hads ++ had ∷ []) (ends ++ end ∷ []) (news ++ each ∷ [])
AreNew-push [] [] [] [] node had end each all place grew = (place, grew, tt)
AreNew-push (n ∷ nodes) (h ∷ hads) (e ∷ ends) (x ∷ news) node had end each all place grew = (all.0, all.1, AreNew-push nodes hads ends news node had end each all.2 place grew)
AreNew-push [] [] [] (x ∷ news) node had end each all place grew = absurd all
AreNew-push [] [] (e ∷ ends) news node had end each all place grew = absurd all
AreNew-push [] (h ∷ hads) ends news node had end each all place grew = absurd all
AreNew-push (n ∷ nodes) [] ends news node had end each all place grew = absurd all
AreNew-push (n ∷ nodes) (h ∷ hads) [] news node had end each all place grew = absurd all
AreNew-push (n ∷ nodes) (h ∷ hads) (e ∷ ends) [] node had end each all place grew = absurd all

-- what is made of a list up to one place more
map_take : {X Y : Type 0} (f : X → Y) (xs : List X) (k : ℕ) (x : X) → slice_get xs k ≡ Some x → map f (take (k + 1) xs) ≡ map f (take k xs) ++ f x ∷ []
map_take f xs k x at = ap (λ (ys : List _). map f ys) (take_push xs k x at) ∙ map_push f (take k xs) x

-- one place more
pub new_at : (hired : List Hired) (ends : List (Bor (List Call))) (k : ℕ) (news longer : List (NodeId × Bor (List Call))) (h : Hired) (end more : Bor (List Call))
    → slice_get hired k ≡ Some h → slice_get ends k ≡ Some end → longer ≡ news ++ (h.node, more) ∷ [] → end.now ≡ h.had.items ++ more.now
    → AreNew (map (λ each. each.node) (take k hired)) (map (λ each. each.had.items) (take k hired)) (map (λ calls. calls.now) (take k ends)) news
    → AreNew (map (λ each. each.node) (take (k + 1) hired)) (map (λ each. each.had.items) (take (k + 1) hired)) (map (λ calls. calls.now) (take (k + 1) ends)) longer
new_at hired ends k news longer h end more at_hired at_ends is grew all =
    rw (map_take (λ (each : Hired). each.node) hired k h at_hired, map_take (λ (each : Hired). each.had.items) hired k h at_hired, map_take (λ (calls : Bor (List Call)). calls.now) ends k end at_ends, is)
    (AreNew-push _ _ _ news h.node h.had.items end.now (h.node, more) all refl grew)

-- the calls of each begin with those that it had
pub grew_if_new : (nodes : List NodeId) (hads ends : List (List Call)) (news : List (NodeId × Bor (List Call))) → AreNew nodes hads ends news → AllZip Grew hads ends
grew_if_new [] [] [] [] all = tt
grew_if_new (n ∷ nodes) (h ∷ hads) (e ∷ ends) (x ∷ news) all = ((x.1.now, all.1), grew_if_new nodes hads ends news all.2)
grew_if_new [] [] [] (x ∷ news) all = absurd all
grew_if_new [] [] (e ∷ ends) news all = absurd all
grew_if_new [] (h ∷ hads) ends news all = absurd all
grew_if_new (n ∷ nodes) [] ends news all = absurd all
grew_if_new (n ∷ nodes) (h ∷ hads) [] news all = absurd all
grew_if_new (n ∷ nodes) (h ∷ hads) (e ∷ ends) [] all = absurd all

-- those on a node made these
pub on_node_if_new : (node : NodeId) (nodes : List NodeId) (hads ends : List (List Call)) (news : List (NodeId × Bor (List Call))) → AreNew nodes hads ends news
    → on_node node news ≡ new_calls node nodes hads ends
on_node_if_new node [] [] [] [] all = refl
on_node_if_new node (n ∷ nodes) (h ∷ hads) (e ∷ ends) (x ∷ news) all =
    let rest = on_node_if_new node nodes hads ends news all.2 in
    let more : x.1.now ≡ drop (length h) e = sym (drop-append_seam h x.1.now) ∙ ap (λ (calls : List Call). drop (length h) calls) (sym all.1) in
    let there : (x.0.0 == node.0) ≡ (n.0 == node.0) = ap (λ (m : NodeId). m.0 == node.0) all.0 in
    rw (there, rest, more) refl
on_node_if_new node [] [] [] (x ∷ news) all = absurd all
on_node_if_new node [] [] (e ∷ ends) news all = absurd all
on_node_if_new node [] (h ∷ hads) ends news all = absurd all
on_node_if_new node (n ∷ nodes) [] ends news all = absurd all
on_node_if_new node (n ∷ nodes) (h ∷ hads) [] news all = absurd all
on_node_if_new node (n ∷ nodes) (h ∷ hads) (e ∷ ends) [] all = absurd all
