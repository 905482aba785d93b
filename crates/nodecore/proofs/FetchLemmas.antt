-- The Fetches that a node sends.
use Rattle.std.proofs.Common.{◌≡◌, ℕ, suc, ◌+◌, ◌-◌, ◌<◌, ◌==◌, Bool, true, false, not, cond, List, [], ◌∷◌, ◌++◌, map, filter, refl, ap, ◌∙◌, arith}
use Rattle.names.specs.declared.digest.Digest.{Digest}
use Rattle.names.specs.declared.number.NodeId.{NodeId}
use Rattle.protocol.specs.Machine.{Message, Fetches, GrantedSlot}
use Rattle.protocol.specs.Nodes.{Place, nodes_from, fetches, fetches_of, is_missing}
use Rattle.protocol.specs.World.{Node}
use Rattle.protocol.specs.Ledger.{Limits}

abbrev pub fetch_to : Place → Digest → NodeId → Message
fetch_to at d n = Fetches (record { node = n; from = at.node; digest = d })

abbrev pub is_other : Place → NodeId → Bool
is_other at n = not (n.0 == at.node.0)

-- those to the nodes above the i-th
abbrev pub fetches_above : Place → Digest → ℕ → ℕ → List Message
fetches_above at d i n = map (fetch_to at d) (filter (is_other at) (nodes_from (i + 1) (n - i)))

numbers-next : (i k m : ℕ) → k ≡ suc m → nodes_from (i + 1) k ≡ record { 0 = i + 1 } ∷ nodes_from (i + 1 + 1) m
numbers-next i k m e = rw e refl

picked : (at : Place) (d : Digest) (n : NodeId) (ns : List NodeId) (b : Bool) → is_other at n ≡ b
    → map (fetch_to at d) (filter (is_other at) (n ∷ ns)) ≡ cond b (fetch_to at d n ∷ []) [] ++ map (fetch_to at d) (filter (is_other at) ns)
picked at d n ns true e = rw e refl
picked at d n ns false e = rw e refl

pub fetches-next : (at : Place) (d : Digest) (i n : ℕ) (b : Bool) → i < n → is_other at (record { 0 = i + 1 }) ≡ b
    → fetches_above at d i n ≡ cond b (fetch_to at d (record { 0 = i + 1 }) ∷ []) [] ++ fetches_above at d (i + 1) n
fetches-next at d i n b less e =
    let left : n - i ≡ suc (n - (i + 1)) = omega (arith, less) in
    ap (λ (ns : List NodeId). map (fetch_to at d) (filter (is_other at) ns)) (numbers-next i (n - i) (n - (i + 1)) left)
    ∙ picked at d (record { 0 = i + 1 }) (nodes_from (i + 1 + 1) (n - (i + 1))) b e

-- the Fetches of slots, one by one
pub fetches_slot : (k : Limits) (at : Place) (x : Node) (u : GrantedSlot) (us : List GrantedSlot) (b : Bool) → is_missing k x u ≡ b
    → fetches k at x (u ∷ us) ≡ cond b (fetches_of at u.digest) [] ++ fetches k at x us
unfolding fetches
fetches_slot k at x u us true e = rw e refl
fetches_slot k at x u us false e = rw e refl

pub fetches_end : (k : Limits) (at : Place) (x : Node) → fetches k at x [] ≡ []
unfolding fetches
fetches_end k at x = refl
