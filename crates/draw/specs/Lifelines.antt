-- The lifelines that are drawn.
use Rattle.std.specs.Prelude.{ℕ, nat_eq, Bool, ◌||◌, List, ◌∷◌, filter}
use Rattle.std.specs.List.{list_any, range_with_len}
use Rattle.draw.specs.declared.frame.Sent.{Sent}
use Rattle.draw.specs.declared.frame.Frame.{Frame}

abbrev pub is_to : ℕ → Sent → Bool
is_to node m = nat_eq m.to node

-- the node does something, or is sent something
abbrev pub is_in : ℕ → Frame → Bool
is_in node f = nat_eq f.actor node || list_any (is_to node) f.sent

-- the coordinator's lifeline, and those of the nodes that are in some frame
abbrev pub lines_of : ℕ → List Frame → List ℕ
lines_of nodes frames = 0 ∷ filter (λ n. list_any (is_in n) frames) (range_with_len 1 nodes)
