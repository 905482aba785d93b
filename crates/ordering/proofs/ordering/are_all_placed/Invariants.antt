use Rattle.std.proofs.Common.{◌≡◌, ◌<◌, ℕ, true, get_or}
use Rattle.ordering.specs.Flags.{flag_at}
use Rattle.ordering.proofs.ordering.are_all_placed.Given as goal

-- those before this one are placed
abbrev pub invariant-loop-place : goal.invariant-loop-place
invariant-loop-place l = (k : ℕ) → k < l.place-index → flag_at l.placed (get_or l.vertices k 0) ≡ true
