use Rattle.std.proofs.Common.{◌≡◌, ◌<◌, ◌≤◌, ℕ, IfSome, IsSomeAnd, Some, slice_get}
use Rattle.std.specs.List.{Contains}
use Rattle.keytable.proofs.needing.last_named.Given as goal

-- the last index among those so far
abbrev pub invariant-loop-other : goal.invariant-loop-other
invariant-loop-other l = record {
  named : IfSome l.last (λ last. Contains l.named (l.key, last));
  greatest : (k index : ℕ) → k < l.other-index → slice_get l.named k ≡ Some (l.key, index) → IsSomeAnd l.last (λ last. index ≤ last);
}
