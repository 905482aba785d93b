use Rattle.std.proofs.Common.{◌≡◌, ◌<◌, ℕ, Some, slice_get}
use Rattle.names.specs.declared.digest.Key.{Key}
use Rattle.keytable.specs.Failing.{LacksOutput}
use Rattle.keytable.proofs.blaming.first_lacking.Given as goal

abbrev pub invariant-loop-input : goal.invariant-loop-input
invariant-loop-input l = (k : ℕ) (input : Key × ℕ) → k < l.input-index → slice_get l.inputs k ≡ Some input → LacksOutput l.table.entries.items input → ⊥
