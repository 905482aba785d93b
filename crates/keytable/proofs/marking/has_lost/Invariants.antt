use Rattle.std.proofs.Common.{ℕ, ◌<◌, ◌≡◌, slice_get, Some}
use Rattle.names.specs.declared.digest.Key.{Key}
use Rattle.keytable.specs.Marks.{IsLost}
use Rattle.keytable.proofs.marking.has_lost.Given as goal

abbrev pub invariant-loop-input : goal.invariant-loop-input
invariant-loop-input l = (k : ℕ) (input : Key × ℕ) → k < l.input-index → slice_get l.inputs k ≡ Some input → IsLost l.table.entries.items l.marks input → ⊥
