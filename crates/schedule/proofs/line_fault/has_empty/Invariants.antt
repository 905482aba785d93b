use Rattle.std.proofs.Common.{◌≢◌, ℕ, ◌<◌, List, [], get_or}
use Rattle.words.specs.Words.{texts}
use Rattle.schedule.proofs.line_fault.has_empty.Given as goal

abbrev pub invariant-loop-word : goal.invariant-loop-word
invariant-loop-word l = (k : ℕ) (d : List ℕ) → k < l.word-index → get_or (texts l.words) k d ≢ []
