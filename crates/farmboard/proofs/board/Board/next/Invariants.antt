use Rattle.std.proofs.Common.{◌≡◌, ℕ, ◌≤◌, true}
use Rattle.farmhistory.specs.History.{is_passed}
use Rattle.farmboard.proofs.board.Board.next.Given as goal

abbrev pub invariant-loop-number : goal.invariant-loop-number
invariant-loop-number l = (k : ℕ) → 1 ≤ k → k ≤ l.number → is_passed l.self k ≡ true
