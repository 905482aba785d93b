use Rattle.std.proofs.Common.{ℕ, List, length}
use Rattle.protowire.specs.Seen.{StandInRow}
use Rattle.opsproto.proofs.PieceLemmas.{IsPieceTo}
use Rattle.opsproto.proofs.raw.one_piece.Given as goal

abbrev pub invariant-loop-field : goal.invariant-loop-field
invariant-loop-field l = (message : List ℕ) → StandInRow 0 l.fields (length message) → IsPieceTo l.fields l.field-index l.start l.end message
