use Rattle.words.specs.Words.{texts}
use Rattle.schedule.specs.Forms.{FitUpTo}
use Rattle.schedule.proofs.line_fault.first_fault.Given as goal

abbrev pub invariant-loop-index : goal.invariant-loop-index
invariant-loop-index l = FitUpTo l.verb (texts l.words) l.index
