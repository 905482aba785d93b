use Rattle.std.proofs.Common.{take}
use Rattle.std.specs.Io.KnownBytes.{Appends}
use Rattle.services.specs.Served.{joined, refusals}
use Rattle.services.proofs.serving.write_refusals.Given as goal

abbrev pub invariant-loop-answer : goal.invariant-loop-answer
invariant-loop-answer g l = Appends (g.W.Write.contents l.fn.writer) (g.W.Write.contents l.writer) (joined (refusals (take l._answer-index l.answers)))
