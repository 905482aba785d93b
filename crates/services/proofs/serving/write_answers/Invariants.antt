use Rattle.std.proofs.Common.{take}
use Rattle.std.specs.Io.KnownBytes.{Appends}
use Rattle.services.specs.Served.{joined}
use Rattle.services.proofs.serving.write_answers.Given as goal

abbrev pub invariant-loop-answer : goal.invariant-loop-answer
invariant-loop-answer g l = Appends (g.W.Write.contents l.fn.writer) (g.W.Write.contents l.writer) (joined (take l.answer-index l.answers))
