use Rattle.std.proofs.Common.{refl}
use Rattle.services.proofs.line.LineBuffer.push.Goals as goal

pub returns-clause-grows : goal.returns-clause-grows
returns-clause-grows c = λ other front h. record { line_is = refl; longer = c.keep.ensures.kept front h }
