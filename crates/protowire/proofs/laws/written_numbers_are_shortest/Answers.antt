use Rattle.protowire.proofs.WritingLaws.{minimal_shortest}
use Rattle.protowire.proofs.laws.written_numbers_are_shortest.Goals as goal

pub returns : goal.returns
returns c = minimal_shortest
