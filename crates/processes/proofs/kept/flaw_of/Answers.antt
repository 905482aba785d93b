use Rattle.std.proofs.Common.{refl}
use Rattle.processes.specs.Looked.IsFlawOf.{Broken, Reads}
use Rattle.processes.proofs.kept.flaw_of.Goals as goal

pub returns-in-Ok-clause-flaw : goal.returns-in-Ok-clause-flaw
returns-in-Ok-clause-flaw c = Reads c.in-Ok.texts c.in-Ok.ensures.texts c.flaw_in.ensures

pub returns-in-Err-BadHead-clause-flaw : goal.returns-in-Err-BadHead-clause-flaw
returns-in-Err-BadHead-clause-flaw c =
    let head = c.in-Err-BadHead in
    Broken head.field-0-0 (rw head.field-0-is at head.ensures.fault) refl
