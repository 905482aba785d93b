use Rattle.std.proofs.Common.{sym, subst}
use Rattle.effects.specs.Sound.{IsRightful}
use Rattle.ledger.proofs.Records.{rightful_of}
use Rattle.ledger.proofs.ledger.Ledger.of.Goals as goal

pub invariant_of-result : goal.invariant_of-result
invariant_of-result c = record {
  rightful = subst IsRightful (sym c.in_ok-state.ensures.ledger) (rightful_of c.args.read c.requires);
  noted = c.in_ok-state.ensures.noted;
}
