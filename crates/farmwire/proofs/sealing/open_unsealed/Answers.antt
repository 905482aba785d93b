use Rattle.std.proofs.Common.{Err, ap, inl}
use Rattle.farmwire.specs.Sealed.{key_in}
use Rattle.farmwire.proofs.SealedLemmas.{none_unsealed}
use Rattle.farmwire.proofs.sealing.open_unsealed.Goals as goal

pub returns-in-Err-BadForm-clause-refused : goal.returns-in-Err-BadForm-clause-refused
returns-in-Err-BadForm-clause-refused c = (
  c.requires.short,
  c.args.text.now,
  inl c.requires.dash,
  none_unsealed (key_in c.args.keys.now) c.args.line.now c.args.text.now c.requires.dash (c.in-Err-BadForm.ensures.only (ap Err c.in-Err-BadForm.field-0-is)),
)
