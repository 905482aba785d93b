use Rattle.std.proofs.Common.{Err, ap, inr}
use Rattle.farmwire.specs.Sealed.{key_in}
use Rattle.farmwire.proofs.SealedLemmas.{none_sealed}
use Rattle.farmwire.proofs.sealing.open_sealed.Goals as goal

pub returns-in-Err-BadForm-clause-refused : goal.returns-in-Err-BadForm-clause-refused
returns-in-Err-BadForm-clause-refused c =
    let found = rw c.in-Some.is at c.in_ok-node.ensures.found in (
      c.requires.short,
      c.in-Some.text.now,
      inr (record { node = c.in-Some.node; named = found.0; sealed = found.1 }),
      none_sealed (key_in c.args.keys.now) c.args.line.now c.in-Some.text.now c.in-Some.node found.0 found.1
          (c.in-Err-BadForm.ensures.only (ap Err c.in-Err-BadForm.field-0-is)),
    )
