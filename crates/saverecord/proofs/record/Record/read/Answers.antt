use Rattle.std.proofs.Common.{arith}
use Rattle.saverecord.proofs.FirstLaws.{is_record, is_spelled, is_given}
use Rattle.saverecord.proofs.record.Record.read.Goals as goal

pub returns-clause-fits : goal.returns-clause-fits
returns-clause-fits c = is_record c.args.bytes.now c.record_of.result (λ i. omega (arith, c.type_inv.bytes i)) c.record_of.ensures

pub returns-clause-found : goal.returns-clause-found
returns-clause-found c = is_spelled c.args.bytes.now c.record_of.result (λ i. omega (arith, c.type_inv.bytes i)) c.record_of.ensures

pub returns-clause-only : goal.returns-clause-only
returns-clause-only c = is_given c.args.bytes.now c.record_of.result c.record_of.ensures
