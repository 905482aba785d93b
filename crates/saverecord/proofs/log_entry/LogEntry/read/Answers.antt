use Rattle.std.proofs.Common.{arith}
use Rattle.std.proofs.lemmas.Result.{IfOk-weaker}
use Rattle.saverecord.proofs.LogEntryLaws.{is_entry}
use Rattle.saverecord.proofs.log_entry.LogEntry.read.Goals as goal

pub returns-clause-fits : goal.returns-clause-fits
returns-clause-fits c = IfOk-weaker c.entry_of.result _ _ (λ e h. h.0) (is_entry c.args.bytes.now c.entry_of.result (λ i. omega (arith, c.type_inv.bytes i)) c.entry_of.ensures)

pub returns-clause-found : goal.returns-clause-found
returns-clause-found c = IfOk-weaker c.entry_of.result _ _ (λ e h. h.1) (is_entry c.args.bytes.now c.entry_of.result (λ i. omega (arith, c.type_inv.bytes i)) c.entry_of.ensures)
