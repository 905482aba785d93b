use Rattle.saverecord.proofs.LogEntryLaws.{is_again}
use Rattle.saverecord.proofs.log_entry.LogEntry.write.Goals as goal

pub returns-clause-again : goal.returns-clause-again
returns-clause-again c = is_again c.args.self.now c.spelled.result c.requires c.spelled.ensures.spelled c.spelled.ensures.typed
