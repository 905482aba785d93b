use Rattle.std.proofs.Common.{◌∙◌}
use Rattle.farmwire.specs.Lines.{message_words}
use Rattle.farmwire.proofs.WriteLemmas.{joined-is}
use Rattle.farmwire.proofs.writing.write.Goals as goal

pub returns-in_ok-message_line-clause-spelled : goal.returns-in_ok-message_line-clause-spelled
returns-in_ok-message_line-clause-spelled c = record {
  lawful = c.is_lawful.ensures.0 c.if-is_lawful.true;
  text = c.in_ok-message_line.ensures ∙ joined-is (message_words c.args.message.now);
}
