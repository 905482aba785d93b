use Rattle.std.proofs.Common.{ap, ◌∙◌}
use Rattle.nodeasks.specs.Rows.{has_row}
use Rattle.nodeasks.proofs.TableLemmas.{none_zero}
use Rattle.nodeasks.proofs.ask_table.AskTable.row_of_ask.Goals as goal

pub returns-then-ask-eq0-clause-none : goal.returns-then-ask-eq0-clause-none
returns-then-ask-eq0-clause-none c = ap (has_row c.args.self.now.rows.items) c.if-ask-eq0.true ∙ none_zero c.args.self.now.rows.items
