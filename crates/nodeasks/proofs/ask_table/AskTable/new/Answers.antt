use Rattle.std.proofs.Common.{List, ap, ◌∙◌}
use Rattle.events.specs.declared.ask.KeptAsk.{KeptAsk}
use Rattle.nodeasks.specs.Rows.{is_lost}
use Rattle.nodeasks.proofs.LostLemmas.{none_lost_at}
use Rattle.nodeasks.proofs.ask_table.AskTable.new.Goals as goal

pub returns-clause-told : goal.returns-clause-told
returns-clause-told c = ap (λ (asks : List KeptAsk). is_lost asks c.new.result.items) c.new-2.ensures ∙ none_lost_at c.new.result.items
