use Rattle.std.proofs.Common.{sym, ◌∙◌}
use Rattle.schedule.proofs.ScheduleLemmas.{first_alone, first_split}
use Rattle.schedule.proofs.reading.first_line.Goals as goal

pub returns-in-None : goal.returns-in-None
returns-in-None c = first_alone _ c.args.text.now (sym c.line_end.ensures ∙ c.in-None.is)

pub returns-in-Some : goal.returns-in-Some
returns-in-Some c = first_split _ c.args.text.now c.in-Some.end (sym c.line_end.ensures ∙ c.in-Some.is)
