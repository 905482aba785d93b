use Rattle.std.proofs.Common.{List, Some, ap, sym, ◌∙◌}
use Rattle.versions.specs.declared.lines.SlotLine.{SlotLine}
use Rattle.versions.specs.Lines.{lines_with}
use Rattle.versions.proofs.lines.Lines.add_to.Goals as goal

pub returns-in-Some : goal.returns-in-Some
returns-in-Some c =
    c.add_all.ensures.lines ∙ ap (λ (ls : List SlotLine). lines_with ls (Some c.in-Some.added)) c.self.view_is ∙ ap (lines_with c.args.self.now) (sym c.in-Some.is)
