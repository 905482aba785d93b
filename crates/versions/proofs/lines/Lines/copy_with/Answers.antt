use Rattle.std.proofs.Common.{◌≡◌, ◌∙◌, List, ap, rules}
use Rattle.versions.specs.declared.lines.SlotLine.{SlotLine}
use Rattle.versions.specs.Lines.{line_at, lines_with}
use Rattle.versions.proofs.lines.Lines.copy_with.Goals as goal

pub returns-clause-lines : goal.returns-clause-lines
returns-clause-lines c =
    let same : c.in_ok-copy_all.field-0.items ≡ c.args.self.now = search rules in
    ap line_at c.into_vec.ensures.items ∙ c.add_to.ensures ∙ c.in_ok-added.ensures.same ∙ ap (λ (l : List SlotLine). lines_with l c.args.added.now) same
