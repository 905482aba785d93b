use Rattle.std.proofs.Common.{List, ap, sym, ◌∙◌, subst}
use Rattle.versions.specs.declared.lines.SlotLine.{SlotLine}
use Rattle.versions.specs.Lines.{line_at}
use Rattle.versions.specs.Ordered.{IsPlace, IsGap}
use Rattle.versions.proofs.Ordered.{line_at-place, line_at-gap}
use Rattle.versions.proofs.lines.Lines.find.Goals as goal

pub returns-in-Ok-clause-value : goal.returns-in-Ok-clause-value
returns-in-Ok-clause-value c =
    let items : List SlotLine = c.self.inside.lines.items in
    let at : IsPlace c.args.slot.now items c.in-Ok.place = subst (λ ls. IsPlace c.args.slot.now ls c.in-Ok.place) c.as_slice.ensures.value c.in-Ok.ensures in
    ap (λ (l : SlotLine). l.line) c.index.ensures
    ∙ sym (line_at-place items c.args.slot.now c.in-Ok.place c.index.result.now c.self.invariant.rise at.inside (at.slot c.index.result.now))
    ∙ ap (λ (ls : List SlotLine). line_at ls c.args.slot.now) c.self.view_is

pub returns-in-Err-clause-value : goal.returns-in-Err-clause-value
returns-in-Err-clause-value c =
    let items : List SlotLine = c.self.inside.lines.items in
    let at : IsGap c.args.slot.now items c.in-Err.field-0 = subst (λ ls. IsGap c.args.slot.now ls c.in-Err.field-0) c.as_slice.ensures.value c.in-Err.ensures in
    sym (line_at-gap items c.args.slot.now c.in-Err.field-0 at) ∙ ap (λ (ls : List SlotLine). line_at ls c.args.slot.now) c.self.view_is
