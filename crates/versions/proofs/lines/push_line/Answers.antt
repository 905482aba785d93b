use Rattle.std.proofs.Common.{◌<◌, ◌∷◌, [], ◌++◌, List, ap, sym, ◌∙◌, subst}
use Rattle.std.specs.Prelude.{All}
use Rattle.std.specs.List.{insert}
use Rattle.protocol.specs.Machine.{LineVersion}
use Rattle.versions.specs.declared.lines.SlotLine.{SlotLine}
use Rattle.versions.specs.Line.{IsLine}
use Rattle.versions.specs.Lines.{line_at}
use Rattle.versions.specs.Ordered.{IsPlace, IsGap, AreLines}
use Rattle.versions.proofs.Ordered.{line_at-place, line_at-set, line_at-insert, lines-set, lines-insert, pushed_full, one_full, one_line}
use Rattle.versions.proofs.lines.push_line.Goals as goal

pub push-requires : goal.push-requires
push-requires c =
    let items : List SlotLine = c.args.lines.now.items in
    let at : IsPlace c.args.more.slot items c.in-Ok.place = subst (λ ls. IsPlace c.args.more.slot ls c.in-Ok.place) c.as_slice.ensures.value c.in-Ok.ensures in
    let is = line_at-place items c.args.more.slot c.in-Ok.place c.index_mut.result.now c.requires.sound.rise at.inside (at.slot c.index_mut.result.now) in
    subst (All (λ v. v.ticket.0 < c.args.version.ticket.0)) (is ∙ ap (λ (l : SlotLine). l.line) (sym c.index_mut.ensures.value)) c.requires.above

pub returns-in_ok-push-in-Ok-clause-lines : goal.returns-in_ok-push-in-Ok-clause-lines
returns-in_ok-push-in-Ok-clause-lines c =
    let items : List SlotLine = c.args.lines.now.items in
    let d : SlotLine = c.index_mut.result.now in
    let at : IsPlace c.args.more.slot items c.in-Ok.place = subst (λ ls. IsPlace c.args.more.slot ls c.in-Ok.place) c.as_slice.ensures.value c.in-Ok.ensures in
    line_at-set items c.in-Ok.place c.args.more.slot c.args.version (record { slot = d.slot; line = c.push.new.self }) d c.requires.sound.rise at.inside (at.slot d)
    (ap (λ (l : SlotLine). l.slot) c.index_mut.ensures.value ∙ at.slot d) (c.in_ok-push-in-Ok.ensures.ok ∙ ap (λ (l : SlotLine). l.line ++ c.args.version ∷ []) c.index_mut.ensures.value)

pub returns-in_ok-push-in-Ok-clause-sound : goal.returns-in_ok-push-in-Ok-clause-sound
returns-in_ok-push-in-Ok-clause-sound c =
    let items : List SlotLine = c.args.lines.now.items in
    let d : SlotLine = c.index_mut.result.now in
    let at : IsPlace c.args.more.slot items c.in-Ok.place = subst (λ ls. IsPlace c.args.more.slot ls c.in-Ok.place) c.as_slice.ensures.value c.in-Ok.ensures in
    lines-set items c.in-Ok.place (record { slot = d.slot; line = c.push.new.self }) d c.requires.sound at.inside (ap (λ (l : SlotLine). l.slot) c.index_mut.ensures.value)
    (λ e. pushed_full d.line c.args.version (sym c.in_ok-push-in-Ok.ensures.ok ∙ e)) c.push.ensures.rises

pub returns-in_ok-insert-in-Err-clause-lines : goal.returns-in_ok-insert-in-Err-clause-lines
returns-in_ok-insert-in-Err-clause-lines c =
    let items : List SlotLine = c.args.lines.now.items in
    let at : IsGap c.args.more.slot items c.in-Err.place = subst (λ ls. IsGap c.args.more.slot ls c.in-Err.place) c.as_slice.ensures.value c.in-Err.ensures in
    ap line_at c.in_ok-insert-in-Err.ensures.items ∙ ap (λ (vs : List LineVersion). line_at (insert items c.in-Err.place (record { slot = c.args.more.slot; line = vs }))) c.requires.one
    ∙ line_at-insert items c.in-Err.place c.args.more.slot c.args.version at

pub returns-in_ok-insert-in-Err-clause-sound : goal.returns-in_ok-insert-in-Err-clause-sound
returns-in_ok-insert-in-Err-clause-sound c =
    let items : List SlotLine = c.args.lines.now.items in
    let at : IsGap c.args.more.slot items c.in-Err.place = subst (λ ls. IsGap c.args.more.slot ls c.in-Err.place) c.as_slice.ensures.value c.in-Err.ensures in
    subst AreLines (sym c.in_ok-insert-in-Err.ensures.items) (lines-insert items c.in-Err.place c.args.more c.requires.sound at
    (λ e. one_full c.args.version (sym c.requires.one ∙ e)) (subst IsLine (sym c.requires.one) (one_line c.args.version)))
