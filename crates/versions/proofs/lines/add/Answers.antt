use Rattle.std.proofs.Common.{◌<◌, ◌∷◌, [], ◌++◌, List, length, ap, sym, ◌∙◌, subst}
use Rattle.std.specs.Prelude.{All}
use Rattle.protocol.specs.Machine.{LineVersion}
use Rattle.versions.specs.declared.lines.SlotLine.{SlotLine}
use Rattle.versions.specs.Lines.{line_at}
use Rattle.versions.specs.Ordered.{IsPlace, IsGap, AreLines}
use Rattle.versions.proofs.Ordered.{line_at-place, line_at-set, line_at-insert, lines-set, lines-insert, pushed_full, one_full, one_line}
use Rattle.versions.proofs.lines.add.Goals as goal

pub push_into-requires-clause-above : goal.push_into-requires-clause-above
push_into-requires-clause-above c =
    let items : List SlotLine = c.args.lines.now.items in
    let at : IsPlace c.args.addition.slot items c.in-Ok.place = subst (λ ls. IsPlace c.args.addition.slot ls c.in-Ok.place) c.as_slice.ensures.value c.in-Ok.ensures in
    let is = line_at-place items c.args.addition.slot c.in-Ok.place c.index_mut.result.now c.requires.sound.rise at.inside (at.slot c.index_mut.result.now) in
    subst (All (λ v. v.ticket.0 < c.args.ticket.0)) (is ∙ ap (λ (l : SlotLine). l.line) (sym c.index_mut.ensures.value)) c.requires.above

pub push_into-requires-clause-room : goal.push_into-requires-clause-room
push_into-requires-clause-room c =
    let items : List SlotLine = c.args.lines.now.items in
    let at : IsPlace c.args.addition.slot items c.in-Ok.place = subst (λ ls. IsPlace c.args.addition.slot ls c.in-Ok.place) c.as_slice.ensures.value c.in-Ok.ensures in
    let is = line_at-place items c.args.addition.slot c.in-Ok.place c.index_mut.result.now c.requires.sound.rise at.inside (at.slot c.index_mut.result.now) in
    subst (λ (xs : List LineVersion). length xs < c.args.addition.room) (is ∙ ap (λ (l : SlotLine). l.line) (sym c.index_mut.ensures.value)) c.requires.room.room

pub returns-in-Ok-clause-lines : goal.returns-in-Ok-clause-lines
returns-in-Ok-clause-lines c =
    let items : List SlotLine = c.args.lines.now.items in
    let d : SlotLine = c.index_mut.result.now in
    let at : IsPlace c.args.addition.slot items c.in-Ok.place = subst (λ ls. IsPlace c.args.addition.slot ls c.in-Ok.place) c.as_slice.ensures.value c.in-Ok.ensures in
    line_at-set items c.in-Ok.place c.args.addition.slot (record { ticket = c.args.ticket; digest = c.args.addition.digest }) (record { slot = d.slot; line = c.push_into.new.self }) d c.requires.sound.rise at.inside (at.slot d)
    (ap (λ (l : SlotLine). l.slot) c.index_mut.ensures.value ∙ at.slot d) (c.push_into.ensures.value ∙ ap (λ (l : SlotLine). l.line ++ record { ticket = c.args.ticket; digest = c.args.addition.digest } ∷ []) c.index_mut.ensures.value)

pub returns-in-Ok-clause-sound : goal.returns-in-Ok-clause-sound
returns-in-Ok-clause-sound c =
    let items : List SlotLine = c.args.lines.now.items in
    let d : SlotLine = c.index_mut.result.now in
    let at : IsPlace c.args.addition.slot items c.in-Ok.place = subst (λ ls. IsPlace c.args.addition.slot ls c.in-Ok.place) c.as_slice.ensures.value c.in-Ok.ensures in
    lines-set items c.in-Ok.place (record { slot = d.slot; line = c.push_into.new.self }) d c.requires.sound at.inside (ap (λ (l : SlotLine). l.slot) c.index_mut.ensures.value)
    (λ e. pushed_full d.line (record { ticket = c.args.ticket; digest = c.args.addition.digest }) (sym c.push_into.ensures.value ∙ e)) c.push_into.ensures.rises

pub returns-in-Err-clause-lines : goal.returns-in-Err-clause-lines
returns-in-Err-clause-lines c =
    let items : List SlotLine = c.args.lines.now.items in
    let at : IsGap c.args.addition.slot items c.in-Err.place = subst (λ ls. IsGap c.args.addition.slot ls c.in-Err.place) c.as_slice.ensures.value c.in-Err.ensures in
    ap line_at c.insert_line.ensures.line ∙ line_at-insert items c.in-Err.place c.args.addition.slot (record { ticket = c.args.ticket; digest = c.args.addition.digest }) at

pub returns-in-Err-clause-sound : goal.returns-in-Err-clause-sound
returns-in-Err-clause-sound c =
    let items : List SlotLine = c.args.lines.now.items in
    let at : IsGap c.args.addition.slot items c.in-Err.place = subst (λ ls. IsGap c.args.addition.slot ls c.in-Err.place) c.as_slice.ensures.value c.in-Err.ensures in
    let v : LineVersion = record { ticket = c.args.ticket; digest = c.args.addition.digest } in
    subst AreLines (sym c.insert_line.ensures.line) (lines-insert items c.in-Err.place (record { slot = c.args.addition.slot; line = v ∷ [] }) c.requires.sound at (one_full v) (one_line v))
