use Rattle.std.proofs.Common.{ap, sym, ◌∙◌, subst, refl}
use Rattle.lists.proofs.Places.{at_place}
use Rattle.keytable.specs.declared.entry.Entry.{Entry}
use Rattle.jobs.specs.ReadyLists.{AreThereBefore}
use Rattle.jobs.proofs.CursorLemmas.{cursors_set}
use Rattle.keytable.proofs.MarkLemmas.{read_at}
use Rattle.jobs.proofs.ReadyLemmas.{ready_there, not_waiting}
use Rattle.jobs.proofs.ready.is_ready.Goals as goal

pub returns-in-Waiting-clause-ready : goal.returns-in-Waiting-clause-ready
returns-in-Waiting-clause-ready c = λ entry at.
    ready_there c.args.table.now c.args.marks.now c.requires.kept c.args.number entry c.index-entry.result.now c.as_slice.result.now at c.index-entry.ensures
    c.in-Waiting.is c.if-marks-number.false c.as_slice.ensures c.are_there.result c.are_there.ensures.there

pub returns-in-Waiting-clause-cursors : goal.returns-in-Waiting-clause-cursors
returns-in-Waiting-clause-cursors c =
    let es = c.args.table.now.entries.items in
    let n = c.args.number in
    let e = at_place es n c.requires.within in
    let is = read_at es n e.0 c.index-entry.result.now e.1 c.index-entry.ensures in
    let inputs_are = c.as_slice.ensures ∙ ap (λ (x : Entry). x.inputs) (sym is) in
    cursors_set es c.args.cursors.now.items _ n c.are_there.new.cursor e.0 e.1 c.requires.within refl (subst (AreThereBefore es c.are_there.new.cursor) inputs_are c.are_there.ensures.before) c.requires.cursors

pub returns-in_default-clause-ready : goal.returns-in_default-clause-ready
returns-in_default-clause-ready c = λ entry at. not_waiting c.args.table.now.entries.items c.args.number entry c.index-entry.result.now at c.index-entry.ensures c.in_default.not-Waiting
