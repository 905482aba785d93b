use Rattle.std.proofs.Common.{◌∙◌, refl, arith, inl, inr, rules}
use Rattle.std.proofs.lemmas.Option.{slice_get_within}
use Rattle.keytable.specs.Marks.{HasLost}
use Rattle.keytable.proofs.MarkLemmas.{entry_at, of_slice, to_slice}
use Rattle.keytable.proofs.SpreadLemmas.{marking_none, marking_join, new_fail, new_lacking, new_users}
use Rattle.keytable.proofs.marking.mark_new.Goals as goal
use Rattle.keytable.proofs.marking.mark_new.Goals.{then-has_lost, else-has_lost}

pub loop-number-preserved : goal.loop-number-preserved
loop-number-preserved c =
    let es = c.args.table.now.entries.items in
    let l = c.loop-number in
    let inv = l.invariant in
    let n = l.number in
    let entry = c.index.result.now in
    let there = entry_at es n entry (search rules) c.index.ensures in
    let slice = c.as_slice.ensures in
    elim c.if-has_lost.branch [
      | then-has_lost w ↦ (let e = w.mark.ensures in
          let lost = to_slice es l.marks entry c.as_slice.result.now slice w.if-has_lost.ensures in
          rw (w.marks-is, w.todo-is) (record {
            marks = marking_join c.args.marks.now l.marks w.mark.new.marks c.args.todo.now.items l.todo.items w.mark.new.todo.items inv.marks e.marks;
            fail = λ was. new_fail es l.marks w.mark.new.marks l.todo.items w.mark.new.todo.items n entry there e.marks lost e.only (inv.fail was);
            lacking = new_lacking es l.marks w.mark.new.marks l.todo.items w.mark.new.todo.items n entry there e.marks c.args.from (inl e.marked) inv.lacking;
            users = new_users es l.marks w.mark.new.marks l.todo.items w.mark.new.todo.items n entry there e.marks c.args.from (inl e.marked) inv.users;
            steps = e.steps ∙ inv.steps;
            capacity = e.capacity ∙ inv.capacity;
          }))
      | else-has_lost w ↦ (let none = marking_none l.marks l.todo.items in
          let never : HasLost es l.marks entry.inputs → ⊥ = λ lost. w.if-has_lost.ensures (of_slice es l.marks entry c.as_slice.result.now slice lost) in
          rw (w.marks-is, w.todo-is) (record {
            marks = inv.marks;
            fail = inv.fail;
            lacking = new_lacking es l.marks l.marks l.todo.items l.todo.items n entry there none c.args.from (inr (never, refl)) inv.lacking;
            users = new_users es l.marks l.marks l.todo.items l.todo.items n entry there none c.args.from (inr (never, refl)) inv.users;
            steps = inv.steps;
            capacity = inv.capacity;
          }))
    ]

pub returns-clause-lacking : goal.returns-clause-lacking
returns-clause-lacking c m x input past there has l =
    let less = slice_get_within c.args.table.now.entries.items m x there in
    let end = c.loop-number-test.false in
    let count = c.len-number-end.ensures in
    let len = c.args.table.now.entries.ok.0 in
    c.loop-number.invariant.lacking m x input past (omega (arith, less, end, count, len)) there has l

pub returns-clause-users : goal.returns-clause-users
returns-clause-users c user source past i met =
    let less = slice_get_within c.args.table.now.entries.items user i.entry i.at in
    let end = c.loop-number-test.false in
    let count = c.len-number-end.ensures in
    let len = c.args.table.now.entries.ok.0 in
    c.loop-number.invariant.users user source past (omega (arith, less, end, count, len)) i met
