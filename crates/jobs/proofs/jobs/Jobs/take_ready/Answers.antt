use Rattle.std.proofs.Common.{ℕ, ap, sym, subst, ◌∙◌, arith, length}
use Rattle.std.proofs.lemmas.List.{length-set}
use Rattle.keytable.specs.declared.entry.Progress.TheVariants.{Out}
use Rattle.std.proofs.lemmas.Option.{slice_get_within}
use Rattle.std.specs.declared.alloc.Global.{Global}
use Rattle.std.specs.declared.vec.Vec.{Vec}
use Rattle.jobs.specs.History.{History, HasNoReady}
use Rattle.jobs.specs.ReadyLists.{AreCursors}
use Rattle.jobs.proofs.CursorLemmas.{cursors_moved}
use Rattle.keytable.proofs.MarkLemmas.{distinct}
use Rattle.jobs.proofs.ReadyLemmas.{marks_out}
use Rattle.keytable.proofs.ShapeLemmas.{users_moved, closed_moved}
use Rattle.jobs.proofs.StayLemmas.{none_ready, first_is_ready, first_is_first, first_within, right_taken, list_taken, all_taken, takes_first, taken_room}
use Rattle.jobs.proofs.jobs.Jobs.take_ready.Goals as goal

pub returns-in_default-clause-none : goal.returns-in_default-clause-none
returns-in_default-clause-none c =
    subst (λ (h : History). HasNoReady h) c.self.view_is
    (none_ready c.self.inside.known.table.entries.items c.self.inside.known.ready c.self.invariant.list c.self.invariant.all (sym c.in_default.ensures))

pub task_of-requires-clause-there : goal.task_of-requires-clause-there
task_of-requires-clause-there c =
    let r = first_is_ready c.self.inside.known.table.entries.items c.self.inside.known.ready c.self.invariant.list c.self.invariant.all c.in-Some.number (sym c.in-Some.ensures) in
    (r.entry, r.at, r.ready.inputs)

pub set_progress-requires : goal.set_progress-requires
set_progress-requires c =
    let r = first_is_ready c.self.inside.known.table.entries.items c.self.inside.known.ready c.self.invariant.list c.self.invariant.all c.in-Some.number (sym c.in-Some.ensures) in
    slice_get_within c.self.inside.known.table.entries.items c.in-Some.number r.entry r.at

pub take-requires : goal.take-requires
take-requires c = first_within c.self.inside.known.table.entries.items c.self.inside.known.ready c.self.invariant.list c.self.invariant.all c.in-Some.number (sym c.in-Some.ensures)

pub invariant_of-self : goal.invariant_of-self
invariant_of-self c =
    let es = c.self.inside.known.table.entries.items in
    let l = c.self.inside.known.ready in
    let h = c.self.invariant.list in
    let all = c.self.invariant.all in
    let n = c.in-Some.number in
    let first = sym c.in-Some.ensures in
    let now = c.set_progress.new.self in
    let r = first_is_ready es l h all n first in
    let now_is = c.set_progress.ensures.entries r.entry r.at in
    let numbered = c.set_progress.ensures.table c.self.invariant.kept.numbered in
    let t = c.take.ensures in
    record {
      kept = record {
        numbered = numbered;
        marked = marks_out es c.self.inside.known.marks.items n r.entry r.at now.entries.items r.ready.waiting now_is c.self.invariant.kept.marked;
      };
      closed = closed_moved es n r.entry r.at Out now.entries.items now_is c.self.invariant.closed;
      used = users_moved es n r.entry r.at Out now.entries.items c.self.inside.known.users now_is c.self.invariant.used;
      count = c.self.invariant.count ∙ sym (ap length now_is ∙ length-set es n (record r.entry { progress = Out }));
      idle = c.self.invariant.idle;
      todo_room = let t_room = c.self.invariant.todo_room in let k = ap length now_is ∙ length-set es n (record r.entry { progress = Out }) in omega (arith, t_room, k);
      right = right_taken es l h all n first c.take.new.self now.entries.items (distinct now numbered) c.self.invariant.right t.taken t.numbers t.keys now_is;
      list = list_taken es l h all n first c.take.new.self now.entries.items (distinct now numbered) c.self.invariant.right t.taken t.numbers t.keys now_is;
      all = all_taken es l h all n first c.take.new.self now.entries.items (distinct now numbered) c.self.invariant.right t.taken t.numbers t.keys now_is;
      room = taken_room es l c.take.new.self n r.entry now.entries.items now_is t.room c.self.invariant.room;
      cursors = (let waiting = r.ready.waiting in
          let kept = cursors_moved es n r.entry r.at Out now.entries.items l.cursors.items (λ outputs done. cc (waiting, done)) (λ fault failed. cc (waiting, failed)) now_is c.self.invariant.cursors in
          subst (λ (v : Vec ℕ Global). AreCursors now.entries.items v.items) (sym t.cursors) kept);
    }

pub returns-clause-taken : goal.returns-clause-taken
returns-clause-taken c =
    let es = c.self.inside.known.table.entries.items in
    let l = c.self.inside.known.ready in
    let h = c.self.invariant.list in
    let all = c.self.invariant.all in
    let n = c.in-Some.number in
    let first = sym c.in-Some.ensures in
    let r = first_is_ready es l h all n first in
    takes_first c.self.inside.results.items es c.set_progress.new.self.entries.items c.args.self.now n r.entry c.in_ok-task.task.key c.in_ok-task.task.inputs.items c.self.view_is
    (first_is_first es l h all n first) (c.in_ok-task.ensures.key r.entry r.at) (c.in_ok-task.ensures.inputs r.entry r.at) (c.set_progress.ensures.entries r.entry r.at)
