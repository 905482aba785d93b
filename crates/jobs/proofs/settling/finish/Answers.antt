use Rattle.std.proofs.Common.{◌≡◌, inl, inr, ap, sym, subst, ◌∙◌, arith, length}
use Rattle.std.proofs.lemmas.List.{length-set}
use Rattle.keytable.specs.Kept.{AreKept}
use Rattle.jobs.proofs.CursorLemmas.{cursors_moved}
use Rattle.keytable.proofs.MarkLemmas.{distinct}
use Rattle.keytable.proofs.ProgressLemmas.{whole}
use Rattle.keytable.proofs.ShapeLemmas.{users_moved, closed_moved}
use Rattle.jobs.proofs.ShapeLemmas.{ready_cases}
use Rattle.jobs.proofs.StayLemmas.{list_moved, finished_right}
use Rattle.jobs.proofs.settling.finish.Goals as goal

pub list_users-requires-clause-users : goal.list_users-requires-clause-users
list_users-requires-clause-users c =
    let out = c.requires.out in
    users_moved c.args.known.now.table.entries.items c.args.number out.0 out.1 c.args.progress c.settle.new.table.entries.items c.args.known.now.users (c.settle.ensures.entries out.0 out.1) c.requires.listed.used

pub list_users-requires-clause-list : goal.list_users-requires-clause-list
list_users-requires-clause-list c =
    let es = c.args.known.now.table.entries.items in
    let out = c.requires.out in
    let now = c.settle.new.table in
    let now_is = c.settle.ensures.entries out.0 out.1 in
    let right = finished_right es c.args.number out.0 out.1 c.args.progress now.entries.items out.2 now_is c.requires.listed.right in
    list_moved es c.args.number out.0 out.1 c.args.progress now.entries.items c.args.known.now.ready out.2 c.requires.ends now_is (distinct now c.settle.ensures.kept.numbered) right c.requires.listed.list

pub list_users-requires-clause-cursors : goal.list_users-requires-clause-cursors
list_users-requires-clause-cursors c =
    let out = c.requires.out in
    let was = out.2 in
    cursors_moved c.args.known.now.table.entries.items c.args.number out.0 out.1 c.args.progress c.settle.new.table.entries.items c.args.known.now.ready.cursors.items (λ outputs done. cc (was, done)) (λ fault failed. cc (was, failed))
    (c.settle.ensures.entries out.0 out.1) c.requires.listed.cursors

pub list_users-requires-clause-others : goal.list_users-requires-clause-others
list_users-requires-clause-others c m r =
    let es = c.args.known.now.table.entries.items in
    let out = c.requires.out in
    elim (ready_cases es c.args.number out.0 out.1 c.args.progress c.settle.new.table.entries.items (c.settle.ensures.entries out.0 out.1) out.2 c.requires.ends m r) [
      | inl before ↦ inl (c.requires.listed.all m before)
      | inr user ↦ inr user
    ]

pub returns-clause-listed : goal.returns-clause-listed
returns-clause-listed c =
    let es = c.args.known.now.table.entries.items in
    let out = c.requires.out in
    let now = c.settle.new.table in
    let now_is = c.settle.ensures.entries out.0 out.1 in
    let marks = c.args.known.now.marks in
    let settled = c.settle.new.marks in
    let size : length settled ≡ length marks.items = c.settle.auto.marks ∙ ap length c.as_mut_slice-marks.ensures.value in
    record {
      kept = subst (AreKept now) (sym (whole marks.items settled marks.len marks.ok.0 size)) c.settle.ensures.kept;
      closed = closed_moved es c.args.number out.0 out.1 c.args.progress now.entries.items now_is c.requires.listed.closed;
      used = users_moved es c.args.number out.0 out.1 c.args.progress now.entries.items c.args.known.now.users now_is c.requires.listed.used;
      count = c.requires.listed.count ∙ sym (ap length now_is ∙ length-set es c.args.number (record out.0 { progress = c.args.progress }));
      idle = c.settle.ensures.todo;
      todo_room = let r = c.requires.listed.todo_room in let n = ap length now_is ∙ length-set es c.args.number (record out.0 { progress = c.args.progress }) in let k = c.settle.ensures.capacity in omega (arith, r, n, k);
      right = finished_right es c.args.number out.0 out.1 c.args.progress now.entries.items out.2 now_is c.requires.listed.right;
      list = c.list_users.ensures.list;
      all = c.list_users.ensures.all;
      room = c.list_users.ensures.room;
      cursors = c.list_users.ensures.cursors;
    }
