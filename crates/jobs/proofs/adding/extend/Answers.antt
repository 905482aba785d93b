use Rattle.std.proofs.Common.{◌≡◌, ap, sym, subst, ◌∙◌, List, Bool, length, arith}
use Rattle.keytable.specs.Marks.{AreMarks, MarksFail}
use Rattle.keytable.specs.Spreading.{Marking}
use Rattle.jobs.proofs.AddLemmas.{added_marks, added_users, added_list, added_right, between_size, listed_back}
use Rattle.jobs.proofs.CursorLemmas.{cursors_added}
use Rattle.keytable.proofs.MarkLemmas.{distinct}
use Rattle.keytable.proofs.ProgressLemmas.{whole}
use Rattle.jobs.proofs.ShapeLemmas.{ready_before}
use Rattle.keytable.proofs.UserLemmas.{user_within}
use Rattle.jobs.proofs.StayLemmas.{list_same, all_same}
use Rattle.jobs.proofs.adding.extend.Goals as goal

pub mark_new-requires-clause-count : goal.mark_new-requires-clause-count
mark_new-requires-clause-count c =
    ap length c.as_mut_slice-flags.ensures.value ∙ between_size c.args.graph.now c.args.keys.now c.args.known.now.table.entries.items c.grow.new.known.table.entries.items c.in-Ok.ensures.grown.added
    c.args.known.now.marks.items c.grow.new.known.marks.items c.requires.listed.kept.marked c.in-Ok.ensures.grown.marks

pub list_ready-requires-clause-before : goal.list_ready-requires-clause-before
list_ready-requires-clause-before c m less r =
    let old = c.args.known.now.table.entries.items in
    let len = c.args.known.now.table.entries.ok.0 in
    all_same old c.args.known.now.ready c.grow.new.known.ready c.in-Ok.ensures.kept.list c.requires.listed.all m
    (ready_before c.args.graph.now c.args.keys.now old c.grow.new.known.table.entries.items c.in-Ok.ensures.grown.added m (let n = c.len-count.ensures in omega (arith, less, n, len)) r)

pub list_ready-requires-clause-list : goal.list_ready-requires-clause-list
list_ready-requires-clause-list c =
    let table = c.grow.new.known.table in
    added_list c.args.graph.now c.args.keys.now c.args.known.now.table.entries.items table.entries.items c.in-Ok.ensures.grown.added c.grow.new.known.ready (distinct table c.in-Ok.ensures.grown.tabled.table) c.requires.listed.right
    (list_same c.args.known.now.table.entries.items c.args.known.now.ready c.grow.new.known.ready c.in-Ok.ensures.kept.list c.requires.listed.list)

pub list_ready-requires-clause-cursors : goal.list_ready-requires-clause-cursors
list_ready-requires-clause-cursors c =
    cursors_added c.args.graph.now c.args.keys.now c.args.known.now.table.entries.items c.grow.new.known.table.entries.items c.in-Ok.ensures.grown.added c.args.known.now.ready.cursors.items c.grow.new.known.ready.cursors.items c.in-Ok.ensures.grown.cursors
    c.requires.listed.cursors

pub returns-in-Err-clause-listed : goal.returns-in-Err-clause-listed
returns-in-Err-clause-listed c =
    let t = c.truncate.ensures in
    let e = c.in-Err.ensures in
    let len = c.args.known.now.table.entries.ok.0 in
    listed_back c.args.known.now c.grow.new.known c.truncate.new.self c.len-count.result c.requires.listed
    e.kept.todo e.kept.todo_capacity e.err.marks e.err.users e.kept.list e.err.cursors e.kept.front
    (let n = c.len-count.ensures in omega (arith, n, len)) t.keys t.unique t.entries

pub spread-requires-clause-users : goal.spread-requires-clause-users
spread-requires-clause-users c place link at =
    let e = c.in-Ok.ensures.grown in
    let within = user_within c.grow.new.known.table.entries.items c.grow.new.known.users e.tabled.users place link at in
    let size = c.mark_new.auto.marks ∙ ap length c.as_mut_slice-flags.ensures.value
    ∙ between_size c.args.graph.now c.args.keys.now c.args.known.now.table.entries.items c.grow.new.known.table.entries.items e.added c.args.known.now.marks.items c.grow.new.known.marks.items c.requires.listed.kept.marked e.marks in
    omega (arith, within, size)

pub spread-requires-clause-others : goal.spread-requires-clause-others
spread-requires-clause-others c place link at f =
    let g = c.args.graph.now in
    let keys = c.args.keys.now in
    let es = c.args.known.now.table.entries.items in
    let now = c.grow.new.known.table.entries.items in
    let e = c.in-Ok.ensures.grown in
    let old = c.args.known.now.marks.items in
    let marks = c.grow.new.known.marks in
    let was = c.requires.listed.kept.marked in
    let slice = c.as_mut_slice-flags.ensures.value in
    let m = c.mark_new.ensures in
    let mid = c.mark_new.new.marks in
    let marking = subst (λ (xs : List Bool). Marking xs c.grow.new.known.todo.items mid c.mark_new.new.todo.items) slice m.marks in
    let count : c.len-count.result ≡ length es = c.len-count.ensures ∙ c.args.known.now.table.entries.ok.0 in
    added_users g keys es now e.added old marks.items was e.marks mid c.grow.new.known.todo.items c.mark_new.new.todo.items c.len-count.result count marking m.users link.user link.source (e.tabled.users.inputs place link at).user f

pub list_ready-requires-clause-kept : goal.list_ready-requires-clause-kept
list_ready-requires-clause-kept c =
    let g = c.args.graph.now in
    let keys = c.args.keys.now in
    let es = c.args.known.now.table.entries.items in
    let now = c.grow.new.known.table.entries.items in
    let e = c.in-Ok.ensures.grown in
    let old = c.args.known.now.marks.items in
    let marks = c.grow.new.known.marks in
    let was = c.requires.listed.kept.marked in
    let slice = c.as_mut_slice-flags.ensures.value in
    let m = c.mark_new.ensures in
    let mid = c.mark_new.new.marks in
    let marking = subst (λ (xs : List Bool). Marking xs c.grow.new.known.todo.items mid c.mark_new.new.todo.items) slice m.marks in
    let count : c.len-count.result ≡ length es = c.len-count.ensures ∙ c.args.known.now.table.entries.ok.0 in
    let s = c.spread.ensures in
    let new = c.spread.new.marks in
    let size : length new ≡ length marks.items = c.spread.auto.marks ∙ c.mark_new.auto.marks ∙ ap length slice in
    let fail = subst (λ (xs : List Bool). MarksFail now xs → MarksFail now mid) slice m.fail in
    let all : AreMarks now new = added_marks g keys es now e.added old marks.items was e.marks c.grow.new.known.users e.tabled.users e.tabled.count mid new c.len-count.result count marking.kept fail m.lacking s.keeps s.only s.all_marked size in
    record {
      numbered = e.tabled.table;
      marked = subst (AreMarks now) (sym (c.as_slice-marks.ensures.value ∙ whole marks.items new marks.len marks.ok.0 size)) all;
    }

pub returns-in-Ok-clause-listed : goal.returns-in-Ok-clause-listed
returns-in-Ok-clause-listed c =
    let g = c.args.graph.now in
    let keys = c.args.keys.now in
    let es = c.args.known.now.table.entries.items in
    let now = c.grow.new.known.table.entries.items in
    let e = c.in-Ok.ensures.grown in
    let old = c.args.known.now.marks.items in
    let marks = c.grow.new.known.marks in
    let was = c.requires.listed.kept.marked in
    let slice = c.as_mut_slice-flags.ensures.value in
    let m = c.mark_new.ensures in
    let mid = c.mark_new.new.marks in
    let marking = subst (λ (xs : List Bool). Marking xs c.grow.new.known.todo.items mid c.mark_new.new.todo.items) slice m.marks in
    let count : c.len-count.result ≡ length es = c.len-count.ensures ∙ c.args.known.now.table.entries.ok.0 in
    let s = c.spread.ensures in
    let new = c.spread.new.marks in
    let size : length new ≡ length marks.items = c.spread.auto.marks ∙ c.mark_new.auto.marks ∙ ap length slice in
    let fail = subst (λ (xs : List Bool). MarksFail now xs → MarksFail now mid) slice m.fail in
    let all : AreMarks now new = added_marks g keys es now e.added old marks.items was e.marks c.grow.new.known.users e.tabled.users e.tabled.count mid new c.len-count.result count marking.kept fail m.lacking s.keeps s.only s.all_marked size in
    record {
      kept = record { numbered = e.tabled.table; marked = subst (AreMarks now) (sym (whole marks.items new marks.len marks.ok.0 size)) all };
      closed = e.tabled.closed;
      used = e.tabled.users;
      count = e.tabled.count;
      idle = s.todo;
      todo_room = let r = e.todo_room in let k = m.capacity in let j = s.capacity in omega (arith, r, k, j);
      right = added_right g keys es now e.added c.requires.listed.right;
      list = c.list_ready.ensures.list;
      all = c.list_ready.ensures.all;
      room = c.list_ready.ensures.room;
      cursors = c.list_ready.ensures.cursors;
    }
