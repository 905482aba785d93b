use Rattle.std.proofs.Common.{◌≡◌, ◌∙◌, length, arith}
use Rattle.keytable.proofs.MarkLemmas.{distinct}
use Rattle.jobs.proofs.ShapeLemmas.{users_added}
use Rattle.jobs.proofs.adding.grow.Goals as goal

pub extend-requires-clause-users : goal.extend-requires-clause-users
extend-requires-clause-users c =
    let e = c.in_ok-add_all.ensures in
    let tabled = c.requires.tabled in
    users_added c.args.graph.now c.args.keys.now c.args.known.now.table.entries.items c.add_all.new.table.entries.items e.added c.args.known.now.users (distinct c.add_all.new.table e.table) tabled.closed tabled.count tabled.users

pub returns-clause-kept : goal.returns-clause-kept
returns-clause-kept c =
    let same = c.make_room.ensures.list in
    record {
      front = search;
      list = record {
        taken = same.taken;
        numbers = same.numbers;
        keys = same.keys;
        room = λ count room. (let more = same.room count room in record { numbers = more.numbers; keys = more.keys });
      };
      todo = search;
      todo_capacity = search;
    }

pub returns-clause-grown : goal.returns-clause-grown
returns-clause-grown c =
    let e = c.in_ok-add_all.ensures in
    let u = c.in_ok-extend.ensures in
    let r = c.in_ok-make_room.ensures in
    let f = c.fill.ensures in
    let same = c.make_room.ensures in
    let n : c.len-count.result ≡ length c.add_all.new.table.entries.items = c.len-count.ensures ∙ c.add_all.new.table.entries.ok.0 in
    record {
      tabled = record { table = e.table; closed = e.closed c.requires.tabled.closed; users = u.users; count = u.count };
      added = e.added;
      marks = (let m = f.marks in let w = same.marks in cc);
      cursors = (let m = f.cursors in let w = same.cursors in cc);
      room = record { numbers = (let m = r.room.numbers in omega (arith, m, n)); keys = (let m = r.room.keys in omega (arith, m, n)) };
      todo_room = (let m = r.todo_room in omega (arith, m, n));
    }
