use Rattle.std.proofs.Common.{rules, arith}
use Rattle.keytable.proofs.AddLemmas.{adding_closed, adding_start, adding_skips, adding_adds, adding_end, front_join, front_same}
use Rattle.keytable.proofs.ReachLemmas.{flag_within}
use Rattle.keytable.proofs.adding.add_all.Goals as goal
use Rattle.keytable.proofs.adding.add_all.Goals.{then-reached-number+in_ok-add, else-reached-number}

pub loop-number-init : goal.loop-number-init
loop-number-init c = record {
  table = c.requires.table;
  front = front_same c.args.table.now;
  adding = adding_start c.args.graph.now c.args.keys.now c.args.table.now.entries.items c.args.table.now.entries.items (search rules);
}

pub loop-number-preserved : goal.loop-number-preserved
loop-number-preserved c =
    let g = c.args.graph.now in
    let keys = c.args.keys.now in
    let old = c.args.table.now in
    let l = c.loop-number in
    elim c.if-reached-number.branch [
      | then-reached-number+in_ok-add w ↦ rw w.table-is (record {
        table = w.in_ok-add.ensures.table;
        front = front_join old l.table w.add.new.table l.invariant.front w.in_ok-add.ensures.front;
        adding = adding_adds g keys old.entries.items l.number l.table.entries.items w.add.new.table.entries.items l.invariant.adding (c.requires.reached.needed l.number w.if-reached-number.true) w.in_ok-add.ensures.added;
      })
      | else-reached-number w ↦ rw w.table-is (record {
        table = l.invariant.table;
        front = l.invariant.front;
        adding = adding_skips g keys old.entries.items l.number l.table.entries.items l.table.entries.items l.invariant.adding
            (λ needed. let met = c.requires.reached.whole l.number needed in let unmet = w.if-reached-number.false in cc (met, unmet)) (search rules);
      })
    ]

pub returns-clause-added : goal.returns-clause-added
returns-clause-added c =
    let g = c.args.graph.now in
    let count = c.requires.reached.count in
    adding_end g c.args.keys.now c.args.table.now.entries.items c.loop-number.number c.loop-number.table.entries.items c.loop-number.invariant.adding (search rules)
    (λ m needed. let within = flag_within c.args.reached.now m (c.requires.reached.whole m needed) in omega (arith, within, count))

pub returns-clause-closed : goal.returns-clause-closed
returns-clause-closed c =
    let g = c.args.graph.now in
    let count = c.requires.reached.count in
    adding_closed g c.args.keys.now c.args.table.now.entries.items c.loop-number.number c.loop-number.table.entries.items c.loop-number.invariant.adding (search rules)
    (λ m needed. let within = flag_within c.args.reached.now m (c.requires.reached.whole m needed) in omega (arith, within, count))
