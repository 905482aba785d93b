use Rattle.std.proofs.Common.{◌∙◌, refl, arith}
use Rattle.keytable.specs.Spreading.{marked}
use Rattle.keytable.proofs.ReachLemmas.{flag_within}
use Rattle.keytable.proofs.SpreadLemmas.{spread_step, spread_marked, spread_only, popped_marked, marking_none}
use Rattle.keytable.proofs.marking.spread.Goals as goal

pub loop-number-preserved : goal.loop-number-preserved
loop-number-preserved c =
    let links = c.args.users.now.links.items in
    let inv = c.loop-number.invariant in
    let e = c.mark_users.ensures in
    let old = c.loop-number.marks in
    let new = c.mark_users.new.marks in
    let todo = c.loop-number.todo.items in
    let rest = c.pop.new.self.items in
    let more = c.mark_users.new.todo.items in
    let n = c.in-Some.number in
    let popped = c.in-Some.ensures.items in
    record {
      keeps = λ m f. e.marks.kept m (inv.keeps m f);
      only = spread_only links c.args.marks.now old new todo rest more n popped e.marks inv.marked e.only inv.only;
      others = spread_step links c.args.marks.now old new todo rest more n popped e.marks e.marked inv.others;
      marked = spread_marked links c.args.marks.now old new todo rest more n popped e.marks inv.marked;
      room = let r = inv.room in let s = e.steps in let l = c.in-Some.ensures.len in let k = e.capacity in let p = c.in-Some.ensures.capacity in omega (arith, r, s, l, k, p);
      capacity = e.capacity ∙ c.in-Some.ensures.capacity ∙ inv.capacity;
    }

pub loop-number-init : goal.loop-number-init
loop-number-init c = record {
  keeps = λ m f. f;
  only = λ m f. marked m f;
  others = c.requires.others;
  marked = c.requires.marked;
  room = c.requires.room;
  capacity = refl;
}

pub mark_users-requires-clause-within : goal.mark_users-requires-clause-within
mark_users-requires-clause-within c =
    let inv = c.loop-number.invariant in
    let met = popped_marked c.args.users.now.links.items c.args.marks.now c.loop-number.marks c.loop-number.marks c.loop-number.todo.items c.pop.new.self.items c.pop.new.self.items c.in-Some.number c.in-Some.ensures.items (marking_none c.loop-number.marks c.pop.new.self.items) inv.marked in
    let within = flag_within c.loop-number.marks c.in-Some.number met in
    let count = c.requires.count in
    let size = c.loop-number.auto.marks in
    omega (arith, within, count, size)
