use Rattle.std.proofs.Common.{◌∙◌, ℕ, ap, rules}
use Rattle.std.specs.declared.vec.Vec.{Vec}
use Rattle.std.specs.declared.alloc.Global.{Global}
use Rattle.keytable.proofs.ReachLemmas.{reach_next, reach_same}
use Rattle.keytable.proofs.reaching.flag_inputs.Goals as goal
use Rattle.keytable.proofs.reaching.flag_inputs.Goals.{then-not-flags-number+in_ok-push, else-not-flags-number}

pub loop-number-preserved : goal.loop-number-preserved
loop-number-preserved c =
    let k = c.loop-number.number-index in
    let edges = c.args.edges.now in
    let l = c.loop-number in
    elim c.if-not-flags-number.branch [
      | then-not-flags-number+in_ok-push w ↦ reach_next c.args.flags.now c.args.todo.now.items edges k (0, 0) l.flags l.todo.items _ _ c.loop-number-test.true l.invariant.flagged l.invariant.open_ones
          (search rules) w.if-not-flags-number.true w.flags-is (ap (λ (v : Vec ℕ Global). v.items) w.todo-is ∙ w.in_ok-push.ensures.items)
      | else-not-flags-number w ↦ reach_same c.args.flags.now c.args.todo.now.items edges k (0, 0) l.flags l.todo.items _ _ c.loop-number-test.true l.invariant.flagged l.invariant.open_ones
          w.if-not-flags-number.false w.flags-is (ap (λ (v : Vec ℕ Global). v.items) w.todo-is)
    ]
