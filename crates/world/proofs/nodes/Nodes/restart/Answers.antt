use Rattle.std.proofs.Common.{◌≡◌, ◌<◌, length, Some, sym, rules, arith}
use Rattle.std.proofs.Common.{List}
use Rattle.protocol.specs.Lists.{nth}
use Rattle.protocol.specs.Names.{NodeId}
use Rattle.nodecore.specs.declared.node_core.NodeCore.{NodeCore}
use Rattle.nodecore.specs.Shown.{forgets, shown, place}
use Rattle.world.specs.Tables.{node_at, seat}
use Rattle.world.proofs.SeatLemmas.{nth_at, place_is, Reseated, reseated, node_is, restarts_at, restarts_as, told_again}
use Rattle.world.proofs.nodes.Nodes.restart.Goals as goal

pub invariant_of-self : goal.invariant_of-self
invariant_of-self c =
    let n : NodeId = c.args.node in
    let cores : List NodeCore = c.args.self.now.cores.items in
    let x : NodeCore = c.index_mut.result.now in
    let inside : c.in_ok-place.place < length cores = omega (arith, c.in_ok-place.ensures.inside) in
    let at : nth cores n.0 ≡ Some x = nth_at cores n.0 c.in_ok-place.place x c.in_ok-place.ensures.found inside (search rules) in
    let r : Reseated cores n c.in_ok-place.place c.restart.new.self = reseated cores n c.in_ok-place.place x c.restart.new.self c.args.self.now.seated c.in_ok-place.ensures.found at c.restart.ensures.place (told_again c.restart.result (forgets x) (forgets c.restart.new.self) c.restart.ensures.told c.restart.ensures.kept (c.args.self.now.seated n.0 x at).told) in
    record { seated = r.seated }

pub returns-clause-others : goal.returns-clause-others
returns-clause-others c =
    let n : NodeId = c.args.node in
    let cores : List NodeCore = c.args.self.now.cores.items in
    let x : NodeCore = c.index_mut.result.now in
    let inside : c.in_ok-place.place < length cores = omega (arith, c.in_ok-place.ensures.inside) in
    let at : nth cores n.0 ≡ Some x = nth_at cores n.0 c.in_ok-place.place x c.in_ok-place.ensures.found inside (search rules) in
    let r : Reseated cores n c.in_ok-place.place c.restart.new.self = reseated cores n c.in_ok-place.place x c.restart.new.self c.args.self.now.seated c.in_ok-place.ensures.found at c.restart.ensures.place (told_again c.restart.result (forgets x) (forgets c.restart.new.self) c.restart.ensures.told c.restart.ensures.kept (c.args.self.now.seated n.0 x at).told) in
    r.others

pub returns-clause-answer : goal.returns-clause-answer
returns-clause-answer c =
    let n : NodeId = c.args.node in
    let cores : List NodeCore = c.args.self.now.cores.items in
    let x : NodeCore = c.index_mut.result.now in
    let inside : c.in_ok-place.place < length cores = omega (arith, c.in_ok-place.ensures.inside) in
    let at : nth cores n.0 ≡ Some x = nth_at cores n.0 c.in_ok-place.place x c.in_ok-place.ensures.found inside (search rules) in
    let r : Reseated cores n c.in_ok-place.place c.restart.new.self = reseated cores n c.in_ok-place.place x c.restart.new.self c.args.self.now.seated c.in_ok-place.ensures.found at c.restart.ensures.place (told_again c.restart.result (forgets x) (forgets c.restart.new.self) c.restart.ensures.told c.restart.ensures.kept (c.args.self.now.seated n.0 x at).told) in
    restarts_at (place x) (seat cores n) (shown x) (node_at cores n.0) (shown c.restart.new.self) (node_at _ n.0) c.restart.result (place_is cores n x (c.args.self.now.seated n.0 x at)) (sym (node_is cores n.0 x at)) (sym r.shown)
    (restarts_as (place x) (shown x) (shown c.restart.new.self) c.restart.result c.restart.ensures.done c.restart.ensures.spent c.restart.ensures.memory c.restart.ensures.only)
