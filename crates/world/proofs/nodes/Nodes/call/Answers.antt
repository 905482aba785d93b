use Rattle.std.proofs.Common.{◌≡◌, ◌<◌, length, Some, sym, ap, ◌∙◌, rules, arith}
use Rattle.std.proofs.Common.{List}
use Rattle.protocol.specs.Lists.{nth}
use Rattle.protocol.specs.Names.{NodeId}
use Rattle.protocol.specs.Nodes.{Place}
use Rattle.nodecore.specs.declared.node_core.NodeCore.{NodeCore}
use Rattle.nodecore.specs.Shown.{shown, place}
use Rattle.world.specs.Tables.{node_at, seat, called}
use Rattle.world.proofs.SeatLemmas.{nth_at, place_is, Reseated, reseated, node_is, answers_at}
use Rattle.world.proofs.nodes.Nodes.call.Goals as goal

pub answer-requires : goal.answer-requires
answer-requires c =
    let n : NodeId = c.args.node in
    let cores : List NodeCore = c.args.self.now.cores.items in
    let x : NodeCore = c.index_mut.result.now in
    let inside : c.in_ok-place.place < length cores = omega (arith, c.in_ok-place.ensures.inside) in
    let at : nth cores n.0 ≡ Some x = nth_at cores n.0 c.in_ok-place.place x c.in_ok-place.ensures.found inside (search rules) in
    sym (ap (λ (p : Place). p.node) (place_is cores n x (c.args.self.now.seated n.0 x at)))

pub invariant_of-self : goal.invariant_of-self
invariant_of-self c =
    let n : NodeId = c.args.node in
    let cores : List NodeCore = c.args.self.now.cores.items in
    let x : NodeCore = c.index_mut.result.now in
    let inside : c.in_ok-place.place < length cores = omega (arith, c.in_ok-place.ensures.inside) in
    let at : nth cores n.0 ≡ Some x = nth_at cores n.0 c.in_ok-place.place x c.in_ok-place.ensures.found inside (search rules) in
    let r : Reseated cores n c.in_ok-place.place c.answer.new.core = reseated cores n c.in_ok-place.place x c.answer.new.core c.args.self.now.seated c.in_ok-place.ensures.found at c.answer.ensures.place (c.answer.ensures.told ∙ (c.args.self.now.seated n.0 x at).told) in
    record { seated = r.seated }

pub returns-clause-others : goal.returns-clause-others
returns-clause-others c =
    let n : NodeId = c.args.node in
    let cores : List NodeCore = c.args.self.now.cores.items in
    let x : NodeCore = c.index_mut.result.now in
    let inside : c.in_ok-place.place < length cores = omega (arith, c.in_ok-place.ensures.inside) in
    let at : nth cores n.0 ≡ Some x = nth_at cores n.0 c.in_ok-place.place x c.in_ok-place.ensures.found inside (search rules) in
    let r : Reseated cores n c.in_ok-place.place c.answer.new.core = reseated cores n c.in_ok-place.place x c.answer.new.core c.args.self.now.seated c.in_ok-place.ensures.found at c.answer.ensures.place (c.answer.ensures.told ∙ (c.args.self.now.seated n.0 x at).told) in
    r.others

pub returns-clause-answer : goal.returns-clause-answer
returns-clause-answer c =
    let n : NodeId = c.args.node in
    let cores : List NodeCore = c.args.self.now.cores.items in
    let x : NodeCore = c.index_mut.result.now in
    let inside : c.in_ok-place.place < length cores = omega (arith, c.in_ok-place.ensures.inside) in
    let at : nth cores n.0 ≡ Some x = nth_at cores n.0 c.in_ok-place.place x c.in_ok-place.ensures.found inside (search rules) in
    let r : Reseated cores n c.in_ok-place.place c.answer.new.core = reseated cores n c.in_ok-place.place x c.answer.new.core c.args.self.now.seated c.in_ok-place.ensures.found at c.answer.ensures.place (c.answer.ensures.told ∙ (c.args.self.now.seated n.0 x at).told) in
    answers_at (called c.args.call) (place x) (seat cores n) (shown x) (node_at cores n.0) (shown c.answer.new.core) (node_at _ n.0) c.answer.result (place_is cores n x (c.args.self.now.seated n.0 x at)) (sym (node_is cores n.0 x at)) (sym r.shown) c.answer.ensures.answer
