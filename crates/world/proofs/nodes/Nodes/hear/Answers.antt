use Rattle.std.proofs.Common.{◌≡◌, ◌<◌, length, Some, ◌+◌, refl, ap, sym, ◌∙◌, rules, arith}
use Rattle.std.proofs.Common.{List}
use Rattle.protocol.specs.Lists.{nth}
use Rattle.protocol.specs.Names.{NodeId}
use Rattle.nodecore.specs.declared.node_core.NodeCore.{NodeCore}
use Rattle.nodecore.specs.Shown.{shown, place}
use Rattle.world.specs.Tables.{node_at, seat}
use Rattle.world.proofs.SeatLemmas.{nth_at, place_is, Reseated, reseated, node_is, hears_at}
use Rattle.farm_base.specs.Receivers.{receiver}
use Rattle.world.proofs.nodes.Nodes.hear.Goals as goal

pub invariant_of-self : goal.invariant_of-self
invariant_of-self c =
    let n : NodeId = receiver c.args.message.now in
    let cores : List NodeCore = c.args.self.now.cores.items in
    let x : NodeCore = c.index_mut.result.now in
    let inside : c.in_ok-place.place < length cores = omega (arith, c.in_ok-place.ensures.inside) in
    let found : n.0 ≡ c.in_ok-place.place + 1 = ap (λ (m : NodeId). m.0) (sym c.node.ensures) ∙ c.in_ok-place.ensures.found in
    let at : nth cores n.0 ≡ Some x = nth_at cores n.0 c.in_ok-place.place x found inside (search rules) in
    let r : Reseated cores n c.in_ok-place.place c.handle.new.self = reseated cores n c.in_ok-place.place x c.handle.new.self c.args.self.now.seated found at c.handle.ensures.place (c.handle.ensures.told ∙ (c.args.self.now.seated n.0 x at).told) in
    record { seated = r.seated }

pub returns-clause-others : goal.returns-clause-others
returns-clause-others c =
    let n : NodeId = receiver c.args.message.now in
    let cores : List NodeCore = c.args.self.now.cores.items in
    let x : NodeCore = c.index_mut.result.now in
    let inside : c.in_ok-place.place < length cores = omega (arith, c.in_ok-place.ensures.inside) in
    let found : n.0 ≡ c.in_ok-place.place + 1 = ap (λ (m : NodeId). m.0) (sym c.node.ensures) ∙ c.in_ok-place.ensures.found in
    let at : nth cores n.0 ≡ Some x = nth_at cores n.0 c.in_ok-place.place x found inside (search rules) in
    let r : Reseated cores n c.in_ok-place.place c.handle.new.self = reseated cores n c.in_ok-place.place x c.handle.new.self c.args.self.now.seated found at c.handle.ensures.place (c.handle.ensures.told ∙ (c.args.self.now.seated n.0 x at).told) in
    r.others

pub returns-clause-answer : goal.returns-clause-answer
returns-clause-answer c =
    let n : NodeId = receiver c.args.message.now in
    let cores : List NodeCore = c.args.self.now.cores.items in
    let x : NodeCore = c.index_mut.result.now in
    let inside : c.in_ok-place.place < length cores = omega (arith, c.in_ok-place.ensures.inside) in
    let found : n.0 ≡ c.in_ok-place.place + 1 = ap (λ (m : NodeId). m.0) (sym c.node.ensures) ∙ c.in_ok-place.ensures.found in
    let at : nth cores n.0 ≡ Some x = nth_at cores n.0 c.in_ok-place.place x found inside (search rules) in
    let r : Reseated cores n c.in_ok-place.place c.handle.new.self = reseated cores n c.in_ok-place.place x c.handle.new.self c.args.self.now.seated found at c.handle.ensures.place (c.handle.ensures.told ∙ (c.args.self.now.seated n.0 x at).told) in
    hears_at c.args.message.now (place x) (seat cores n) (shown x) (node_at cores n.0) (shown c.handle.new.self) (node_at _ n.0) c.handle.result (place_is cores n x (c.args.self.now.seated n.0 x at)) (sym (node_is cores n.0 x at)) (sym r.shown) refl c.handle.ensures.answer
