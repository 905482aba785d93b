use Rattle.std.proofs.Common.{◌≡◌, ◌<◌, length, Some, rules, arith}
use Rattle.protocol.specs.Lists.{nth}
use Rattle.world.proofs.SeatLemmas.{nth_at, place_is}
use Rattle.world.proofs.nodes.Nodes.get.Goals as goal

pub returns-clause-place : goal.returns-clause-place
returns-clause-place c =
    let inside : c.in_ok-place.place < length c.args.self.now.cores.items = omega (arith, c.in_ok-place.ensures.inside) in
    let at : nth c.args.self.now.cores.items c.args.node.0 ≡ Some c.index.result.now = nth_at c.args.self.now.cores.items c.args.node.0 c.in_ok-place.place c.index.result.now c.in_ok-place.ensures.found inside (search rules) in
    place_is c.args.self.now.cores.items c.args.node c.index.result.now (c.args.self.now.seated c.args.node.0 c.index.result.now at)

pub returns-clause-told : goal.returns-clause-told
returns-clause-told c =
    let inside : c.in_ok-place.place < length c.args.self.now.cores.items = omega (arith, c.in_ok-place.ensures.inside) in
    let at : nth c.args.self.now.cores.items c.args.node.0 ≡ Some c.index.result.now = nth_at c.args.self.now.cores.items c.args.node.0 c.in_ok-place.place c.index.result.now c.in_ok-place.ensures.found inside (search rules) in
    (c.args.self.now.seated c.args.node.0 c.index.result.now at).told
