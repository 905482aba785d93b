use Rattle.std.proofs.Common.{◌≡◌, ◌*◌, ◌≤◌, length, List, ap, sym, arith}
use Rattle.protocol.specs.Machine.{GrantedSlot}
use Rattle.nodecore.specs.Shown.{granted_slots, place, shown}
use Rattle.nodecore.proofs.SendLemmas.{sends_few}
use Rattle.nodecore.proofs.node_core.NodeCore.most_sends.Goals as goal

pub returns-clause-most : goal.returns-clause-most
returns-clause-most c = λ below.
    let x = c.args.self.now in
    let slots : length c.granted_slots-slots.result.now ≡ length (granted_slots c.args.message.now) = ap (λ (s : List GrantedSlot). length s) c.granted_slots-slots.ensures in
    let product : length (granted_slots c.args.message.now) * x.nodes ≡ length c.granted_slots-slots.result.now * x.nodes = ap (λ n. n * x.nodes) (sym slots) in
    let bound : length (granted_slots c.args.message.now) * x.nodes ≤ c.max.result = omega (arith, product, c.saturating_mul.ensures, c.max.ensures, below) in
    sends_few (place x) (shown x) c.args.message.now c.max.result bound (omega (arith, c.max.ensures))

pub returns-clause-value : goal.returns-clause-value
returns-clause-value c =
    let slots : length c.granted_slots-slots.result.now ≡ length (granted_slots c.args.message.now) = ap (λ (s : List GrantedSlot). length s) c.granted_slots-slots.ensures in
    let product : length (granted_slots c.args.message.now) * c.args.self.now.nodes ≡ length c.granted_slots-slots.result.now * c.args.self.now.nodes = ap (λ n. n * c.args.self.now.nodes) (sym slots) in
    omega (arith, product, c.saturating_mul.ensures, c.max.ensures)
