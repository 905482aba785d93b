use Rattle.std.proofs.Common.{◌≡◌, ◌≤◌, true, List, Ok, Err, length, sym, arith, subst}
use Rattle.std.proofs.lemmas.Grind.{common_steps}
use Rattle.protocol.specs.Names.{NodeId}
use Rattle.protocol.specs.Replay.{Farm, is_node, node_does}
use Rattle.nodecore.specs.declared.node_core.NodeCore.{NodeCore}
use Rattle.nodecore.specs.Shown.{Answers}
use Rattle.world.specs.Tables.{called, seat, node_at}
use Rattle.events.specs.declared.answer.EventRefusal.{EventRefusal}
use Rattle.world.specs.Turns.{Came}
use Rattle.world.specs.Parts.{shown_parts}
use Rattle.world.proofs.FewLemmas.{few}
use Rattle.world.proofs.TurnLemmas.{came_refused, unmoved}
use Rattle.world.proofs.parts.Parts.call.Goals as goal

pub send_node-requires : goal.send_node-requires
send_node-requires c =
    let cores : List NodeCore = c.args.self.now.nodes.cores.items in
    let n : NodeId = c.args.node in
    let answer : Answers (called c.args.call (seat cores n) (node_at cores n.0)) (node_at cores n.0) (node_at c.call.new.self.cores.items n.0) (Ok c.in-Ok.done) =
    subst (Answers (called c.args.call (seat cores n) (node_at cores n.0)) (node_at cores n.0) (node_at c.call.new.self.cores.items n.0)) c.in-Ok.is c.in-Some.ensures.answer in
    let few_sends : length c.in-Ok.done.sends ≤ 1 = few c.args.call (seat cores n) (node_at cores n.0) (node_at c.call.new.self.cores.items n.0) c.in-Ok.done answer in
    grind (arith, common_steps)

pub returns-in-Err : goal.returns-in-Err
returns-in-Err c =
    let cores : List NodeCore = c.args.self.now.nodes.cores.items in
    let new : List NodeCore = c.call.new.self.cores.items in
    let n : NodeId = c.args.node in
    let s : Farm = shown_parts c.args.self.now in
    let here : is_node s n ≡ true = sym c.in-Some.ensures.exact in
    let answer : Answers (called c.args.call (seat cores n) (node_at cores n.0)) (node_at cores n.0) (node_at new n.0) (Err c.in-Err.refusal) =
    subst (Answers (called c.args.call (seat cores n) (node_at cores n.0)) (node_at cores n.0) (node_at new n.0)) c.in-Err.is c.in-Some.ensures.answer in
    let t : Farm = record s { size = length new; nodes = node_at new; pool = c.reserve.new.self.items } in
    subst (λ (e : EventRefusal). Came (node_does n (called c.args.call) s) s t (Err e)) (sym c.from_node.ensures)
    (came_refused s t n (called c.args.call) (node_at new n.0) c.in-Err.refusal here answer
    (unmoved s n (length new) (node_at new) c.reserve.new.self.items c.in-Some.ensures.others.size c.in-Some.ensures.others.nodes c.reserve.ensures.items))
