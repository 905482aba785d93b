use Rattle.std.proofs.Common.{◌≡◌, true, List, Err, length, sym, subst}
use Rattle.protocol.specs.Names.{NodeId}
use Rattle.protocol.specs.Replay.{Farm, is_node}
use Rattle.events.specs.declared.answer.EventRefusal.{EventRefusal}
use Rattle.nodecore.specs.declared.node_core.NodeCore.{NodeCore}
use Rattle.world.specs.Tables.{seat, node_at, Restarts}
use Rattle.world.specs.Turns.{Came, restarting}
use Rattle.world.specs.Parts.{shown_parts}
use Rattle.world.proofs.TurnLemmas.{came_stopped, unmoved, moved_to}
use Rattle.world.proofs.parts.Parts.restart.Goals as goal

pub returns-in-Err : goal.returns-in-Err
returns-in-Err c =
    let cores : List NodeCore = c.args.self.now.nodes.cores.items in
    let new : List NodeCore = c.restart.new.self.cores.items in
    let n : NodeId = c.args.node in
    let s : Farm = shown_parts c.args.self.now in
    let here : is_node s n ≡ true = sym c.in-Some.ensures.exact in
    let answer : Restarts (seat cores n) (node_at cores n.0) (node_at new n.0) (Err c.in-Err.refusal) = subst (Restarts (seat cores n) (node_at cores n.0) (node_at new n.0)) c.in-Err.is c.in-Some.ensures.answer in
    let t : Farm = record s { size = length new; nodes = node_at new; pool = c.reserve.new.self.items } in
    subst (λ (e : EventRefusal). Came (restarting n s) s t (Err e)) (sym c.from_node.ensures)
    (came_stopped s t n (node_at new n.0) c.in-Err.refusal here answer
    (unmoved s n (length new) (node_at new) c.reserve.new.self.items c.in-Some.ensures.others.size c.in-Some.ensures.others.nodes c.reserve.ensures.items)
    (moved_to s n (length new) (node_at new) c.reserve.new.self.items c.in-Some.ensures.others.size c.in-Some.ensures.others.nodes c.reserve.ensures.items))
