use Rattle.std.proofs.Common.{◌≡◌, ℕ, ◌++◌, get_or, ◌<◌, ◌≤◌, true, map, List, Some, Result, Ok, Err, length, ap, sym, ◌∙◌, subst, arith, rules}
use Rattle.std.proofs.lemmas.Grind.{common_steps}
use Rattle.names.specs.Contents.{content_digest}
use Rattle.protocol.specs.Farm.{farm_limits}
use Rattle.protocol.specs.Lists.{nth}
use Rattle.protocol.specs.Names.{NodeId}
use Rattle.protocol.specs.Machine.{Said, Told, ToCoord}
use Rattle.events.specs.declared.answer.EventNote.TheVariants as note
use Rattle.protocol.specs.Ledger.{Work, handled, begin_work}
use Rattle.protocol.specs.Replay.{Farm, Turn, coordinated, is_node, node_does, delivered}
use Rattle.events.specs.declared.answer.CoordRefusal.{CoordRefusal}
use Rattle.events.specs.declared.answer.EventRefusal.{EventRefusal}
use Rattle.nodecore.specs.declared.node_core.NodeCore.{NodeCore}
use Rattle.farm_base.specs.declared.message.Message as sent
use Rattle.farm_base.specs.declared.message.Message.TheVariants as message
use Rattle.farm_base.specs.declared.message.ToNode.{ToNode}
use Rattle.nodecore.specs.Shown.{Answers, message_work}
use Rattle.world.specs.Tables.{seat, node_at}
use Rattle.world.specs.Turns.{Came, FitsIn, first_number, from_coordinator, from_node}
use Rattle.coordinator.specs.Held.{ledger}
use Rattle.world.specs.Parts.{shown_parts, with_coordinator}
use Rattle.world.proofs.FewLemmas.{heard_count}
use Rattle.world.proofs.LawfulLemmas.{said_of}
use Rattle.world.proofs.PoolLemmas.{found_at, same_read}
use Rattle.world.proofs.CallLemmas.{call_done, call_refused}
use Rattle.world.proofs.TurnLemmas.{hears, came_none, came_done, came_refused, unmoved, came_as}
use Rattle.farm_base.specs.Receivers.{receiver}
use Rattle.world.proofs.parts.Parts.deliver.Goals as goal

pub returns-in_default-hear : goal.returns-in_default-hear
returns-in_default-hear c =
    let s : Farm = shown_parts c.args.self.now in
    let pool : List sent.Message = c.args.self.now.pool.items in
    let inside : c.in-Some.place < length pool = omega (arith, c.in-Some.ensures.inside) in
    let same : c.reserve.new.self.items ≡ pool = c.reserve.ensures.items in
    let m : ToNode = c.in-ToNode.message in
    let n : NodeId = receiver m in
    let cores : List NodeCore = c.args.self.now.nodes.cores.items in
    let new : List NodeCore = c.hear.new.self.cores.items in
    let here : nth pool c.args.number ≡ Some (message.ToNode m) = found_at pool c.reserve.new.self.items c.args.number c.in-Some.place c.index-2.result.now (message.ToNode m) same c.in-Some.ensures.found inside (search rules) c.in-ToNode.is in
    let is : delivered content_digest farm_limits (nth pool c.args.number) s ≡ node_does n (hears m) s = ap (λ o. delivered content_digest farm_limits o s) here in
    let kept : new ≡ cores = c.in_default-hear.ensures.none in
    let t : Farm = record s { size = length new; nodes = node_at new; pool = c.reserve.new.self.items } in
    let unchanged : t ≡ s = λ j. record s { size = length (kept j); nodes = node_at (kept j); pool = (same j) } in
    is ∙ came_none s t n (hears m) (sym c.in_default-hear.ensures.exact) unchanged

pub send_node-requires : goal.send_node-requires
send_node-requires c =
    let s : Farm = shown_parts c.args.self.now in
    let pool : List sent.Message = c.args.self.now.pool.items in
    let inside : c.in-Some.place < length pool = omega (arith, c.in-Some.ensures.inside) in
    let same : c.reserve.new.self.items ≡ pool = c.reserve.ensures.items in
    let m : ToNode = c.in-ToNode.message in
    let n : NodeId = receiver m in
    let cores : List NodeCore = c.args.self.now.nodes.cores.items in
    let new : List NodeCore = c.hear.new.self.cores.items in
    let here : nth pool c.args.number ≡ Some (message.ToNode m) = found_at pool c.reserve.new.self.items c.args.number c.in-Some.place c.index-2.result.now (message.ToNode m) same c.in-Some.ensures.found inside (search rules) c.in-ToNode.is in
    let is : delivered content_digest farm_limits (nth pool c.args.number) s ≡ node_does n (hears m) s = ap (λ o. delivered content_digest farm_limits o s) here in
    let there : is_node s n ≡ true = sym c.in-Some-hear.ensures.exact in
    let answer : Answers (hears m (seat cores n) (node_at cores n.0)) (node_at cores n.0) (node_at new n.0) (Ok c.in-Ok-answer.done) =
    subst (Answers (hears m (seat cores n) (node_at cores n.0)) (node_at cores n.0) (node_at new n.0)) c.in-Ok-answer.is c.in-Some-hear.ensures.answer in
    let first : c.index.result.now ≡ message.ToNode m =
    same_read pool c.in-Some.place c.index.result.now c.index-2.result.now inside c.index.ensures (c.index-2.ensures ∙ ap (λ (l : List sent.Message). get_or l c.in-Some.place c.index-2.result.now) same) ∙ c.in-ToNode.is in
    let fits : FitsIn s (message.ToNode m) c.room_for-room.result = subst (λ (x : sent.Message). FitsIn s x c.room_for-room.result) first c.room_for-room.ensures in
    let small : c.room_for-room.result < 0xffff_ffff_ffff_ffff = (let cap = c.reserve.new.self.small in grind (arith, common_steps)) in
    let bound : length (message_work (seat cores n) (node_at cores n.0) m).sends ≤ c.room_for-room.result = fits there small in
    let count : length (message_work (seat cores n) (node_at cores n.0) m).sends ≡ length c.in-Ok-answer.done.sends = heard_count (node_at cores n.0) (node_at new n.0) (message_work (seat cores n) (node_at cores n.0) m) c.in-Ok-answer.done answer in
    grind (arith, common_steps)

pub returns-in-Err-answer : goal.returns-in-Err-answer
returns-in-Err-answer c =
    let s : Farm = shown_parts c.args.self.now in
    let pool : List sent.Message = c.args.self.now.pool.items in
    let inside : c.in-Some.place < length pool = omega (arith, c.in-Some.ensures.inside) in
    let same : c.reserve.new.self.items ≡ pool = c.reserve.ensures.items in
    let m : ToNode = c.in-ToNode.message in
    let n : NodeId = receiver m in
    let cores : List NodeCore = c.args.self.now.nodes.cores.items in
    let new : List NodeCore = c.hear.new.self.cores.items in
    let here : nth pool c.args.number ≡ Some (message.ToNode m) = found_at pool c.reserve.new.self.items c.args.number c.in-Some.place c.index-2.result.now (message.ToNode m) same c.in-Some.ensures.found inside (search rules) c.in-ToNode.is in
    let is : delivered content_digest farm_limits (nth pool c.args.number) s ≡ node_does n (hears m) s = ap (λ o. delivered content_digest farm_limits o s) here in
    let there : is_node s n ≡ true = sym c.in-Some-hear.ensures.exact in
    let answer : Answers (hears m (seat cores n) (node_at cores n.0)) (node_at cores n.0) (node_at new n.0) (Err c.in-Err-answer.refusal) =
    subst (Answers (hears m (seat cores n) (node_at cores n.0)) (node_at cores n.0) (node_at new n.0)) c.in-Err-answer.is c.in-Some-hear.ensures.answer in
    let t : Farm = record s { size = length new; nodes = node_at new; pool = c.reserve.new.self.items } in
    subst (λ (e : EventRefusal). Came (delivered content_digest farm_limits (nth pool c.args.number) s) s t (Err e)) (sym c.from_node.ensures)
    (came_as (node_does n (hears m) s) (delivered content_digest farm_limits (nth pool c.args.number) s) s t (Err (from_node c.in-Err-answer.refusal)) (sym is)
    (came_refused s t n (hears m) (node_at new n.0) c.in-Err-answer.refusal there answer
    (unmoved s n (length new) (node_at new) c.reserve.new.self.items c.in-Some-hear.ensures.others.size c.in-Some-hear.ensures.others.nodes same)))

pub returns-in-Ok-answer : goal.returns-in-Ok-answer
returns-in-Ok-answer c =
    let s : Farm = shown_parts c.args.self.now in
    let pool : List sent.Message = c.args.self.now.pool.items in
    let inside : c.in-Some.place < length pool = omega (arith, c.in-Some.ensures.inside) in
    let same : c.reserve.new.self.items ≡ pool = c.reserve.ensures.items in
    let m : ToNode = c.in-ToNode.message in
    let n : NodeId = receiver m in
    let cores : List NodeCore = c.args.self.now.nodes.cores.items in
    let new : List NodeCore = c.hear.new.self.cores.items in
    let here : nth pool c.args.number ≡ Some (message.ToNode m) = found_at pool c.reserve.new.self.items c.args.number c.in-Some.place c.index-2.result.now (message.ToNode m) same c.in-Some.ensures.found inside (search rules) c.in-ToNode.is in
    let is : delivered content_digest farm_limits (nth pool c.args.number) s ≡ node_does n (hears m) s = ap (λ o. delivered content_digest farm_limits o s) here in
    let there : is_node s n ≡ true = sym c.in-Some-hear.ensures.exact in
    let answer : Answers (hears m (seat cores n) (node_at cores n.0)) (node_at cores n.0) (node_at new n.0) (Ok c.in-Ok-answer.done) =
    subst (Answers (hears m (seat cores n) (node_at cores n.0)) (node_at cores n.0) (node_at new n.0)) c.in-Ok-answer.is c.in-Some-hear.ensures.answer in
    let t : Farm = record s { size = length new; nodes = node_at new; pool = c.send_node.new.pool.items } in
    is ∙ came_done s t n (hears m) (node_at new n.0) c.in-Ok-answer.done c.send_node.result there answer
    (λ j. record s { size = c.in-Some-hear.ensures.others.size j; nodes = c.in-Some-hear.ensures.others.nodes j; pool = (c.send_node.ensures.pool ∙ ap (λ (l : List sent.Message). l ++ c.in-Ok-answer.done.sends) same) j })
    (c.send_node.ensures.outcome ∙ ap (λ (k : ℕ). record { note = note.Node c.in-Ok-answer.done.note; first = first_number k (length c.in-Ok-answer.done.sends); sent = length c.in-Ok-answer.done.sends }) (ap length same))

pub returns-in-Ok : goal.returns-in-Ok
returns-in-Ok c =
    let s : Farm = shown_parts c.args.self.now in
    let pool : List sent.Message = c.args.self.now.pool.items in
    let inside : c.in-Some.place < length pool = omega (arith, c.in-Some.ensures.inside) in
    let same : c.reserve.new.self.items ≡ pool = c.reserve.ensures.items in
    let y : ToCoord = c.in-ToCoord.message in
    let here : nth pool c.args.number ≡ Some (Said y) = found_at pool c.reserve.new.self.items c.args.number c.in-Some.place c.index-2.result.now (message.ToCoord y) same c.in-Some.ensures.found inside (search rules) c.in-ToCoord.is in
    ap (λ o. delivered content_digest farm_limits o s) here
    ∙ call_done s c.args.self.now.coordinator c.handle.new.self pool c.send_coordinator.new.pool.items c.in-Ok.handled c.send_coordinator.result
    (c.send_coordinator.ensures.pool ∙ ap (λ (l : List sent.Message). l ++ map Told c.in-Ok.handled.sends) same)
    (c.send_coordinator.ensures.outcome ∙ ap (λ (k : ℕ). record { note = note.Coord c.in-Ok.handled.note; first = first_number k (length c.in-Ok.handled.sends); sent = length c.in-Ok.handled.sends }) (ap length same))
    (Ok (handled farm_limits y (begin_work s.ledger))) c.in-Ok.ensures.answer

pub returns-in-Err : goal.returns-in-Err
returns-in-Err c =
    let s : Farm = shown_parts c.args.self.now in
    let pool : List sent.Message = c.args.self.now.pool.items in
    let inside : c.in-Some.place < length pool = omega (arith, c.in-Some.ensures.inside) in
    let same : c.reserve.new.self.items ≡ pool = c.reserve.ensures.items in
    let y : ToCoord = c.in-ToCoord.message in
    let here : nth pool c.args.number ≡ Some (Said y) = found_at pool c.reserve.new.self.items c.args.number c.in-Some.place c.index-2.result.now (message.ToCoord y) same c.in-Some.ensures.found inside (search rules) c.in-ToCoord.is in
    let r : Result Work CoordRefusal = Ok (handled farm_limits y (begin_work (ledger c.args.self.now.coordinator.held))) in
    let d : Turn = delivered content_digest farm_limits (nth pool c.args.number) s in
    let is : d ≡ coordinated s.down r s = ap (λ o. delivered content_digest farm_limits o s) here in
    let t : List sent.Message → Farm = λ l. with_coordinator s c.handle.new.self l in
    subst (λ (e : EventRefusal). Came d s (t c.reserve.new.self.items) (Err e)) (sym c.from_coordinator.ensures)
    (subst (λ (l : List sent.Message). Came d s (t l) (Err (from_coordinator c.in-Err.refusal))) (sym same)
    (came_as (coordinated s.down r s) d s (t pool) (Err (from_coordinator c.in-Err.refusal)) (sym is)
    (call_refused s c.args.self.now.coordinator c.handle.new.self pool r c.in-Err.refusal c.in-Err.ensures.answer)))

pub handle-requires : goal.handle-requires
handle-requires c =
    let pool : List sent.Message = c.args.self.now.pool.items in
    let inside : c.in-Some.place < length pool = omega (arith, c.in-Some.ensures.inside) in
    let same : c.reserve.new.self.items ≡ pool = c.reserve.ensures.items in
    let y : ToCoord = c.in-ToCoord.message in
    let here : nth pool c.args.number ≡ Some (Said y) = found_at pool c.reserve.new.self.items c.args.number c.in-Some.place c.index-2.result.now (message.ToCoord y) same c.in-Some.ensures.found inside (search rules) c.in-ToCoord.is in
    said_of (shown_parts c.args.self.now) c.args.number y c.requires here
