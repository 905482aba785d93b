use Rattle.std.proofs.Common.{rules, ◌≡◌, ap, sym, subst}
use Rattle.protocol.specs.Nodes.{NodeWork}
use Rattle.farm_base.specs.declared.message.ToNode.{ToNode}
use Rattle.farm_base.specs.declared.message.ToNode.TheVariants.{Blob}
use Rattle.nodecore.specs.Shown.{shown, place, Does, message_work}
use Rattle.nodecore.proofs.node_core.NodeCore.receive.Goals as goal

pub returns-in-Blob-clause-work : goal.returns-in-Blob-clause-work
returns-in-Blob-clause-work c =
    let x = shown c.args.self.now in
    let is : c.args.message.now ≡ Blob c.in-Blob.node c.in-Blob.content = search rules in
    subst (λ (w : NodeWork). Does w x (shown c.bring.new.self) c.bring.result) (sym (ap (λ (m : ToNode). message_work (place c.args.self.now) x m) is)) c.bring.ensures.work
