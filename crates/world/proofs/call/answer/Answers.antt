use Rattle.std.proofs.Common.{◌≡◌, ap, sym, subst, rules}
use Rattle.names.specs.Contents.{content_digest}
use Rattle.farm_base.specs.declared.message.ToNode.TheVariants.{Blob}
use Rattle.protocol.specs.Names.{NodeId}
use Rattle.protocol.specs.Nodes.{NodeWork, brought, unless_spent}
use Rattle.nodecore.specs.Shown.{shown, place, hearing, Answers}
use Rattle.world.specs.declared.call.Call.{Call}
use Rattle.world.specs.declared.call.Call.TheVariants as call
use Rattle.world.specs.Tables.{called}
use Rattle.world.proofs.SeatLemmas.{hears_own}
use Rattle.world.proofs.call.answer.Goals as goal

pub returns-in-Forge-clause-answer : goal.returns-in-Forge-clause-answer
returns-in-Forge-clause-answer c =
    let p = place c.args.core.now in
    let x = shown c.args.core.now in
    let is : c.args.call ≡ call.Forge c.in-Forge.content = search rules in
    let own : hearing p x (Blob c.args.node c.in-Forge.content) ≡ brought content_digest c.in-Forge.content x = hears_own p x (Blob c.args.node c.in-Forge.content) (ap (λ (n : NodeId). n.0) c.requires) in
    subst (λ (f : Call). Answers (called f p x) x (shown c.handle.new.self) c.handle.result) (sym is)
    (subst (λ (w : NodeWork). Answers (unless_spent x w) x (shown c.handle.new.self) c.handle.result) own c.handle.ensures.answer)
