use Rattle.std.proofs.Common.{◌≡◌, false, nat_lt, length, not, Ok, ap, ◌∙◌, rules, arith}
use Rattle.protocol.specs.Nodes.{at_home}
use Rattle.nodecore.specs.Shown.{shown}
use Rattle.nodecore.proofs.NodeLemmas.{passes, has_room}
use Rattle.nodecore.proofs.node_core.NodeCore.ask.Goals as goal

pub returns-clause-answer : goal.returns-clause-answer
returns-clause-answer c =
    let home : not (at_home (shown c.args.self.now).asks c.args.wants) ≡ false = search rules in
    let made : c.args.self.now.asks.made ≡ length c.args.self.now.asks.all.asks = c.args.self.now.asks.counted in
    let room : not (nat_lt (length (shown c.args.self.now).asks) 0xffff_ffff_ffff_ffff) ≡ false = has_room c.args.self.now.asks.all.asks (omega (arith, made)) in
    passes _ _ c.if-self.false ∙ passes _ _ home ∙ passes _ _ room ∙ ap (λ w. Ok w) c.in-Ok.ensures.work
