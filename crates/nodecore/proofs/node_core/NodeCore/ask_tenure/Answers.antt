use Rattle.std.proofs.Common.{◌≡◌, false, true, nat_lt, length, not, Ok, ap, sym, ◌∙◌, rules, arith}
use Rattle.std.specs.List.{list_any}
use Rattle.names.specs.declared.folder.Mode.TheVariants.{Shared}
use Rattle.protocol.specs.Nodes.{NodeWork, is_tenure_of, opens}
use Rattle.nodecore.specs.Shown.{shown, place}
use Rattle.nodecore.proofs.NodeLemmas.{passes, has_room}
use Rattle.nodecore.proofs.node_core.NodeCore.ask_tenure.Goals as goal

pub returns-clause-answer : goal.returns-clause-answer
returns-clause-answer c =
    let alone : list_any (is_tenure_of (record c.args.folder { mode = Shared })) (shown c.args.self.now).asks ≡ false = search rules in
    let made : c.args.self.now.asks.made ≡ length c.args.self.now.asks.all.asks = c.args.self.now.asks.counted in
    let room : not (nat_lt (length (shown c.args.self.now).asks) 0xffff_ffff_ffff_ffff) ≡ false = has_room c.args.self.now.asks.all.asks (omega (arith, made)) in
    passes _ _ c.if-self.false ∙ passes _ _ alone ∙ passes _ _ room
    ∙ ap (λ ws. Ok (opens (place c.args.self.now) ws true (shown c.args.self.now))) (sym c.in-Ok.ensures)
    ∙ ap (λ (w : NodeWork). Ok w) c.in-Ok-open.ensures.work
