use Rattle.std.proofs.Common.{◌≡◌, false, sym, ◌∙◌}
use Rattle.parked.specs.Newest.{knows}
use Rattle.parked.proofs.NewestLemmas.{known-only, known-set}
use Rattle.parked.proofs.newest_asks.NewestAsks.note.Goals as goal

pub returns-clause-others : goal.returns-clause-others
returns-clause-others c =
    let unknown : knows c.args.self.now c.args.node c.args.life c.args.ask ≡ false = sym c.may_have.ensures ∙ c.if-may_have.false in
    known-set c.args.self.now.by_node c.insert.new.self c.args.node c.args.life c.args.ask c.in-Ok.ensures.updates.0 unknown

pub returns-clause-only : goal.returns-clause-only
returns-clause-only c = known-only c.args.self.now.by_node c.insert.new.self c.args.node c.args.life c.args.ask c.in-Ok.ensures.updates.0
