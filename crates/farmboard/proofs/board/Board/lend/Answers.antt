use Rattle.std.proofs.Common.{is_some, ap, sym, ◌∙◌}
use Rattle.farmboard.proofs.LookLemmas.{nowhere, refused_now, refused_not}
use Rattle.farmboard.proofs.board.Board.lend.Goals as goal

pub returns-in_default-clause-none : goal.returns-in_default-clause-none
returns-in_default-clause-none c = refused_not c.args.self.now _ _ (nowhere c.args.self.now c.args.node c.args.ticket _ c.world.ensures (sym c.node.ensures.exact ∙ ap is_some c.in_default.is))

pub returns-in_default-lease_to_begin-clause-none : goal.returns-in_default-lease_to_begin-clause-none
returns-in_default-lease_to_begin-clause-none c =
    refused_not c.args.self.now _ _ (refused_now c.args.self.now c.args.node c.args.ticket _ c.world.ensures (sym c.node.ensures.exact ∙ ap is_some c.in-Some.is) _ c.in-Some.ensures.node _ c.in_default-lease_to_begin.ensures.err)
