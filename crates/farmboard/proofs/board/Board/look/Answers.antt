use Rattle.std.proofs.Common.{is_some, Err, ap, sym, ◌∙◌, rules}
use Rattle.farmboard.proofs.LookLemmas.{nowhere, begins_now, refused_now, other_than}
use Rattle.farmboard.proofs.board.Board.look.Goals as goal

pub returns-in_default : goal.returns-in_default
returns-in_default c = (_, nowhere c.args.self.now c.args.token.now.node c.args.token.now.grant.ticket _ c.world.ensures (sym c.node.ensures.exact ∙ ap is_some c.in_default.is), λ e. absurd (cc))

pub returns-in-Ok : goal.returns-in-Ok
returns-in-Ok c = begins_now c.args.self.now c.args.token.now.node c.args.token.now.grant.ticket _ c.world.ensures (sym c.node.ensures.exact ∙ ap is_some c.in-Some.is) _ c.in-Some.ensures.node _ c.in-Ok.ensures.ok

pub returns-in-Err-ContentsMissing : goal.returns-in-Err-ContentsMissing
returns-in-Err-ContentsMissing c =
    refused_now c.args.self.now c.args.token.now.node c.args.token.now.grant.ticket _ c.world.ensures (sym c.node.ensures.exact ∙ ap is_some c.in-Some.is) _ c.in-Some.ensures.node _ (c.in-Err-ContentsMissing.ensures.err ∙ ap (λ e. Err e) c.in-Err-ContentsMissing.field-0-is)

pub returns-in-Err : goal.returns-in-Err
returns-in-Err c = (
  _,
  refused_now c.args.self.now c.args.token.now.node c.args.token.now.grant.ticket _ c.world.ensures (sym c.node.ensures.exact ∙ ap is_some c.in-Some.is) _ c.in-Some.ensures.node _ c.in-Err.ensures.err,
  other_than _ (search rules),
)
