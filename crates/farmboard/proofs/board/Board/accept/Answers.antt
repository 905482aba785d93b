use Rattle.std.proofs.Common.{◌≡◌, is_some, option_map, refl, ap, sym, subst, ◌∙◌, rules}
use Rattle.nodeasks.specs.Asks.{told_unless}
use Rattle.protocol.specs.Lists.{nth}
use Rattle.farmhistory.specs.History.{farm_of}
use Rattle.farmboard.specs.Tokens.{state_of, IsUndecided}
use Rattle.farmboard.proofs.board.Board.accept.Goals as goal

-- no node of a farm forgets
pub returns-clause-ok : goal.returns-clause-ok
returns-clause-ok c =
    let is : c.in-Ok.state ≡ state_of (farm_of c.args.self.now) c.args.token.node c.args.token.ask = c.in-Ok.ensures ∙ (λ j. option_map (told_unless (c.in-Some.ensures.told j c.args.token.ask.0)) (nth (c.in-Some.ensures.node j).asks c.args.token.ask.0)) in
    let undecided : IsUndecided c.in-Ok.state = search rules in
    (sym c.in_life.ensures.exact ∙ ap is_some c.in-Some.is, subst IsUndecided is undecided, refl)
