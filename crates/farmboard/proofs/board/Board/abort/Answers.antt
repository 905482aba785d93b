use Rattle.std.proofs.Common.{◌≡◌, true, refl, rules}
use Rattle.farmhistory.specs.History.{farm_of}
use Rattle.farmboard.specs.Begins.{is_running}
use Rattle.farmboard.proofs.LookLemmas.{sent_back, kept_back, running_has}
use Rattle.farmboard.proofs.board.Board.abort.Goals as goal

pub returns-in-Ok-clause-ok : goal.returns-in-Ok-clause-ok
returns-in-Ok-clause-ok c =
    let here : is_running (farm_of c.args.self.now) c.args.token.node c.args.token.life c.args.token.grant.ticket ≡ true = search rules in
    sent_back c.args.self.now c.disturb.new.self c.args.token.node c.args.token.grant.ticket _ (running_has (farm_of c.args.self.now) c.args.token.node c.args.token.life c.args.token.grant.ticket) here c.in-Ok.ensures

pub returns-in-Err-clause-err : goal.returns-in-Err-clause-err
returns-in-Err-clause-err c =
    let here : is_running (farm_of c.args.self.now) c.args.token.node c.args.token.life c.args.token.grant.ticket ≡ true = search rules in
    (refl, kept_back c.args.self.now c.disturb.new.self c.args.token.node c.args.token.grant.ticket _ (running_has (farm_of c.args.self.now) c.args.token.node c.args.token.life c.args.token.grant.ticket) here c.in-Err.refusal c.in-Err.ensures)
