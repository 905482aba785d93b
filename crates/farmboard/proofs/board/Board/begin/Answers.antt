use Rattle.farmboard.proofs.BeginLemmas.{begun_did, begun_token, begun_used}
use Rattle.farmboard.proofs.board.Board.begin.Goals as goal

pub returns-in-Some-clause-ok : goal.returns-in-Some-clause-ok
returns-in-Some-clause-ok c =
    begun_did c.args.self.now c.take.new.self c.args.token c.in-Some.lent.life c.in-Some.lent.grant c.in-Some.lent.bases (rw c.in-Some.is at c.in-Ok.ensures.some) c.in-Ok-take.field-0 c.in-Ok-take.ensures

pub returns-in-Some-clause-token : goal.returns-in-Some-clause-token
returns-in-Some-clause-token c =
    begun_token c.args.self.now c.take.new.self c.args.token c.in-Some.lent.life c.in-Some.lent.grant c.in-Some.lent.bases (rw c.in-Some.is at c.in-Ok.ensures.some) c.running.result c.running.ensures

pub returns-in-Some-clause-used : goal.returns-in-Some-clause-used
returns-in-Some-clause-used c =
    begun_used c.args.self.now c.take.new.self c.args.token c.in-Some.lent.life c.in-Some.lent.grant c.in-Some.lent.bases (rw c.in-Some.is at c.in-Ok.ensures.some) c.in-Ok-take.field-0 c.in-Ok-take.ensures c.running.result c.running.ensures
