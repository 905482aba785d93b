use Rattle.nodecontents.proofs.MapLemmas.{learns, on_ok}
use Rattle.nodecontents.proofs.contents.learn_one.Goals as goal

pub returns-clause-known : goal.returns-clause-known
returns-clause-known c = learns c.args.known.now c.insert.new.self c.args.version c.args.digest (on_ok c.insert.result (c.insert.ensures.succeeds c.requires) c.insert.ensures.updates).0
