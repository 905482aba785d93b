use Rattle.saverecord.proofs.LogLemmas.{read_alone}
use Rattle.saverecord.proofs.log.Log.fold.Goals as goal

pub returns-clause-same : goal.returns-clause-same
returns-clause-same c = read_alone c.args.self.now c.in_ok-bytes.bytes.items c.in_ok-record.record c.in_ok-record.ensures.kept c.in_ok-bytes.ensures.again c.in_ok-record.ensures.exact
