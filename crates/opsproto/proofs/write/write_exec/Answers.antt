use Rattle.opsproto.proofs.OpLaws.{exec_read}
use Rattle.opsproto.proofs.write.write_exec.Goals as goal

pub returns-clause-read : goal.returns-clause-read
returns-clause-read c = exec_read c.args.exec.now c.exec_bytes.result c.exec_bytes.ensures.ok c.exec_bytes.ensures.valid
