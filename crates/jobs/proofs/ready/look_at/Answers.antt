use Rattle.jobs.proofs.ReadyLemmas.{ready_met}
use Rattle.jobs.proofs.ready.look_at.Goals as goal

pub add-requires-clause-ready : goal.add-requires-clause-ready
add-requires-clause-ready c = ready_met c.args.table.now.entries.items c.args.number c.is_ready.result c.requires.within c.if-is_ready.true c.is_ready.ensures.ready
