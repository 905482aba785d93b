use Rattle.std.proofs.Common.{refl}
use Rattle.jobs.proofs.ListLemmas.{empty_list}
use Rattle.jobs.proofs.ready_list.ReadyList.new.Goals as goal

pub returns-clause-list : goal.returns-clause-list
returns-clause-list c = empty_list _ refl c.new.ensures.items c.new-2.ensures.items
