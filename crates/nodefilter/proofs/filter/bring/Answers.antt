use Rattle.nodelines.specs.declared.order.Call.TheVariants.{Bring}
use Rattle.nodefilter.specs.Filters.Follows.{Calls}
use Rattle.nodefilter.specs.Filters.IsCallOf.{Brought_in}
use Rattle.nodefilter.proofs.filter.bring.Goals as goal

pub returns-in-Ok : goal.returns-in-Ok
returns-in-Ok g c = Calls (Bring c.in-Ok.content) (Brought_in c.args.file c.in-Ok.content (rw c.as_str.ensures.value at c.in-Ok.ensures.content)) c.make.ensures
