use Rattle.coordinatorlines.specs.Calls.Asks.{Heard}
use Rattle.coordinatorlines.proofs.reading.order_of.Goals as goal

pub returns-in-Some-clause-asked : goal.returns-in-Some-clause-asked
returns-in-Some-clause-asked c = Heard c.in-Some.sealed.now c.in-Some.ensures.found c.in_ok-heard_call.ensures.heard
