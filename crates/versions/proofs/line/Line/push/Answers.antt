use Rattle.versions.proofs.LineLemmas.{IsLine-push}
use Rattle.versions.proofs.line.Line.push.Goals as goal

pub invariant_of-self-2 : goal.invariant_of-self-2
invariant_of-self-2 c = rw c.in_ok-push.ensures.items (IsLine-push _ _ c.self.invariant (rw (← c.self.view_is) at c.requires))

pub returns-clause-rises : goal.returns-clause-rises
returns-clause-rises c = rw c.in_ok-push.ensures.items (IsLine-push _ _ c.self.invariant (rw (← c.self.view_is) at c.requires))
