use Rattle.versions.proofs.Searching.{line_rises}
use Rattle.versions.proofs.probes.LineProbesProbed.len.Goals as goal

pub returns-clause-rising : goal.returns-clause-rising
returns-clause-rising c = rw (← c.self.view_is) (line_rises c.self.inside.line.now c.len.ensures.rises)
