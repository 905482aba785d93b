use Rattle.std.proofs.Common.{ap, ◌∙◌}
use Rattle.names.specs.Contents.{empty_digest}
use Rattle.protocol.specs.Ledger.{last_digest}
use Rattle.coordinatorfilter.proofs.ShownLemmas.{none_shown, some_shown}
use Rattle.coordinatorfilter.proofs.needed.last_digest.Goals as goal

pub returns-in-None : goal.returns-in-None
returns-in-None c = λ versions h. c.empty_digest.ensures ∙ none_shown empty_digest versions (rw c.in-None.is at h)

pub returns-in-Some : goal.returns-in-Some
returns-in-Some c = λ versions h. c.last_digest.ensures ∙ ap (last_digest empty_digest) (some_shown versions c.in-Some.line.now (rw c.in-Some.is at h))
