use Rattle.std.proofs.Common.{◌≡◌, Result, Ok, List, ℕ, ap}
use Rattle.names.specs.declared.digest.Key.{Key}
use Rattle.names.specs.declared.digest.Digest.{Digest}
use Rattle.keytable.specs.declared.entry.Entry.{Entry}
use Rattle.jobs.specs.declared.answer.Answer.{Answer}
use Rattle.jobs.specs.declared.answer.Answer.TheVariants.{Output}
use Rattle.jobs.specs.declared.answer.JobsRefusal.{JobsRefusal}
use Rattle.jobs.specs.History as asked
use Rattle.solving.specs.Answers as last
use Rattle.solving.proofs.answers.answer_of.Goals as goal

-- an output that the table of jobs gives is the last answer
last_output : (keys : List Entry) (wanted : Key × ℕ) (given : Result Answer JobsRefusal) (digest : Digest) → asked.IsAnswer keys wanted given → given ≡ Ok (Output digest) → last.IsLastAnswer keys wanted (Ok (Output digest))
last_output keys wanted given digest (asked.output d has is) same = last.output d has (cc (same, is))
last_output keys wanted given digest (asked.lacks l is) same = absurd (cc (same, is))
last_output keys wanted given digest (asked.fails f is) same = absurd (cc (same, is))
last_output keys wanted given digest (asked.waits undone never is) same = absurd (cc (same, is))

pub returns-in-Ok-Output-clause-answer : goal.returns-in-Ok-Output-clause-answer
returns-in-Ok-Output-clause-answer c = λ wanted there. last_output c.args.jobs.now.keys wanted _ c.in-Ok-Output.digest (c.in-Ok-Output.ensures.answer wanted there) (ap Ok c.in-Ok-Output.field-0-is)
