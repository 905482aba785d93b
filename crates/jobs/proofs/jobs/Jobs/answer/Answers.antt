use Rattle.std.proofs.Common.{◌<◌, length, refl}
use Rattle.std.proofs.lemmas.Bool.Decides.{nat_tests}
use Rattle.std.proofs.Common.{arith}
use Rattle.std.proofs.lemmas.Option.{slice_get_read}
use Rattle.jobs.proofs.AnswerLemmas.{shown_answer, no_job}
use Rattle.jobs.proofs.jobs.Jobs.answer.Goals as goal

pub returns-in-Some-clause-answer : goal.returns-in-Some-clause-answer
returns-in-Some-clause-answer c =
    let list = c.deref.result.now in
    let job = c.args.job.0 in
    let look = c.in-Some.ensures.lookup in
    let within : job < length list = (let test = look.0 in grind (arith, nat_tests)) in
    shown_answer c.self.inside.results.items list c.self.inside.known.table.entries.items c.args.self.now job c.in-Some.wanted.now c.answer_of.result c.self.view_is c.deref.ensures.value
    (slice_get_read list (length list) job c.in-Some.wanted.now refl within look.1) c.answer_of.ensures

pub returns-in-None-clause-answer : goal.returns-in-None-clause-answer
returns-in-None-clause-answer c =
    let list = c.deref.result.now in
    let look = c.in-None.ensures.lookup in
    no_job c.self.inside.results.items list c.self.inside.known.table.entries.items c.args.self.now c.args.job.0 _ c.self.view_is c.deref.ensures.value
    (let test = look.0 in grind (arith, nat_tests))
