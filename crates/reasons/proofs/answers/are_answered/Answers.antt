use Rattle.std.proofs.Common.{length, get_or, refl, arith}
use Rattle.std.proofs.lemmas.Option.{slice_get_read, slice_get-get_or}
use Rattle.jobs.specs.declared.answer.Answer.{Answer}
use Rattle.jobs.specs.declared.answer.Answer.TheVariants.{Waiting}
use Rattle.solverkeys.specs.Keyed.{KeyedParts}
use Rattle.names.specs.declared.number.NodeId.{NodeId}
use Rattle.executions.specs.Shown.{shown}
use Rattle.reasons.specs.Answers.{IsAnswered}
use Rattle.reasons.specs.NewCalls.{on_node}
use Rattle.reasons.proofs.AnswerLemmas.{zip_at}
use Rattle.reasons.proofs.answers.are_answered.Goals as goal

pub loop-place-preserved : goal.loop-place-preserved
loop-place-preserved c =
    let jobs = c.args.jobs.now in
    let answers = c.args.answers.now in
    let k = c.loop-place.place in
    let job = c.index-jobs-place.result in
    let at_job = slice_get_read jobs (length jobs) k job refl c.loop-place-test.true c.index-jobs-place.is in
    let at_answer = slice_get-get_or answers k Waiting (omega (arith, c.loop-place-test.true, c.if-jobs-answers.false)) in
    zip_at (λ (job : NodeId × KeyedParts) (answer : Answer). IsAnswered (shown c.args.world.now) (on_node job.0 c.args.news.now) job.0 job.1 answer)
    jobs answers k job (get_or answers k Waiting) at_job at_answer c.loop-place.invariant (c.in_ok-is_answered.ensures c.if-not-branch.false)
