use Rattle.std.proofs.Common.{List, map, ap, ◌∙◌, subst}
use Rattle.std.specs.Borrow.{Bor}
use Rattle.executions.specs.declared.call.Call.{Call}
use Rattle.names.specs.declared.number.NodeId.{NodeId}
use Rattle.jobs.specs.declared.answer.Answer.{Answer}
use Rattle.solverkeys.specs.Keyed.{KeyedParts}
use Rattle.executions.specs.Shown.{shown}
use Rattle.reasons.specs.Answers.{IsAnswered}
use Rattle.reasons.specs.NewCalls.{on_node}
use Rattle.farmend.specs.declared.hired.Hired.{Hired}
use Rattle.jobs.proofs.StayLemmas.{zip_weaker}
use Rattle.farmend.proofs.NewsLemmas.{grew_if_new, on_node_if_new}
use Rattle.farmend.proofs.checking.account.Goals as goal

pub returns-clause-calls : goal.returns-clause-calls
returns-clause-calls c =
    let nodes = map (λ (each : Hired). each.node) c.args.hired.now in
    let hads = map (λ (each : Hired). each.had.items) c.args.hired.now in
    let now = λ (calls : Bor (List Call)). calls.now in
    grew_if_new nodes hads (map now c.args.ends.now) c.in_ok-news.news.items c.in_ok-news.ensures

pub returns-clause-answers : goal.returns-clause-answers
returns-clause-answers c =
    let farm = shown c.args.world.now in
    let nodes = map (λ (each : Hired). each.node) c.args.hired.now in
    let hads = map (λ (each : Hired). each.had.items) c.args.hired.now in
    let now = λ (calls : Bor (List Call)). calls.now in
    let news = c.in_ok-news.news.items in
    let calls = λ (node : NodeId). ap (on_node node) c.as_slice.ensures.value ∙ on_node_if_new node nodes hads (map now c.args.ends.now) news c.in_ok-news.ensures in
    zip_weaker (λ (job : NodeId × KeyedParts) (answer : Answer). IsAnswered farm (on_node job.0 c.as_slice.result.now) job.0 job.1 answer) _ c.args.jobs.now c.args.answers.now
    (λ job answer told. subst (λ (made : List (List Call)). IsAnswered farm made job.0 job.1 answer) (calls job.0) told) (c.in_ok-are_answered.ensures c.if-not-branch.false)
