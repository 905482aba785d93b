use Rattle.std.proofs.Common.{◌≡◌, All, refl, sym, ◌∙◌, subst}
use Rattle.protocol.specs.Replay.{Farm}
use Rattle.saverecord.specs.Texts.{whole_alone}
use Rattle.saverecord.specs.Logs.{Holds}
use Rattle.vertices.proofs.ZipLemmas.{all_zip_length}
use Rattle.farmend.specs.Receipts.{StandsOn}
use Rattle.farmend.proofs.AnswerLemmas.{answers_same, none_waits}
use Rattle.executions.proofs.ReplayLemmas.{farm_same, commits_same}
use Rattle.farmend.proofs.checking.check.Goals as goal

pub returns-clause-saved : goal.returns-clause-saved
returns-clause-saved c =
    let nodes : c.args.back.board.setup.nodes ≡ c.args.setup.nodes = c.in_ok-agree.ensures in
    let farm = farm_same c.args.back.board c.args.setup c.into_parts-schedule.result.1.items nodes c.into_parts-schedule.ensures.schedule in
    subst (λ (s : Farm). Holds (whole_alone c.in_ok-saved.saved.items) s.saved) farm c.in_ok-saved.ensures.saved

pub returns-clause-commits : goal.returns-clause-commits
returns-clause-commits c =
    let nodes : c.args.back.board.setup.nodes ≡ c.args.setup.nodes = c.in_ok-agree.ensures in
    c.commits-commits.ensures ∙ commits_same c.args.back.board c.args.setup c.into_parts-schedule.result.1.items nodes c.into_parts-schedule.ensures.schedule

pub returns-clause-receipts : goal.returns-clause-receipts
returns-clause-receipts c =
    let nodes : c.args.back.board.setup.nodes ≡ c.args.setup.nodes = c.in_ok-agree.ensures in
    let farm = farm_same c.args.back.board c.args.setup c.into_parts-schedule.result.1.items nodes c.into_parts-schedule.ensures.schedule in
    subst (λ (s : Farm). All (StandsOn s) c.args.back.receipts.items) farm c.in_ok-saved.ensures.stand

pub returns-clause-answers : goal.returns-clause-answers
returns-clause-answers c =
    let nodes : c.args.back.board.setup.nodes ≡ c.args.setup.nodes = c.in_ok-agree.ensures in
    let farm = farm_same c.args.back.board c.args.setup c.into_parts-schedule.result.1.items nodes c.into_parts-schedule.ensures.schedule in
    answers_same _ _ _ _ _ _ _ _ c.args.jobs.now _ _ farm refl refl refl refl c.in_ok-saved.ensures.answers

pub returns-clause-answered : goal.returns-clause-answered
returns-clause-answered c = sym (all_zip_length _ c.args.jobs.now c.args.back.answers.items c.in_ok-saved.ensures.answers)

pub returns-clause-settled : goal.returns-clause-settled
returns-clause-settled c = none_waits _ c.args.jobs.now c.args.back.answers.items (λ job waits. waits) c.in_ok-saved.ensures.answers
