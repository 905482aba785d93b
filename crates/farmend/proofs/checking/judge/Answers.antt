use Rattle.std.proofs.Common.{refl}
use Rattle.farmend.proofs.AnswerLemmas.{answers_same}
use Rattle.farmend.proofs.checking.judge.Goals as goal

pub returns-clause-answers : goal.returns-clause-answers
returns-clause-answers c = answers_same _ _ _ _ _ _ _ _ c.args.jobs.now _ _ c.world-world.ensures refl refl refl c.deref-2.ensures.value c.in_ok-account.ensures.answers
