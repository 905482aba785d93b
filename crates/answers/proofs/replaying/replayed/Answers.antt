use Rattle.std.proofs.Common.{IfErr, sym, subst}
use Rattle.std.proofs.lemmas.Result.{err_from_is_err_and}
use Rattle.answers.specs.Replays.{IsUnread}
use Rattle.answers.proofs.replaying.replayed.Goals as goal

pub returns-clause-headline : goal.returns-clause-headline
returns-clause-headline c = λ setup events is. record {
  chronicle = c.every_replay_means.ensures.chronicle setup.nodes events;
  headline = c.every_replay_means.ensures.headline setup.nodes events;
}

pub returns-in_err-answer-clause-refused : goal.returns-in_err-answer-clause-refused
returns-in_err-answer-clause-refused c =
    let error = err_from_is_err_and c.from_residual.result c.from_residual.ensures.1 in
    subst (λ r. IfErr r (IsUnread c.args.bytes.now)) (sym error.1) (subst (IsUnread c.args.bytes.now) (sym error.2) tt)
