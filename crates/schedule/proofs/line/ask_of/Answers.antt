use Rattle.std.proofs.Common.{Err, sym, ap, subst}
use Rattle.words.specs.Words.{SpellGiven}
use Rattle.words.proofs.ListLemmas.{texts_behind}
use Rattle.words.proofs.WordLemmas.{passed_on}
use Rattle.schedule.proofs.line.ask_of.Goals as goal

pub returns-in_err-given_wants-clause-only : goal.returns-in_err-given_wants-clause-only
returns-in_err-given_wants-clause-only c = λ same e h.
    let bad = passed_on _ _ _ c.from_residual-in_err-given_wants.ensures.1 same in
    let behind = texts_behind c.args.words.now _ h.folders h.text in
    c.in_err-given_wants.ensures.only (ap Err bad) h.wants (subst (λ ws. SpellGiven ws h.wants) (sym behind) h.spelled)
