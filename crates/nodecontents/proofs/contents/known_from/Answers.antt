use Rattle.std.proofs.Common.{◌≡◌, true, false, ap, sym, ◌∙◌, rules}
use Rattle.nodecontents.specs.Stored.{agree_on}
use Rattle.nodecontents.proofs.StoredLemmas.{none_known, agree_have_one, disagree_have_two}
use Rattle.nodecontents.proofs.contents.known_from.Goals as goal

pub returns-then-not-learn_agreed-clause-two : goal.returns-then-not-learn_agreed-clause-two
returns-then-not-learn_agreed-clause-two c = λ same one.
    let off : c.learn_agreed.result ≡ false = search rules in
    disagree_have_two c.args.versions.items (ap (agree_on c.args.versions.items) (sym (none_known c.in-Ok.known c.in-Ok.ensures.empty)) ∙ sym c.learn_agreed.ensures.agree ∙ off) one

pub returns-clause-agree : goal.returns-clause-agree
returns-clause-agree c =
    let on : c.learn_agreed.result ≡ true = search rules in
    agree_have_one c.args.versions.items (ap (agree_on c.args.versions.items) (sym (none_known c.in-Ok.known c.in-Ok.ensures.empty)) ∙ sym c.learn_agreed.ensures.agree ∙ on)
