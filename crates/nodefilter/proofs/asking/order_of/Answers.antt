use Rattle.std.proofs.Common.{ℕ, List, Err, ap, sym, subst}
use Rattle.std.proofs.lemmas.Result.{IfOk-weaker}
use Rattle.words.specs.Words.{words}
use Rattle.nodefilter.specs.Asked.{IsHeard, Orders}
use Rattle.nodefilter.specs.Asked.Orders.{Heard}
use Rattle.nodelines.specs.Orders.{AskedBy}
use Rattle.nodefilter.proofs.asking.order_of.Goals as goal
use Rattle.farmwire.specs.Sealed.{key_in}

pub returns-in-Some-clause-asked : goal.returns-in-Some-clause-asked
returns-in-Some-clause-asked c =
    IfOk-weaker c.heard_order.result (IsHeard (key_in c.args.keys.now) c.args.me c.in-Some.sealed.now) (Orders (key_in c.args.keys.now) c.args.me c.args.line.now)
    (λ o h. Heard c.in-Some.sealed.now c.in-Some.ensures.found h) c.heard_order.ensures.heard

pub returns-in-Err-BadForm-clause-unread : goal.returns-in-Err-BadForm-clause-unread
returns-in-Err-BadForm-clause-unread c =
    let text = c.in-Ok.ensures.cases.0 in
    record {
      inside = c.in_default.ensures.only;
      not_own = λ utf8 o h. c.in-Err-BadForm.ensures.only (ap Err c.in-Err-BadForm.field-0-is) o (subst (λ (t : List ℕ). AskedBy (words t) o) (sym text) h);
    }
