use Rattle.nodestore.proofs.LifeLemmas.{no_mark, same_digits}
use Rattle.nodestore.proofs.life.numbered.Goals as goal

pub returns-in_err-digits-clause-only : goal.returns-in_err-digits-clause-only
returns-in_err-digits-clause-only c = rw c.from_residual-in_err-digits.ensures (λ n rest lt e.
    no_mark c.args.front.now _ c.args.text.now rest c.args.mark n c.in_ok-behind.ensures.found c.in_err-digits.ensures.only e)

pub returns-in_err-n-clause-only : goal.returns-in_err-n-clause-only
returns-in_err-n-clause-only c = rw c.from_residual-in_err-n.ensures (λ n rest lt e.
    let parts = c.in_ok-digits.ensures.found in
    c.in_err-n.ensures.only n lt (same_digits c.args.front.now _ _ _ c.args.text.now rest c.args.mark n c.requires lt c.in_ok-behind.ensures.found parts.0 parts.1 e))
