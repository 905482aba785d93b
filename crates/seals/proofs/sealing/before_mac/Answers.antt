use Rattle.std.proofs.Common.{length, sym, ap, arith}
use Rattle.seals.proofs.MacLemmas.{length-with_mac, cut}
use Rattle.seals.proofs.sealing.before_mac.Goals as goal

pub returns-then-line-lt-MAC_LEN-clause-none : goal.returns-then-line-lt-MAC_LEN-clause-none
returns-then-line-lt-MAC_LEN-clause-none c = λ key text e. omega (arith, length-with_mac key text, ap length e)

pub returns-clause-found : goal.returns-clause-found
returns-clause-found c = λ key text e. sym (cut key c.args.line.now text e).0
