use Rattle.std.proofs.Common.{arith, sym, ◌∙◌}
use Rattle.farmboard.proofs.board.Board.next.Goals as goal

pub returns-then-not-is_passed-clause-some : goal.returns-then-not-is_passed-clause-some
returns-then-not-is_passed-clause-some c = record {
  least = omega arith;
  sent = omega (arith, c.pool_len-number-end.ensures);
  here = sym c.is_passed.ensures ∙ c.if-not-is_passed.true;
  others = λ j low high. c.loop-number.invariant j low (omega arith);
}
