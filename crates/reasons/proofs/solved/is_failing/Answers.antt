use Rattle.std.proofs.Common.{List, subst}
use Rattle.names.specs.declared.digest.Key.{Key}
use Rattle.reasons.specs.Solved.{LacksAt, news_in}
use Rattle.reasons.proofs.SolvedLemmas.{takes_input}
use Rattle.reasons.proofs.solved.is_failing.Goals as goal

pub returns-in-Fails : goal.returns-in-Fails
returns-in-Fails c = λ _. record {
  number = c.loop.number;
  index = c.loop.index;
  takes = c.loop.invariant;
  lacks = subst (λ (keys : List Key). LacksAt (news_in c.args.made) keys c.loop.number c.loop.index) c.keys.ensures.value c.in-Fails.ensures;
}

pub loop-preserved : goal.loop-preserved
loop-preserved c = takes_input c.args.keyed.now.graph c.loop.number c.loop.index c.in-Some.edge c.loop.invariant c.in-Some.ensures
