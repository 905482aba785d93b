use Rattle.std.proofs.Common.{◌∙◌, refl, arith}
use Rattle.leaseindex.proofs.EndedLemmas.{ended_next, ended_all}
use Rattle.leaseindex.proofs.live_leases.LiveLeases.end_each.Goals as goal

pub loop-ending-preserved : goal.loop-ending-preserved
loop-ending-preserved c = record {
  rest = ended_next c.args.ended.now c.loop-ending.ending-index _ _ c.loop-ending.self.leases c.end_all.new.self.leases (omega arith) refl c.end_all.ensures.rest ∙ c.loop-ending.invariant.rest;
  room = c.end_all.ensures.room ∙ c.loop-ending.invariant.room;
  folders = omega (arith, c.end_all.ensures.folders, c.loop-ending.invariant.folders);
  taken = omega (arith, c.end_all.ensures.taken, c.loop-ending.invariant.taken);
  counts = omega (arith, c.end_all.ensures.counts, c.loop-ending.invariant.counts);
}

pub returns-clause-rest : goal.returns-clause-rest
returns-clause-rest c = ended_all c.args.ended.now c.loop-ending.ending-index c.loop-ending.self.leases _ (omega arith) c.loop-ending.invariant.rest
