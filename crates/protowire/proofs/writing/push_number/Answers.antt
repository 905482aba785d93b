use Rattle.protowire.proofs.WritingLoop.{written_none, written_more, written_all}
use Rattle.protowire.proofs.writing.push_number.Goals as goal

pub loop-rest-init : goal.loop-rest-init
loop-rest-init c = written_none c.args.out.now.items c.args.number c.ranges.number.fits

pub loop-rest-preserved : goal.loop-rest-preserved
loop-rest-preserved c = rw c.in_ok-push.ensures.items (written_more c.args.out.now.items c.loop-rest.out.items c.args.number c.loop-rest.rest c.loop-rest.invariant c.loop-rest-test.true)

pub returns-clause-ok : goal.returns-clause-ok
returns-clause-ok c = rw c.in_ok-push-2.ensures.items (written_all c.args.out.now.items c.loop-rest.out.items c.args.number c.loop-rest.rest c.loop-rest.invariant c.loop-rest-test.false)
