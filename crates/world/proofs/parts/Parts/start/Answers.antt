use Rattle.names.specs.Contents.{content_digest}
use Rattle.saverecord.specs.Logs.{saved_in}
use Rattle.protocol.specs.Replay.{opening}
use Rattle.world.proofs.SeatLemmas.{all_first}
use Rattle.world.proofs.parts.Parts.start.Goals as goal

pub returns : goal.returns
unfolding saved_in
returns c = λ j. record (opening content_digest c.args.count) {
  size = c.in_ok-nodes.ensures.len j;
  ledger = c.in_ok-coordinator.ensures.ledger j;
  saved = saved_in (c.in_ok-coordinator.ensures.texts j);
  down = c.in_ok-coordinator.ensures.up j;
  armed = c.in_ok-coordinator.ensures.armed j;
  pool = c.new.ensures.items j;
  nodes = all_first c.args.count c.in_ok-nodes.nodes.cores.items c.in_ok-nodes.ensures j;
}
