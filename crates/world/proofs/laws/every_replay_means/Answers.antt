use Rattle.names.specs.Contents.{content_digest}
use Rattle.protocol.specs.Farm.{farm_limits}
use Rattle.world.proofs.LimitLemmas.{is_farm}
use Rattle.world.proofs.laws.every_replay_means.Goals as goal

pub returns-clause-chronicle : goal.returns-clause-chronicle
returns-clause-chronicle c = λ size events. c.every_schedule_means.ensures.chronicle content_digest farm_limits is_farm size events

pub returns-clause-headline : goal.returns-clause-headline
returns-clause-headline c = λ size events early rest e. (
  c.every_schedule_means.ensures.headline content_digest farm_limits is_farm size early,
  c.every_schedule_means.ensures.versions content_digest farm_limits is_farm size early,
)
