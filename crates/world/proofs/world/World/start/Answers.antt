use Rattle.std.proofs.Common.{[], sym, subst, rules}
use Rattle.names.specs.Contents.{content_digest}
use Rattle.names.specs.declared.limits.TheConstants.{NODES}
use Rattle.protocol.specs.Farm.{farm_limits}
use Rattle.protocol.specs.Follows.{SafeAfter}
use Rattle.protocol.specs.Lawful.{IsLawfulFarm}
use Rattle.world.specs.Shown.{shown}
use Rattle.world.specs.Setups.{IsSetup}
use Rattle.world.proofs.LimitLemmas.{is_farm}
use Rattle.world.proofs.world.World.start.Goals as goal

pub returns-clause-safe : goal.returns-clause-safe
unfolding shown
returns-clause-safe c = subst (SafeAfter content_digest) (sym c.in-Ok.ensures) (c.every_schedule_is_safe.ensures.safe content_digest farm_limits is_farm c.args.setup.nodes [])

pub invariant_of-result : goal.invariant_of-result
unfolding shown
invariant_of-result c =
    let setup : IsSetup c.args.setup = search rules in
    record {
      sound = ∣ record {
        safe = subst (SafeAfter content_digest) (sym c.in-Ok.ensures) (c.every_schedule_is_safe.ensures.safe content_digest farm_limits is_farm c.args.setup.nodes []);
        lawful = subst (IsLawfulFarm NODES) (sym c.in-Ok.ensures) (c.every_farm_stays_lawful.ensures.opening content_digest NODES c.args.setup.nodes setup.greatest);
      } ∣₁;
    }
