use Rattle.protocol.proofs.Raiding as lemmas
use Rattle.protocol.proofs.RaidedFarms as farms
use Rattle.protocol.proofs.laws.a_hostile_node_spoils_only_what_it_was_leased.Goals as goal

pub returns-clause-safe : goal.returns-clause-safe
returns-clause-safe c = lemmas.every_raid_is_safe

pub returns-clause-stays : goal.returns-clause-stays
returns-clause-stays c = lemmas.every_raid_stays_safe

pub returns-clause-decisions : goal.returns-clause-decisions
returns-clause-decisions c = farms.every_raided_decision_follows
