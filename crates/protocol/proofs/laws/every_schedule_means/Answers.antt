use Rattle.protocol.proofs.Chronicles as chronicles
use Rattle.protocol.proofs.laws.every_schedule_means.Goals as goal

pub returns-clause-chronicle : goal.returns-clause-chronicle
returns-clause-chronicle c = chronicles.every_schedule_has_a_chronicle

pub returns-clause-headline : goal.returns-clause-headline
returns-clause-headline c = chronicles.every_schedule_means

pub returns-clause-versions : goal.returns-clause-versions
returns-clause-versions c = chronicles.every_version_is_answered
