use Rattle.protocol.proofs.Chronicles as chronicles
use Rattle.protocol.proofs.laws.every_record_is_enough.Goals as goal

pub returns-clause-saved : goal.returns-clause-saved
returns-clause-saved c = chronicles.every_farm_is_saved

pub returns-clause-covers : goal.returns-clause-covers
returns-clause-covers c = chronicles.every_record_covers

pub returns-clause-reads : goal.returns-clause-reads
returns-clause-reads c = chronicles.restart_reads_the_record
