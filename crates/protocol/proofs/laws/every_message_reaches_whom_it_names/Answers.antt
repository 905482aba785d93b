use Rattle.protocol.proofs.Keeping as lemmas
use Rattle.protocol.proofs.laws.every_message_reaches_whom_it_names.Goals as goal

pub returns-clause-reaches : goal.returns-clause-reaches
returns-clause-reaches c = lemmas.every_message_reaches

pub returns-clause-retired : goal.returns-clause-retired
returns-clause-retired c = lemmas.only_the_retired_are_told_so
