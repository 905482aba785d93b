use Rattle.protocol.proofs.Witnessing as lemmas
use Rattle.protocol.proofs.laws.the_words_reach_what_they_say.Goals as goal

pub returns-clause-rising : goal.returns-clause-rising
returns-clause-rising c = lemmas.rising_is_of_any_two

pub returns-clause-falling : goal.returns-clause-falling
returns-clause-falling c = lemmas.falling_is_of_any_two

pub returns-clause-alone : goal.returns-clause-alone
returns-clause-alone c = lemmas.private_and_shared_are_alone

pub returns-clause-executes : goal.returns-clause-executes
returns-clause-executes c = lemmas.an_accepted_begin_executes

pub returns-clause-goes_on : goal.returns-clause-goes_on
returns-clause-goes_on c = lemmas.what_is_spared_goes_on

pub returns-clause-held : goal.returns-clause-held
returns-clause-held c = lemmas.what_is_learned_is_held

pub returns-clause-wanted : goal.returns-clause-wanted
returns-clause-wanted c = lemmas.what_is_wanted_is_wanted_under

pub returns-clause-ends : goal.returns-clause-ends
returns-clause-ends c = lemmas.every_end_is_seen

pub returns-clause-calls : goal.returns-clause-calls
returns-clause-calls c = lemmas.these_calls_end_leases
