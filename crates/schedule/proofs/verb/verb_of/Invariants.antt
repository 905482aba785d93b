use Rattle.std.proofs.Common.{◌≢◌, ℕ, ◌<◌, get_or}
use Rattle.schedule.specs.declared.verb.Verb.{Verb}
use Rattle.schedule.specs.Words.{verb_text}
use Rattle.schedule.proofs.verb.verb_of.Given as goal

abbrev pub invariant-loop-verb : goal.invariant-loop-verb
invariant-loop-verb l = (k : ℕ) (d : Verb) → k < l.verb-index → l.word ≢ verb_text (get_or l.verb-items k d)
