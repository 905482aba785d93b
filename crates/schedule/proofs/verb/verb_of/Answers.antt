use Rattle.std.proofs.Common.{◌≢◌, ℕ, ◌<◌, List, [], ◌∷◌, get_or, arith}
use Rattle.schedule.specs.declared.verb.Verb.{Verb}
use Rattle.schedule.specs.declared.verb.Verb.TheVariants.{Ask, Tenure, Deliver, Begin, Finish, Abort, Resend, Restart, Forge, Forget, Nudge, Withdraw, Prune, Retire, Fail}
use Rattle.schedule.specs.Words.{verb_text}
use Rattle.schedule.proofs.verb.verb_of.Goals as goal

abbrev verbs : List Verb
verbs = Ask ∷ Tenure ∷ Deliver ∷ Begin ∷ Finish ∷ Abort ∷ Resend ∷ Restart ∷ Forge ∷ Forget ∷ Nudge ∷ Withdraw ∷ Prune ∷ Retire ∷ Fail ∷ []

-- a word that is the text of none of them is the text of no verb
no_verb : (word : List ℕ) → ((k : ℕ) (d : Verb) → k < 15 → word ≢ verb_text (get_or verbs k d)) → (v : Verb) → word ≢ verb_text v
no_verb word none Ask = none 0 Ask (omega arith)
no_verb word none Tenure = none 1 Tenure (omega arith)
no_verb word none Deliver = none 2 Deliver (omega arith)
no_verb word none Begin = none 3 Begin (omega arith)
no_verb word none Finish = none 4 Finish (omega arith)
no_verb word none Abort = none 5 Abort (omega arith)
no_verb word none Resend = none 6 Resend (omega arith)
no_verb word none Restart = none 7 Restart (omega arith)
no_verb word none Forge = none 8 Forge (omega arith)
no_verb word none Forget = none 9 Forget (omega arith)
no_verb word none Nudge = none 10 Nudge (omega arith)
no_verb word none Withdraw = none 11 Withdraw (omega arith)
no_verb word none Prune = none 12 Prune (omega arith)
no_verb word none Retire = none 13 Retire (omega arith)
no_verb word none Fail = none 14 Fail (omega arith)

pub returns-clause-only : goal.returns-clause-only
returns-clause-only c = no_verb c.args.word.now (λ k d lt. c.loop-verb.invariant k d (omega (arith, c.loop-verb-test.false)))
