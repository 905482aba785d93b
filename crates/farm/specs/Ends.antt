-- What a run leaves (this project's own).
use Rattle.std.specs.Prelude.{◌+◌, ℕ, List, [], ◌∷◌}
use Rattle.jobs.specs.declared.answer.Answer.{Answer}
use Rattle.jobs.specs.declared.answer.Answer.TheVariants.{Waiting, Output, Failed}

-- the places of the jobs that failed, the first of these answers being at this place
abbrev pub failed_from : ℕ → List Answer → List ℕ
failed_from place [] = []
failed_from place (Failed ∷ answers) = place ∷ failed_from (place + 1) answers
failed_from place (Output digest ∷ answers) = failed_from (place + 1) answers
failed_from place (Waiting ∷ answers) = failed_from (place + 1) answers

abbrev pub failed_in : List Answer → List ℕ
failed_in answers = failed_from 0 answers
