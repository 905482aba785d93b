-- How what is wrong with a line is found, a word after the other.
use Rattle.std.specs.Prelude.{◌≡◌, ℕ, Bool, true, false, List, Option, Some, None, length}
use Rattle.schedule.specs.declared.fault.FormFault.{FormFault}
use Rattle.schedule.specs.declared.fault.FormFault.TheVariants.{BadWord, ExtraWord}
use Rattle.schedule.specs.declared.verb.Verb.{Verb}
use Rattle.schedule.specs.Faults.{IsRead, IsFormFault}
use Rattle.schedule.specs.Forms.{Fits, FitUpTo, wanted_at}
use Rattle.schedule.specs.Lacks.{IsWordFault}

-- whether the line of this number can be read
abbrev pub IsReadAnswer : ℕ → List ℕ → Bool → Type 0
IsReadAnswer number line true = IsRead number line
IsReadAnswer number line false = IsRead number line → ⊥

-- what is wrong with the word at this index behind the verb, if something is
abbrev pub IsFaultAt : Verb → ℕ → List ℕ → Option FormFault → Type 0
IsFaultAt verb index word None = Fits (wanted_at verb index) word
IsFaultAt verb index word (Some (BadWord i kind fault)) = (i ≡ index) × (wanted_at verb index ≡ Some kind)
    × IsWordFault kind word fault
IsFaultAt verb index word (Some (ExtraWord i)) = (i ≡ index) × (wanted_at verb index ≡ None)
IsFaultAt verb index word (Some fault) = ⊥

-- what is wrong with the first word behind the verb that can't stand there, if there is one
abbrev pub AreJudged : Verb → List (List ℕ) → Option FormFault → Type 0
AreJudged verb ws None = FitUpTo verb ws (length ws)
AreJudged verb ws (Some fault) = IsFormFault verb ws fault
