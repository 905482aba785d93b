-- What the program does with its files (this project's own).
use Rattle.std.specs.Prelude.{◌≡◌, ◌≢◌, ◌⊎◌, ℕ, List, ◌∷◌, ◌++◌, codes, Option, Some, None, option_map}
use Rattle.std.specs.List.{flat_map, AllZip}
use Rattle.std.specs.declared.vec.Vec.{Vec}
use Rattle.std.specs.declared.alloc.Global.{Global}
use Rattle.std.specs.declared.string.String.{String}
use Rattle.answers.specs.declared.command.Command.{Command}
use Rattle.std.specs.String.{string_bytes}
use Rattle.answers.specs.declared.failure.Failure.{Failure}
use Rattle.answers.specs.declared.failure.Failure.TheVariants as failures
use Rattle.answers.specs.Failures.{failure_line}
use Rattle.answers.specs.Answers.{IsAnswer, IsRefused}

-- a file: its name, and its bytes if it could be read
abbrev pub File : Type 0
File = String Global × Option (Vec ℕ Global)

-- the file could be read, and this is what is printed for it
abbrev pub AnswersFile : Command → File → List ℕ → Type 0
AnswersFile command file text = (bytes : List ℕ) × (option_map (λ (v : Vec ℕ Global). v.items) file.1 ≡ Some bytes)
    × IsAnswer command bytes text

-- this is what is printed for all of them, one after the other
abbrev pub AnswersAll : Command → List File → List ℕ → Type 0
AnswersAll command files text = (texts : List (List ℕ)) × AllZip (AnswersFile command) files texts
    × (text ≡ flat_map (λ (t : List ℕ). t) texts)

-- why there is no answer for a file, as a line: it could not be read, or it is refused for something other than memory
abbrev pub FaultsFile : Command → File → List ℕ → Type 0
FaultsFile command file line =
    ((file.1 ≡ None) × (line ≡ codes "unreadable " ++ string_bytes file.0 ++ codes "\n"))
    ⊎ ((bytes : List ℕ) × (failure : Failure) × (option_map (λ (v : Vec ℕ Global). v.items) file.1 ≡ Some bytes)
    × IsRefused command bytes failure × (failure ≢ failures.Memory) × (line ≡ failure_line failure))

-- the line of the first file without an answer
pub record FirstFault (command : Command) (files : List File) (line : List ℕ) : Type 0 where
  pub before : List File
  pub file : File
  pub after : List File
  pub files_are : files ≡ before ++ file ∷ after
  pub answered : (text : List ℕ) × AnswersAll command before text
  pub fault : FaultsFile command file line
