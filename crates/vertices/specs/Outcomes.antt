-- Checks in an order: the first that fails decides (this project's own). A check says when it passes,
-- as None, and when it refuses, as Some of the refusal.
use Rattle.std.specs.Prelude.{◌≡◌, ◌⊎◌, ⊤, List, [], ◌∷◌, Option, Some, None, Result, Ok, Err}
use Rattle.vertices.specs.declared.refusal.LoadRefusal.{LoadRefusal}
use Rattle.vertices.specs.declared.refusal.LoadRefusal.TheVariants.{OutOfMemory}

-- what a check says of what is refused, if something is
abbrev pub Check : Type 1
Check = Option LoadRefusal → Type 0

-- nothing is refused
abbrev pub Passes : Check
Passes None = ⊤
Passes (Some given) = ⊥

-- always refused
abbrev pub Fails : LoadRefusal → Check
Fails refusal None = ⊥
Fails refusal (Some given) = given ≡ refusal

-- refused where this doesn't hold
abbrev pub Needs : Type 0 → LoadRefusal → Check
Needs P refusal None = P
Needs P refusal (Some given) = (¬ P) × (given ≡ refusal)

-- refused where this holds
abbrev pub Refuses : Type 0 → LoadRefusal → Check
Refuses P refusal None = ¬ P
Refuses P refusal (Some given) = P × (given ≡ refusal)

-- one check, and where it passes another
abbrev pub Then : Check → Check → Check
Then C D None = C None × D None
Then C D (Some given) = C (Some given) ⊎ (C None × D (Some given))

-- a check of each of a list
abbrev pub Each : {X : Type 0} → (X → Check) → List X → Check
Each C [] given = Passes given
Each C (x ∷ xs) given = Then (C x) (Each C xs) given

-- what a call refused, if anything
abbrev pub refused : {X : Type 0} → Result X LoadRefusal → Option LoadRefusal
refused (Ok x) = None
refused (Err e) = Some e

-- what a call gave meets the check, unless memory ran out
abbrev pub Meets : {X : Type 0} → Check → Result X LoadRefusal → Type 0
Meets C (Ok x) = C None
Meets C (Err e) = (e ≡ OutOfMemory) ⊎ C (Some e)
