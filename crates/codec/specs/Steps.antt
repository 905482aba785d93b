-- Reading step by step, up to the first fault.
use Rattle.std.specs.Prelude.{◌≡◌, ◌⊎◌, ℕ, nat_lt, if◌then◌else◌, List, length, take, drop, Result, Ok, Err}

-- one step after another, up to the first fault
infixl 10 ◌>>=◌
abbrev pub ◌>>=◌ : {A B E : Type 0} → Result A E → (A → Result B E) → Result B E
(Ok x) >>= f = f x
(Err e) >>= f = Err e

-- a result, with view applied to its value
abbrev pub result_map : {X Y E : Type 0} → (X → Y) → Result X E → Result Y E
result_map view (Ok x) = Ok (view x)
result_map view (Err e) = Err e

-- what was returned, with view applied to its value, is what reading gives, unless memory ran out
abbrev pub GivesUnless : {X Y E : Type 0} → E → (X → Y) → Result X E → Result Y E → Type 0
GivesUnless memory view (Ok x) read = read ≡ Ok (view x)
GivesUnless memory view (Err e) read = (e ≡ memory) ⊎ (read ≡ Err e)

-- the first len bytes, and what follows them, or this refusal
abbrev pub front_or : {E : Type 0} → E → ℕ → List ℕ → Result (List ℕ × List ℕ) E
front_or short len text = if nat_lt (length text) len then Err short else Ok (take len text, drop len text)
