-- The texts that a keeper keeps.
use Rattle.std.specs.Prelude.{ℕ, List, [], ◌∷◌, ◌++◌}

pub record Texts : Type 0 where
  -- the whole record; no bytes where none was saved yet
  pub whole : List ℕ
  -- the entries after it, one for each event since, in order
  pub entries : List (List ℕ)

-- a whole record, and no entry
abbrev pub whole_alone : List ℕ → Texts
whole_alone bytes = record { whole = bytes; entries = [] }

-- one more entry
abbrev pub with_text : List ℕ → Texts → Texts
with_text text t = record t { entries = t.entries ++ text ∷ [] }

-- more entries
abbrev pub with_texts : List (List ℕ) → Texts → Texts
with_texts texts t = record t { entries = t.entries ++ texts }
