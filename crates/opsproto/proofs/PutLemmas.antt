-- Fields that are appended one after the other.
use Rattle.std.proofs.Common.{◌≡◌, ℕ, List, [], ◌∷◌, ◌++◌, refl, sym, ap, ◌∙◌, append_assoc}
use Rattle.std.proofs.lemmas.List.{append-nil}
use Rattle.std.proofs.lemmas.List.Concat.{flat_map-append}
use Rattle.protowire.specs.Fields.{Spelled, message}

pub one_field : (f : Spelled) → message (f ∷ []) ≡ f.text
one_field f = append-nil f.text

-- what was appended, and what is still to be appended
pub message-append : (fs gs : List Spelled) → message (fs ++ gs) ≡ message fs ++ message gs
message-append fs gs = flat_map-append (λ f. f.text) fs gs

-- for a message that is written field by field
pub ruleset writes = (message-append, append_assoc)
