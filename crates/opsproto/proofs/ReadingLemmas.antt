-- What fields say, seen through their spelling or not.
use Rattle.std.proofs.Common.{◌≡◌, ℕ, zero, suc, ◌<◌, ◌≤◌, length, get_or, arith, List, [], ◌∷◌, ◌++◌, Some, None, Result, Ok, Err, refl, ap, cond, ltb, Bool, true, false, Option}
use Rattle.std.specs.Prelude.{unwrap_or}
use Rattle.std.specs.List.{last_or}
use Rattle.protowire.specs.declared.refusal.WireRefusal.{WireRefusal}
use Rattle.protowire.specs.Fields.{Entry, Spelled}
use Rattle.codec.specs.Steps.{◌>>=◌, result_map}
use Rattle.protowire.specs.Reading.{fields_of}
use Rattle.protowire.specs.Lookups.{bodies, bodies_of, at_most}
use Rattle.opsproto.specs.Scalars.{text_in}
use Rattle.protowire.specs.declared.field.Field.{Field}
use Rattle.protowire.specs.declared.field.Value.TheVariants as held
use Rattle.protowire.specs.Seen.{entry, entries, spelled_all, StandInRow}
use Rattle.opsproto.specs.Reading.{says, entries_of}
use Rattle.opsproto.specs.Ops.{limit}
use Rattle.opsproto.specs.Definitions.{most_entries, definition_at}
use Rattle.opsproto.specs.Refusals.{wire}
use Rattle.opsproto.specs.declared.refusal.OpRefusal.{OpRefusal}
use Rattle.opsproto.specs.declared.refusal.OpRefusal.TheVariants.{TooLarge}
use Rattle.opsproto.specs.declared.definition.Definition.{Definition}

pub says_spelled : (message : List ℕ) (fs : List Field) → says (spelled_all message fs) ≡ entries fs
says_spelled message [] = refl
says_spelled message (f ∷ fs) = ap (λ es. entry f ∷ es) (says_spelled message fs)

-- the last text of a number behind one that was found
abbrev pub text_after : List ℕ → ℕ → List Entry → List ℕ
text_after last number es = unwrap_or (last_or (Some last) (bodies number es)) []

pub text_after_none : (number : ℕ) (es : List Entry) → text_after [] number es ≡ text_in number es
text_after_none number es = by_bodies (bodies number es)
  where
    by_bodies : (bs : List (List ℕ)) → unwrap_or (last_or (Some []) bs) [] ≡ unwrap_or (last_or None bs) []
    by_bodies [] = refl
    by_bodies (b ∷ bs) = refl

-- what was read of messages before, and what is still read
abbrev pub with_front : {X : Type 0} → List X → Result (List X) WireRefusal → Result (List X) WireRefusal
with_front front read = read >>= λ xs. Ok (front ++ xs)

-- a field's places, of fields that stand one after the other
pub record Within (f : Field) (from to : ℕ) : Type 0 where
  pub begins : from ≤ f.start
  pub rises : f.start ≤ f.end
  pub ends : f.end ≤ to

row_rises : (from : ℕ) (fs : List Field) (to : ℕ) → StandInRow from fs to → from ≤ to
row_rises from [] to row = omega (arith, row)
row_rises from (f ∷ fs) to row = omega (arith, row.0, row.1, row_rises f.end fs to row.2)

pub row_within : (from : ℕ) (fs : List Field) (to i : ℕ) (d : Field) → StandInRow from fs to → i < length fs → Within (get_or fs i d) from to
row_within from [] to i d row lt = absurd (omega arith)
row_within from (f ∷ fs) to zero d row lt = record { begins = omega (arith, row.0); rises = omega (arith, row.1); ends = row_rises f.end fs to row.2 }
row_within from (f ∷ fs) to (suc i) d row lt =
    let w = row_within f.end fs to i d row.2 (omega arith) in
    record { begins = omega (arith, row.0, row.1, w.begins); rises = w.rises; ends = w.ends }

-- what a loop reads past the end
abbrev pub no_field : Field
no_field = record { number = 0; value = held.Varint 0; start = 0; end = 0 }

-- a definition of these entries
abbrev pub made : List (List ℕ) → Result Definition OpRefusal
made bs = Ok (record { def = bs })

-- a definition of these entries, if there are not too many
abbrev pub of_found : Option (List (List ℕ)) → Result Definition OpRefusal
of_found None = Err TooLarge
of_found (Some bs) = Ok (record { def = bs })

-- a definition by its bodies, without a list of its fields
pub by_bodies : (text : List ℕ) → definition_at text ≡ cond (ltb limit (length text)) (Err TooLarge) (wire (result_map (at_most most_entries) (bodies_of 1 text)) >>= of_found)
unfolding definition_at entries_of
by_bodies text = ap (λ (r : Result Definition OpRefusal). cond (ltb limit (length text)) (Err TooLarge) r) (of_read (fields_of text))
  where
    by_test : (b : Bool) (bs : List (List ℕ)) → cond b (Err TooLarge) (made bs) ≡ of_found (cond b None (Some bs))
    by_test true bs = refl
    by_test false bs = refl

    of_read : (read : Result (List Spelled) WireRefusal)
        → (wire (read >>= λ fs. Ok (says fs)) >>= λ es. cond (ltb most_entries (length (bodies 1 es))) (Err TooLarge) (made (bodies 1 es)))
        ≡ (wire (result_map (at_most most_entries) (read >>= λ fs. Ok (bodies 1 (says fs)))) >>= of_found)
    of_read (Ok fs) = by_test (ltb most_entries (length (bodies 1 (says fs)))) (bodies 1 (says fs))
    of_read (Err e) = refl
