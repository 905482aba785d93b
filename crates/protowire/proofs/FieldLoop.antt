-- Reading fields one after the other, as the loop does.
use Rattle.std.proofs.Common.{◌⊎◌, inr, ◌≡◌, ℕ, ◌-◌, ◌+◌, ◌≤◌, ◌<◌, List, [], ◌∷◌, ◌++◌, length, take, drop, Result, Ok, Err, refl, sym, ap, ◌∙◌, append_assoc, arith}
use Rattle.std.specs.Prelude.{IfOk}
use Rattle.std.specs.Global.{Vec}
use Rattle.std.specs.List.{slice_range}
use Rattle.std.proofs.lemmas.List.{append-nil, length-append, drop-drop, drop_at, nil_from_length}
use Rattle.protowire.specs.declared.refusal.WireRefusal.{WireRefusal}
use Rattle.protowire.specs.declared.refusal.WireRefusal.TheVariants as refusal
use Rattle.protowire.specs.declared.field.Field.{Field}
use Rattle.protowire.specs.Fields.{Entry, Spelled, AreFields}
use Rattle.codec.specs.Steps.{◌>>=◌}
use Rattle.protowire.specs.Reading.{Gives, field_at, spelled_at, fields_in, fields_of}
use Rattle.protowire.specs.Seen.{spelled_all, StandInRow}
use Rattle.protowire.proofs.FieldLaws.{field_took, fields_of_some, fields_took}

-- what was read before, and what is still read
abbrev pub with_front : List Spelled → Result (List Spelled) WireRefusal → Result (List Spelled) WireRefusal
with_front front read = read >>= λ fs. Ok (front ++ fs)

-- what is left of a text
pub record IsLeft (text rest : List ℕ) : Type 0 where
  pub place : rest ≡ drop (length text - length rest) text
  pub within : length rest ≤ length text

pub left_all : (text : List ℕ) → IsLeft text text
left_all text =
    let nothing : length text - length text ≡ 0 = omega arith in
    record { place = rw nothing refl; within = omega arith }

-- what a field leaves
pub field_leaves : (text : List ℕ) (e : Entry) (rest : List ℕ) → field_at text ≡ Ok (e, rest) → (rest ≡ drop (length text - length rest) text) × (length rest < length text)
field_leaves text e rest h =
    let t = field_took text e rest h in
    let count : length text ≡ length t.front + length rest = ap length t.parts ∙ length-append t.front rest in
    let cut : drop (length text - length rest) text ≡ rest = ap (drop (length text - length rest)) t.parts ∙ drop_at t.front rest (length text - length rest) (omega (arith, count)) in
    (sym cut, omega (arith, count, t.long))

pub left_after : (text rest : List ℕ) (e : Entry) (after : List ℕ) → IsLeft text rest → field_at rest ≡ Ok (e, after) → IsLeft text after
left_after text rest e after left h =
    let l = field_leaves rest e after h in
    let at : (length text - length rest) + (length rest - length after) ≡ length text - length after = omega (arith, l.1, left.within) in
    record {
      place = l.0 ∙ ap (drop (length rest - length after)) left.place ∙ drop-drop (length rest - length after) (length text - length rest) text ∙ ap (λ (n : ℕ). drop n text) at;
      within = omega (arith, l.1, left.within);
    }

-- the field's own bytes, by its places
pub own_bytes : (text rest : List ℕ) (e : Entry) (after : List ℕ) → IsLeft text rest → field_at rest ≡ Ok (e, after)
    → take (length rest - length after) rest ≡ slice_range text (length text - length rest) (length text - length after)
own_bytes text rest e after left h =
    let l = field_leaves rest e after h in
    let len : length rest - length after ≡ (length text - length after) - (length text - length rest) = omega (arith, l.1, left.within) in
    ap (λ (n : ℕ). take n rest) len ∙ ap (take ((length text - length after) - (length text - length rest))) left.place

regroup : (front : List Spelled) (f : Spelled) (read : Result (List Spelled) WireRefusal) → with_front front (read >>= λ fs. Ok (f ∷ fs)) ≡ with_front (front ++ f ∷ []) read
regroup front f (Ok fs) = ap (λ (x : List Spelled). Ok x) (simp append_assoc)
regroup front f (Err d) = refl

pub goes_on : (text rest : List ℕ) (e : Entry) (after : List ℕ) (front : List Spelled) (total : Result (List Spelled) WireRefusal) → IsLeft text rest → field_at rest ≡ Ok (e, after)
    → with_front front (fields_of rest) ≡ total
    → with_front (front ++ record { entry = e; text = slice_range text (length text - length rest) (length text - length after) } ∷ []) (fields_of after) ≡ total
unfolding spelled_at
goes_on text rest e after front total left h so_far =
    let l = field_leaves rest e after h in
    let own = own_bytes text rest e after left h in
    let f : Spelled = record { entry = e; text = slice_range text (length text - length rest) (length text - length after) } in
    let one : fields_of rest ≡ (fields_of after >>= λ fs. Ok (f ∷ fs)) = fields_of_some rest (omega (arith, l.1)) ∙ rw (h, own) refl in
    sym (ap (with_front front) one ∙ regroup front f (fields_of after)) ∙ so_far

pub ends : (d : WireRefusal) (front : List Spelled) (rest : List ℕ) (total : Result (List Spelled) WireRefusal) → 1 ≤ length rest → field_at rest ≡ Err d
    → with_front front (fields_of rest) ≡ total → (d ≡ refusal.OutOfMemory) ⊎ (total ≡ Err d)
unfolding spelled_at
ends d front rest total long h so_far =
    let one : with_front front (fields_of rest) ≡ Err d = rw (fields_of_some rest long, h) refl in
    inr (sym so_far ∙ one)

pub is_done : (front : List Spelled) (rest : List ℕ) (total : Result (List Spelled) WireRefusal) → length rest ≡ 0 → with_front front (fields_of rest) ≡ total → total ≡ Ok front
unfolding fields_of fields_in
is_done front rest total none so_far =
    let nothing = nil_from_length rest none in
    let one : with_front front (fields_of rest) ≡ Ok front = rw nothing (ap (λ (x : List Spelled). Ok x) (append-nil front)) in
    sym so_far ∙ one

pub row_more : (from : ℕ) (fs : List Field) (f : Field) → StandInRow from fs f.start → f.start < f.end → StandInRow from (fs ++ f ∷ []) f.end
row_more from [] f row lt = (sym row, lt, refl)
row_more from (g ∷ fs) f row lt = (row.0, row.1, row_more g.end fs f row.2 lt)

pub is_spelled : (text : List ℕ) (r : Result (Vec Field) WireRefusal) → Gives (λ v. spelled_all text v.items) r (fields_of text) → IfOk r (λ v. AreFields text (spelled_all text v.items))
is_spelled text (Ok v) given = fields_took text (spelled_all text v.items) given
is_spelled text (Err e) given = tt
