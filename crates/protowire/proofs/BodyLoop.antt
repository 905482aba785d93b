-- Taking the bodies of one number from the fields of a text, one field after the other.
use Rattle.std.proofs.Common.{inl, inr, ltb, false, ◌≡◌, ℕ, ◌≤◌, List, [], ◌∷◌, ◌++◌, length, Option, Some, None, Result, Ok, Err, refl, sym, ap, ◌∙◌, append_assoc, arith, take, ◌-◌}
use Rattle.std.specs.List.{cons_option}
use Rattle.std.proofs.lemmas.Bool.{cases_lt, ltb-false}
use Rattle.std.proofs.lemmas.List.{append-nil, nil_from_length, take_all, take_at, take-append-le, length-take-le}
use Rattle.protowire.specs.declared.refusal.WireRefusal.{WireRefusal}
use Rattle.protowire.specs.Fields.{Entry, Spelled}
use Rattle.codec.specs.Steps.{◌>>=◌}
use Rattle.protowire.specs.Reading.{field_at, spelled_at, fields_in, fields_of}
use Rattle.protowire.specs.Lookups.{body_in, bodies, said, bodies_of}
use Rattle.protowire.proofs.FieldLaws.{fields_of_some}

-- what was taken before, and what is still read
abbrev pub with_bodies : ℕ → List (List ℕ) → List ℕ → Result (List (List ℕ)) WireRefusal
with_bodies number front rest = bodies_of number rest >>= λ bs. Ok (front ++ bs)

-- a body behind others, if there is one
abbrev pub push_found : List (List ℕ) → Option (List ℕ) → List (List ℕ)
push_found front None = front
push_found front (Some body) = front ++ body ∷ []

abbrev pub no_body : Option (List ℕ)
no_body = None

pushed_found : (front : List (List ℕ)) (found : Option (List ℕ)) (others : List (List ℕ)) → front ++ cons_option found others ≡ push_found front found ++ others
pushed_found front None others = refl
pushed_found front (Some body) others = sym (append_assoc front (body ∷ []) others)

regroup : (number : ℕ) (front : List (List ℕ)) (f : Spelled) (read : Result (List Spelled) WireRefusal)
    → ((read >>= λ fs. Ok (f ∷ fs)) >>= λ fs. Ok (bodies number (said fs))) >>= (λ bs. Ok (front ++ bs))
    ≡ ((read >>= λ fs. Ok (bodies number (said fs))) >>= λ bs. Ok (push_found front (body_in number f.entry) ++ bs))
regroup number front f (Ok fs) = ap (λ (x : List (List ℕ)). Ok x) (pushed_found front (body_in number f.entry) (bodies number (said fs)))
regroup number front f (Err d) = refl

pub goes_on : (number : ℕ) (rest : List ℕ) (e : Entry) (after : List ℕ) (front : List (List ℕ)) (total : Result (List (List ℕ)) WireRefusal) → 1 ≤ length rest → field_at rest ≡ Ok (e, after)
    → with_bodies number front rest ≡ total → with_bodies number (push_found front (body_in number e)) after ≡ total
unfolding spelled_at
goes_on number rest e after front total long h so_far =
    let s = fields_of_some rest long in
    let f : Spelled = record { entry = e; text = take (length rest - length after) rest } in
    let one : fields_of rest ≡ (fields_of after >>= λ fs. Ok (f ∷ fs)) = s ∙ rw h refl in
    let both : with_bodies number front rest ≡ with_bodies number (push_found front (body_in number e)) after =
    ap (λ (r : Result (List Spelled) WireRefusal). (r >>= λ fs. Ok (bodies number (said fs))) >>= λ bs. Ok (front ++ bs)) one ∙ regroup number front f (fields_of after) in
    sym both ∙ so_far

pub ends : (number : ℕ) (d : WireRefusal) (front : List (List ℕ)) (rest : List ℕ) (total : Result (List (List ℕ)) WireRefusal) → 1 ≤ length rest → field_at rest ≡ Err d
    → with_bodies number front rest ≡ total → total ≡ Err d
unfolding spelled_at
ends number d front rest total long h so_far =
    let one : with_bodies number front rest ≡ Err d = rw (fields_of_some rest long, h) refl in
    sym so_far ∙ one

pub is_done : (number : ℕ) (front : List (List ℕ)) (rest : List ℕ) (total : Result (List (List ℕ)) WireRefusal) → length rest ≡ 0 → with_bodies number front rest ≡ total → total ≡ Ok front
unfolding fields_of fields_in
is_done number front rest total none so_far =
    let nothing = nil_from_length rest none in
    let one : with_bodies number front rest ≡ Ok front = rw nothing (ap (λ (x : List (List ℕ)). Ok x) (append-nil front)) in
    sym so_far ∙ one

-- what a body that was found, or that none was, makes of the bodies
pub pushed_some : (number : ℕ) (e : Entry) (front : List (List ℕ)) (body : List ℕ) → Some body ≡ body_in number e → push_found front (body_in number e) ≡ front ++ body ∷ []
pushed_some number e front body is = ap (push_found front) (sym is)

pub pushed_none : (number : ℕ) (e : Entry) (front : List (List ℕ)) → no_body ≡ body_in number e → push_found front (body_in number e) ≡ front
pushed_none number e front is = ap (push_found front) (sym is)

-- ---- the first bodies, at most `most`

pub take_pushed : (most : ℕ) (front : List (List ℕ)) (body : List ℕ) → take most (take most front ++ body ∷ []) ≡ take most (front ++ body ∷ [])
take_pushed most front body = elim (cases_lt most (length front)) [
  | inr few ↦ ap (λ (bs : List (List ℕ)). take most (bs ++ body ∷ [])) (take_all most front few)
  | inl many ↦
      let len : length (take most front) ≡ most = length-take-le most front (omega arith) in
      take_at (take most front) (body ∷ []) most len ∙ sym (take-append-le most front (body ∷ []) (omega arith))
]

pub all_taken : (most : ℕ) (front : List (List ℕ)) → ltb most (length front) ≡ false → take most front ≡ front
all_taken most front few = take_all most front (ltb-false _ _ few)

-- before anything is taken
pub nothing_taken : (number : ℕ) (rest : List ℕ) → with_bodies number [] rest ≡ bodies_of number rest
nothing_taken number rest = of_read (fields_of rest)
  where
    of_read : (read : Result (List Spelled) WireRefusal) → ((read >>= λ fs. Ok (bodies number (said fs))) >>= λ bs. Ok ([] ++ bs)) ≡ (read >>= λ fs. Ok (bodies number (said fs)))
    of_read (Ok fs) = refl
    of_read (Err d) = refl
