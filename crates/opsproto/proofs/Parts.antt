-- What is read of fields that were written.
use Rattle.std.proofs.Common.{◌≡◌, ℕ, ℤ, pos, negsuc, ◌%◌, ◌<◌, ◌≤◌, ◌^◌, Bool, true, false, cond, eqb, not, List, [], ◌∷◌, ◌++◌, map, Option, Some, None, Ok, refl, sym, ap, ◌∙◌, inl, inr, arith, FitsSigned}
use Rattle.std.specs.Prelude.{filter_map, unwrap_or, IfSome}
use Rattle.std.specs.List.{AllByRecursion, last_or, cons_option}
use Rattle.std.specs.Option.{option_to_list}
use Rattle.std.specs.Int.{w32, w64, cast_signed, cast_unsigned}
use Rattle.std.proofs.lemmas.Bool.{cases_Bool, eqb-true}
use Rattle.std.proofs.lemmas.Int.{to_z-of_z}
use Rattle.std.proofs.lemmas.List.{append-nil, map-append}
use Rattle.std.proofs.lemmas.List.Elements.{filter_map-append}
use Rattle.protowire.specs.Fields.{Spelled, IsField, message}
use Rattle.protowire.specs.Lookups.{bodies, joined_parts, joined_body}
use Rattle.protowire.specs.Lookups.{number_in as held_number, body_in}
use Rattle.protowire.specs.Writing.{spelled_bytes}
use Rattle.protowire.proofs.FieldLaws.{fields_again}
use Rattle.protowire.proofs.WritingLaws.{varint_is_field, bytes_is_field}
use Rattle.opsproto.specs.Scalars.{Text, number_in, int64_in, int32_in, bool_in, text_in}
use Rattle.opsproto.specs.Reading.{says, entries_of}
use Rattle.opsproto.specs.Writing.{number_fields, text_fields, each_fields, optional_fields}
use Rattle.opsproto.specs.Written.{IsBody, IsText}

-- ---- the numbers and the bodies of one field number

unfoldable pub numbers : ℕ → List Spelled → List ℕ
numbers k fs = filter_map (held_number k) (says fs)

unfoldable pub texts : ℕ → List Spelled → List (List ℕ)
texts k fs = bodies k (says fs)

pub numbers-append : (k : ℕ) (fs gs : List Spelled) → numbers k (fs ++ gs) ≡ numbers k fs ++ numbers k gs
unfolding numbers
numbers-append k fs gs = ap (filter_map (held_number k)) (map-append (λ (f : Spelled). f.entry) fs gs) ∙ filter_map-append (held_number k) (says fs) (says gs)

pub texts-append : (k : ℕ) (fs gs : List Spelled) → texts k (fs ++ gs) ≡ texts k fs ++ texts k gs
unfolding texts
texts-append k fs gs = ap (filter_map (body_in k)) (map-append (λ (f : Spelled). f.entry) fs gs) ∙ filter_map-append (body_in k) (says fs) (says gs)

-- a number, unless it is 0
abbrev pub unless_zero : ℕ → List ℕ
unless_zero n = cond (eqb n 0) [] (n ∷ [])

-- a text, unless it is empty
abbrev pub unless_empty : Text → List Text
unless_empty [] = []
unless_empty (b ∷ bs) = (b ∷ bs) ∷ []

either : {X : Type 0} (b : Bool) (x : X) → x ≡ cond b x x
either true x = refl
either false x = refl

kept_one : {X : Type 0} (b : Bool) (x : X) → cons_option (cond b (Some x) None) [] ≡ cond b (x ∷ []) []
kept_one true x = refl
kept_one false x = refl

none_kept : {X : Type 0} (b : Bool) (xs : List X) → cons_option (cond b None None) xs ≡ xs
none_kept true xs = refl
none_kept false xs = refl

pub numbers_number : (k j n : ℕ) → numbers k (number_fields j n) ≡ cond (eqb j k) (unless_zero n) []
unfolding numbers number_fields
numbers_number k j n =
    elim (cases_Bool (eqb n 0)) [
      | inl e ↦ rw e (either (eqb j k) [])
      | inr e ↦ rw e (kept_one (eqb j k) n)
    ]

pub numbers_text : (k j : ℕ) (text : Text) → numbers k (text_fields j text) ≡ []
unfolding numbers text_fields
numbers_text k j [] = refl
numbers_text k j (b ∷ bs) = none_kept (eqb j k) []

pub numbers_each : (k j : ℕ) (parts : List (List ℕ)) → numbers k (each_fields j parts) ≡ []
unfolding numbers each_fields
numbers_each k j [] = refl
numbers_each k j (b ∷ parts) = none_kept (eqb j k) (filter_map (held_number k) (says (map (spelled_bytes j) parts))) ∙ numbers_each k j parts

pub numbers_optional : (k j : ℕ) (part : Option (List ℕ)) → numbers k (optional_fields j part) ≡ []
unfolding numbers optional_fields
numbers_optional k j None = refl
numbers_optional k j (Some b) = none_kept (eqb j k) []

pub texts_number : (k j n : ℕ) → texts k (number_fields j n) ≡ []
unfolding texts number_fields
texts_number k j n =
    elim (cases_Bool (eqb n 0)) [
      | inl e ↦ rw e refl
      | inr e ↦ rw e (none_kept (eqb j k) [])
    ]

pub texts_text : (k j : ℕ) (text : Text) → texts k (text_fields j text) ≡ cond (eqb j k) (unless_empty text) []
unfolding texts text_fields
texts_text k j [] = either (eqb j k) []
texts_text k j (b ∷ bs) = kept_one (eqb j k) (b ∷ bs)

kept_more : {X : Type 0} (b : Bool) (x : X) (xs : List X) → cons_option (cond b (Some x) None) (cond b xs []) ≡ cond b (x ∷ xs) []
kept_more true x xs = refl
kept_more false x xs = refl

pub texts_each : (k j : ℕ) (parts : List (List ℕ)) → texts k (each_fields j parts) ≡ cond (eqb j k) parts []
unfolding texts each_fields
texts_each k j [] = either (eqb j k) []
texts_each k j (b ∷ parts) = ap (cons_option (body_in k (spelled_bytes j b).entry)) (texts_each k j parts) ∙ kept_more (eqb j k) b parts

pub texts_optional : (k j : ℕ) (part : Option (List ℕ)) → texts k (optional_fields j part) ≡ cond (eqb j k) (option_to_list part) []
unfolding texts optional_fields
texts_optional k j None = either (eqb j k) []
texts_optional k j (Some b) = kept_one (eqb j k) b

-- ---- what is read of them

last_number : (n : ℕ) → unwrap_or (last_or None (unless_zero n)) 0 ≡ n
last_number n =
    elim (cases_Bool (eqb n 0)) [
      | inl e ↦ rw e (sym (eqb-true n 0 e))
      | inr e ↦ rw e refl
    ]

last_text : (text : Text) → unwrap_or (last_or None (unless_empty text)) [] ≡ text
last_text [] = refl
last_text (b ∷ bs) = refl

pub number_again : (k : ℕ) (fs : List Spelled) (n : ℕ) → numbers k fs ≡ unless_zero n → number_in k (says fs) ≡ n
unfolding numbers
number_again k fs n e = ap (λ (ns : List ℕ). unwrap_or (last_or None ns) 0) e ∙ last_number n

pub text_again : (k : ℕ) (fs : List Spelled) (text : Text) → texts k fs ≡ unless_empty text → text_in k (says fs) ≡ text
unfolding texts
text_again k fs text e = ap (λ (ts : List Text). unwrap_or (last_or None ts) []) e ∙ last_text text

pub bodies_again : (k : ℕ) (fs : List Spelled) (parts : List (List ℕ)) → texts k fs ≡ parts → bodies k (says fs) ≡ parts
unfolding texts
bodies_again k fs parts e = e

one_part : (part : Option (List ℕ)) → joined_parts (option_to_list part) ≡ part
one_part None = refl
one_part (Some b) = ap (λ (t : List ℕ). Some t) (append-nil b)

pub body_again : (k : ℕ) (fs : List Spelled) (part : Option (List ℕ)) → texts k fs ≡ option_to_list part → joined_body k (says fs) ≡ part
unfolding texts
body_again k fs part e = ap joined_parts e ∙ one_part part

pub int64_again : (k : ℕ) (fs : List Spelled) (z : ℤ) → FitsSigned w64 z → numbers k fs ≡ unless_zero (cast_unsigned w64 z) → int64_in k (says fs) ≡ z
int64_again k fs z fits e = ap (cast_signed w64) (number_again k fs (cast_unsigned w64 z) e) ∙ to_z-of_z w64 z fits

low_bits : (z : ℤ) → FitsSigned w32 z → cast_unsigned w64 z % 2 ^ 32 ≡ cast_unsigned w32 z
low_bits (pos n) fits = omega (arith, fits.sfits)
low_bits (negsuc n) fits = omega (arith, fits.sfits)

pub int32_again : (k : ℕ) (fs : List Spelled) (z : ℤ) → FitsSigned w32 z → numbers k fs ≡ unless_zero (cast_unsigned w64 z) → int32_in k (says fs) ≡ z
int32_again k fs z fits e = ap (λ (n : ℕ). cast_signed w32 (n % 2 ^ 32)) (number_again k fs (cast_unsigned w64 z) e) ∙ ap (cast_signed w32) (low_bits z fits) ∙ to_z-of_z w32 z fits

bit_again : (b : Bool) → not (eqb (cond b 1 0) 0) ≡ b
bit_again true = refl
bit_again false = refl

pub bool_again : (k : ℕ) (fs : List Spelled) (b : Bool) → numbers k fs ≡ unless_zero (cond b 1 0) → bool_in k (says fs) ≡ b
bool_again k fs b e = ap (λ (n : ℕ). not (eqb n 0)) (number_again k fs (cond b 1 0) e) ∙ bit_again b

-- ---- they are fields

pub fields_append : (fs gs : List Spelled) → AllByRecursion IsField fs → AllByRecursion IsField gs → AllByRecursion IsField (fs ++ gs)
fields_append [] gs a b = b
fields_append (f ∷ fs) gs a b = (a.0, fields_append fs gs a.1 b)

-- a field number
abbrev pub IsNumber : ℕ → Type 0
IsNumber k = (1 ≤ k) × (k < 2 ^ 29)

pub number_is_field : (k n : ℕ) → IsNumber k → n < 2 ^ 64 → AllByRecursion IsField (number_fields k n)
unfolding number_fields
number_is_field k n is fits =
    elim (cases_Bool (eqb n 0)) [
      | inl e ↦ rw e tt
      | inr e ↦ rw e (varint_is_field k n is.0 is.1 fits, tt)
    ]

pub unsigned64 : (z : ℤ) → FitsSigned w64 z → cast_unsigned w64 z < 2 ^ 64
unsigned64 (pos n) fits = omega (arith, fits.sfits)
unsigned64 (negsuc n) fits = omega (arith, fits.sfits)

pub unsigned32 : (z : ℤ) → FitsSigned w32 z → cast_unsigned w64 z < 2 ^ 64
unsigned32 (pos n) fits = omega (arith, fits.sfits)
unsigned32 (negsuc n) fits = omega (arith, fits.sfits)

pub bit_below : (b : Bool) → cond b 1 0 < 2 ^ 64
bit_below true = omega arith
bit_below false = omega arith

pub text_is_field : (k : ℕ) (text : Text) → IsNumber k → IsText text → AllByRecursion IsField (text_fields k text)
unfolding text_fields
text_is_field k [] is valid = tt
text_is_field k (b ∷ bs) is valid = (bytes_is_field k (b ∷ bs) is.0 is.1 valid.size, tt)

pub each_is_field : (k : ℕ) (parts : List (List ℕ)) → IsNumber k → AllByRecursion IsBody parts → AllByRecursion IsField (each_fields k parts)
unfolding each_fields
each_is_field k [] is valid = tt
each_is_field k (b ∷ parts) is valid = (bytes_is_field k b is.0 is.1 valid.0, each_is_field k parts is valid.1)

pub optional_is_field : (k : ℕ) (part : Option (List ℕ)) → IsNumber k → IfSome part IsBody → AllByRecursion IsField (optional_fields k part)
unfolding optional_fields
optional_is_field k None is valid = tt
optional_is_field k (Some b) is valid = (bytes_is_field k b is.0 is.1 valid, tt)

pub entries_again : (fs : List Spelled) → AllByRecursion IsField fs → entries_of (message fs) ≡ Ok (says fs)
unfolding entries_of
entries_again fs each = rw (fields_again (message fs) fs (record { each = each; joined = refl })) refl
