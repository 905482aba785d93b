-- The fields but the inputs, where they stand in one piece.
use Rattle.std.proofs.Common.{◌≡◌, ℕ, ◌+◌, ◌-◌, ◌<◌, ◌≤◌, false, eqb, List, ◌∷◌, ◌++◌, length, take, drop, get_or, Option, Some, None, Ok, IfSome, IsOk, refl, sym, ap, subst, ◌∙◌, append_assoc, arith}
use Rattle.std.specs.List.{slice_range}
use Rattle.std.proofs.lemmas.Bool.{ne_eqb}
use Rattle.std.proofs.lemmas.List.{drop_more}
use Rattle.protowire.specs.declared.body_list.Span.{Span}
use Rattle.protowire.specs.declared.field.Field.{Field}
use Rattle.protowire.specs.Fields.{message}
use Rattle.protowire.specs.Seen.{spelled_all, StandInRow}
use Rattle.protowire.proofs.PartLemmas.{range_split}
use Rattle.opsproto.specs.Ops.{kept, op_at, op_in, stripped_of, StandsAt}
use Rattle.opsproto.proofs.ReadingLemmas.{no_field, row_within, Within}
use Rattle.opsproto.proofs.OpLemmas.{stripped_reads}

-- the bytes of the fields that are kept
abbrev pub left : List ℕ → List Field → List ℕ
left text fs = message (kept (spelled_all text fs))

-- of the fields in front of the k-th, the kept ones stand from one place to another
pub record IsPieceTo (fs : List Field) (k start end : ℕ) (text : List ℕ) : Type 0 where
  pub rises : start ≤ end
  pub within : end ≤ length text
  pub is : slice_range text start end ++ left text (drop k fs) ≡ left text fs

-- the bytes of a field that is kept
taken : (text : List ℕ) (f : Field) (fs : List Field) → eqb f.number 1 ≡ false → left text (f ∷ fs) ≡ slice_range text f.start f.end ++ left text fs
taken text f fs is = rw is refl

-- a kept field, whose bytes lengthen the piece
extends : (fs : List Field) (k start end from : ℕ) (f : Field) (text : List ℕ) → k < length fs → f ≡ get_or fs k no_field → eqb f.number 1 ≡ false
    → from ≤ f.end → f.end ≤ length text → slice_range text start end ++ slice_range text f.start f.end ≡ slice_range text from f.end
    → IsPieceTo fs k start end text → IsPieceTo fs (k + 1) from f.end text
extends fs k start end from f text less at is rises within longer h =
    let rest = drop (k + 1) fs in
    let here : drop k fs ≡ f ∷ rest = drop_more fs k no_field less ∙ ap (λ (x : Field). x ∷ rest) (sym at) in
    let more : left text (drop k fs) ≡ slice_range text f.start f.end ++ left text rest = ap (left text) here ∙ taken text f rest is in
    record {
      rises = rises;
      within = within;
      is = ap (λ (x : List ℕ). x ++ left text rest) (sym longer) ∙ append_assoc (slice_range text start end) (slice_range text f.start f.end) (left text rest)
          ∙ ap (λ (x : List ℕ). slice_range text start end ++ x) (sym more) ∙ h.is;
    }

-- the first one
pub starts : (fs : List Field) (k start end : ℕ) (f : Field) (text : List ℕ) → k < length fs → f ≡ get_or fs k no_field → (f.number ≡ 1 → ⊥) → StandInRow 0 fs (length text)
    → start ≡ end → IsPieceTo fs k start end text → IsPieceTo fs (k + 1) f.start f.end text
starts fs k start end f text less at is row none h =
    let w = subst (λ (x : Field). Within x 0 (length text)) (sym at) (row_within 0 fs (length text) k no_field row less) in
    let size : end - start ≡ 0 = omega (arith, none) in
    extends fs k start end f.start f text less at (ne_eqb f.number 1 is) w.rises w.ends
    (ap (λ (n : ℕ). take n (drop start text) ++ slice_range text f.start f.end) size) h

-- one that stands right behind those before it
pub follows : (fs : List Field) (k start end : ℕ) (f : Field) (text : List ℕ) → k < length fs → f ≡ get_or fs k no_field → (f.number ≡ 1 → ⊥) → StandInRow 0 fs (length text)
    → f.start ≡ end → IsPieceTo fs k start end text → IsPieceTo fs (k + 1) start f.end text
follows fs k start end f text less at is row behind h =
    let w = subst (λ (x : Field). Within x 0 (length text)) (sym at) (row_within 0 fs (length text) k no_field row less) in
    let rises : start ≤ f.end = omega (arith, h.rises, w.rises, behind) in
    extends fs k start end start f text less at (ne_eqb f.number 1 is) rises w.ends
    (ap (λ (n : ℕ). slice_range text start end ++ slice_range text n f.end) behind ∙ sym (range_split text start end f.end h.rises (omega (arith, w.rises, behind)))) h

-- where the stripped bytes of an op stand
pub stands_found : (found : Option Span) (text : List ℕ) → IsOk (op_at text)
    → IfSome found (λ place. (stripped : List ℕ) → stripped_of text ≡ Ok stripped → StandsAt text stripped place.start place.end)
    → IfSome found (λ place. StandsAt text (op_in text).stripped place.start place.end)
stands_found None text h f = tt
stands_found (Some place) text h f = f (op_in text).stripped (stripped_reads text h)
