-- Parts of a text, by their places in it.
use Rattle.std.proofs.Common.{◌≡◌, ℕ, zero, suc, ◌+◌, ◌-◌, ◌<◌, ◌≤◌, List, [], ◌∷◌, ◌++◌, length, take, drop, get_or, sym, ap, ◌∙◌, arith, take_at, drop_at, take-add, drop-drop, length-drop, length-take-le}
use Rattle.std.specs.List.{slice_range, slice_get}
use Rattle.std.specs.Option.{IfSome}
use Rattle.std.proofs.lemmas.List.Elements.{All-head, All-tail}
use Rattle.protowire.specs.declared.body_list.Span.{Span}
use Rattle.protowire.specs.BodyLists.{AreWithin, pieces}
use Rattle.protowire.proofs.SpanLemmas.{IsWithin}

pub length_range : (text : List ℕ) (i j : ℕ) → j ≤ length text → length (slice_range text i j) ≡ j - i
length_range text i j within = length-take-le (j - i) (drop i text) (omega (arith, length-drop i text))

-- two parts, of which the second begins where the first ends
pub range_split : (text : List ℕ) (i j k : ℕ) → i ≤ j → j ≤ k → slice_range text i k ≡ slice_range text i j ++ slice_range text j k
range_split text i j k ij jk =
    let size : k - i ≡ (j - i) + (k - j) = omega arith in
    let seam : i + (j - i) ≡ j = omega arith in
    ap (λ (n : ℕ). take n (drop i text)) size ∙ take-add (j - i) (k - j) (drop i text)
    ∙ ap (λ (t : List ℕ). slice_range text i j ++ take (k - j) t) (drop-drop (j - i) i text ∙ ap (λ (n : ℕ). drop n text) seam)

-- a part of a part
pub range_in : (text : List ℕ) (start end from to : ℕ) → from ≤ to → start + to ≤ end → end ≤ length text
    → slice_range (slice_range text start end) from to ≡ slice_range text (start + from) (start + to)
range_in text start end from to rises fits within =
    let back : drop from (slice_range text start end) ≡ slice_range text (start + from) end =
    ap (drop from) (range_split text start (start + from) end (omega arith) (omega arith))
    ∙ drop_at (slice_range text start (start + from)) (slice_range text (start + from) end) from (length_range text start (start + from) (omega arith) ∙ (omega arith)) in
    let front : take (to - from) (slice_range text (start + from) end) ≡ slice_range text (start + from) (start + to) =
    ap (take (to - from)) (range_split text (start + from) (start + to) end (omega arith) fits)
    ∙ take_at (slice_range text (start + from) (start + to)) (slice_range text (start + to) end) (to - from) (length_range text (start + from) (start + to) (omega arith) ∙ (omega arith)) in
    ap (take (to - from)) back ∙ front

-- a part of the piece at a place
pub part_at : (text : List ℕ) (spans : List Span) (place : ℕ) (none : Span) (start end : ℕ) (part : List ℕ) → AreWithin (length text) spans → place < length spans → start ≤ end
    → IfSome (slice_get (pieces text spans) place) (λ body. end ≤ length body)
    → part ≡ slice_range text ((get_or spans place none).start + start) ((get_or spans place none).start + end)
    → IfSome (slice_get (pieces text spans) place) (λ body. part ≡ slice_range body start end)
part_at text [] place none start end part are there rises within is = absurd (omega arith)
part_at text (s ∷ spans) zero none start end part are there rises within is =
    let one = All-head (IsWithin (length text)) s spans are in
    let size = length_range text s.start s.end one.1 in
    is ∙ sym (range_in text s.start s.end start end rises (omega (arith, size, within, one.0)) one.1)
part_at text (s ∷ spans) (suc place) none start end part are there rises within is =
    part_at text spans place none start end part (All-tail (IsWithin (length text)) s spans are) (omega arith) rises within is
