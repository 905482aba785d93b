-- Bodies by the places where they stand in a text.
use Rattle.std.proofs.Common.{◌≡◌, ℕ, ◌+◌, ◌-◌, ◌≤◌, List, [], ◌∷◌, ◌++◌, length, take, drop, Some, None, Ok, refl, ap, sym, subst, ◌∙◌, append_assoc, arith, eqb, Bool, true, false}
use Rattle.std.specs.List.{slice_range}
use Rattle.std.proofs.lemmas.List.{take-append-le, drop-append-le, take_at, length-append, length-drop, map_push, take-map, append-nil}
use Rattle.std.proofs.lemmas.List.Elements.{All-head, All-tail, All-push, All-take, All-weaker}
use Rattle.std.proofs.Math.Seq.{drop-append_seam}
use Rattle.protowire.specs.declared.body_list.Span.{Span}
use Rattle.protowire.specs.BodyLists.{AreWithin, pieces}
use Rattle.protowire.specs.Fields.{Payload, varint, eight, bytes, four, Entry, IsPayload}
use Rattle.protowire.specs.Reading.{field_at}
use Rattle.protowire.specs.Lookups.{payload_body, body_in}
use Rattle.protowire.proofs.FieldLaws.{field_took}

-- a place within `len` bytes
abbrev pub IsWithin : ℕ → Span → Type 0
IsWithin len s = (s.start ≤ s.end) × (s.end ≤ len)

range_front : (text more : List ℕ) (from end : ℕ) → from ≤ end → end ≤ length text → slice_range (text ++ more) from end ≡ slice_range text from end
range_front text more from end le within =
    let len = length-drop from text in
    ap (take (end - from)) (drop-append-le from text more (omega arith))
    ∙ take-append-le (end - from) (drop from text) more (omega arith)

-- more bytes behind a text change no piece of it
pub pieces_kept : (text more : List ℕ) (spans : List Span) → AreWithin (length text) spans → pieces (text ++ more) spans ≡ pieces text spans
pieces_kept text more [] within = refl
pieces_kept text more (s ∷ spans) within =
    let one = All-head (IsWithin (length text)) s spans within in
    let first = range_front text more s.start s.end one.0 one.1 in
    let others = pieces_kept text more spans (All-tail (IsWithin (length text)) s spans within) in
    ap (λ (b : List ℕ). b ∷ pieces (text ++ more) spans) first ∙ ap (λ (bs : List (List ℕ)). slice_range text s.start s.end ∷ bs) others

-- a piece that ends with the text in front of what follows
pub range_of : (pre body after : List ℕ) (start end : ℕ) → start ≡ length pre → end ≡ length pre + length body → slice_range (pre ++ (body ++ after)) start end ≡ body
range_of pre body after start end is_start is_end =
    let size : end - start ≡ length body = omega arith in
    ap (λ (n : ℕ). take n (drop start (pre ++ (body ++ after)))) size
    ∙ ap (λ (n : ℕ). take (length body) (drop n (pre ++ (body ++ after)))) is_start
    ∙ ap (take (length body)) (drop-append_seam pre (body ++ after))
    ∙ take_at body after (length body) refl

-- a text that is pushed behind another is its last piece
pub pushed_range : (text body now : List ℕ) (start end : ℕ) → now ≡ text ++ body → start ≡ length text → end ≡ length now → slice_range now start end ≡ body
pushed_range text body now start end is is_start is_end =
    let len = ap length is ∙ length-append text body in
    let more : now ≡ text ++ (body ++ []) = is ∙ ap (λ (x : List ℕ). text ++ x) (sym (append-nil body)) in
    ap (λ (x : List ℕ). slice_range x start end) more ∙ range_of text body [] start end is_start (omega (arith, is_end, len))

pub pushed_pieces : (text body now : List ℕ) (old new : List Span) (s : Span) → AreWithin (length text) old → now ≡ text ++ body → new ≡ old ++ s ∷ [] → s.start ≡ length text → s.end ≡ length now
    → pieces now new ≡ pieces text old ++ body ∷ []
pushed_pieces text body now old new s are is more is_start is_end =
    ap (pieces now) more ∙ map_push (λ s. slice_range now s.start s.end) old s
    ∙ ap (λ (b : List ℕ). pieces now old ++ b ∷ []) (pushed_range text body now s.start s.end is is_start is_end)
    ∙ ap (λ (bs : List (List ℕ)). bs ++ body ∷ []) (ap (λ (x : List ℕ). pieces x old) is ∙ pieces_kept text body old are)

bytes_end : (p : Payload) (value body : List ℕ) → payload_body p ≡ Some body → IsPayload p value → (size : List ℕ) × (value ≡ size ++ body)
bytes_end (varint n) value body e is = absurd cc
bytes_end eight value body e is = absurd cc
bytes_end four value body e is = absurd cc
bytes_end (bytes held) value body e is = let same : held ≡ body = cc e in (is.0, is.2 ∙ ap (λ (x : List ℕ). is.0 ++ x) same)

held_body : (number : ℕ) (e : Entry) (body : List ℕ) → (b : Bool) → eqb e.number number ≡ b → body_in number e ≡ Some body → payload_body e.payload ≡ Some body
held_body number e body true at is = let t : body_in number e ≡ payload_body e.payload = rw at refl in sym t ∙ is
held_body number e body false at is = let t : body_in number e ≡ None = rw at refl in absurd (let g = sym t ∙ is in cc)

-- the body of a field that was read stands right in front of what follows the field
pub body_stands : (rest : List ℕ) (e : Entry) (after : List ℕ) (number : ℕ) (body : List ℕ) → field_at rest ≡ Ok (e, after) → Some body ≡ body_in number e
    → (head : List ℕ) × (rest ≡ head ++ (body ++ after))
body_stands rest e after number body read held =
    let t = field_took rest e after read in
    let v = bytes_end e.payload t.is_field.value body (held_body number e body (eqb e.number number) refl (sym held)) t.is_field.is_value in
    let own : t.front ≡ (t.is_field.tag ++ v.0) ++ body = t.is_field.parts ∙ ap (λ (x : List ℕ). t.is_field.tag ++ x) v.1 ∙ sym (append_assoc t.is_field.tag v.0 body) in
    (t.is_field.tag ++ v.0, t.parts ∙ ap (λ (x : List ℕ). x ++ after) own ∙ append_assoc (t.is_field.tag ++ v.0) body after)

-- a text of which some was read
abbrev pub IsSeen : List ℕ → List ℕ → Type 0
IsSeen text rest = (seen : List ℕ) × (text ≡ seen ++ rest)

pub seen_after : (text rest : List ℕ) (e : Entry) (after : List ℕ) → IsSeen text rest → field_at rest ≡ Ok (e, after) → IsSeen text after
seen_after text rest e after so_far read =
    let t = field_took rest e after read in
    (so_far.0 ++ t.front, so_far.1 ∙ ap (λ (x : List ℕ). so_far.0 ++ x) t.parts ∙ sym (append_assoc so_far.0 t.front after))

pub body_fits : (text rest : List ℕ) (e : Entry) (after : List ℕ) (number : ℕ) (body : List ℕ) → IsSeen text rest → field_at rest ≡ Ok (e, after) → Some body ≡ body_in number e
    → length body + length after ≤ length text
body_fits text rest e after number body so_far read held =
    let h = body_stands rest e after number body read held in
    let all = ap length so_far.1 ∙ length-append so_far.0 rest in
    let whole = ap length h.1 ∙ length-append h.0 (body ++ after) in
    let tail = length-append body after in
    omega (arith, all, whole, tail)

-- where the body of a field that was read stands in the whole text
pub record Stands (text body : List ℕ) (start end : ℕ) : Type 0 where
  pub piece : slice_range text start end ≡ body
  pub rises : start ≤ end
  pub within : end ≤ length text

pub stands : (text rest : List ℕ) (e : Entry) (after : List ℕ) (number : ℕ) (body : List ℕ) (start end : ℕ) → IsSeen text rest → field_at rest ≡ Ok (e, after) → Some body ≡ body_in number e
    → end ≡ length text - length after → start ≡ end - length body → Stands text body start end
stands text rest e after number body start end so_far read held is_end is_start =
    let h = body_stands rest e after number body read held in
    let pre = so_far.0 ++ h.0 in
    let whole : text ≡ pre ++ (body ++ after) = so_far.1 ∙ ap (λ (x : List ℕ). so_far.0 ++ x) h.1 ∙ sym (append_assoc so_far.0 h.0 (body ++ after)) in
    let len = ap length whole ∙ length-append pre (body ++ after) in
    let tail = length-append body after in
    record {
      piece = ap (λ (x : List ℕ). slice_range x start end) whole ∙ range_of pre body after start end (omega (arith, len, tail)) (omega (arith, len, tail));
      rises = omega (arith, len, tail);
      within = omega (arith, len, tail);
    }

-- one more place, of at most `most`
pub pieces_taken : (text : List ℕ) (most : ℕ) (old new : List Span) (s : Span) (front : List (List ℕ)) (body : List ℕ) → pieces text old ≡ take most front → slice_range text s.start s.end ≡ body
    → new ≡ take most (old ++ s ∷ []) → pieces text new ≡ take most (take most front ++ body ∷ [])
pieces_taken text most old new s front body so_far is taken =
    ap (pieces text) taken ∙ sym (take-map (λ s. slice_range text s.start s.end) most (old ++ s ∷ []))
    ∙ ap (take most) (map_push (λ s. slice_range text s.start s.end) old s)
    ∙ ap (λ (bs : List (List ℕ)). take most (bs ++ slice_range text s.start s.end ∷ [])) so_far
    ∙ ap (λ (b : List ℕ). take most (take most front ++ b ∷ [])) is

pub within_taken : (len most : ℕ) (old new : List Span) (s : Span) → AreWithin len old → s.start ≤ s.end → s.end ≤ len → new ≡ take most (old ++ s ∷ []) → AreWithin len new
within_taken len most old new s are rises within taken =
    subst (AreWithin len) (sym taken) (All-take (IsWithin len) most (old ++ s ∷ []) (All-push (IsWithin len) old s are (rises, within)))

pub within_more : (len more : ℕ) (spans : List Span) → len ≤ more → AreWithin len spans → AreWithin more spans
within_more len more spans le are = All-weaker (IsWithin len) (IsWithin more) (λ s h. (h.0, omega (arith, h.1, le))) spans are
