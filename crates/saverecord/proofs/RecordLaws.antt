-- A record of version 3 that is read is the one that was written, and what was written is read again.
use Rattle.std.proofs.Common.{◌≡◌, ℕ, ◌+◌, ◌-◌, ◌≤◌, true, false, ltb, List, ◌++◌, length, take, drop, Result, Ok, refl, sym, ap, subst, ◌∙◌, append_assoc, arith}
use Rattle.std.specs.Prelude.{codes}
use Rattle.std.proofs.lemmas.Bool.{ltb-false, le-ltb}
use Rattle.std.proofs.lemmas.List.{take_at, drop_at, take-append-drop, length-append, length-take, take-append-le}
use Rattle.std.proofs.lemmas.Slice.Eq.{bytes_eq-Decides}
use Rattle.sha2.specs.Sha256.{sha256}
use Rattle.sha2.proofs.Facts256.{length-sha256}
use Rattle.recordparts.specs.declared.layout.Layout.TheVariants.{Third}
use Rattle.saverecord.specs.declared.record.Record.{Record}
use Rattle.recordparts.specs.declared.refusal.Flaw.TheVariants.{Relation}
use Rattle.recordparts.specs.declared.refusal.RecordRefusal.{RecordRefusal}
use Rattle.recordparts.specs.declared.refusal.RecordRefusal.TheVariants.{Truncated, BadDigest}
use Rattle.codec.specs.Steps.{◌>>=◌}
use Rattle.saverecord.specs.Records.{whole_body, is_same, layout_of, signed, opened_by, opened, judged, record_of}
use Rattle.saverecord.specs.Relations.{agrees}
use Rattle.saverecord.specs.Spelling.{body_bytes, record_bytes}
use Rattle.saverecord.specs.Fits.{IsRecord, IsTypedRecord}
use Rattle.codec.proofs.Fronts.{IsBytes-take, IsBytes-drop}
use Rattle.codec.proofs.Steps.{bind_ok, guard_ok, ok_is, passed_ok as test_ok}
use Rattle.names.specs.Digests.{IsBytes}
use Rattle.recordparts.proofs.Fields.{passed_ok}
use Rattle.saverecord.proofs.BodyLaws.{body_bytes_in, body_bytes-third, whole_takes, whole_again}

-- the same bytes
pub same_bytes : (a b : List ℕ) → is_same a b ≡ true → a ≡ b
same_bytes a b h = (bytes_eq-Decides a b).0 h

same_itself : (a : List ℕ) → is_same a a ≡ true
same_itself a = (bytes_eq-Decides a a).1 refl

abbrev pub magic : List ℕ
magic = codes "BKFARM03"

third_magic : layout_of magic ≡ Ok Third
unfolding layout_of
third_magic = refl

abbrev signed_of : List ℕ → List ℕ
signed_of bytes = take (length bytes - 32) bytes

-- what stands between magic and digest
pub record Opens (bytes : List ℕ) (body : List ℕ) : Type 0 where
  pub parts : bytes ≡ (take 8 bytes ++ body) ++ sha256 (take 8 bytes ++ body)
  pub fits : IsBytes body

signed_takes : (bytes body : List ℕ) → 40 ≤ length bytes → IsBytes bytes → signed bytes ≡ Ok body → Opens bytes body
unfolding signed
signed_takes bytes body long fits e =
    let inner : Result (List ℕ) RecordRefusal = Ok (drop 8 (signed_of bytes)) in
    let c = test_ok (is_same (sha256 (signed_of bytes)) (drop (length bytes - 32) bytes)) BadDigest inner body e in
    let same = same_bytes (sha256 (signed_of bytes)) (drop (length bytes - 32) bytes) c.0 in
    let split : bytes ≡ signed_of bytes ++ drop (length bytes - 32) bytes = sym (take-append-drop (length bytes - 32) bytes) in
    let len : length (signed_of bytes) ≡ length bytes - 32 = omega (arith, length-take (length bytes - 32) bytes) in
    let front : take 8 bytes ≡ take 8 (signed_of bytes) = ap (take 8) split ∙ take-append-le 8 (signed_of bytes) (drop (length bytes - 32) bytes) (omega arith) in
    let whole : signed_of bytes ≡ take 8 bytes ++ drop 8 (signed_of bytes) = sym (take-append-drop 8 (signed_of bytes)) ∙ ap (λ (x : List ℕ). x ++ drop 8 (signed_of bytes)) (sym front) in
    let parts : bytes ≡ (take 8 bytes ++ drop 8 (signed_of bytes)) ++ sha256 (take 8 bytes ++ drop 8 (signed_of bytes)) = split ∙ ap (λ (x : List ℕ). signed_of bytes ++ x) (sym same) ∙ ap (λ (x : List ℕ). x ++ sha256 x) whole in
    subst (λ (x : List ℕ). Opens bytes x) (ok_is {E = RecordRefusal} (drop 8 (signed_of bytes)) body c.1) (record { parts = parts; fits = IsBytes-drop 8 (signed_of bytes) (IsBytes-take (length bytes - 32) bytes fits) })

module _ {X : Type 0} (read : List ℕ → Result X RecordRefusal) where
  pub opened_takes : (bytes : List ℕ) (x : X) (body : List ℕ) → IsBytes bytes → opened_by read bytes ≡ Ok (x, body) → Opens bytes body × (read (take 8 bytes) ≡ Ok x)
  unfolding opened_by
  opened_takes bytes x body fits e =
      let g = guard_ok (ltb (length bytes) 40) Truncated (read (take 8 bytes) >>= λ x. signed bytes >>= λ body. Ok (x, body)) (x, body) e in
      let long : 40 ≤ length bytes = ltb-false _ _ g.0 in
      let a = bind_ok (read (take 8 bytes)) (λ x. signed bytes >>= λ body. Ok (x, body)) (x, body) g.1 in
      let b = bind_ok (signed bytes) (λ body. Ok (a.0, body)) (x, body) a.2 in
      let made : X × List ℕ = (a.0, b.0) in
      subst (λ (y : X × List ℕ). Opens bytes y.1 × (read (take 8 bytes) ≡ Ok y.0)) (ok_is {E = RecordRefusal} made (x, body) b.2) (signed_takes bytes b.0 long fits b.1, a.1)

  pub opened_again : (first : List ℕ) (x : X) (body : List ℕ) → length first ≡ 8 → read first ≡ Ok x → opened_by read ((first ++ body) ++ sha256 (first ++ body)) ≡ Ok (x, body)
  unfolding opened_by signed
  opened_again first x body eight is =
      let text = first ++ body in
      let bytes = text ++ sha256 text in
      let digest = length-sha256 text in
      let len : length bytes ≡ length text + 32 = omega (arith, length-append text (sha256 text), digest) in
      let some : length text ≡ 8 + length body = omega (arith, length-append first body) in
      let long : ltb (length bytes) 40 ≡ false = le-ltb (length bytes) 40 (omega arith) in
      let front : take 8 bytes ≡ first = ap (take 8) (append_assoc first body (sha256 text)) ∙ take_at first (body ++ sha256 text) 8 eight in
      let place : length bytes - 32 ≡ length text = omega arith in
      let signed_part : take (length bytes - 32) bytes ≡ text = take_at text (sha256 text) (length bytes - 32) (sym place) in
      let last : drop (length bytes - 32) bytes ≡ sha256 text = drop_at text (sha256 text) (length bytes - 32) (sym place) in
      rw (long, front, is, signed_part, last, same_itself (sha256 text), drop_at first body 8 eight) refl

judged_third : (r s : Record) → judged Third r ≡ Ok s → (agrees r ≡ true) × (r ≡ s)
unfolding judged
judged_third r s e = passed_ok Relation (agrees r) r s e

judged_again : (r : Record) → agrees r ≡ true → judged Third r ≡ Ok r
unfolding judged
judged_again r h = rw h refl

-- the bytes that were read are those that spell the record
pub third_takes : (bytes : List ℕ) (r : Record) → IsBytes bytes → take 8 bytes ≡ magic → record_of bytes ≡ Ok r → bytes ≡ record_bytes r
unfolding record_of
third_takes bytes r fits is_third e =
    let a = bind_ok (opened bytes) (λ parts. whole_body parts.0 parts.1 >>= λ body. judged parts.0 body) r e in
    let b = bind_ok (whole_body a.0.0 a.0.1) (λ body. judged a.0.0 body) r a.2 in
    let o = opened_takes layout_of bytes a.0.0 a.0.1 fits a.1 in
    let layout : Third ≡ a.0.0 = ok_is {E = RecordRefusal} Third a.0.0 (sym third_magic ∙ ap layout_of (sym is_third) ∙ o.1) in
    let w = whole_takes a.0.0 a.0.1 b.0 o.0.fits b.1 in
    let j = judged_third b.0 r (subst (λ l. judged l b.0 ≡ Ok r) (sym layout) b.2) in
    let body : a.0.1 ≡ body_bytes r = w.0 ∙ ap (λ l. body_bytes_in l b.0) (sym layout) ∙ body_bytes-third b.0 ∙ ap body_bytes j.1 in
    o.0.parts ∙ ap (λ (x : List ℕ). (x ++ a.0.1) ++ sha256 (x ++ a.0.1)) is_third ∙ ap (λ (x : List ℕ). (magic ++ x) ++ sha256 (magic ++ x)) body

-- the bytes that spell a record are read
pub third_again : (r : Record) → IsRecord r → IsTypedRecord r → record_of (record_bytes r) ≡ Ok r
unfolding record_of
third_again r fits typed = rw (opened_again layout_of magic Third (body_bytes r) refl third_magic, whole_again r fits.parts typed) (judged_again r fits.relations)
