-- A field is read exactly where the bytes spell it.
use Rattle.std.proofs.Common.{◌≡◌, ℕ, zero, suc, ◌+◌, ◌-◌, ◌*◌, ◌/◌, ◌%◌, ◌<◌, ◌≤◌, ◌^◌, leb, eqb, true, false, ◌||◌, cond, List, [], ◌∷◌, ◌++◌, length, take, Result, Ok, Err, refl, sym, ap, subst, ◌∙◌, append_assoc, arith, inl, inr}
use Rattle.std.specs.List.{AllByRecursion}
use Rattle.std.proofs.lemmas.Bool.{leb-false, lt-leb, eqb-true, eqb-false, ne_eqb, or_parts}
use Rattle.std.proofs.lemmas.List.{take_at, length-append}
use Rattle.protowire.specs.declared.refusal.WireRefusal.{WireRefusal}
use Rattle.protowire.specs.declared.refusal.WireRefusal.TheVariants.{Truncated, BadWireType, BadFieldNumber}
use Rattle.protowire.specs.Varints.{IsVarint}
use Rattle.protowire.specs.Fields.{Payload, varint, eight, bytes, four, Entry, Spelled, wire_type, IsPayload, IsField, message, AreFields}
use Rattle.codec.specs.Steps.{◌>>=◌}
use Rattle.protowire.specs.Reading.{varint_at, front_at, number_payload, fixed_payload, bytes_payload, payload_at, field_at, spelled_at, fields_in, fields_of, Faulted}
use Rattle.codec.proofs.Fronts.{parts_then, front_took, front_again, front_of_length}
use Rattle.codec.proofs.Steps.{bind_ok, bind_err, guard_ok, chosen, ok_is, pair_parts}
use Rattle.protowire.proofs.VarintLaws.{varint_at_took, varint_at_again}

-- ---- what a field holds

-- what reading took
pub record TakenField (type : ℕ) (text : List ℕ) (p : Payload) (rest : List ℕ) : Type 0 where
  pub front : List ℕ
  pub parts : text ≡ front ++ rest
  pub is_payload : IsPayload p front
  pub is_type : type ≡ wire_type p

held_varint : (text : List ℕ) (p : Payload) (rest : List ℕ) → number_payload text ≡ Ok (p, rest) → TakenField 0 text p rest
held_varint text p rest e =
    let s = bind_ok (varint_at text) (λ n. Ok (varint n.0, n.1)) (p, rest) e in
    let t = varint_at_took text s.0.0 s.0.1 s.1 in
    let q = pair_parts (varint s.0.0) p s.0.1 rest (ok_is {E = WireRefusal} (varint s.0.0, s.0.1) (p, rest) s.2) in
    subst (λ (x : Payload × List ℕ). TakenField 0 text x.0 x.1) (ok_is {E = WireRefusal} (varint s.0.0, s.0.1) (p, rest) s.2)
    (record { front = t.0; parts = t.2; is_payload = t.1; is_type = refl })

held_fixed : (type len : ℕ) (held : Payload) (text : List ℕ) (p : Payload) (rest : List ℕ) → type ≡ wire_type held → ((front : List ℕ) → length front ≡ len → IsPayload held front)
    → fixed_payload len held text ≡ Ok (p, rest) → TakenField type text p rest
held_fixed type len held text p rest is fixed e =
    let s = bind_ok (front_at len text) (λ body. Ok (held, body.1)) (p, rest) e in
    let t = front_took Truncated len text s.0.0 s.0.1 s.1 in
    subst (λ (x : Payload × List ℕ). TakenField type text x.0 x.1) (ok_is {E = WireRefusal} (held, s.0.1) (p, rest) s.2)
    (record { front = s.0.0; parts = t.0; is_payload = fixed s.0.0 t.1; is_type = is })

held_bytes : (text : List ℕ) (p : Payload) (rest : List ℕ) → bytes_payload text ≡ Ok (p, rest) → TakenField 2 text p rest
held_bytes text p rest e =
    let s = bind_ok (varint_at text) (λ len. front_at len.0 len.1 >>= λ body. Ok (bytes body.0, body.1)) (p, rest) e in
    let u = bind_ok (front_at s.0.0 s.0.1) (λ body. Ok (bytes body.0, body.1)) (p, rest) s.2 in
    let t = varint_at_took text s.0.0 s.0.1 s.1 in
    let b = front_took Truncated s.0.0 s.0.1 u.0.0 u.0.1 u.1 in
    let size : IsVarint t.0 (length u.0.0) = subst (λ (n : ℕ). IsVarint t.0 n) (sym b.1) t.1 in
    subst (λ (x : Payload × List ℕ). TakenField 2 text x.0 x.1) (ok_is {E = WireRefusal} (bytes u.0.0, u.0.1) (p, rest) u.2)
    (record {
      front = t.0 ++ u.0.0;
      parts = parts_then text t.0 s.0.1 u.0.0 u.0.1 t.2 b.0;
      is_payload = (t.0, size, refl);
      is_type = refl;
    })

of_type : (k type : ℕ) (text : List ℕ) (p : Payload) (rest : List ℕ) → eqb type k ≡ true → TakenField k text p rest → TakenField type text p rest
of_type k type text p rest e h = subst (λ (n : ℕ). TakenField n text p rest) (sym (eqb-true type k e)) h

pub payload_took : (type : ℕ) (text : List ℕ) (p : Payload) (rest : List ℕ) → payload_at type text ≡ Ok (p, rest) → TakenField type text p rest
unfolding payload_at
payload_took type text p rest e =
    let last : Result (Payload × List ℕ) WireRefusal = Err BadWireType in
    let by_five = cond (eqb type 5) (fixed_payload 4 four text) last in
    let by_two = cond (eqb type 2) (bytes_payload text) by_five in
    let by_one = cond (eqb type 1) (fixed_payload 8 eight text) by_two in
    elim (chosen (eqb type 0) (number_payload text) by_one (Ok (p, rest)) e) [
      | inl a ↦ of_type 0 type text p rest a.0 (held_varint text p rest a.1)
      | inr a' ↦ elim (chosen (eqb type 1) (fixed_payload 8 eight text) by_two (Ok (p, rest)) a'.1) [
        | inl b ↦ of_type 1 type text p rest b.0 (held_fixed 1 8 eight text p rest refl (λ front len. len) b.1)
        | inr b' ↦ elim (chosen (eqb type 2) (bytes_payload text) by_five (Ok (p, rest)) b'.1) [
          | inl c ↦ of_type 2 type text p rest c.0 (held_bytes text p rest c.1)
          | inr c' ↦ elim (chosen (eqb type 5) (fixed_payload 4 four text) last (Ok (p, rest)) c'.1) [
            | inl d ↦ of_type 5 type text p rest d.0 (held_fixed 5 4 four text p rest refl (λ front len. len) d.1)
            | inr d' ↦ absurd (let g = d'.1 in cc)
          ]
        ]
      ]
    ]

pub payload_again : (p : Payload) (front rest : List ℕ) → IsPayload p front → payload_at (wire_type p) (front ++ rest) ≡ Ok (p, rest)
unfolding payload_at
payload_again (varint n) front rest is = rw (varint_at_again front n rest is) refl
payload_again eight front rest is = rw (front_of_length Truncated 8 front rest is) refl
payload_again (bytes body) front rest is =
    let regrouped : front ++ rest ≡ is.0 ++ (body ++ rest) = ap (λ (x : List ℕ). x ++ rest) is.2 ∙ append_assoc is.0 body rest in
    ap (payload_at 2) regrouped ∙ rw (varint_at_again is.0 (length body) (body ++ rest) is.1, front_again Truncated body rest) refl
payload_again four front rest is = rw (front_of_length Truncated 4 front rest is) refl

-- ---- a field

AreGroups-not_nil : (front : List ℕ) (n : ℕ) → IsVarint front n → 1 ≤ length front
AreGroups-not_nil [] n is = absurd is.groups
AreGroups-not_nil (b ∷ bs) n is = omega arith

-- a field that was read
pub record FieldTook (text : List ℕ) (e : Entry) (rest : List ℕ) : Type 0 where
  pub front : List ℕ
  pub parts : text ≡ front ++ rest
  pub is_field : IsField (record { entry = e; text = front })
  pub long : 1 ≤ length front

field_of_parts : (text : List ℕ) (tag : ℕ) (front middle : List ℕ) (p : Payload) (value rest : List ℕ) → IsVarint front tag → text ≡ front ++ middle → middle ≡ value ++ rest → IsPayload p value
    → tag % 8 ≡ wire_type p → (tag / 8 ≡ 0 → ⊥) → tag / 8 < 2 ^ 29 → FieldTook text (record { number = tag / 8; payload = p }) rest
field_of_parts text tag front middle p value rest is first second is_payload is_type some small =
    let whole : tag ≡ 8 * (tag / 8) + wire_type p = omega (arith, is_type) in
    record {
      front = front ++ value;
      parts = parts_then text front middle value rest first second;
      is_field = record {
        positive = omega arith;
        small = small;
        tag = front;
        value = value;
        is_tag = subst (λ (n : ℕ). IsVarint front n) whole is;
        is_value = is_payload;
        parts = refl;
      };
      long = omega (arith, length-append front value, AreGroups-not_nil front tag is);
    }

pub field_took : (text : List ℕ) (e : Entry) (rest : List ℕ) → field_at text ≡ Ok (e, rest) → FieldTook text e rest
unfolding field_at
field_took text e rest h =
    let s = bind_ok (varint_at text) (λ tag. cond (eqb (tag.0 / 8) 0 || leb (2 ^ 29) (tag.0 / 8)) (Err BadFieldNumber) (payload_at (tag.0 % 8) tag.1 >>= λ value. Ok (record { number = tag.0 / 8; payload = value.0 }, value.1))) (e, rest) h in
    let tag = s.0.0 in
    let t = varint_at_took text tag s.0.1 s.1 in
    let g = guard_ok (eqb (tag / 8) 0 || leb (2 ^ 29) (tag / 8)) BadFieldNumber (payload_at (tag % 8) s.0.1 >>= λ value. Ok (record { number = tag / 8; payload = value.0 }, value.1)) (e, rest) s.2 in
    let both = or_parts (eqb (tag / 8) 0) (leb (2 ^ 29) (tag / 8)) g.0 in
    let u = bind_ok (payload_at (tag % 8) s.0.1) (λ value. Ok (record { number = tag / 8; payload = value.0 }, value.1)) (e, rest) g.1 in
    let v = payload_took (tag % 8) s.0.1 u.0.0 u.0.1 u.1 in
    let made : Entry × List ℕ = (record { number = tag / 8; payload = u.0.0 }, u.0.1) in
    subst (λ (x : Entry × List ℕ). FieldTook text x.0 x.1) (ok_is {E = WireRefusal} made (e, rest) u.2)
    (field_of_parts text tag t.0 s.0.1 u.0.0 v.front u.0.1 t.1 t.2 v.parts v.is_payload v.is_type (eqb-false (tag / 8) 0 both.0) (leb-false (2 ^ 29) (tag / 8) both.1))

type_below : (p : Payload) → wire_type p < 8
type_below (varint n) = omega arith
type_below eight = omega arith
type_below (bytes body) = omega arith
type_below four = omega arith

pub field_again : (f : Spelled) (rest : List ℕ) → IsField f → field_at (f.text ++ rest) ≡ Ok (f.entry, rest)
unfolding field_at
field_again f rest is =
    let n = f.entry.number in
    let type = wire_type f.entry.payload in
    let below = type_below f.entry.payload in
    let quotient : (8 * n + type) / 8 ≡ n = omega (arith, below) in
    let remainder : (8 * n + type) % 8 ≡ type = omega (arith, below) in
    let some : eqb n 0 ≡ false = ne_eqb n 0 (λ z. omega (arith, is.positive)) in
    let small : leb (2 ^ 29) n ≡ false = lt-leb (2 ^ 29) n is.small in
    let regrouped : f.text ++ rest ≡ is.tag ++ (is.value ++ rest) = ap (λ (x : List ℕ). x ++ rest) is.parts ∙ append_assoc is.tag is.value rest in
    ap field_at regrouped ∙ rw (varint_at_again is.tag (8 * n + type) (is.value ++ rest) is.is_tag, quotient, remainder, some, small, payload_again f.entry.payload is.value rest is.is_value) refl

pub IsField-long : (f : Spelled) → IsField f → 1 ≤ length f.text
IsField-long f is = omega (arith, ap length is.parts, length-append is.tag is.value, AreGroups-not_nil is.tag _ is.is_tag)

-- ---- a field with its bytes

front_is : (front rest : List ℕ) → take (length (front ++ rest) - length rest) (front ++ rest) ≡ front
front_is front rest = take_at front rest (length (front ++ rest) - length rest) (omega (arith, length-append front rest))

front_of : (text front rest : List ℕ) → text ≡ front ++ rest → take (length text - length rest) text ≡ front
front_of text front rest e = rw e (front_is front rest)

pub spelled_took : (text : List ℕ) (f : Spelled) (rest : List ℕ) → spelled_at text ≡ Ok (f, rest) → (text ≡ f.text ++ rest) × IsField f × (field_at text ≡ Ok (f.entry, rest))
unfolding spelled_at
spelled_took text f rest h =
    let s = bind_ok (field_at text) (λ field. Ok (record { entry = field.0; text = take (length text - length field.1) text }, field.1)) (f, rest) h in
    let t = field_took text s.0.0 s.0.1 s.1 in
    let own : take (length text - length s.0.1) text ≡ t.front = front_of text t.front s.0.1 t.parts in
    let made : Spelled × List ℕ = (record { entry = s.0.0; text = t.front }, s.0.1) in
    let read : Spelled × List ℕ = (record { entry = s.0.0; text = take (length text - length s.0.1) text }, s.0.1) in
    let same : made ≡ read = ap (λ (x : List ℕ). (record { entry = s.0.0; text = x }, s.0.1)) (sym own) in
    subst (λ (x : Spelled × List ℕ). (text ≡ x.0.text ++ x.1) × IsField x.0 × (field_at text ≡ Ok (x.0.entry, x.1))) (same ∙ ok_is {E = WireRefusal} read (f, rest) s.2) (t.parts, t.is_field, s.1)

pub spelled_again : (f : Spelled) (rest : List ℕ) → IsField f → spelled_at (f.text ++ rest) ≡ Ok (f, rest)
unfolding spelled_at
spelled_again f rest is =
    rw (field_again f rest is) (ap (λ (x : List ℕ). Ok (record { entry = f.entry; text = x }, rest)) (front_is f.text rest))

-- ---- all fields

pub fields_in_took : (limit : ℕ) (text : List ℕ) (fs : List Spelled) → length text ≤ limit → fields_in limit text ≡ Ok fs → AreFields text fs
unfolding fields_in
fields_in_took zero [] fs fits e = subst (λ (x : List Spelled). AreFields [] x) (ok_is {E = WireRefusal} [] fs e) (record { each = tt; joined = refl })
fields_in_took (suc limit) [] fs fits e = subst (λ (x : List Spelled). AreFields [] x) (ok_is {E = WireRefusal} [] fs e) (record { each = tt; joined = refl })
fields_in_took zero (b ∷ bs) fs fits e = absurd (omega arith)
fields_in_took (suc limit) (b ∷ bs) fs fits e =
    let s = bind_ok (spelled_at (b ∷ bs)) (λ first. fields_in limit first.1 >>= λ others. Ok (first.0 ∷ others)) fs e in
    let u = bind_ok (fields_in limit s.0.1) (λ others. Ok (s.0.0 ∷ others)) fs s.2 in
    let t = spelled_took (b ∷ bs) s.0.0 s.0.1 s.1 in
    let less : length s.0.1 ≤ limit = omega (arith, ap length t.0, length-append s.0.0.text s.0.1, IsField-long s.0.0 t.1) in
    let rest = fields_in_took limit s.0.1 u.0 less u.1 in
    subst (λ (x : List Spelled). AreFields (b ∷ bs) x) (ok_is {E = WireRefusal} (s.0.0 ∷ u.0) fs u.2)
    (record { each = (t.1, rest.each); joined = t.0 ∙ ap (λ (x : List ℕ). s.0.0.text ++ x) rest.joined })

fields_in_some : (limit : ℕ) (text : List ℕ) → 1 ≤ length text → fields_in (suc limit) text ≡ (spelled_at text >>= λ first. fields_in limit first.1 >>= λ others. Ok (first.0 ∷ others))
unfolding fields_in
fields_in_some limit [] long = absurd (omega arith)
fields_in_some limit (b ∷ bs) long = refl

pub fields_in_again : (limit : ℕ) (fs : List Spelled) → AllByRecursion IsField fs → length (message fs) ≤ limit → fields_in limit (message fs) ≡ Ok fs
unfolding fields_in
fields_in_again zero [] each fits = refl
fields_in_again (suc limit) [] each fits = refl
fields_in_again zero (f ∷ fs) each fits = absurd (omega (arith, length-append f.text (message fs), IsField-long f each.0))
fields_in_again (suc limit) (f ∷ fs) each fits =
    let rest = message fs in
    let long = IsField-long f each.0 in
    let count = length-append f.text rest in
    let others = fields_in_again limit fs each.1 (omega (arith, fits, count, long)) in
    fields_in_some limit (f.text ++ rest) (omega (arith, count, long)) ∙ rw (spelled_again f rest each.0, others) refl

-- any two limits of at least the length give the same fields
fields_in_same : (m n : ℕ) (text : List ℕ) → length text ≤ m → length text ≤ n → fields_in m text ≡ fields_in n text
unfolding fields_in
fields_in_same zero zero text a b = refl
fields_in_same zero (suc n) [] a b = refl
fields_in_same (suc m) zero [] a b = refl
fields_in_same (suc m) (suc n) [] a b = refl
fields_in_same zero (suc n) (x ∷ text) a b = absurd (omega arith)
fields_in_same (suc m) zero (x ∷ text) a b = absurd (omega arith)
fields_in_same (suc m) (suc n) (x ∷ text) a b =
    fields_then_same m n (x ∷ text) (spelled_at (x ∷ text)) refl a b (λ rest p q. fields_in_same m n rest p q)
  where
    fields_then_same : (m n : ℕ) (text : List ℕ) (read : Result (Spelled × List ℕ) WireRefusal) → spelled_at text ≡ read → length text ≤ suc m → length text ≤ suc n
        → ((rest : List ℕ) → length rest ≤ m → length rest ≤ n → fields_in m rest ≡ fields_in n rest)
        → (read >>= λ first. fields_in m first.1 >>= λ others. Ok (first.0 ∷ others)) ≡ (read >>= λ first. fields_in n first.1 >>= λ others. Ok (first.0 ∷ others))
    fields_then_same m n text (Ok x) e a b again =
        let t = spelled_took text x.0 x.1 e in
        rw (again x.1 (omega (arith, ap length t.0, length-append x.0.text x.1, IsField-long x.0 t.1)) (omega (arith, ap length t.0, length-append x.0.text x.1, IsField-long x.0 t.1))) refl
    fields_then_same m n text (Err d) e a b again = refl

rest_then_same : (k : ℕ) (text : List ℕ) (read : Result (Spelled × List ℕ) WireRefusal) → spelled_at text ≡ read → length text ≤ suc k
    → (read >>= λ first. fields_in k first.1 >>= λ others. Ok (first.0 ∷ others)) ≡ (read >>= λ first. fields_of first.1 >>= λ others. Ok (first.0 ∷ others))
unfolding fields_of
rest_then_same k text (Ok x) e fits =
    let t = spelled_took text x.0 x.1 e in
    rw (fields_in_same k (length x.1) x.1 (omega (arith, ap length t.0, length-append x.0.text x.1, IsField-long x.0 t.1)) (omega arith)) refl
rest_then_same k text (Err d) e fits = refl

-- the fields of a text that isn't empty: the first one, and those of what follows it
pub fields_of_some : (text : List ℕ) → 1 ≤ length text → fields_of text ≡ (spelled_at text >>= λ first. fields_of first.1 >>= λ others. Ok (first.0 ∷ others))
unfolding fields_of
fields_of_some [] long = absurd (omega arith)
fields_of_some (b ∷ bs) long = fields_in_some (length bs) (b ∷ bs) long ∙ rest_then_same (length bs) (b ∷ bs) (spelled_at (b ∷ bs)) refl (omega arith)

pub fields_took : (text : List ℕ) (fs : List Spelled) → fields_of text ≡ Ok fs → AreFields text fs
unfolding fields_of
fields_took text fs e = fields_in_took (length text) text fs (omega arith) e

pub fields_again : (text : List ℕ) (fs : List Spelled) → AreFields text fs → fields_of text ≡ Ok fs
unfolding fields_of
fields_again text fs are =
    rw are.joined (fields_in_again (length (message fs)) fs are.each (omega arith))

spelled_fault : (text : List ℕ) (d : WireRefusal) → spelled_at text ≡ Err d → field_at text ≡ Err d
unfolding spelled_at
spelled_fault text d e =
    elim (bind_err (field_at text) (λ field. Ok (record { entry = field.0; text = take (length text - length field.1) text }, field.1)) d e) [
      | inl f ↦ f
      | inr x ↦ absurd (let g = x.2 in cc)
    ]

fields_in_fault : (limit : ℕ) (text : List ℕ) (d : WireRefusal) → length text ≤ limit → fields_in limit text ≡ Err d → Faulted text d
unfolding fields_in
fields_in_fault zero [] d fits e = absurd cc
fields_in_fault (suc limit) [] d fits e = absurd cc
fields_in_fault zero (b ∷ bs) d fits e = absurd cc
fields_in_fault (suc limit) (b ∷ bs) d fits e =
    elim (bind_err (spelled_at (b ∷ bs)) (λ first. fields_in limit first.1 >>= λ others. Ok (first.0 ∷ others)) d e) [
      | inl f ↦ record { before = []; rest = b ∷ bs; each = tt; parts = refl; fault = spelled_fault (b ∷ bs) d f }
      | inr s ↦ elim (bind_err (fields_in limit s.0.1) (λ others. Ok (s.0.0 ∷ others)) d s.2) [
        | inl f ↦
            let t = spelled_took (b ∷ bs) s.0.0 s.0.1 s.1 in
            let less : length s.0.1 ≤ limit = omega (arith, ap length t.0, length-append s.0.0.text s.0.1, IsField-long s.0.0 t.1) in
            let others = fields_in_fault limit s.0.1 d less f in
            record {
              before = s.0.0 ∷ others.before;
              rest = others.rest;
              each = (t.1, others.each);
              parts = parts_then (b ∷ bs) s.0.0.text s.0.1 (message others.before) others.rest t.0 others.parts;
              fault = others.fault;
            }
        | inr x ↦ absurd (let g = x.2 in cc)
      ]
    ]

pub fields_fault : (text : List ℕ) (d : WireRefusal) → fields_of text ≡ Err d → Faulted text d
unfolding fields_of
fields_fault text d e = fields_in_fault (length text) text d (omega arith) e
