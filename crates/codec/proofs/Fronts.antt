-- What is read from the front is the spelling of a value, and the spelling of a value is read.
use Rattle.std.proofs.Common.{◌≡◌, ℕ, suc, ◌+◌, ◌^◌, ◌<◌, ◌≤◌, ltb, List, ◌∷◌, ◌++◌, length, take, drop, Ok, refl, sym, ap, subst, ◌∙◌, append_assoc, arith, inl, inr}
use Rattle.std.specs.Int.{Width, w32, w64, byte_len, from_be_bytes, to_be_bytes}
use Rattle.std.proofs.lemmas.Bool.{cases_lt, ltb-false, le-ltb}
use Rattle.std.proofs.lemmas.List.{take_at, drop_at, take-append-drop, length-append, length-take, get_or-drop, get_or-take, get_or_past}
use Rattle.std.proofs.lemmas.Nat.{be_bytes_4, be_bytes_8, from_be_bytes-to_be_bytes_4, from_be_bytes-to_be_bytes_8}
use Rattle.hex.specs.Hex.{IsBytes}
use Rattle.codec.specs.Steps.{front_or}
use Rattle.codec.proofs.Steps.{guard_ok, ok_is}

pub IsBytes-drop : (n : ℕ) (bytes : List ℕ) → IsBytes bytes → IsBytes (drop n bytes)
IsBytes-drop n bytes h i = rw get_or-drop (h (n + i))

pub IsBytes-take : (n : ℕ) (bytes : List ℕ) → IsBytes bytes → IsBytes (take n bytes)
IsBytes-take n bytes h i =
    elim (cases_lt i n) [
      | inl lt ↦ rw (get_or-take n bytes i 0 lt) (h i)
      | inr le ↦ rw (get_or_past (take n bytes) i 0 (omega (arith, length-take n bytes))) (omega arith)
    ]

pub IsBytes-rest : (b : ℕ) (bytes : List ℕ) → IsBytes (b ∷ bytes) → IsBytes bytes
IsBytes-rest b bytes h i = h (suc i)

-- two parts, one behind the other
pub parts_then : (text a middle b rest : List ℕ) → text ≡ a ++ middle → middle ≡ b ++ rest → text ≡ (a ++ b) ++ rest
parts_then text a middle b rest p q = p ∙ ap (λ (x : List ℕ). a ++ x) q ∙ sym (append_assoc a b rest)

-- what a reader took from the front
pub record Takes (bytes text rest : List ℕ) : Type 0 where
  pub parts : bytes ≡ text ++ rest
  pub rest_fits : IsBytes rest

pub Takes-then : (a x b y c : List ℕ) → Takes a x b → Takes b y c → Takes a (x ++ y) c
Takes-then a x b y c p q = record { parts = parts_then a x b y c p.parts q.parts; rest_fits = q.rest_fits }

-- ---- the first len bytes

pub front_took : {E : Type 0} (short : E) (len : ℕ) (bytes front rest : List ℕ) → front_or short len bytes ≡ Ok (front, rest) → (bytes ≡ front ++ rest) × (length front ≡ len)
front_took {E} short len bytes front rest e =
    let g = guard_ok (ltb (length bytes) len) short (Ok (take len bytes, drop len bytes)) (front, rest) e in
    let long : len ≤ length bytes = ltb-false _ _ g.0 in
    subst (λ (p : List ℕ × List ℕ). (bytes ≡ p.0 ++ p.1) × (length p.0 ≡ len)) (ok_is {E = E} (take len bytes, drop len bytes) (front, rest) g.1)
    (sym (take-append-drop len bytes), omega (arith, length-take len bytes))

pub IsBytes-front : (front rest : List ℕ) → IsBytes (front ++ rest) → IsBytes front
IsBytes-front front rest h = subst IsBytes (take_at front rest (length front) refl) (IsBytes-take (length front) (front ++ rest) h)

pub IsBytes-behind : (front rest : List ℕ) → IsBytes (front ++ rest) → IsBytes rest
IsBytes-behind front rest h = subst IsBytes (drop_at front rest (length front) refl) (IsBytes-drop (length front) (front ++ rest) h)

pub front_takes : {E : Type 0} (short : E) (len : ℕ) (bytes front rest : List ℕ) → IsBytes bytes → front_or short len bytes ≡ Ok (front, rest) → Takes bytes front rest × (length front ≡ len) × IsBytes front
front_takes short len bytes front rest fits e =
    let t = front_took short len bytes front rest e in
    let all : IsBytes (front ++ rest) = subst IsBytes t.0 fits in
    (record { parts = t.0; rest_fits = IsBytes-behind front rest all }, t.1, IsBytes-front front rest all)

pub front_again : {E : Type 0} (short : E) (front rest : List ℕ) → front_or short (length front) (front ++ rest) ≡ Ok (front, rest)
front_again short front rest =
    let long = le-ltb (length (front ++ rest)) (length front) (omega (arith, length-append front rest)) in
    rw (long, take_at front rest (length front) refl, drop_at front rest (length front) refl) refl

-- the same where the length is given
pub front_of_length : {E : Type 0} (short : E) (len : ℕ) (front rest : List ℕ) → length front ≡ len → front_or short len (front ++ rest) ≡ Ok (front, rest)
front_of_length short len front rest is = ap (λ (k : ℕ). front_or short k (front ++ rest)) (sym is) ∙ front_again short front rest

-- ---- numbers, big endian

pub record IsWide (w : Width) (limit : ℕ) : Type 0 where
  pub len : (n : ℕ) → length (to_be_bytes w n) ≡ byte_len w
  pub back : (bytes : List ℕ) → length bytes ≡ byte_len w → IsBytes bytes → to_be_bytes w (from_be_bytes w bytes) ≡ bytes
  pub again : (n : ℕ) → n < limit → from_be_bytes w (to_be_bytes w n) ≡ n

pub wide32 : IsWide w32 (2 ^ 32)
wide32 = record {
  len = λ n. refl;
  back = λ bytes len fits. be_bytes_4 bytes _ len fits refl;
  again = λ n lt. from_be_bytes-to_be_bytes_4 n lt;
}

pub wide64 : IsWide w64 (2 ^ 64)
wide64 = record {
  len = λ n. refl;
  back = λ bytes len fits. be_bytes_8 bytes _ len fits refl;
  again = λ n lt. from_be_bytes-to_be_bytes_8 n lt;
}
