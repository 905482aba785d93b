-- A varint is read exactly where the bytes spell it.
use Rattle.std.proofs.Common.{◌≡◌, ℕ, zero, suc, ◌+◌, ◌*◌, ◌%◌, ◌<◌, ◌≤◌, ◌^◌, ltb, List, [], ◌∷◌, ◌++◌, length, Ok, Err, refl, sym, ap, subst, ◌∙◌, arith, inl, inr}
use Rattle.std.proofs.lemmas.Bool.{ltb-true, ltb-false, lt-ltb, le-ltb}
use Rattle.std.proofs.Math.Nat.{pow-suc}
use Rattle.protowire.specs.declared.refusal.WireRefusal.{WireRefusal}
use Rattle.protowire.specs.declared.refusal.WireRefusal.TheVariants.{VarintTooLong}
use Rattle.protowire.specs.Varints.{number_of, AreGroups, IsVarint}
use Rattle.codec.specs.Steps.{◌>>=◌}
use Rattle.protowire.specs.Reading.{varint_in, varint_at}
use Rattle.codec.proofs.Steps.{bind_ok, chosen, ok_is}

-- the bytes that reading took, with at most `places` before the last
pub record Took (places : ℕ) (text : List ℕ) (n : ℕ) (rest : List ℕ) : Type 0 where
  pub front : List ℕ
  pub parts : text ≡ front ++ rest
  pub groups : AreGroups front
  pub short : length front ≤ suc places
  pub value : n ≡ number_of front
  pub fits : n < 2 * 128 ^ places

-- one group before others
pub AreGroups-more : (b : ℕ) (bs : List ℕ) → 128 ≤ b → AreGroups bs → AreGroups (b ∷ bs)
AreGroups-more b [] top groups = absurd groups
AreGroups-more b (c ∷ bs) top groups = (top, groups)

last_took : (places b : ℕ) (bs : List ℕ) (n : ℕ) (rest : List ℕ) → b < 128 → b < 2 * 128 ^ places → ◌≡◌ {A = ℕ × List ℕ} (b, bs) (n, rest) → Took places (b ∷ bs) n rest
last_took places b bs n rest small fits e =
    let n-is : b ≡ n = ap (λ (p : ℕ × List ℕ). p.0) e in
    let rest-is : bs ≡ rest = ap (λ (p : ℕ × List ℕ). p.1) e in
    record { front = b ∷ []; parts = ap (λ (t : List ℕ). b ∷ t) rest-is; groups = small; short = omega arith; value = omega arith; fits = omega arith }

one_le_pow : (k : ℕ) → 1 ≤ 128 ^ k
one_le_pow zero = omega arith
one_le_pow (suc k) = rw pow-suc (omega (arith, one_le_pow k))

pub varint_took : (places : ℕ) (text : List ℕ) (n : ℕ) (rest : List ℕ) → varint_in places text ≡ Ok (n, rest) → Took places text n rest
unfolding varint_in
varint_took zero [] n rest e = absurd cc
varint_took (suc places) [] n rest e = absurd cc
varint_took zero (b ∷ bs) n rest e =
    elim (chosen (ltb b 2) (Ok (b, bs)) (Err VarintTooLong) (Ok (n, rest)) e) [
      | inl t ↦ let lt = ltb-true b 2 t.0 in last_took zero b bs n rest (omega arith) (omega arith) (ok_is {E = WireRefusal} (b, bs) (n, rest) t.1)
      | inr f ↦ absurd (let g = f.1 in cc)
    ]
varint_took (suc places) (b ∷ bs) n rest e =
    elim (chosen (ltb b 128) (Ok (b, bs)) (varint_in places bs >>= λ high. Ok (b % 128 + 128 * high.0, high.1)) (Ok (n, rest)) e) [
      | inl t ↦
          let lt = ltb-true b 128 t.0 in
          let one = one_le_pow places in
          last_took (suc places) b bs n rest lt (rw pow-suc (omega arith)) (ok_is {E = WireRefusal} (b, bs) (n, rest) t.1)
      | inr f ↦
          let top = ltb-false b 128 f.0 in
          let s = bind_ok (varint_in places bs) (λ high. Ok (b % 128 + 128 * high.0, high.1)) (n, rest) f.1 in
          let t = varint_took places bs s.0.0 s.0.1 s.1 in
          let made = ok_is {E = WireRefusal} (b % 128 + 128 * s.0.0, s.0.1) (n, rest) s.2 in
          let n-is : b % 128 + 128 * s.0.0 ≡ n = ap (λ (p : ℕ × List ℕ). p.0) made in
          let rest-is : s.0.1 ≡ rest = ap (λ (p : ℕ × List ℕ). p.1) made in
          record {
            front = b ∷ t.front;
            parts = ap (λ (x : List ℕ). b ∷ x) (t.parts ∙ ap (λ (x : List ℕ). t.front ++ x) rest-is);
            groups = AreGroups-more b t.front top t.groups;
            short = omega (arith, t.short);
            value = sym n-is ∙ ap (λ (h : ℕ). b % 128 + 128 * h) t.value;
            fits = rw pow-suc (omega (arith, t.fits));
          }
    ]

pub varint_again : (places : ℕ) (front rest : List ℕ) → AreGroups front → length front ≤ suc places → number_of front < 2 * 128 ^ places → varint_in places (front ++ rest) ≡ Ok (number_of front, rest)
unfolding varint_in
varint_again places [] rest groups short fits = absurd groups
varint_again zero (b ∷ []) rest groups short fits =
    let is : b % 128 + 128 * 0 ≡ b = omega arith in
    rw (lt-ltb b 2 (omega arith), is) refl
varint_again zero (b ∷ c ∷ bs) rest groups short fits = absurd (omega arith)
varint_again (suc places) (b ∷ []) rest groups short fits =
    let is : b % 128 + 128 * 0 ≡ b = omega arith in
    rw (lt-ltb b 128 groups, is) refl
varint_again (suc places) (b ∷ c ∷ bs) rest groups short fits =
    let bound : number_of (b ∷ c ∷ bs) < 2 * (128 ^ places * 128) = rw pow-suc at fits in
    rw (le-ltb b 128 groups.0, varint_again places (c ∷ bs) rest groups.1 (omega arith) (omega (arith, bound))) refl

-- a whole varint
pub varint_at_took : (text : List ℕ) (n : ℕ) (rest : List ℕ) → varint_at text ≡ Ok (n, rest) → (front : List ℕ) × IsVarint front n × (text ≡ front ++ rest)
unfolding varint_at
varint_at_took text n rest e =
    let t = varint_took 9 text n rest e in
    (t.front, record { groups = t.groups; short = t.short; value = t.value; fits = t.fits }, t.parts)

pub varint_at_again : (front : List ℕ) (n : ℕ) (rest : List ℕ) → IsVarint front n → varint_at (front ++ rest) ≡ Ok (n, rest)
unfolding varint_at
varint_at_again front n rest is =
    let fits : number_of front < 2 * 128 ^ 9 = subst (λ (m : ℕ). m < 2 ^ 64) is.value is.fits in
    varint_again 9 front rest is.groups is.short fits ∙ ap (λ (m : ℕ). Ok (m, rest)) (sym is.value)
