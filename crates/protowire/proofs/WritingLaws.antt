-- What is written is a field, in its shortest spelling.
use Rattle.std.proofs.Common.{◌≡◌, ℕ, zero, suc, ◌+◌, ◌*◌, ◌/◌, ◌%◌, ◌<◌, ◌≤◌, ◌^◌, List, [], ◌∷◌, ◌++◌, length, refl, subst, arith, inl, inr}
use Rattle.std.proofs.lemmas.Bool.{cases_lt, lt-ltb, le-ltb}
use Rattle.std.proofs.Math.Nat.{pow-suc}
use Rattle.protowire.specs.Varints.{number_of, AreGroups, IsVarint}
use Rattle.protowire.specs.Fields.{IsField}
use Rattle.protowire.specs.Writing.{minimal_in, minimal, spelled_varint, spelled_bytes}
use Rattle.protowire.proofs.VarintLaws.{AreGroups-more}

-- what a number's groups are
record Groups (places n : ℕ) (text : List ℕ) : Type 0 where
  groups : AreGroups text
  short : length text ≤ suc places
  value : n ≡ number_of text

minimal_groups : (places n : ℕ) → n < 2 * 128 ^ places → Groups places n (minimal_in places n)
unfolding minimal_in
minimal_groups zero n fits = record { groups = omega arith; short = omega arith; value = omega arith }
minimal_groups (suc places) n fits =
    elim (cases_lt n 128) [
      | inl small ↦ rw (lt-ltb n 128 small) (record { groups = small; short = omega arith; value = omega arith })
      | inr great ↦
          let wide : n < 2 * (128 ^ places * 128) = rw pow-suc at fits in
          let high = minimal_groups places (n / 128) (omega (arith, wide)) in
          rw (le-ltb n 128 great) (record {
            groups = AreGroups-more (n % 128 + 128) (minimal_in places (n / 128)) (omega arith) high.groups;
            short = omega (arith, high.short);
            value = omega (arith, high.value);
          })
    ]

pub minimal_is : (n : ℕ) → n < 2 ^ 64 → IsVarint (minimal n) n
unfolding minimal
minimal_is n fits =
    let g = minimal_groups 9 n fits in
    record { groups = g.groups; short = g.short; value = g.value; fits = fits }

minimal_in_shortest : (places : ℕ) (text : List ℕ) → AreGroups text → length (minimal_in places (number_of text)) ≤ length text
unfolding minimal_in
minimal_in_shortest places [] groups = absurd groups
minimal_in_shortest zero (b ∷ bs) groups = omega arith
minimal_in_shortest (suc places) (b ∷ []) groups =
    let small : b % 128 + 128 * 0 < 128 = omega arith in
    rw (lt-ltb (b % 128 + 128 * 0) 128 small) (omega arith)
minimal_in_shortest (suc places) (b ∷ c ∷ bs) groups =
    elim (cases_lt (number_of (b ∷ c ∷ bs)) 128) [
      | inl small ↦ rw (lt-ltb (number_of (b ∷ c ∷ bs)) 128 small) (omega arith)
      | inr great ↦
          let high : number_of (b ∷ c ∷ bs) / 128 ≡ number_of (c ∷ bs) = omega arith in
          rw (le-ltb (number_of (b ∷ c ∷ bs)) 128 great, high) (omega (arith, minimal_in_shortest places (c ∷ bs) groups.1))
    ]

pub minimal_shortest : (text : List ℕ) (n : ℕ) → IsVarint text n → length (minimal n) ≤ length text
unfolding minimal
minimal_shortest text n is = rw is.value (minimal_in_shortest 9 text is.groups)

pub varint_is_field : (number n : ℕ) → 1 ≤ number → number < 2 ^ 29 → n < 2 ^ 64
    → IsField (spelled_varint number n)
varint_is_field number n positive small fits = record {
  positive = positive;
  small = small;
  tag = minimal (8 * number);
  value = minimal n;
  is_tag = subst (λ (tag : ℕ). IsVarint (minimal (8 * number)) tag) (omega arith) (minimal_is (8 * number) (omega arith));
  is_value = minimal_is n fits;
  parts = refl;
}

pub bytes_is_field : (number : ℕ) (body : List ℕ) → 1 ≤ number → number < 2 ^ 29 → length body < 2 ^ 64
    → IsField (spelled_bytes number body)
bytes_is_field number body positive small fits = record {
  positive = positive;
  small = small;
  tag = minimal (8 * number + 2);
  value = minimal (length body) ++ body;
  is_tag = minimal_is (8 * number + 2) (omega arith);
  is_value = (minimal (length body), minimal_is (length body) fits, refl);
  parts = refl;
}
