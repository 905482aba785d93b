-- Reading a varint byte by byte, as the loop does.
use Rattle.std.proofs.Common.{◌≡◌, ℕ, suc, ◌+◌, ◌-◌, ◌*◌, ◌%◌, ◌<◌, ◌≤◌, List, length, get_or, take, drop, Result, Ok, Err, refl, sym, ap, ◌∙◌, arith, mod-eq_of_lt}
use Rattle.std.proofs.lemmas.Bool.{lt-ltb, le-ltb}
use Rattle.std.proofs.lemmas.List.{drop_more, drop_all, take_rest}
use Rattle.std.proofs.Math.Nat.{mul_comm}
use Rattle.protowire.specs.declared.refusal.WireRefusal.{WireRefusal}
use Rattle.protowire.specs.declared.refusal.WireRefusal.TheVariants.{Truncated, VarintTooLong}
use Rattle.codec.specs.Steps.{◌>>=◌}
use Rattle.protowire.specs.Reading.{varint_in}

-- the groups that were read, and the number that is still read
abbrev pub with_low : ℕ → ℕ → Result (ℕ × List ℕ) WireRefusal → Result (ℕ × List ℕ) WireRefusal
with_low low weight read = read >>= λ high. Ok (low + weight * high.0, high.1)

pub starts : (read : Result (ℕ × List ℕ) WireRefusal) → with_low 0 1 read ≡ read
starts (Ok x) = ap (λ (n : ℕ). Ok (n, x.1)) (omega arith)
starts (Err e) = refl

group : (b low weight : ℕ) (read : Result (ℕ × List ℕ) WireRefusal)
    → with_low low weight (read >>= λ high. Ok (b % 128 + 128 * high.0, high.1)) ≡ with_low (low + b % 128 * weight) (weight * 128) read
group b low weight (Ok x) = ap (λ (n : ℕ). Ok (n, x.1)) (omega arith)
group b low weight (Err e) = refl

pub goes_on : (bytes : List ℕ) (place low weight : ℕ) (total : Result (ℕ × List ℕ) WireRefusal) → place < length bytes → place < 9 → 128 ≤ get_or bytes place 0
    → with_low low weight (varint_in (9 - place) (drop place bytes)) ≡ total
    → with_low (low + get_or bytes place 0 % 128 * weight) (weight * 128) (varint_in (9 - (place + 1)) (drop (place + 1) bytes)) ≡ total
unfolding varint_in
goes_on bytes place low weight total lt early top so_far =
    let k : 9 - place ≡ suc (9 - (place + 1)) = omega arith in
    let test = le-ltb (get_or bytes place 0) 128 top in
    let here : with_low low weight (varint_in (9 - place) (drop place bytes)) ≡ with_low (low + get_or bytes place 0 % 128 * weight) (weight * 128) (varint_in (9 - (place + 1)) (drop (place + 1) bytes)) =
    rw (k, drop_more bytes place 0 lt, test) (group (get_or bytes place 0) low weight (varint_in (9 - (place + 1)) (drop (place + 1) bytes))) in
    sym here ∙ so_far

pub ends_tenth : (bytes : List ℕ) (place low weight : ℕ) (total : Result (ℕ × List ℕ) WireRefusal) → place < length bytes → place ≡ 9 → get_or bytes place 0 < 2
    → with_low low weight (varint_in (9 - place) (drop place bytes)) ≡ total
    → Ok (low + get_or bytes place 0 * weight, take (length bytes - (place + 1)) (drop (place + 1) bytes)) ≡ total
unfolding varint_in
ends_tenth bytes place low weight total lt last small so_far =
    let k : 9 - place ≡ 0 = omega arith in
    let test = lt-ltb (get_or bytes place 0) 2 small in
    let commuted : weight * get_or bytes place 0 ≡ get_or bytes place 0 * weight = mul_comm weight (get_or bytes place 0) in
    let here : with_low low weight (varint_in (9 - place) (drop place bytes)) ≡ Ok (low + get_or bytes place 0 * weight, take (length bytes - (place + 1)) (drop (place + 1) bytes)) =
    rw (k, drop_more bytes place 0 lt, test, commuted, take_rest bytes (place + 1)) refl in
    sym here ∙ so_far

pub too_long : (bytes : List ℕ) (place low weight : ℕ) (total : Result (ℕ × List ℕ) WireRefusal) → place < length bytes → place ≡ 9 → 2 ≤ get_or bytes place 0
    → with_low low weight (varint_in (9 - place) (drop place bytes)) ≡ total → Err VarintTooLong ≡ total
unfolding varint_in
too_long bytes place low weight total lt last great so_far =
    let k : 9 - place ≡ 0 = omega arith in
    let test = le-ltb (get_or bytes place 0) 2 great in
    let here : with_low low weight (varint_in (9 - place) (drop place bytes)) ≡ Err VarintTooLong =
    rw (k, drop_more bytes place 0 lt, test) refl in
    sym here ∙ so_far

pub ends : (bytes : List ℕ) (place low weight : ℕ) (total : Result (ℕ × List ℕ) WireRefusal) → place < length bytes → place < 9 → get_or bytes place 0 < 128
    → with_low low weight (varint_in (9 - place) (drop place bytes)) ≡ total
    → Ok (low + get_or bytes place 0 % 128 * weight, take (length bytes - (place + 1)) (drop (place + 1) bytes)) ≡ total
unfolding varint_in
ends bytes place low weight total lt early small so_far =
    let k : 9 - place ≡ suc (8 - place) = omega arith in
    let test = lt-ltb (get_or bytes place 0) 128 small in
    let group_is : weight * get_or bytes place 0 ≡ get_or bytes place 0 % 128 * weight = rw (mod-eq_of_lt small) (mul_comm weight (get_or bytes place 0)) in
    let here : with_low low weight (varint_in (9 - place) (drop place bytes)) ≡ Ok (low + get_or bytes place 0 % 128 * weight, take (length bytes - (place + 1)) (drop (place + 1) bytes)) =
    rw (k, drop_more bytes place 0 lt, test, group_is, take_rest bytes (place + 1)) refl in
    sym here ∙ so_far

pub cut : (bytes : List ℕ) (place low weight : ℕ) (total : Result (ℕ × List ℕ) WireRefusal) → length bytes ≤ place
    → with_low low weight (varint_in (9 - place) (drop place bytes)) ≡ total → Err Truncated ≡ total
unfolding varint_in
cut bytes place low weight total past so_far =
    let here : with_low low weight (varint_in (9 - place) (drop place bytes)) ≡ Err Truncated =
    rw (drop_all place bytes past) refl in
    sym here ∙ so_far
