-- The rule that the newer entry is right.
use Rattle.std.proofs.Common.{◌≡◌, ℕ, zero, suc, ◌+◌, ◌/◌, ◌%◌, ◌^◌, ◌<◌, ◌≤◌, ◌⊎◌, inl, inr, Bool, true, false, cond, not, ◌&&◌, ◌||◌, List, [], ◌∷◌, ◌++◌, drop, Some, None, Ordering, refl, sym, ap, ◌∙◌, arith, append_assoc}
use Rattle.std.specs.Ordering.{is_lt, nat_cmp, ordering_reverse, ordering_then}
use Rattle.std.specs.declared.cmp.Ordering.TheVariants.{Less, Equal, Greater}
use Rattle.std.specs.Cmp.Lexicographic.{slice_cmp, nat_list_cmp_total}
use Rattle.std.proofs.lemmas.Bool.{cases_Bool}
use Rattle.std.proofs.lemmas.Bool.Decides.{nat_tests}
use Rattle.std.proofs.Math.Nat.{pow-suc}
use Rattle.std.proofs.lemmas.Map.Lookups.{exact_bytes}
use Rattle.merging.specs.declared.rule.Rule.TheVariants.{Newer}
use Rattle.merging.specs.declared.side.Side.{Side}
use Rattle.merging.specs.declared.side.Side.TheVariants.{Mine, Theirs}
use Rattle.merging.specs.Choices.{Three, of, other, same, entry_cmp, newer, chosen, is_contested, is_kept}
use Rattle.merging.specs.Listings.{Listing, Place, stands, is_directory}
use Rattle.merging.specs.Merging.{three_at, chosen_at, stands_below, merged_at, is_conflict_at}
use Rattle.merging.specs.Times.{in_digits, time_text}
use Rattle.merging.proofs.ChoiceLaws.{untouched, alone, agreed, contested, cases, same_true, same_of, taken}
use Rattle.merging.proofs.MergeLaws.{below_found, below_from, same_bool}

-- ---- the order of entries

then_reversed : (o p : Ordering) → ordering_then (ordering_reverse o) (ordering_reverse p) ≡ ordering_reverse (ordering_then o p)
then_reversed Less p = refl
then_reversed Equal p = refl
then_reversed Greater p = refl

then_equal : (o p : Ordering) → ordering_then o p ≡ Equal → p ≡ Equal
then_equal Less p h = absurd (cc)
then_equal Equal p h = h
then_equal Greater p h = absurd (cc)

entry_reversed : (x y : List ℕ) → entry_cmp y x ≡ ordering_reverse (entry_cmp x y)
entry_reversed x y =
    ap (λ (o : Ordering). ordering_then o (slice_cmp nat_cmp y x)) (nat_list_cmp_total.antisymm (drop 1 y) (drop 1 x))
    ∙ ap (λ (o : Ordering). ordering_then (ordering_reverse (slice_cmp nat_cmp (drop 1 x) (drop 1 y))) o) (nat_list_cmp_total.antisymm y x)
    ∙ then_reversed (slice_cmp nat_cmp (drop 1 x) (drop 1 y)) (slice_cmp nat_cmp x y)

entry_exact : (x y : List ℕ) → entry_cmp x y ≡ Equal → x ≡ y
entry_exact x y e = exact_bytes x y (then_equal (slice_cmp nat_cmp (drop 1 x) (drop 1 y)) (slice_cmp nat_cmp x y) e)

-- of two places that differ, the same one is newer from both sides
newer_turned : (a b : Place) → (a ≡ b → ⊥) → newer b a ≡ other (newer a b)
newer_turned None None ne = absurd (ne refl)
newer_turned None (Some y) ne = refl
newer_turned (Some x) None ne = refl
newer_turned (Some x) (Some y) ne = by_order (entry_cmp x y) refl
  where
    by_order : (o : Ordering) → entry_cmp x y ≡ o → newer (Some y) (Some x) ≡ other (newer (Some x) (Some y))
    by_order Less e = ap (λ (o : Ordering). cond (is_lt o) Mine Theirs) e ∙ sym (ap (λ (o : Ordering). other (cond (is_lt o) Mine Theirs)) (entry_reversed x y ∙ ap ordering_reverse e))
    by_order Greater e = ap (λ (o : Ordering). cond (is_lt o) Mine Theirs) e ∙ sym (ap (λ (o : Ordering). other (cond (is_lt o) Mine Theirs)) (entry_reversed x y ∙ ap ordering_reverse e))
    by_order Equal e = absurd (ne (ap (λ (z : List ℕ). let p : Place = Some z in p) (entry_exact x y e)))

-- ---- one path from both sides

abbrev swapped : Three → Three
swapped x = record { base = x.base; mine = x.theirs; theirs = x.mine }

abbrev left : Three → Place
left x = of (other (chosen Newer x)) x

turned : (x : Three) → (x.mine ≡ x.theirs) ⊎ (chosen Newer (swapped x) ≡ other (chosen Newer x))
turned x = elim (cases Newer x) [
  | untouched is ch ↦ elim (cases Newer (swapped x)) [
    | untouched is' ch' ↦ inl (is ∙ sym is')
    | alone ne' is' ch' ↦ inr (ch' ∙ sym (ap other ch))
    | agreed ne' nt' is' ch' ↦ inl (sym is')
    | contested ne' nt' nm' ch' co' ↦ absurd (nt' is)
  ]
  | alone ne is ch ↦ elim (cases Newer (swapped x)) [
    | untouched is' ch' ↦ inr (ch' ∙ sym (ap other ch))
    | alone ne' is' ch' ↦ absurd (ne is')
    | agreed ne' nt' is' ch' ↦ inl (sym is')
    | contested ne' nt' nm' ch' co' ↦ absurd (ne' is)
  ]
  | agreed ne nt is ch ↦ inl is
  | contested ne nt nm ch co ↦ elim (cases Newer (swapped x)) [
    | untouched is' ch' ↦ absurd (nt is')
    | alone ne' is' ch' ↦ absurd (ne is')
    | agreed ne' nt' is' ch' ↦ absurd (nm (sym is'))
    | contested ne' nt' nm' ch' co' ↦ inr (ch' ∙ newer_turned x.mine x.theirs nm ∙ sym (ap other ch))
  ]
]

of_turned : (s : Side) (x : Three) → of (other s) (swapped x) ≡ of s x
of_turned Mine x = refl
of_turned Theirs x = refl

all_one : (s s' : Side) (x : Three) → x.mine ≡ x.theirs → of s' (swapped x) ≡ of s x
all_one Mine Mine x e = sym e
all_one Mine Theirs x e = refl
all_one Theirs Mine x e = refl
all_one Theirs Theirs x e = e

taken_turned : (x : Three) → taken Newer (swapped x) ≡ taken Newer x
taken_turned x = elim (turned x) [
  | inl e ↦ all_one (chosen Newer x) (chosen Newer (swapped x)) x e
  | inr o ↦ ap (λ (s : Side). of s (swapped x)) o ∙ of_turned (chosen Newer x) x
]

left_turned : (x : Three) → left (swapped x) ≡ left x
left_turned x = elim (turned x) [
  | inl e ↦ all_one (other (chosen Newer x)) (other (chosen Newer (swapped x))) x e
  | inr o ↦ ap (λ (s : Side). of (other s) (swapped x)) o ∙ of_turned (other (chosen Newer x)) x
]

same_turned : (a b : Place) → same b a ≡ same a b
same_turned a b = same_bool (same b a) (same a b) (λ h. same_of a b (sym (same_true b a h))) (λ h. same_of b a (sym (same_true a b h)))

contest_turned : (p q r : Bool) → (not q && (not p && not r)) ≡ (not p && (not q && not r))
contest_turned true true r = refl
contest_turned true false r = refl
contest_turned false true r = refl
contest_turned false false r = refl

contested_turned : (x : Three) → is_contested (swapped x) ≡ is_contested x
contested_turned x =
    ap (λ (r : Bool). not (same x.theirs x.base) && (not (same x.mine x.base) && not r)) (same_turned x.mine x.theirs)
    ∙ contest_turned (same x.mine x.base) (same x.theirs x.base) (same x.mine x.theirs)

-- ---- all paths from both sides

below_turned : (base mine theirs : Listing) (dir : List ℕ) → stands_below Newer base theirs mine dir ≡ stands_below Newer base mine theirs dir
below_turned base mine theirs dir = same_bool (stands_below Newer base theirs mine dir) (stands_below Newer base mine theirs dir) to from
  where
    to : stands_below Newer base theirs mine dir ≡ true → stands_below Newer base mine theirs dir ≡ true
    to h =
        let one = below_found Newer base theirs mine dir h in
        below_from Newer base mine theirs dir one.0 one.1 (ap stands (sym (taken_turned (three_at base mine theirs one.0))) ∙ one.2)

    from : stands_below Newer base mine theirs dir ≡ true → stands_below Newer base theirs mine dir ≡ true
    from h =
        let one = below_found Newer base mine theirs dir h in
        below_from Newer base theirs mine dir one.0 one.1 (ap stands (taken_turned (three_at base mine theirs one.0)) ∙ one.2)

-- whether a directory stays, by what is taken and what is left
abbrev keeps : Bool → Place → Place → Bool
keeps below taken left = below && (not (is_directory taken) && is_directory left)

keeps_turned : (base mine theirs : Listing) (path : List ℕ)
    → is_kept (stands_below Newer base theirs mine path) (chosen_at Newer base theirs mine path) (three_at base theirs mine path)
    ≡ is_kept (stands_below Newer base mine theirs path) (chosen_at Newer base mine theirs path) (three_at base mine theirs path)
keeps_turned base mine theirs path =
    let x : Three = three_at base mine theirs path in
    ap (λ (b : Bool). keeps b (taken Newer (swapped x)) (left (swapped x))) (below_turned base mine theirs path)
    ∙ ap (λ (p : Place). keeps (stands_below Newer base mine theirs path) p (left (swapped x))) (taken_turned x)
    ∙ ap (λ (p : Place). keeps (stands_below Newer base mine theirs path) (taken Newer x) p) (left_turned x)

settles : (kept : Bool) (s : Side) (x : Three) → of (cond kept (other s) s) x ≡ cond kept (of (other s) x) (of s x)
settles true s x = refl
settles false s x = refl

pub merged_turned : (base mine theirs : Listing) (path : List ℕ) → merged_at Newer base mine theirs path ≡ merged_at Newer base theirs mine path
merged_turned base mine theirs path =
    let x : Three = three_at base mine theirs path in
    let kept : Bool = is_kept (stands_below Newer base mine theirs path) (chosen Newer x) x in
    let kept' : Bool = is_kept (stands_below Newer base theirs mine path) (chosen Newer (swapped x)) (swapped x) in
    let same : kept' ≡ kept = keeps_turned base mine theirs path in
    let ours : merged_at Newer base mine theirs path ≡ cond kept (left x) (taken Newer x) = settles kept (chosen Newer x) x in
    let others : merged_at Newer base theirs mine path ≡ cond kept' (left (swapped x)) (taken Newer (swapped x)) = settles kept' (chosen Newer (swapped x)) (swapped x) in
    ours
    ∙ sym (others ∙ ap (λ (b : Bool). let p : Place = cond b (left (swapped x)) (taken Newer (swapped x)) in p) same
    ∙ ap (λ (p : Place). let q : Place = cond kept p (taken Newer (swapped x)) in q) (left_turned x)
    ∙ ap (λ (p : Place). let q : Place = cond kept (left x) p in q) (taken_turned x))

pub conflict_turned : (base mine theirs : Listing) (path : List ℕ) → is_conflict_at Newer base mine theirs path ≡ is_conflict_at Newer base theirs mine path
conflict_turned base mine theirs path =
    let x : Three = three_at base mine theirs path in
    let kept : Bool = is_kept (stands_below Newer base mine theirs path) (chosen Newer x) x in
    sym (ap (λ (b : Bool). is_contested (swapped x) || b) (keeps_turned base mine theirs path) ∙ ap (λ (b : Bool). b || kept) (contested_turned x))

-- ---- times

byte_itself : (a : ℕ) → nat_cmp a a ≡ Equal
byte_itself a = grind (arith, nat_tests)

byte_less : (a b : ℕ) → a < b → nat_cmp a b ≡ Less
byte_less a b h = grind (arith, nat_tests)

same_front : (front r r' : List ℕ) → slice_cmp nat_cmp (front ++ r) (front ++ r') ≡ slice_cmp nat_cmp r r'
same_front [] r r' = refl
same_front (a ∷ front) r r' = ap (λ (o : Ordering). ordering_then o (slice_cmp nat_cmp (front ++ r) (front ++ r'))) (byte_itself a) ∙ same_front front r r'

less_or : (a b : ℕ) → (a < b) ⊎ (b ≤ a)
less_or a b = elim (cases_Bool (is_lt (nat_cmp a b))) [ inl h ↦ inl (grind (arith, nat_tests)) | inr h ↦ inr (grind (arith, nat_tests)) ]

-- of two numbers in as many digits the lesser one's text is less, whatever follows
digits_less : (count a b : ℕ) (r r' : List ℕ) → a < b → b < 10 ^ count → slice_cmp nat_cmp (in_digits count a ++ r) (in_digits count b ++ r') ≡ Less
unfolding in_digits
digits_less zero a b r r' h within = absurd (omega arith)
digits_less (suc count) a b r r' h within =
    let da : ℕ = 48 + a % 10 in
    let db : ℕ = 48 + b % 10 in
    let more = pow-suc 10 count in
    let fits : b / 10 < 10 ^ count = omega arith in
    let whole : slice_cmp nat_cmp (in_digits (suc count) a ++ r) (in_digits (suc count) b ++ r') ≡ slice_cmp nat_cmp (in_digits count (a / 10) ++ da ∷ r) (in_digits count (b / 10) ++ db ∷ r')
    = ap (λ (t : List ℕ). slice_cmp nat_cmp t (in_digits (suc count) b ++ r')) (append_assoc (in_digits count (a / 10)) (da ∷ []) r)
    ∙ ap (λ (t : List ℕ). slice_cmp nat_cmp (in_digits count (a / 10) ++ da ∷ r) t) (append_assoc (in_digits count (b / 10)) (db ∷ []) r') in
    elim (less_or (a / 10) (b / 10)) [
      | inl less ↦ whole ∙ digits_less count (a / 10) (b / 10) (da ∷ r) (db ∷ r') less fits
      | inr most ↦
          let even : a / 10 ≡ b / 10 = omega arith in
          let last : da < db = omega arith in
          whole ∙ ap (λ (n : ℕ). slice_cmp nat_cmp (in_digits count n ++ da ∷ r) (in_digits count (b / 10) ++ db ∷ r')) even
          ∙ same_front (in_digits count (b / 10)) (da ∷ r) (db ∷ r') ∙ ap (λ (o : Ordering). ordering_then o (slice_cmp nat_cmp r r')) (byte_less da db last)
    ]

abbrev timed : ℕ → ℕ → List ℕ → List ℕ
timed kind time rest = kind ∷ 32 ∷ time_text time ++ rest

timed_less : (kind kind' time time' : ℕ) (rest rest' : List ℕ) → time < time' → time' < 10 ^ 20 → entry_cmp (timed kind time rest) (timed kind' time' rest') ≡ Less
unfolding time_text
timed_less kind kind' time time' rest rest' h within =
    ap (λ (o : Ordering). ordering_then o (slice_cmp nat_cmp (timed kind time rest) (timed kind' time' rest'))) (digits_less 20 time time' rest rest' h within)

pub later_is_newer : (kind kind' time time' : ℕ) (rest rest' : List ℕ) → time < time' → time' < 10 ^ 20
    → newer (Some (timed kind time rest)) (Some (timed kind' time' rest')) ≡ Theirs
later_is_newer kind kind' time time' rest rest' h within =
    ap (λ (o : Ordering). cond (is_lt o) Mine Theirs) (entry_reversed (timed kind time rest) (timed kind' time' rest') ∙ ap ordering_reverse (timed_less kind kind' time time' rest rest' h within))
