-- What an order says of walks, and how a cycle is found where no vertex is ready.
use Rattle.std.proofs.Common.{add-one, ◌≡◌, ℕ, zero, suc, zero-add, suc-add, ◌+◌, ◌<◌, ◌≤◌, ◌⊎◌, inl, inr, List, refl, length, take, get_or, sym, ap, ◌∙◌, subst, arith, Some}
use Rattle.std.specs.List.{Contains, slice_get}
use Rattle.std.proofs.lemmas.Bool.{cases_eq, cases_lt}
use Rattle.std.proofs.lemmas.List.{get_or-take, length-take-le, take_all, take_more_same}
use Rattle.std.proofs.lemmas.Option.{slice_get-get_or, slice_get_within}
use Rattle.ordering.specs.Orders.{IsReady, TakesLowest, IsOrder, Walk, IsCyclic}

-- what stands among the first k stands at some place below k
among_first : (xs : List ℕ) (k x : ℕ) → k ≤ length xs → Contains (take k xs) x → (j : ℕ) × (j < k) × (slice_get xs j ≡ Some x)
among_first xs k x h (j, lt, is) =
    let len : length (take k xs) ≡ k = length-take-le k xs h in
    let below : j < k = omega arith in
    let within : j < length xs = omega arith in
    let at : get_or xs j x ≡ x = sym (get_or-take k xs j x below) ∙ is in
    (j, below, slice_get-get_or xs j x within ∙ ap (λ (y : ℕ). Some y) at)

-- what stands among the first j stands among the first k
first_more : (xs : List ℕ) (j k x : ℕ) → j ≤ k → k ≤ length xs → Contains (take j xs) x → Contains (take k xs) x
first_more xs j k x h w (i, lt, is) =
    let lj : length (take j xs) ≡ j = length-take-le j xs (omega arith) in
    let lk : length (take k xs) ≡ k = length-take-le k xs w in
    let below : i < j = omega arith in
    (i, omega arith, get_or-take k xs i x (omega arith) ∙ sym (get_or-take j xs i x below) ∙ is)

module _ (IsVertex : ℕ → Type 0) (IsInput : ℕ → ℕ → Type 0) where
  -- a walk from a place of the order ends before it
  walk_before : (order : List ℕ) → TakesLowest IsVertex IsInput order → (n k from to : ℕ) → slice_get order k ≡ Some from
      → Walk IsInput from to (suc n) → Contains (take k order) to
  walk_before order lowest zero k from to at (input, edge, same) =
      subst (λ (x : ℕ). Contains (take k order) x) same ((lowest k from at).ready.inputs input edge)
  walk_before order lowest (suc n) k from to at (input, edge, rest) =
      let within = slice_get_within order k from at in
      let earlier = among_first order k input (omega arith) ((lowest k from at).ready.inputs input edge) in
      let before = walk_before order lowest n earlier.0 input to earlier.2 rest in
      let less : earlier.0 < k = earlier.1 in
      first_more order earlier.0 k to (omega arith) (omega arith) before

  -- a walk ends at a vertex, where each input is one
  walk_end : ((place input : ℕ) → IsInput place input → IsVertex input) → (n from to : ℕ) → Walk IsInput from to (suc n) → IsVertex to
  walk_end inputs zero from to (input, edge, same) = subst IsVertex same (inputs from input edge)
  walk_end inputs (suc n) from to (input, edge, rest) = walk_end inputs n input to rest

  -- where there is an order no walk leads back
  pub acyclic : ((place input : ℕ) → IsInput place input → IsVertex input) → (order : List ℕ) → IsOrder IsVertex IsInput order
      → IsCyclic IsInput → ⊥
  acyclic inputs order is (place, n, walk) =
      let vertex = walk_end inputs n place place walk in
      let there = is.whole place vertex in
      let k = there.0 in
      let at : slice_get order k ≡ Some place = slice_get-get_or order k place there.1 ∙ ap (λ (y : ℕ). Some y) there.2 in
      (is.lowest k place at).ready.new (walk_before order is.lowest n k place place at walk)

  -- walks can be joined
  pub walk_join : (m n from mid to : ℕ) → Walk IsInput from mid m → Walk IsInput mid to n → Walk IsInput from to (m + n)
  walk_join zero n from mid to same w = rw zero-add (subst (λ (x : ℕ). Walk IsInput x to n) (sym same) w)
  walk_join (suc m) n from mid to (input, edge, rest) w = rw suc-add (input, edge, walk_join m n input mid to rest w)

  -- a walk of at least one edge
  abbrev pub Reaches : ℕ → ℕ → Type 0
  Reaches from to = (n : ℕ) × Walk IsInput from to (suc n)

  reaches_join : (from mid to : ℕ) → Reaches from mid → Reaches mid to → Reaches from to
  reaches_join from mid to (m, (input, edge, rest)) (n, w) = (m + suc n, (input, edge, walk_join m (suc n) input mid to rest w))

  -- a place of S leads to another of S, or a cycle is known
  abbrev pub GoesOn : (ℕ → Type 0) → ℕ → Type 0
  GoesOn S place = ((next : ℕ) × S next × Reaches place next) ⊎ IsCyclic IsInput

  -- where each of finitely many places leads to one of them there is a cycle
  pub cycle_among : (n : ℕ) (S : ℕ → Type 0) → ((place : ℕ) → S place → place < n) → ((place : ℕ) → S place → GoesOn S place)
      → (place : ℕ) → S place → IsCyclic IsInput
  cycle_among zero S below next place s = absurd (omega (arith, below place s))
  cycle_among (suc n) S below next place s =
      let T : ℕ → Type 0 = λ q. S q × (q ≡ n → ⊥) in
      let lower : (q : ℕ) → T q → q < n = λ q t. let b = below q t.0 in let apart = t.1 in omega arith in
      let past : S n → GoesOn T n = λ h. elim (next n h) [
        | inr c ↦ inr c
        | inl (q, sq, w) ↦ elim (cases_eq q n) [
          | inl same ↦ inr (n, w.0, subst (λ (x : ℕ). Walk IsInput n x (suc w.0)) same w.1)
          | inr apart ↦ inl (q, (sq, apart), w)
        ]
      ] in
      let through : (p q : ℕ) → S q → Reaches p q → GoesOn T p = λ p q sq w. elim (cases_eq q n) [
        | inr apart ↦ inl (q, (sq, apart), w)
        | inl same ↦ elim (past (subst S same sq)) [
          | inr c ↦ inr c
          | inl (r, tr, v) ↦ inl (r, tr, reaches_join p n r (subst (λ (x : ℕ). Reaches p x) same w) v)
        ]
      ] in
      let on : (p : ℕ) → T p → GoesOn T p = λ p t. elim (next p t.0) [ inr c ↦ inr c | inl (q, sq, w) ↦ through p q sq w ] in
      elim (cases_eq place n) [
        | inr apart ↦ cycle_among n T lower on place (s, apart)
        | inl same ↦ elim (past (subst S same s)) [ inr c ↦ c | inl (q, t, w) ↦ cycle_among n T lower on q t ]
      ]

module _ (IsVertex : ℕ → Type 0) (IsInput : ℕ → ℕ → Type 0) where
  -- two orders agree as far as the one goes
  agree : (one other : List ℕ) → IsOrder IsVertex IsInput one → IsOrder IsVertex IsInput other → (k : ℕ) → k ≤ length one
      → (k ≤ length other) × (take k one ≡ take k other)
  agree one other h i zero le = (omega arith, refl)
  agree one other h i (suc k) le =
      let before = agree one other h i k (omega arith) in
      let same = before.1 in
      let x = get_or one k 0 in
      let at : slice_get one k ≡ Some x = slice_get-get_or one k 0 (omega arith) in
      let low = h.lowest k x at in
      let within : k < length other = elim (cases_lt k (length other)) [
        | inl less ↦ less
        | inr more ↦
            let all : take k other ≡ other = take_all k other more in
            absurd (low.ready.new (subst (λ (xs : List ℕ). Contains xs x) (sym (same ∙ all)) (i.whole x low.ready.vertex)))
      ] in
      let y = get_or other k 0 in
      let at_other : slice_get other k ≡ Some y = slice_get-get_or other k 0 within in
      let low_other = i.lowest k y at_other in
      let ready_x = subst (λ (xs : List ℕ). IsReady IsVertex IsInput xs x) same low.ready in
      let ready_y = subst (λ (xs : List ℕ). IsReady IsVertex IsInput xs y) (sym same) low_other.ready in
      let a = low.lowest y ready_y in
      let b = low_other.lowest x ready_x in
      let equal : x ≡ y = omega arith in
      (omega arith, rw (← add-one) (take_more_same one other k 0 (omega arith) within same equal))

  -- there is one order
  pub one_order : (one other : List ℕ) → IsOrder IsVertex IsInput one → IsOrder IsVertex IsInput other → one ≡ other
  one_order one other h i =
      let a = agree one other h i (length one) (omega arith) in
      let b = agree other one i h (length other) (omega arith) in
      sym (take_all (length one) one (omega arith)) ∙ a.1 ∙ take_all (length one) other (let le = b.0 in omega arith)
