-- The vertices that a graph's result depends on.
use Rattle.std.proofs.Common.{◌≡◌, ℕ, zero, suc, ◌+◌, ◌<◌, ◌⊎◌, inl, inr, Bool, true, false, cond, List, [], ◌∷◌, ◌++◌, length, take, set, get_or, replicate, Some, slice_get, refl, ap, sym, ◌∙◌, subst, arith}
use Rattle.std.specs.List.{Contains, All}
use Rattle.std.proofs.lemmas.Bool.{cases_eq, cases_lt}
use Rattle.std.proofs.lemmas.List.{length-set, get_or-set_same, get_or-set_other, get_or_past, length-replicate, length_push}
use Rattle.std.proofs.lemmas.List.Elements.{Contains-append_left, Contains-push, Contains-push_cases}
use Rattle.std.proofs.lemmas.List.Sums.{sum_by-set}
use Rattle.std.proofs.lemmas.Option.{slice_get-get_or}
use Rattle.solverkeys.proofs.KeyLemmas.{edges_within}
use Rattle.lists.proofs.Places.{take_push}
use Rattle.ordering.specs.Flags.{flag_at}
use Rattle.ordering.specs.Orders.{Walk}
use Rattle.ordering.specs.Sorting.{open_count}
use Rattle.ordering.proofs.OrderLaws.{walk_join}
use Rattle.vertices.specs.Edges.{GoesTo, targets, list_at}
use Rattle.vertices.specs.Loading.{GraphParts, IsGraph}
use Rattle.keytable.specs.Reaching.{IsNeeded, AreReached, Reaching, IsReaching}

-- one more flag leaves one fewer open flag
pub one_fewer : (flags : List Bool) (n : ℕ) → n < length flags → flag_at flags n ≡ false → open_count (set flags n true) + 1 ≡ open_count flags
one_fewer flags n within unmet =
    let count : Bool → ℕ = λ flag. cond (cond flag false true) 1 0 in
    let e = sum_by-set count flags n true false within in
    let one : count (get_or flags n false) ≡ 1 = ap count unmet in
    omega arith

-- what is flagged has a flag
pub flag_within : (flags : List Bool) (n : ℕ) → flag_at flags n ≡ true → n < length flags
flag_within flags n met = elim (cases_lt n (length flags)) [
  | inl less ↦ less
  | inr past ↦ (let none = get_or_past flags n false past in absurd (cc (met, none)))
]

targets_push : (es : List (ℕ × ℕ)) (e : ℕ × ℕ) → targets (es ++ e ∷ []) ≡ targets es ++ e.0 ∷ []
targets_push [] e = refl
targets_push (x ∷ es) e = ap (λ (xs : List ℕ). x.0 ∷ xs) (targets_push es e)

module _ (old : List Bool) (todo : List ℕ) (es : List (ℕ × ℕ)) (new : List Bool) (more : List ℕ) (e : ℕ × ℕ) (h : Reaching old todo es new more) where
  target_cases : (n : ℕ) → Contains (targets (es ++ e ∷ [])) n → Contains (targets es) n ⊎ (e.0 ≡ n)
  target_cases n c = Contains-push_cases (targets es) e.0 n (subst (λ (xs : List ℕ). Contains xs n) (targets_push es e) c)

  target_left : (n : ℕ) → Contains (targets es) n → Contains (targets (es ++ e ∷ [])) n
  target_left n c = subst (λ (xs : List ℕ). Contains xs n) (sym (targets_push es e)) (Contains-append_left (targets es) (e.0 ∷ []) n c)

  target_last : Contains (targets (es ++ e ∷ [])) e.0
  target_last = subst (λ (xs : List ℕ). Contains xs e.0) (sym (targets_push es e)) (Contains-push (targets es) e.0)

  -- one more edge, to a flagged vertex
  pub reach_old : flag_at new e.0 ≡ true → Reaching old todo (es ++ e ∷ []) new more
  reach_old met = record {
    count = h.count;
    kept = h.kept;
    flagged = λ n c. elim (target_cases n c) [ inl before ↦ h.flagged n before | inr last ↦ subst (λ m. flag_at new m ≡ true) last met ];
    only = λ n f. elim (h.only n f) [ inl was ↦ inl was | inr c ↦ inr (target_left n c) ];
    listed = h.listed;
    todo_kept = h.todo_kept;
    todo_flagged = h.todo_flagged;
  }

  set_keeps : e.0 < length new → (n : ℕ) → flag_at new n ≡ true → flag_at (set new e.0 true) n ≡ true
  set_keeps within n met = elim (cases_eq n e.0) [
    | inl same ↦ ap (flag_at (set new e.0 true)) same ∙ get_or-set_same new e.0 true false within
    | inr apart ↦ get_or-set_other new e.0 n true false apart ∙ met
  ]

  -- one more edge, to a vertex that wasn't flagged
  pub reach_new : e.0 < length new → Reaching old todo (es ++ e ∷ []) (set new e.0 true) (more ++ e.0 ∷ [])
  reach_new within =
      let here : flag_at (set new e.0 true) e.0 ≡ true = get_or-set_same new e.0 true false within in
      record {
        count = length-set new e.0 true ∙ h.count;
        kept = λ n met. set_keeps within n (h.kept n met);
        flagged = λ n c. elim (target_cases n c) [
          | inl before ↦ set_keeps within n (h.flagged n before)
          | inr last ↦ subst (λ m. flag_at (set new e.0 true) m ≡ true) last here
        ];
        only = λ n f. elim (cases_eq n e.0) [
          | inl same ↦ inr (subst (Contains (targets (es ++ e ∷ []))) (sym same) target_last)
          | inr apart ↦ elim (h.only n (sym (get_or-set_other new e.0 n true false apart) ∙ f)) [ inl was ↦ inl was | inr c ↦ inr (target_left n c) ]
        ];
        listed = λ n f. elim (cases_eq n e.0) [
          | inl same ↦ inr (subst (Contains (more ++ e.0 ∷ [])) (sym same) (Contains-push more e.0))
          | inr apart ↦ elim (h.listed n (sym (get_or-set_other new e.0 n true false apart) ∙ f)) [ inl was ↦ inl was | inr c ↦ inr (Contains-append_left more (e.0 ∷ []) n c) ]
        ];
        todo_kept = λ n c. Contains-append_left more (e.0 ∷ []) n (h.todo_kept n c);
        todo_flagged = λ n c. elim (Contains-push_cases more e.0 n c) [
          | inl before ↦ elim (h.todo_flagged n before) [ inl was ↦ inl was | inr met ↦ inr (set_keeps within n met) ]
          | inr last ↦ inr (subst (λ m. flag_at (set new e.0 true) m ≡ true) last here)
        ];
      }

-- up to one more edge
pub reach_more : (old : List Bool) (todo : List ℕ) (edges : List (ℕ × ℕ)) (k : ℕ) (e : ℕ × ℕ) (new : List Bool) (more : List ℕ) → slice_get edges k ≡ Some e
    → Reaching old todo (take k edges ++ e ∷ []) new more → Reaching old todo (take (k + 1) edges) new more
reach_more old todo edges k e new more at h = subst (λ (es : List (ℕ × ℕ)). Reaching old todo es new more) (sym (take_push edges k e at)) h

-- a walk with one more edge
pub walk_more : (g : GraphParts) (number input : ℕ) → IsNeeded g number → GoesTo g.edges number input → IsNeeded g input
walk_more g number input w edge =
    let goes = GoesTo g.edges in
    (w.0 + suc zero, walk_join (λ (n : ℕ). ℕ) goes w.0 (suc zero) g.result.0 number input w.1 (input, edge, refl))

-- a vertex was looked at
pub looked_at : (g : GraphParts) (flags : List Bool) (todo was : List ℕ) (n : ℕ) (es : List (ℕ × ℕ)) (new : List Bool) (more : List ℕ) → IsReaching g flags was → was ≡ todo ++ n ∷ [] → list_at g.edges n ≡ es
    → Reaching flags todo es new more → IsReaching g new more
looked_at g flags todo was n es new more h popped is r =
    let in_todo : (m : ℕ) → Contains todo m → Contains was m
    = λ m c. subst (λ (xs : List ℕ). Contains xs m) (sym popped) (Contains-append_left todo (n ∷ []) m c) in
    let n_in : Contains was n = subst (λ (xs : List ℕ). Contains xs n) (sym popped) (Contains-push todo n) in
    let goes : (m : ℕ) → Contains (targets es) m → GoesTo g.edges n m = λ m c. subst (λ (xs : List (ℕ × ℕ)). Contains (targets xs) m) (sym is) c in
    let comes : (m : ℕ) → GoesTo g.edges n m → Contains (targets es) m = λ m c. subst (λ (xs : List (ℕ × ℕ)). Contains (targets xs) m) is c in
    record {
      count = r.count ∙ h.count;
      needed = λ m f. elim (r.only m f) [
        | inl old ↦ h.needed m old
        | inr c ↦ walk_more g n m (h.needed n (h.todo_flagged n n_in)) (goes m c)
      ];
      todo_flagged = λ m c. elim (r.todo_flagged m c) [ inl old ↦ r.kept m (h.todo_flagged m (in_todo m old)) | inr f ↦ f ];
      result = r.kept g.result.0 h.result;
      closed = λ m f. elim (r.listed m f) [
        | inr c ↦ inl c
        | inl old ↦ elim (h.closed m old) [
          | inr all ↦ inr (λ input edge. r.kept input (all input edge))
          | inl c ↦ elim (Contains-push_cases todo n m (subst (λ (xs : List ℕ). Contains xs m) popped c)) [
            | inl still ↦ inl (r.todo_kept m still)
            | inr same ↦ inr (λ input edge. r.flagged input (comes input (subst (λ k. GoesTo g.edges k input) (sym same) edge)))
          ]
        ]
      ];
    }

-- the result's own vertex, to begin with
pub reach_start : (g : GraphParts) (count : ℕ) (none flags : List Bool) (todo : List ℕ) → count ≡ length g.vertices → g.result.0 < length g.vertices → none ≡ replicate count false → flags ≡ set none g.result.0 true
    → todo ≡ g.result.0 ∷ [] → IsReaching g flags todo
reach_start g count none flags todo len within none_is flags_is todo_is =
    let r = g.result.0 in
    let size : length none ≡ count = ap length none_is ∙ length-replicate count false in
    let here : flag_at flags r ≡ true = ap (λ (xs : List Bool). flag_at xs r) flags_is ∙ get_or-set_same none r true false (omega (arith, size, len, within)) in
    let only : (m : ℕ) → flag_at flags m ≡ true → m ≡ r
    = λ m met. elim (cases_eq m r) [
      | inl same ↦ same
      | inr apart ↦ (let other : flag_at flags m ≡ flag_at none m = ap (λ (xs : List Bool). flag_at xs m) flags_is ∙ get_or-set_other none r m true false apart in
          let bad : flag_at none m ≡ false = ap (λ (xs : List Bool). flag_at xs m) none_is ∙ none_flagged count m in
          absurd (cc (met, other, bad)))
    ] in
    record {
      count = ap length flags_is ∙ length-set none r true ∙ size ∙ len;
      needed = λ m met. (0, sym (only m met));
      todo_flagged = λ m c. (let same = one_only m c in subst (λ k. flag_at flags k ≡ true) same here);
      result = here;
      closed = λ m met. inl (subst (λ k. Contains todo k) (sym (only m met)) (subst (λ (xs : List ℕ). Contains xs r) (sym todo_is) (Contains-push [] r)));
    }
  where
    none_flagged : (n m : ℕ) → flag_at (replicate n false) m ≡ false
    none_flagged zero m = refl
    none_flagged (suc n) zero = refl
    none_flagged (suc n) (suc m) = none_flagged n m

    one_only : (m : ℕ) → Contains todo m → g.result.0 ≡ m
    one_only m c = elim (Contains-push_cases [] g.result.0 m (subst (λ (xs : List ℕ). Contains xs m) todo_is c)) [ inl none ↦ absurd (omega (arith, none.1)) | inr same ↦ same ]

-- where nothing is left to look at, all that is needed is flagged
all_flagged : (g : GraphParts) (flags : List Bool) → IsReaching g flags [] → (n from to : ℕ) → flag_at flags from ≡ true → Walk (GoesTo g.edges) from to n → flag_at flags to ≡ true
all_flagged g flags h zero from to met same = subst (λ k. flag_at flags k ≡ true) same met
all_flagged g flags h (suc n) from to met (input, edge, rest) = elim (h.closed from met) [
  | inl none ↦ absurd (omega (arith, none.1))
  | inr all ↦ all_flagged g flags h n input to (all input edge) rest
]

pub reach_end : (g : GraphParts) (flags : List Bool) (todo : List ℕ) → IsReaching g flags todo → todo ≡ [] → AreReached g flags
reach_end g flags todo h none =
    let i = subst (IsReaching g flags) none h in
    record { count = i.count; needed = i.needed; whole = λ m w. all_flagged g flags i w.0 g.result.0 m i.result w.1 }

-- one more edge, to a vertex that wasn't flagged
pub reach_next : (old : List Bool) (todo : List ℕ) (edges : List (ℕ × ℕ)) (k : ℕ) (d : ℕ × ℕ) (new : List Bool) (more : List ℕ) (flags : List Bool) (items : List ℕ) → k < length edges → Reaching old todo (take k edges) new more
    → length more + open_count new ≡ length todo + open_count old → (get_or edges k d).0 < length new → flag_at new (get_or edges k d).0 ≡ false
    → flags ≡ set new (get_or edges k d).0 true → items ≡ more ++ (get_or edges k d).0 ∷ []
    → record { flagged : Reaching old todo (take (k + 1) edges) flags items; open_ones : length items + open_count flags ≡ length todo + open_count old }
reach_next old todo edges k d new more flags items below h sum within unmet flags_is items_is =
    let e = get_or edges k d in
    let len = length_push more e.0 in
    let fewer = one_fewer new e.0 within unmet in
    rw (flags_is, items_is) (record {
      flagged = reach_more old todo edges k e (set new e.0 true) (more ++ e.0 ∷ []) (slice_get-get_or edges k d below) (reach_new old todo (take k edges) new more e h within);
      open_ones = omega (arith, len, fewer, sum);
    })

-- to one that was
pub reach_same : (old : List Bool) (todo : List ℕ) (edges : List (ℕ × ℕ)) (k : ℕ) (d : ℕ × ℕ) (new : List Bool) (more : List ℕ) (flags : List Bool) (items : List ℕ) → k < length edges → Reaching old todo (take k edges) new more
    → length more + open_count new ≡ length todo + open_count old → flag_at new (get_or edges k d).0 ≡ true → flags ≡ new → items ≡ more
    → record { flagged : Reaching old todo (take (k + 1) edges) flags items; open_ones : length items + open_count flags ≡ length todo + open_count old }
reach_same old todo edges k d new more flags items below h sum met flags_is items_is =
    let e = get_or edges k d in
    rw (flags_is, items_is) (record {
      flagged = reach_more old todo edges k e new more (slice_get-get_or edges k d below) (reach_old old todo (take k edges) new more e h met);
      open_ones = sum;
    })

-- what is to be looked at is a vertex
pub popped_within : (g : GraphParts) (flags : List Bool) (was todo : List ℕ) (n : ℕ) → IsReaching g flags was → was ≡ todo ++ n ∷ [] → n < length g.vertices
popped_within g flags was todo n h popped =
    let within = flag_within flags n (h.todo_flagged n (subst (λ (xs : List ℕ). Contains xs n) (sym popped) (Contains-push todo n))) in
    let count = h.count in
    omega (arith, within, count)

-- edges go to what has flags
pub edges_flags : (g : GraphParts) (flags slice : List Bool) (n : ℕ) (edges : List (ℕ × ℕ)) → IsGraph g → slice_get g.edges n ≡ Some edges → slice ≡ flags → length flags ≡ length g.vertices
    → All (λ edge. edge.0 < length slice) edges
edges_flags g flags slice n edges h at same count = subst (λ (size : ℕ). All (λ (edge : ℕ × ℕ). edge.0 < size) edges) (sym (ap length same ∙ count)) (edges_within g n edges h at)

-- nothing is left of a list without elements
pub nothing_left : (xs ys : List ℕ) → xs ≡ ys ++ [] → length ys ≡ 0 → xs ≡ []
nothing_left xs [] e none = e
nothing_left xs (y ∷ ys) e none = absurd (omega (arith, none))
