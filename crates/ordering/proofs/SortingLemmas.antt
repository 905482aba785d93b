-- What each change keeps while vertices are put into order.
use Rattle.std.proofs.Common.{◌≡◌, ℕ, ◌<◌, ◌⊎◌, inl, inr, Bool, true, false, cond, List, [], ◌∷◌, ◌++◌, length, take, get_or, set, map, replicate, refl, sym, ap, ◌∙◌, subst, arith, Some}
use Rattle.std.specs.List.{Contains, All, slice_get}
use Rattle.std.specs.declared.cmp.Ordering.{Ordering}
use Rattle.std.specs.declared.cmp.Ordering.TheVariants.{Less, Equal, Greater}
use Rattle.std.specs.Ordering.{nat_cmp, is_eq}
use Rattle.std.specs.Bool.{OnTrue, OnFalse}
use Rattle.std.specs.BTreeMap.{is_at}
use Rattle.std.specs.BTreeSet.{BTreeSet, contains, Updates}
use Rattle.std.specs.declared.vec.Vec.{Vec}
use Rattle.std.specs.declared.alloc.Global.{Global}
use Rattle.std.proofs.lemmas.Bool.{cases_eq, cases_lt, cases_Bool, false_from_ne_true}
use Rattle.std.proofs.lemmas.Cmp.{nat_cmp_total}
use Rattle.std.proofs.lemmas.Map.Lookups.{exact_unsigned}
use Rattle.std.proofs.lemmas.Map.Views.{btree_set_contains_iff}
use Rattle.std.proofs.lemmas.List.{get_or-replicate, length-replicate, get_or-map, length-map, get_or_default, take-append-le, take_all, get_or_past, get_or_append_left, get_or_push, length_push}
use Rattle.std.proofs.lemmas.List.Elements.{All-map, All-weaker, All-contains_itself, Contains-append_left, Contains-push, Contains-push_cases, All-contains}
use Rattle.std.proofs.lemmas.List.Sums.{sum_by-set}
use Rattle.std.proofs.lemmas.Option.{slice_get-get_or, slice_get_within, get_or_from_slice_get}
use Rattle.lists.proofs.Places.{Contains-head, Contains-tail, Contains-cases}
use Rattle.ordering.specs.declared.ordering.Waiter.{Waiter}
use Rattle.ordering.specs.declared.ordering.Sorting.{Sorting}
use Rattle.ordering.specs.Orders.{IsReady, IsLowestReady, TakesLowest}
use Rattle.ordering.specs.Flags.{flag_at, ArePlaced, IsFirstOpen}
use Rattle.ordering.specs.Rows.{row_at, HasInput, AreRows, IsRowOrder, HasRowCycle}
use Rattle.ordering.specs.Waiters.{first_look}
use Rattle.ordering.specs.Sorting.{HasShape, IsLooking, IsWaiting, is_placed, is_ready, is_waiting, is_todo, IsSorting, open_count}
use Rattle.ordering.proofs.RowLemmas.{row_at-read, row_at-set_same, row_at-set_other}
use Rattle.ordering.proofs.OrderLaws.{acyclic, cycle_among}

-- ---- sets of places

-- the new set has the keys of the old one, and x
pub record Adds (old new : BTreeSet ℕ) (x : ℕ) : Type 0 where
  pub only : (p : ℕ) → Contains new.keys p → Contains old.keys p ⊎ (p ≡ x)
  pub kept : (p : ℕ) → Contains old.keys p → Contains new.keys p
  pub there : Contains new.keys x

-- a key that compares equal is the key
is_at-same : (x q : ℕ) → is_at (nat_cmp x) q ≡ true → x ≡ q
is_at-same x q e =
    let case : (r : Ordering) → nat_cmp x q ≡ r → is_eq r ≡ true → x ≡ q
    = λ r. elim r as (λ v. nat_cmp x q ≡ v → is_eq v ≡ true → x ≡ q)
    [ Less ↦ λ _ differ. absurd (cc differ) | Equal ↦ λ is _. exact_unsigned x q is | Greater ↦ λ _ differ. absurd (cc differ) ] in
    case (nat_cmp x q) refl e

-- what `insert` of a place says
pub Adds-updates : (old new : BTreeSet ℕ) (x : ℕ) → Updates nat_cmp old new x true → Adds old new x
Adds-updates old new x u =
    let iff = λ (s : BTreeSet ℕ) (k : ℕ). btree_set_contains_iff {R = nat_cmp} nat_cmp_total exact_unsigned s k in
    record {
      only = λ p c. elim (cases_Bool (is_at (nat_cmp x) p)) [
        | inl met ↦ inr (sym (is_at-same x p met))
        | inr unmet ↦ inl ((iff old p).0 (sym (u.2 p unmet) ∙ (iff new p).1 c))
      ];
      kept = λ p c. elim (cases_Bool (is_at (nat_cmp x) p)) [
        | inl met ↦ (iff new p).0 (u.0 p ∙ ap (λ (b : Bool). cond b true (contains nat_cmp old p)) met)
        | inr unmet ↦ (iff new p).0 (u.2 p unmet ∙ (iff old p).1 c)
      ];
      there = (iff new x).0 u.1;
    }

Contains-none : {X : Type 0} (x : X) → Contains [] x → ⊥
Contains-none x (k, lt, is) = omega arith

-- a flag has one value
one_flag : (b : Bool) → b ≡ true → b ≡ false → ⊥
one_flag b t f = cc

-- ---- a place is looked at

-- inputs up to one that was looked at and from there on are in the order
looked : (vertices : List ℕ) (rows : List (Vec ℕ Global)) (s : Sorting) (w : Waiter) (todo : List Waiter) (to k : ℕ)
    → IsSorting vertices rows s todo → IsLooking vertices rows s.order.items w
    → ArePlaced (row_at rows w.place) s.placed.items w.next to → k < to → k < length (row_at rows w.place)
    → Contains s.order.items (get_or (row_at rows w.place) k 0)
looked vertices rows s w todo to k h look placed below within =
    elim (cases_lt k w.next) [
      | inl less ↦ look.before k less within
      | inr more ↦ h.placed (get_or (row_at rows w.place) k 0) (placed k more below)
    ]

-- ready where all inputs from the index on are placed
pub look_ready : (vertices : List ℕ) (rows : List (Vec ℕ Global)) (s : Sorting) (r : BTreeSet ℕ) (w : Waiter) (todo : List Waiter)
    → Adds s.ready r w.place → ArePlaced (row_at rows w.place) s.placed.items w.next (length (row_at rows w.place))
    → IsSorting vertices rows s (w ∷ todo) → IsSorting vertices rows (record s { ready = r }) todo
look_ready vertices rows s r w todo adds placed h =
    let look = h.todo_looking w (Contains-head w todo) in
    let now : IsReady (Contains vertices) (HasInput rows) s.order.items w.place = record {
      vertex = look.vertex;
      new = look.new;
      inputs = λ input (k, lt, is). subst (λ (x : ℕ). Contains s.order.items x) (get_or_default _ k 0 input lt ∙ is)
          (looked vertices rows s w (w ∷ todo) _ k h look placed lt lt);
    } in
    record {
      lowest = h.lowest;
      placed = h.placed;
      flagged = h.flagged;
      ready = λ p c. elim (adds.only p c) [
        | inl old ↦ h.ready p old
        | inr same ↦ subst (λ (x : ℕ). IsReady (Contains vertices) (HasInput rows) s.order.items x) (sym same) now
      ];
      waiting = h.waiting;
      todo_looking = λ x c. h.todo_looking x (Contains-tail w todo x c);
      somewhere = λ p c. elim (h.somewhere p c) [
        | is_placed a ↦ is_placed a
        | is_ready a ↦ is_ready (adds.kept p a)
        | is_waiting i x f a e ↦ is_waiting i x f a e
        | is_todo x a e ↦ elim (Contains-cases w todo x a) [
          | inl same ↦ is_ready (subst (λ (y : ℕ). Contains r.keys y) (ap (λ (y : Waiter). y.place) same ∙ e) adds.there)
          | inr rest ↦ is_todo x rest e
        ]
      ];
    }

-- one more waiter in the list of an input
pub record Adds_waiter (old new : List (Vec Waiter Global)) (input : ℕ) (w : Waiter) : Type 0 where
  pub there : row_at new input ≡ row_at old input ++ w ∷ []
  pub others : (other : ℕ) → (other ≡ input → ⊥) → row_at new other ≡ row_at old other

-- what a push to the list of an input leaves
pub adds_waiter : (old : List (Vec Waiter Global)) (was row : Vec Waiter Global) (input : ℕ) (w : Waiter) → input < length old
    → was ≡ get_or old input was → row.items ≡ was.items ++ w ∷ [] → Adds_waiter old (set old input row) input w
adds_waiter old was row input w within is more = record {
  there = row_at-set_same old input row within ∙ more ∙ ap (λ (xs : List Waiter). xs ++ w ∷ []) (sym (row_at-read old input was within is));
  others = λ other apart. row_at-set_other old input other row apart;
}

-- the waiters are places where the new one is
pub waiters_more : (n : ℕ) (old new : List (Vec Waiter Global)) (input : ℕ) (w : Waiter) → Adds_waiter old new input w
    → ((i : ℕ) (x : Waiter) → Contains (row_at old i) x → x.place < n) → w.place < n
    → (i : ℕ) (x : Waiter) → Contains (row_at new i) x → x.place < n
waiters_more n old new input w adds all less i x c =
    elim (cases_eq i input) [
      | inr apart ↦ all i x (subst (λ (xs : List Waiter). Contains xs x) (adds.others i apart) c)
      | inl same ↦ elim (Contains-push_cases (row_at old input) w x
          (subst (λ (xs : List Waiter). Contains xs x) adds.there (subst (λ (j : ℕ). Contains (row_at new j) x) same c))) [
            | inl before ↦ all input x before
            | inr is ↦ subst (λ (y : Waiter). y.place < n) is less
          ]
    ]

-- it waits for the first input that isn't placed
pub look_waits : (vertices : List ℕ) (rows : List (Vec ℕ Global)) (s : Sorting) (v : Vec (Vec Waiter Global) Global) (w : Waiter) (next : ℕ) (todo : List Waiter)
    → IsFirstOpen (row_at rows w.place) s.placed.items w.next next
    → Adds_waiter s.waiting.items v.items (get_or (row_at rows w.place) next 0) (record { place = w.place; next = next })
    → IsSorting vertices rows s (w ∷ todo) → IsSorting vertices rows (record s { waiting = v }) todo
look_waits vertices rows s v w next todo first adds h =
    let look = h.todo_looking w (Contains-head w todo) in
    let q = get_or (row_at rows w.place) next 0 in
    let mine : Waiter = record { place = w.place; next = next } in
    let waits : IsWaiting vertices rows s.order.items q mine = record {
      looking = record {
        vertex = look.vertex;
        new = look.new;
        before = λ k below within. looked vertices rows s w (w ∷ todo) next k h look first.before below within;
      };
      within = first.within;
      input_is = refl;
    } in
    let kept : (i : ℕ) (x : Waiter) → Contains (row_at s.waiting.items i) x → Contains (row_at v.items i) x
    = λ i x c. elim (cases_eq i q) [
      | inl same ↦ subst (λ (j : ℕ). Contains (row_at v.items j) x) (sym same)
          (subst (λ (xs : List Waiter). Contains xs x) (sym adds.there)
          (Contains-append_left (row_at s.waiting.items q) (mine ∷ []) x (subst (λ (j : ℕ). Contains (row_at s.waiting.items j) x) same c)))
      | inr apart ↦ subst (λ (xs : List Waiter). Contains xs x) (sym (adds.others i apart)) c
    ] in
    let there : Contains (row_at v.items q) mine
    = subst (λ (xs : List Waiter). Contains xs mine) (sym adds.there) (Contains-push (row_at s.waiting.items q) mine) in
    record {
      lowest = h.lowest;
      placed = h.placed;
      flagged = h.flagged;
      ready = h.ready;
      waiting = λ i x f c. elim (cases_eq i q) [
        | inr apart ↦ h.waiting i x f (subst (λ (xs : List Waiter). Contains xs x) (adds.others i apart) c)
        | inl same ↦ elim (Contains-push_cases (row_at s.waiting.items q) mine x
            (subst (λ (xs : List Waiter). Contains xs x) adds.there (subst (λ (j : ℕ). Contains (row_at v.items j) x) same c))) [
              | inl old ↦ h.waiting i x f (subst (λ (j : ℕ). Contains (row_at s.waiting.items j) x) (sym same) old)
              | inr is ↦ subst (λ (y : Waiter). IsWaiting vertices rows s.order.items i y) is
                  (subst (λ (j : ℕ). IsWaiting vertices rows s.order.items j mine) (sym same) waits)
            ]
      ];
      todo_looking = λ x c. h.todo_looking x (Contains-tail w todo x c);
      somewhere = λ p c. elim (h.somewhere p c) [
        | is_placed a ↦ is_placed a
        | is_ready a ↦ is_ready a
        | is_waiting i x f a e ↦ is_waiting i x f (kept i x a) e
        | is_todo x a e ↦ elim (Contains-cases w todo x a) [
          | inl same ↦ is_waiting q mine first.open_input there (ap (λ (y : Waiter). y.place) same ∙ e)
          | inr rest ↦ is_todo x rest e
        ]
      ];
    }

-- ---- a ready place is put at the end

-- what waits for an input that isn't in the order isn't the place that is put
still_looking : (vertices : List ℕ) (rows : List (Vec ℕ Global)) (order : List ℕ) (p i : ℕ) (w : Waiter)
    → IsReady (Contains vertices) (HasInput rows) order p → (Contains order i → ⊥)
    → IsWaiting vertices rows order i w → IsLooking vertices rows (order ++ p ∷ []) w
still_looking vertices rows order p i w ready missing waits =
    let look = waits.looking in
    record {
      vertex = look.vertex;
      new = λ c. elim (Contains-push_cases order p w.place c) [
        | inl old ↦ look.new old
        | inr same ↦ missing (ready.inputs i (subst (λ (x : ℕ). Contains (row_at rows x) i) (sym same) (w.next, waits.within, get_or_default _ w.next i 0 waits.within ∙ waits.input_is)))
      ];
      before = λ k below within. Contains-append_left order (p ∷ []) _ (look.before k below within);
    }

-- the place that is put is the lowest ready one
put_lowest : (vertices : List ℕ) (rows : List (Vec ℕ Global)) (s : Sorting) (p : ℕ) (rest : List ℕ)
    → s.ready.keys ≡ p ∷ rest → ((q : ℕ) → Contains rest q → p < q) → IsSorting vertices rows s []
    → IsLowestReady (Contains vertices) (HasInput rows) s.order.items p
put_lowest vertices rows s p rest keys above h = record {
  ready = h.ready p (subst (λ (ks : List ℕ). Contains ks p) (sym keys) (Contains-head p rest));
  lowest = λ other is. elim (h.somewhere other is.vertex) [
    | is_placed a ↦ absurd (is.new a)
    | is_ready a ↦ elim (Contains-cases p rest other (subst (λ (ks : List ℕ). Contains ks other) keys a)) [
      | inl same ↦ omega arith
      | inr more ↦ let less = above other more in omega arith
    ]
    | is_waiting i w f a e ↦
        let waits = h.waiting i w f a in
        let edge : HasInput rows other i = subst (λ (x : ℕ). Contains (row_at rows x) i) e
        (w.next, waits.within, get_or_default _ w.next i 0 waits.within ∙ waits.input_is) in
        absurd (one_flag _ (h.flagged i (is.inputs i edge)) f)
    | is_todo w a e ↦ absurd (Contains-none w a)
  ];
}

-- an order with the lowest ready place at its end
pub takes_more : (IsVertex : ℕ → Type 0) (IsInput : ℕ → ℕ → Type 0) (order : List ℕ) (p : ℕ)
    → TakesLowest IsVertex IsInput order → IsLowestReady IsVertex IsInput order p → TakesLowest IsVertex IsInput (order ++ p ∷ [])
takes_more IsVertex IsInput order p lowest last k x at =
    let within = slice_get_within (order ++ p ∷ []) k x at in
    let len = length_push order p in
    let value = get_or_from_slice_get (order ++ p ∷ []) k x x at in
    elim (cases_lt k (length order)) [
      | inl less ↦
          let same : take k (order ++ p ∷ []) ≡ take k order = take-append-le k order (p ∷ []) (omega arith) in
          let old : slice_get order k ≡ Some x = slice_get-get_or order k x less ∙ ap (λ (y : ℕ). Some y) (sym (get_or_append_left order (p ∷ []) x k less) ∙ value) in
          subst (λ (xs : List ℕ). IsLowestReady IsVertex IsInput xs x) (sym same) (lowest k x old)
      | inr more ↦
          let end : length order ≡ k = omega arith in
          let all : take k (order ++ p ∷ []) ≡ order = take-append-le k order (p ∷ []) (omega arith) ∙ take_all k order (omega arith) in
          let is : p ≡ x = sym (get_or_push order p x k end) ∙ value in
          subst (λ (xs : List ℕ). IsLowestReady IsVertex IsInput xs x) (sym all) (subst (λ (y : ℕ). IsLowestReady IsVertex IsInput order y) is last)
    ]

-- what a put leaves
pub record Puts (old new : Sorting) (p : ℕ) : Type 0 where
  pub keys : old.ready.keys ≡ p ∷ new.ready.keys
  pub above : (q : ℕ) → Contains new.ready.keys q → p < q
  pub order : new.order.items ≡ old.order.items ++ p ∷ []
  pub flag : flag_at new.placed.items p ≡ true
  pub flags : (q : ℕ) → (q ≡ p → ⊥) → flag_at new.placed.items q ≡ flag_at old.placed.items q
  pub waiting : (q : ℕ) → (q ≡ p → ⊥) → row_at new.waiting.items q ≡ row_at old.waiting.items q

-- one more place is placed
pub fewer_open : (placed : List Bool) (p : ℕ) → p < length placed → flag_at placed p ≡ false → open_count (set placed p true) < open_count placed
fewer_open placed p within open_flag =
    let count : Bool → ℕ = λ flag. cond (cond flag false true) 1 0 in
    let e = sum_by-set count placed p true false within in
    let one : count (get_or placed p false) ≡ 1 = ap count open_flag in
    omega arith

-- those that waited for it are to be looked at
pub put : (vertices : List ℕ) (rows : List (Vec ℕ Global)) (s t : Sorting) (p : ℕ) → Puts s t p → IsSorting vertices rows s []
    → IsSorting vertices rows t (row_at s.waiting.items p)
put vertices rows s t p puts h =
    let lowest = put_lowest vertices rows s p t.ready.keys puts.keys puts.above h in
    let ready = lowest.ready in
    let before = s.order.items in
    let after = before ++ p ∷ [] in
    let old_ready : (q : ℕ) → Contains t.ready.keys q → Contains s.ready.keys q
    = λ q c. subst (λ (ks : List ℕ). Contains ks q) (sym puts.keys) (Contains-tail p t.ready.keys q c) in
    let not_in : (i : ℕ) → flag_at s.placed.items i ≡ false → Contains before i → ⊥ = λ i f c. one_flag _ (h.flagged i c) f in
    let unflagged : flag_at s.placed.items p ≡ false = false_from_ne_true _ (λ e. ready.new (h.placed p e)) in
    let apart_of : (i : ℕ) → flag_at t.placed.items i ≡ false → i ≡ p → ⊥
    = λ i f same. one_flag _ puts.flag (subst (λ (x : ℕ). flag_at t.placed.items x ≡ false) same f) in
    let old_flag : (i : ℕ) → flag_at t.placed.items i ≡ false → flag_at s.placed.items i ≡ false
    = λ i f. sym (puts.flags i (apart_of i f)) ∙ f in
    record {
      lowest = subst (TakesLowest (Contains vertices) (HasInput rows)) (sym puts.order)
          (takes_more (Contains vertices) (HasInput rows) before p h.lowest lowest);
      placed = λ q e. subst (λ (xs : List ℕ). Contains xs q) (sym puts.order) (elim (cases_eq q p) [
        | inl same ↦ subst (λ (x : ℕ). Contains after x) (sym same) (Contains-push before p)
        | inr apart ↦ Contains-append_left before (p ∷ []) q (h.placed q (sym (puts.flags q apart) ∙ e))
      ]);
      flagged = λ q c. elim (cases_eq q p) [
        | inl same ↦ subst (λ (x : ℕ). flag_at t.placed.items x ≡ true) (sym same) puts.flag
        | inr apart ↦ elim (Contains-push_cases before p q (subst (λ (xs : List ℕ). Contains xs q) puts.order c)) [
          | inl old ↦ puts.flags q apart ∙ h.flagged q old
          | inr is ↦ absurd (apart (sym is))
        ]
      ];
      ready = λ q c.
          let was = h.ready q (old_ready q c) in
          let more = puts.above q c in
          subst (λ (xs : List ℕ). IsReady (Contains vertices) (HasInput rows) xs q) (sym puts.order) (record {
            vertex = was.vertex;
            new = λ d. elim (Contains-push_cases before p q d) [ inl old ↦ was.new old | inr is ↦ omega arith ];
            inputs = λ input edge. Contains-append_left before (p ∷ []) input (was.inputs input edge);
          });
      waiting = λ i w f c.
          let was = h.waiting i w (old_flag i f) (subst (λ (xs : List Waiter). Contains xs w) (puts.waiting i (apart_of i f)) c) in
          subst (λ (xs : List ℕ). IsWaiting vertices rows xs i w) (sym puts.order) (record {
            looking = still_looking vertices rows before p i w ready (not_in i (old_flag i f)) was;
            within = was.within;
            input_is = was.input_is;
          });
      todo_looking = λ w c. subst (λ (xs : List ℕ). IsLooking vertices rows xs w) (sym puts.order)
          (still_looking vertices rows before p p w ready ready.new (h.waiting p w unflagged c));
      somewhere = λ q c. elim (h.somewhere q c) [
        | is_placed a ↦ is_placed (subst (λ (xs : List ℕ). Contains xs q) (sym puts.order) (Contains-append_left before (p ∷ []) q a))
        | is_ready a ↦ elim (Contains-cases p t.ready.keys q (subst (λ (ks : List ℕ). Contains ks q) puts.keys a)) [
          | inl same ↦ is_placed (subst (λ (xs : List ℕ). Contains xs q) (sym puts.order)
              (subst (λ (x : ℕ). Contains after x) same (Contains-push before p)))
          | inr more ↦ is_ready more
        ]
        | is_waiting i w f a e ↦ elim (cases_eq i p) [
          | inl same ↦ is_todo w (subst (λ (x : ℕ). Contains (row_at s.waiting.items x) w) same a) e
          | inr apart ↦ is_waiting i w (puts.flags i apart ∙ f) (subst (λ (xs : List Waiter). Contains xs w) (sym (puts.waiting i apart)) a) e
        ]
        | is_todo w a e ↦ absurd (Contains-none w a)
      ];
    }

-- the waiters are places where those of one input are taken
pub waiters_fewer : (n : ℕ) (old : List (Vec Waiter Global)) (input : ℕ) (row : Vec Waiter Global) → input < length old → row.items ≡ []
    → ((i : ℕ) (x : Waiter) → Contains (row_at old i) x → x.place < n)
    → (i : ℕ) (x : Waiter) → Contains (row_at (set old input row) i) x → x.place < n
waiters_fewer n old input row within none all i x c =
    elim (cases_eq i input) [
      | inr apart ↦ all i x (subst (λ (xs : List Waiter). Contains xs x) (row_at-set_other old input i row apart) c)
      | inl same ↦ absurd (Contains-none x (subst (λ (xs : List Waiter). Contains xs x) (row_at-set_same old input row within ∙ none)
          (subst (λ (j : ℕ). Contains (row_at (set old input row) j) x) same c)))
    ]

-- the flag of a ready place isn't set
pub ready_open : (vertices : List ℕ) (rows : List (Vec ℕ Global)) (s : Sorting) (p : ℕ) → Contains s.ready.keys p
    → IsSorting vertices rows s [] → flag_at s.placed.items p ≡ false
ready_open vertices rows s p there h = false_from_ne_true _ (λ e. (h.ready p there).new (h.placed p e))

-- ---- no place is ready

-- where all vertices are placed that is their order, and no walk leads back
pub all_placed : (vertices : List ℕ) (rows : List (Vec ℕ Global)) (s : Sorting) → AreRows vertices rows → IsSorting vertices rows s []
    → ((place : ℕ) → Contains vertices place → flag_at s.placed.items place ≡ true)
    → IsRowOrder vertices rows s.order.items × (HasRowCycle rows → ⊥)
all_placed vertices rows s are h flags =
    let is : IsRowOrder vertices rows s.order.items = record { whole = λ p c. h.placed p (flags p c); lowest = h.lowest } in
    (is, acyclic (Contains vertices) (HasInput rows) are.inputs s.order.items is)

-- where one isn't, there is a walk that leads back
pub one_open : (vertices : List ℕ) (rows : List (Vec ℕ Global)) (s : Sorting) → AreRows vertices rows → IsSorting vertices rows s []
    → s.ready.keys ≡ [] → (place : ℕ) → Contains vertices place → flag_at s.placed.items place ≡ false → HasRowCycle rows
one_open vertices rows s are h none place vertex unplaced =
    cycle_among (Contains vertices) (HasInput rows) (length rows) (λ q. Contains vertices q × (flag_at s.placed.items q ≡ false))
    (λ q t. are.within q t.0)
    (λ q t. elim (h.somewhere q t.0) [
      | is_placed a ↦ absurd (one_flag _ (h.flagged q a) t.1)
      | is_ready a ↦ absurd (Contains-none q (subst (λ (ks : List ℕ). Contains ks q) none a))
      | is_waiting i w f a e ↦
          let waits = h.waiting i w f a in
          let edge : HasInput rows q i = subst (λ (x : ℕ). Contains (row_at rows x) i) e
          (w.next, waits.within, get_or_default _ w.next i 0 waits.within ∙ waits.input_is) in
          inl (i, (are.inputs q i edge, f), (0, (i, edge, refl)))
      | is_todo w a e ↦ absurd (Contains-none w a)
    ])
    place (vertex, unplaced)

-- ---- the start

-- no flag is set
flag_none : (n p : ℕ) → flag_at (replicate n false) p ≡ false
flag_none n p = elim (cases_lt p n) [
  | inl less ↦ get_or-replicate n p false false less
  | inr more ↦ get_or_past (replicate n false) p false (omega (arith, length-replicate n false))
]

-- nothing is placed, and each vertex is to be looked at
pub start : (vertices : List ℕ) (rows : List (Vec ℕ Global)) (s : Sorting) (todo : List Waiter) (n : ℕ) → s.order.items ≡ []
    → s.placed.items ≡ replicate n false → s.ready.keys ≡ [] → ((input : ℕ) → row_at s.waiting.items input ≡ [])
    → todo ≡ map first_look vertices → IsSorting vertices rows s todo
start vertices rows s todo n order placed ready waiting is =
    let none : (p : ℕ) → flag_at s.placed.items p ≡ false = λ p. ap (λ (flags : List Bool). flag_at flags p) placed ∙ flag_none n p in
    let empty : (p : ℕ) → Contains s.order.items p → ⊥ = λ p c. Contains-none p (subst (λ (xs : List ℕ). Contains xs p) order c) in
    let each : All (λ w. Contains vertices w.place × (w.next ≡ 0)) todo = subst (All (λ (w : Waiter). Contains vertices w.place × (w.next ≡ 0))) (sym is)
    (All-map (λ (w : Waiter). Contains vertices w.place × (w.next ≡ 0)) first_look vertices
    (All-weaker (Contains vertices) (λ p. Contains vertices p × ((first_look p).next ≡ 0)) (λ p c. (c, refl)) vertices (All-contains_itself vertices))) in
    record {
      lowest = λ k p at. absurd (empty p (subst (λ (xs : List ℕ). Contains xs p) refl (k, slice_get_within s.order.items k p at, get_or_from_slice_get s.order.items k p p at)));
      placed = λ p e. absurd (one_flag _ e (none p));
      flagged = λ p c. absurd (empty p c);
      ready = λ p c. absurd (Contains-none p (subst (λ (xs : List ℕ). Contains xs p) ready c));
      waiting = λ i w f c. absurd (Contains-none w (subst (λ (xs : List Waiter). Contains xs w) (waiting i) c));
      todo_looking = λ w c.
          let found = All-contains (λ (w : Waiter). Contains vertices w.place × (w.next ≡ 0)) todo w each c in
          record { vertex = found.0; new = empty w.place; before = λ k below within. absurd (let zero_is = found.1 in omega arith) };
      somewhere = λ p c. is_todo (first_look p) (subst (λ (xs : List Waiter). Contains xs (first_look p)) (sym is) (
        c.0,
        omega (arith, length-map vertices first_look, c.1),
        get_or-map first_look vertices c.0 p (first_look p) c.1 ∙ ap first_look c.2,
      )) refl;
    }

-- at the start there are no waiters
pub start_shape : (rows : List (Vec ℕ Global)) (s : Sorting) → s.placed.items ≡ replicate (length rows) false → s.ready.keys ≡ []
    → length s.waiting.items ≡ length rows → ((input : ℕ) → row_at s.waiting.items input ≡ []) → HasShape rows s
start_shape rows s placed ready count waiting = record {
  placed = ap length placed ∙ length-replicate (length rows) false;
  waiting = count;
  ready = λ p c. absurd (Contains-none p (subst (λ (xs : List ℕ). Contains xs p) ready c));
  waiters = λ i w c. absurd (Contains-none w (subst (λ (xs : List Waiter). Contains xs w) (waiting i) c));
}

-- what holds where a test was true, or false
pub on_true : {P : Type 0} (b : Bool) → OnTrue b P → b ≡ true → P
on_true true h e = h
on_true false h e = absurd (cc e)

pub on_false : {P : Type 0} (b : Bool) → OnFalse b P → b ≡ false → P
on_false true h e = absurd (cc e)
on_false false h e = h
