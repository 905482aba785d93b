-- How one more digest changes a table.
use Rattle.std.proofs.Common.{◌≡◌, ℕ, suc, ◌+◌, ◌<◌, inl, inr, Bool, true, false, cond, List, [], ◌∷◌, ◌++◌, length, get_or, Option, Some, None, refl, sym, ap, ◌∙◌, subst, arith}
use Rattle.std.specs.List.{slice_get}
use Rattle.std.specs.Option.{is_some}
use Rattle.std.specs.List.Sorted.{IsStrictlyIncreasing}
use Rattle.std.proofs.lemmas.Bool.{cases_lt, cases_order, cases_Bool}
use Rattle.std.proofs.lemmas.List.{get_or_append_left, get_or_push, length_push}
use Rattle.std.proofs.lemmas.Option.{slice_get-get_or, slice_get_within}
use Rattle.std.proofs.lemmas.Slice.Eq.{bytes_eq-Decides}
use Rattle.names.specs.declared.digest.Digest.{Digest}
use Rattle.ordering.specs.declared.table.Table.{Table}
use Rattle.names.proofs.CompareLaws.{digest_exact}
use Rattle.names.specs.Digests.{digest_eq}
use Rattle.lists.proofs.Places.{get_push_cases, get_push_left, get_push_end}
use Rattle.ordering.specs.Firsts.{IsFirstAt, number_in, IsTable}

pub digest_apart : (a b : Digest) → digest_eq a b ≡ false → a ≡ b → ⊥
digest_apart a b e same = let yes_it_is = (bytes_eq-Decides a.0 b.0).1 (ap (λ (d : Digest). d.0) same) in cc (e, yes_it_is)

-- the first place stays the first with one more digest
pub first_more : (digests : List Digest) (more : Digest) (place : ℕ) (digest : Digest) → IsFirstAt digests place digest → IsFirstAt (digests ++ more ∷ []) place digest
first_more digests more place digest h = record {
  there = get_push_left digests more place digest h.there;
  earlier = λ other less at. elim (get_push_cases digests more other digest at) [
    | inl old ↦ h.earlier other less old.1
    | inr end ↦ let within = slice_get_within digests place digest h.there in let is = end.0 in omega arith
  ];
}

-- a digest has one first place
pub first_once : (digests : List Digest) (p q : ℕ) (digest : Digest) → IsFirstAt digests p digest → IsFirstAt digests q digest → p ≡ q
first_once digests p q digest h k = elim (cases_order p q) [
  | inl same ↦ same
  | inr apart ↦ elim apart [ inl less ↦ absurd (k.earlier p less h.there) | inr more ↦ absurd (h.earlier q more k.there) ]
]

-- a digest that is in the table
pub table_same : (digests : List Digest) (table : Table) (more : Digest) (number : ℕ) → number_in table more ≡ Some number → IsTable digests table
    → IsTable (digests ++ more ∷ []) table
table_same digests table more number is h = record {
  found = λ d v e. let f = h.found d v e in (f.0, f.1, first_more digests more f.0 d f.2);
  missing = λ d q none at. elim (get_push_cases digests more q d at) [
    | inl old ↦ h.missing d q none old.1
    | inr end ↦ let same : number_in table more ≡ number_in table d = ap (number_in table) end.1 in cc (same, is, none)
  ];
  vertex = λ v p at. let f = h.vertex v p at in (f.0, first_more digests more p f.0 f.1, f.2);
  rising = h.rising;
}

-- numbers that rise, with a greater one at their end
rising_more : (xs : List ℕ) (y : ℕ) → IsStrictlyIncreasing xs → ((k x : ℕ) → slice_get xs k ≡ Some x → x < y) → IsStrictlyIncreasing (xs ++ y ∷ [])
rising_more xs y rising below k within =
    let len = length_push xs y in
    elim (cases_lt (suc k) (length xs)) [
      | inl less ↦
          let a = get_or_append_left xs (y ∷ []) 0 k (omega arith) in
          let b = get_or_append_left xs (y ∷ []) 0 (k + 1) (omega arith) in
          let h = rising k (omega arith) in
          omega arith
      | inr more ↦
          let end : length xs ≡ k + 1 = omega arith in
          let a = get_or_append_left xs (y ∷ []) 0 k (omega arith) in
          let b = get_or_push xs y 0 (k + 1) end in
          let h = below k (get_or xs k 0) (slice_get-get_or xs k 0 (omega arith)) in
          omega arith
    ]

-- a digest that isn't in the table
pub table_more : (digests : List Digest) (old new : Table) (more : Digest) → IsTable digests old → number_in old more ≡ None
    → new.places.items ≡ old.places.items ++ length digests ∷ []
    → ((d : Digest) → number_in new d ≡ cond (digest_eq more d) (Some (length old.places.items)) (number_in old d))
    → IsTable (digests ++ more ∷ []) new
table_more digests old new more h none places numbers =
    let here : IsFirstAt (digests ++ more ∷ []) (length digests) more = record {
      there = get_push_end digests more;
      earlier = λ other less at. elim (get_push_cases digests more other more at) [
        | inl was ↦ h.missing more other none was.1
        | inr end ↦ let is = end.0 in omega arith
      ];
    } in
    let m = length old.places.items in
    let numbered : (d : Digest) (b : Bool) → digest_eq more d ≡ b → number_in new d ≡ cond b (Some m) (number_in old d)
    = λ d b e. numbers d ∙ ap (λ (c : Bool). cond c (Some m) (number_in old d)) e in
    let at_end : slice_get new.places.items m ≡ Some (length digests)
    = ap (λ (xs : List ℕ). slice_get xs m) places ∙ get_push_end old.places.items (length digests) in
    let kept : (v p : ℕ) → slice_get old.places.items v ≡ Some p → slice_get new.places.items v ≡ Some p
    = λ v p e. ap (λ (xs : List ℕ). slice_get xs v) places ∙ get_push_left old.places.items (length digests) v p e in
    record {
      found = λ d v e. elim (cases_Bool (digest_eq more d)) [
        | inl t ↦
            let is : m ≡ v = let f = numbered d true t in cc (f, e) in
            let same = digest_exact more d t in (
              length digests,
              subst (λ (k : ℕ). slice_get new.places.items k ≡ Some (length digests)) is at_end,
              subst (λ (x : Digest). IsFirstAt (digests ++ more ∷ []) (length digests) x) same here,
            )
        | inr f ↦
            let was = h.found d v (sym (numbered d false f) ∙ e) in
            (was.0, kept v was.0 was.1, first_more digests more was.0 d was.2)
      ];
      missing = λ d q empty at. elim (cases_Bool (digest_eq more d)) [
        | inl t ↦ let f = numbered d true t in cc (f, empty)
        | inr f ↦ elim (get_push_cases digests more q d at) [
          | inl was ↦ h.missing d q (sym (numbered d false f) ∙ empty) was.1
          | inr end ↦ digest_apart more d f end.1
        ]
      ];
      vertex = λ v p at. elim (get_push_cases old.places.items (length digests) v p (ap (λ (xs : List ℕ). slice_get xs v) (sym places) ∙ at)) [
        | inl was ↦
            let f = h.vertex v p was.1 in
            let apart : digest_eq more f.0 ≡ false = elim (cases_Bool (digest_eq more f.0)) [
              | inl t ↦ absurd (let same : number_in old more ≡ number_in old f.0 = ap (number_in old) (digest_exact more f.0 t) in let is = f.2 in cc (same, is, none))
              | inr e ↦ e
            ] in
            (f.0, first_more digests more p f.0 f.1, numbered f.0 false apart ∙ f.2)
        | inr end ↦
            let same : digest_eq more more ≡ true = (bytes_eq-Decides more.0 more.0).1 refl in (
              more,
              subst (λ (k : ℕ). IsFirstAt (digests ++ more ∷ []) k more) end.1 here,
              numbered more true same ∙ ap (λ (k : ℕ). Some k) (sym end.0),
            )
      ];
      rising = subst IsStrictlyIncreasing (sym places) (rising_more old.places.items (length digests) h.rising
          (λ k x at. let f = h.vertex k x at in slice_get_within digests x f.0 f.1.there));
    }

-- what isn't there is None
pub not_some : {X : Type 0} (o : Option X) (b : Bool) → b ≡ is_some o → b ≡ false → o ≡ None
not_some None b e f = refl
not_some (Some x) b e f = absurd (cc (e, f))
