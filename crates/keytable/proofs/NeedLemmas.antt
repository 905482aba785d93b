-- Which outputs of a key are needed.
use Rattle.std.proofs.Common.{◌≡◌, ◌+◌, ◌<◌, ◌≤◌, ℕ, ◌⊎◌, inl, inr, List, length, Option, Some, None, IfSome, IsSomeAnd, slice_get, refl, ap, sym, ◌∙◌, subst, arith}
use Rattle.std.specs.List.{Contains}
use Rattle.std.proofs.lemmas.Bool.{cases_eq}
use Rattle.std.proofs.lemmas.Option.{slice_get_within}
use Rattle.names.specs.declared.digest.Key.{Key}
use Rattle.lists.proofs.Places.{some_is, at_Contains}
use Rattle.keytable.specs.declared.entry.Entry.{Entry}
use Rattle.keytable.specs.declared.users.Users.{Users}
use Rattle.keytable.specs.Needs.{NeedsOutput, by_input, by_job, LinksOutput}
use Rattle.keytable.specs.Users.{AreUsers}

-- the later of two indexes is one of them
pub later_is : (P : ℕ → Type 0) (last : Option ℕ) (index new : ℕ) → (new ≡ index) ⊎ (last ≡ Some new) → IfSome last P → P index → P new
later_is P last index new (inl is) before own = subst P (sym is) own
later_is P last index new (inr is) before own = subst (λ (o : Option ℕ). IfSome o P) is before

-- and no less than what was covered before
pub later_covers : (last : Option ℕ) (new index : ℕ) → IfSome last (λ before. before ≤ new) → IsSomeAnd last (λ before. index ≤ before) → index ≤ new
later_covers None new index below covers = absurd covers
later_covers (Some before) new index below covers = omega (arith, below, covers)

-- one more output was looked at
pub named_more : (xs : List (Key × ℕ)) (key : Key) (n : ℕ) (x : Key × ℕ) (last new : Option ℕ) → slice_get xs n ≡ Some x
    → ((k index : ℕ) → k < n → slice_get xs k ≡ Some (key, index) → IsSomeAnd last (λ before. index ≤ before))
    → ((index : ℕ) → IsSomeAnd last (λ before. index ≤ before) → IsSomeAnd new (λ now. index ≤ now)) → (x.0 ≡ key → IsSomeAnd new (λ now. x.1 ≤ now))
    → (k index : ℕ) → k < n + 1 → slice_get xs k ≡ Some (key, index) → IsSomeAnd new (λ now. index ≤ now)
named_more xs key n x last new at greatest keeps own k index less there = elim (cases_eq k n) [
  | inl same ↦ (let one : x ≡ (key, index) = some_is x (key, index) (sym at ∙ ap (slice_get xs) (sym same) ∙ there) in
      subst (λ (i : ℕ). IsSomeAnd new (λ now. i ≤ now)) (ap (λ (y : Key × ℕ). y.1) one) (own (ap (λ (y : Key × ℕ). y.0) one)))
  | inr apart ↦ keeps index (greatest k index (omega (arith, less, apart)) there)
]

-- ---- links and inputs

module _ (es : List Entry) (u : Users) (users : AreUsers es u) (n : ℕ) (e : Entry) (at : slice_get es n ≡ Some e) (key : Key) (named : e.key ≡ key) where
  pub linked_needed : (results : List (Key × ℕ)) (index : ℕ) → LinksOutput u.links.items n index → NeedsOutput results es key index
  linked_needed results index l =
      let i = users.inputs l.place l.link l.at in
      let x = i.user in
      let one : x.of ≡ e = some_is x.of e (sym x.of_at ∙ ap (slice_get es) l.from ∙ at) in
      let by_key : Key → Key × ℕ = λ k. (k, x.input.1) in
      let by_index : ℕ → Key × ℕ = λ j. (key, j) in
      let is : x.input ≡ (key, index) = ap by_key (sym x.named ∙ ap (λ (y : Entry). y.key) one ∙ named) ∙ ap by_index (i.index ∙ l.named) in
      by_input l.link.user x.entry x.at (subst (Contains x.entry.inputs) is x.has)

  pub needed_linked : length u.lasts.items ≡ length es → (number index : ℕ) (entry : Entry) → slice_get es number ≡ Some entry → Contains entry.inputs (key, index) → LinksOutput u.links.items n index
  needed_linked count number index entry there has =
      let within = slice_get_within es number entry there in
      let c = at_Contains u.links.items (record { source = n; index = index; user = number }) (users.noted number (omega (arith, within, count)) entry (key, index) there has n e at named) in
      record { place = c.0; link = record { source = n; index = index; user = number }; at = c.1; from = refl; named = refl }

-- ---- what is needed of a key

module _ (results : List (Key × ℕ)) (es : List Entry) (key : Key) where
  pub job_needs : (given : Option ℕ) → IfSome given (λ last. Contains results (key, last)) → IfSome given (NeedsOutput results es key)
  job_needs None h = tt
  job_needs (Some last) h = by_job h

  pub all_covered : (given : Option ℕ) → ((index : ℕ) → Contains results (key, index) → IsSomeAnd given (λ last. index ≤ last))
      → ((number index : ℕ) (entry : Entry) → slice_get es number ≡ Some entry → Contains entry.inputs (key, index) → IsSomeAnd given (λ last. index ≤ last))
      → (index : ℕ) → NeedsOutput results es key index → IsSomeAnd given (λ last. index ≤ last)
  all_covered given by_jobs by_inputs index (by_input number entry at has) = by_inputs number index entry at has
  all_covered given by_jobs by_inputs index (by_job has) = by_jobs index has
