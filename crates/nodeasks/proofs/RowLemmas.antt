-- The rows of a node's asks.
use Rattle.std.proofs.Common.{◌≡◌, ◌⊎◌, ℕ, zero, suc, ◌+◌, ◌<◌, ◌≤◌, inl, inr, Bool, true, false, cond, List, [], ◌∷◌, ◌++◌, length, set, drop, filter, Some, slice_get, refl, sym, ap, subst, ◌∙◌, arith}
use Rattle.std.specs.Prelude.{◌==◌}
use Rattle.std.specs.Bool.{MatchBool}
use Rattle.std.proofs.lemmas.Bool.{cases_Bool, eqb-true, eq-eqb, ne_eqb}
use Rattle.protocol.proofs.Base.{none_some, some_is}
use Rattle.events.specs.declared.ask.KeptAsk.{KeptAsk}
use Rattle.nodeasks.specs.declared.ask_row.AskRow.{AskRow}
use Rattle.nodeasks.specs.Rows.{is_over, row, HaveRows, with_ask, endings, row_endings}

-- no row stands where no ask does
no_rows : {P : Type 0} (rows : List AskRow) (index : ℕ) (r : AskRow) → rows ≡ [] → slice_get rows index ≡ Some r → P
no_rows rows index r h get = none_some r (sym (ap (λ (l : List AskRow). slice_get l index) h) ∙ get)

-- what the first row is, and the others
first_row : (x r : AskRow) (rest rows : List AskRow) → rows ≡ x ∷ rest → slice_get rows zero ≡ Some r → x ≡ r
first_row x r rest rows h get = some_is x r (sym (ap (λ (l : List AskRow). slice_get l zero) h) ∙ get)

next_row : (x r : AskRow) (rest rows : List AskRow) (i : ℕ) → rows ≡ x ∷ rest → slice_get rows (suc i) ≡ Some r → slice_get rest i ≡ Some r
next_row x r rest rows i h get = sym (ap (λ (l : List AskRow). slice_get l (suc i)) h) ∙ get

pub emptied : (k : ℕ) (rows : List AskRow) → HaveRows [] k rows → rows ≡ []
emptied k [] h = refl
emptied k (r ∷ rs) h = absurd h

opened_by : (s : KeptAsk) (ss : List KeptAsk) (k : ℕ) (r : AskRow) (rs : List AskRow) (b : Bool) → (r.place == k) ≡ b → MatchBool b ((r.kept ≡ s) × HaveRows ss (k + 1) rs) ((is_over s ≡ true) × HaveRows ss (k + 1) (r ∷ rs))
    → ((rest : List AskRow) × (r ∷ rs ≡ row k s ∷ rest) × HaveRows ss (k + 1) rest) ⊎ ((is_over s ≡ true) × HaveRows ss (k + 1) (r ∷ rs))
opened_by s ss k r rs true e h = (let here : r.place ≡ k = eqb-true r.place k e in inl (rs, (λ j. record { place = here j; kept = h.0 j } ∷ rs), h.1))
opened_by s ss k r rs false e h = inr h

-- the first of the asks has its own row, or is over and has none
pub opened : (s : KeptAsk) (ss : List KeptAsk) (k : ℕ) (rows : List AskRow) → HaveRows (s ∷ ss) k rows
    → ((rest : List AskRow) × (rows ≡ row k s ∷ rest) × HaveRows ss (k + 1) rest) ⊎ ((is_over s ≡ true) × HaveRows ss (k + 1) rows)
opened s ss k [] h = inr h
opened s ss k (r ∷ rs) h = opened_by s ss k r rs (r.place == k) refl h

pub over_counts : (b : Bool) (m n : ℕ) → m ≤ n → cond b (m + 1) m ≤ cond b (n + 1) n
over_counts true m n h = omega (arith, h)
over_counts false m n h = omega (arith, h)

pub more_counts : (b : Bool) (m n : ℕ) → m ≤ n → m ≤ cond b (n + 1) n
more_counts true m n h = omega (arith, h)
more_counts false m n h = omega (arith, h)

-- as many asks are over as rows of such asks are there, or more
counted : (all : List KeptAsk) (k : ℕ) (rows : List AskRow) → HaveRows all k rows → row_endings rows ≤ endings all
counted [] k rows h = (let none : row_endings rows ≡ 0 = ap row_endings (emptied k rows h) in omega (arith, none))
counted (s ∷ ss) k rows h = elim (opened s ss k rows h) [
  | inl own ↦ (
      let is : row_endings rows ≡ cond (is_over s) (row_endings own.0 + 1) (row_endings own.0) = ap row_endings own.1 in
      let less = over_counts (is_over s) (row_endings own.0) (endings ss) (counted ss (k + 1) own.0 own.2) in
      subst (λ (n : ℕ). n ≤ cond (is_over s) (endings ss + 1) (endings ss)) (sym is) less)
  | inr over ↦ more_counts (is_over s) (row_endings rows) (endings ss) (counted ss (k + 1) rows over.1)
]

-- where the row at an index stands among the asks: at its place, and no fewer asks from there on are over than rows are
pub record Placed (all : List KeptAsk) (k : ℕ) (rows : List AskRow) (index : ℕ) (r : AskRow) : Type 0 where
  pub at : ℕ
  pub place : r.place ≡ k + at
  pub get : slice_get all at ≡ Some r.kept
  pub later : row_endings (drop index rows) ≤ endings (drop at all)

placed_later : (s : KeptAsk) (ss : List KeptAsk) (k : ℕ) (rows rest : List AskRow) (index : ℕ) (r : AskRow) → rows ≡ row k s ∷ rest → Placed ss (k + 1) rest index r → Placed (s ∷ ss) k rows (suc index) r
placed_later s ss k rows rest index r h p = record {
  at = suc p.at;
  place = omega (arith, p.place);
  get = p.get;
  later = subst (λ (l : List AskRow). row_endings (drop (suc index) l) ≤ endings (drop p.at ss)) (sym h) p.later;
}

placed_past : (s : KeptAsk) (ss : List KeptAsk) (k : ℕ) (rows : List AskRow) (index : ℕ) (r : AskRow) → Placed ss (k + 1) rows index r → Placed (s ∷ ss) k rows index r
placed_past s ss k rows index r p = record { at = suc p.at; place = omega (arith, p.place); get = p.get; later = p.later }

placed_first : (s : KeptAsk) (ss : List KeptAsk) (k : ℕ) (rows : List AskRow) (r : AskRow) → HaveRows (s ∷ ss) k rows → row k s ≡ r → Placed (s ∷ ss) k rows zero r
placed_first s ss k rows r h is = record {
  at = zero;
  place = (let e : r.place ≡ k = ap (λ (x : AskRow). x.place) (sym is) in omega (arith, e));
  get = ap (λ (x : AskRow). Some x.kept) is;
  later = counted (s ∷ ss) k rows h;
}

pub placed : (all : List KeptAsk) (k : ℕ) (rows : List AskRow) (index : ℕ) (r : AskRow) → HaveRows all k rows → slice_get rows index ≡ Some r → Placed all k rows index r
placed [] k rows index r h get = no_rows rows index r (emptied k rows h) get
placed (s ∷ ss) k rows zero r h get = elim (opened s ss k rows h) [
  | inl own ↦ placed_first s ss k rows r h (first_row (row k s) r own.0 rows own.1 get)
  | inr over ↦ placed_past s ss k rows zero r (placed ss (k + 1) rows zero r over.1 get)
]
placed (s ∷ ss) k rows (suc i) r h get = elim (opened s ss k rows h) [
  | inl own ↦ placed_later s ss k rows own.0 i r own.1 (placed ss (k + 1) own.0 i r own.2 (next_row (row k s) r own.0 rows i own.1 get))
  | inr over ↦ placed_past s ss k rows (suc i) r (placed ss (k + 1) rows (suc i) r over.1 get)
]

-- the ask of a row stands at its place
pub kept_at : (all : List KeptAsk) (rows : List AskRow) (index : ℕ) (r : AskRow) → HaveRows all 0 rows → slice_get rows index ≡ Some r → slice_get all r.place ≡ Some r.kept
kept_at all rows index r h get =
    let p = placed all 0 rows index r h get in
    let is : r.place ≡ p.at = omega (arith, p.place) in
    ap (slice_get all) is ∙ p.get

low : (all : List KeptAsk) (k : ℕ) (rows : List AskRow) (index : ℕ) (r : AskRow) → HaveRows all k rows → slice_get rows index ≡ Some r → k ≤ r.place
low all k rows index r h get = (let p = placed all k rows index r h get in omega (arith, p.place))

own_row : (s : KeptAsk) (ss : List KeptAsk) (k : ℕ) (rest rows : List AskRow) → rows ≡ row k s ∷ rest → HaveRows ss (k + 1) rest → HaveRows (s ∷ ss) k rows
own_row s ss k rest rows is h =
    subst (HaveRows (s ∷ ss) k) (sym is)
    (subst (λ (b : Bool). MatchBool b ((s ≡ s) × HaveRows ss (k + 1) rest) ((is_over s ≡ true) × HaveRows ss (k + 1) (row k s ∷ rest))) (sym (eq-eqb k k refl)) (refl, h))

no_own_row : (s : KeptAsk) (ss : List KeptAsk) (k : ℕ) (rows : List AskRow) → is_over s ≡ true → HaveRows ss (k + 1) rows → HaveRows (s ∷ ss) k rows
no_own_row s ss k [] over h = (over, h)
no_own_row s ss k (r ∷ rs) over h =
    let above = low ss (k + 1) (r ∷ rs) zero r h refl in
    subst (λ (b : Bool). MatchBool b ((r.kept ≡ s) × HaveRows ss (k + 1) rs) ((is_over s ≡ true) × HaveRows ss (k + 1) (r ∷ rs))) (sym (ne_eqb r.place k (λ e. omega (arith, e, above)))) (over, h)

-- there are no more rows than asks
pub rows_few : (all : List KeptAsk) (k : ℕ) (rows : List AskRow) → HaveRows all k rows → length rows ≤ length all
rows_few [] k rows h = (let none = ap (λ (l : List AskRow). length l) (emptied k rows h) in omega (arith, none))
rows_few (s ∷ ss) k rows h = elim (opened s ss k rows h) [
  | inl own ↦ (let is = ap (λ (l : List AskRow). length l) own.1 in let less = rows_few ss (k + 1) own.0 own.2 in omega (arith, is, less))
  | inr over ↦ (let less = rows_few ss (k + 1) rows over.1 in omega (arith, less))
]

-- places rise
pub rising : (all : List KeptAsk) (k : ℕ) (rows : List AskRow) (i j : ℕ) (x y : AskRow) → HaveRows all k rows → i < j → slice_get rows i ≡ Some x → slice_get rows j ≡ Some y → x.place < y.place
rising [] k rows i j x y h less at get = no_rows rows i x (emptied k rows h) at
rising (s ∷ ss) k rows i zero x y h less at get = absurd (omega (arith, less))
rising (s ∷ ss) k rows zero (suc j) x y h less at get = elim (opened s ss k rows h) [
  | inl own ↦ (
      let is : x.place ≡ k = ap (λ (r : AskRow). r.place) (sym (first_row (row k s) x own.0 rows own.1 at)) in
      let above = low ss (k + 1) own.0 j y own.2 (next_row (row k s) y own.0 rows j own.1 get) in
      omega (arith, is, above))
  | inr over ↦ rising ss (k + 1) rows zero (suc j) x y over.1 less at get
]
rising (s ∷ ss) k rows (suc i) (suc j) x y h less at get = elim (opened s ss k rows h) [
  | inl own ↦ rising ss (k + 1) own.0 i j x y own.2 (omega (arith, less)) (next_row (row k s) x own.0 rows i own.1 at) (next_row (row k s) y own.0 rows j own.1 get)
  | inr over ↦ rising ss (k + 1) rows (suc i) (suc j) x y over.1 less at get
]

-- the ask of a row changes
pub have_set : (all : List KeptAsk) (k : ℕ) (rows : List AskRow) (index : ℕ) (r : AskRow) (at : ℕ) (new : KeptAsk) → HaveRows all k rows → slice_get rows index ≡ Some r → r.place ≡ k + at → HaveRows (set all at new) k (set rows index (row r.place new))
have_set [] k rows index r at new h get is = no_rows rows index r (emptied k rows h) get
have_set (s ∷ ss) k rows zero r zero new h get is = elim (opened s ss k rows h) [
  | inl own ↦ (
      let here : r.place ≡ k = omega (arith, is) in
      own_row new ss k own.0 (set rows zero (row r.place new)) (ap (λ (l : List AskRow). set l zero (row r.place new)) own.1 ∙ ap (λ (p : ℕ). row p new ∷ own.0) here) own.2)
  | inr over ↦ (let above = low ss (k + 1) rows zero r over.1 get in absurd (omega (arith, is, above)))
]
have_set (s ∷ ss) k rows zero r (suc a) new h get is = elim (opened s ss k rows h) [
  | inl own ↦ (let here : r.place ≡ k = ap (λ (x : AskRow). x.place) (sym (first_row (row k s) r own.0 rows own.1 get)) in absurd (omega (arith, is, here)))
  | inr over ↦ no_own_row s (set ss a new) k (set rows zero (row r.place new)) over.0 (have_set ss (k + 1) rows zero r a new over.1 get (omega (arith, is)))
]
have_set (s ∷ ss) k rows (suc i) r zero new h get is = elim (opened s ss k rows h) [
  | inl own ↦ (let above = low ss (k + 1) own.0 i r own.2 (next_row (row k s) r own.0 rows i own.1 get) in absurd (omega (arith, is, above)))
  | inr over ↦ (let above = low ss (k + 1) rows (suc i) r over.1 get in absurd (omega (arith, is, above)))
]
have_set (s ∷ ss) k rows (suc i) r (suc a) new h get is = elim (opened s ss k rows h) [
  | inl own ↦ own_row s (set ss a new) k (set own.0 i (row r.place new)) (set rows (suc i) (row r.place new))
      (ap (λ (l : List AskRow). set l (suc i) (row r.place new)) own.1)
      (have_set ss (k + 1) own.0 i r a new own.2 (next_row (row k s) r own.0 rows i own.1 get) (omega (arith, is)))
  | inr over ↦ no_own_row s (set ss a new) k (set rows (suc i) (row r.place new)) over.0 (have_set ss (k + 1) rows (suc i) r a new over.1 get (omega (arith, is)))
]

-- one ask more
pub have_push : (all : List KeptAsk) (k : ℕ) (rows : List AskRow) (n : ℕ) (new : KeptAsk) → HaveRows all k rows → n ≡ k + length all → HaveRows (all ++ new ∷ []) k (rows ++ row n new ∷ [])
have_push [] k rows n new h is =
    let here : n ≡ k = omega (arith, is) in
    own_row new [] k [] (rows ++ row n new ∷ []) (ap (λ (l : List AskRow). l ++ row n new ∷ []) (emptied k rows h) ∙ ap (λ (p : ℕ). row p new ∷ []) here) tt
have_push (s ∷ ss) k rows n new h is = elim (opened s ss k rows h) [
  | inl own ↦ own_row s (ss ++ new ∷ []) k (own.0 ++ row n new ∷ []) (rows ++ row n new ∷ []) (ap (λ (l : List AskRow). l ++ row n new ∷ []) own.1) (have_push ss (k + 1) own.0 n new own.2 (omega (arith, is)))
  | inr over ↦ no_own_row s (ss ++ new ∷ []) k (rows ++ row n new ∷ []) over.0 (have_push ss (k + 1) rows n new over.1 (omega (arith, is)))
]

filtered : (p : AskRow → Bool) (x : AskRow) (rest rows : List AskRow) (b : Bool) → rows ≡ x ∷ rest → p x ≡ b → filter p rows ≡ cond b (x ∷ filter p rest) (filter p rest)
filtered p x rest rows b h is = ap (filter p) h ∙ ap (λ (c : Bool). cond c (x ∷ filter p rest) (filter p rest)) is

-- rows of asks that are over may go
pub have_filter : (p : AskRow → Bool) → ((r : AskRow) → p r ≡ false → is_over r.kept ≡ true) → (all : List KeptAsk) (k : ℕ) (rows : List AskRow) → HaveRows all k rows → HaveRows all k (filter p rows)
have_filter p goes [] k rows h = subst (HaveRows [] k) (sym (ap (filter p) (emptied k rows h))) tt
have_filter p goes (s ∷ ss) k rows h = elim (opened s ss k rows h) [
  | inl own ↦ elim (cases_Bool (p (row k s))) [
    | inl stays ↦ own_row s ss k (filter p own.0) (filter p rows) (filtered p (row k s) own.0 rows true own.1 stays) (have_filter p goes ss (k + 1) own.0 own.2)
    | inr left ↦ no_own_row s ss k (filter p rows) (goes (row k s) left) (subst (HaveRows ss (k + 1)) (sym (filtered p (row k s) own.0 rows false own.1 left)) (have_filter p goes ss (k + 1) own.0 own.2))
  ]
  | inr over ↦ no_own_row s ss k (filter p rows) over.0 (have_filter p goes ss (k + 1) rows over.1)
]

-- with_ask at a place that is there, and at the end
pub with_ask_in : (all : List KeptAsk) (i : ℕ) (s x : KeptAsk) → slice_get all i ≡ Some x → with_ask all i s ≡ set all i s
with_ask_in [] i s x h = none_some x h
with_ask_in (y ∷ ys) zero s x h = refl
with_ask_in (y ∷ ys) (suc i) s x h = ap (λ (l : List KeptAsk). y ∷ l) (with_ask_in ys i s x h)

pub with_ask_end : (all : List KeptAsk) (i : ℕ) (s : KeptAsk) → i ≡ length all → with_ask all i s ≡ all ++ s ∷ []
with_ask_end [] i s h = refl
with_ask_end (y ∷ ys) zero s h = absurd (omega (arith, h))
with_ask_end (y ∷ ys) (suc i) s h = ap (λ (l : List KeptAsk). y ∷ l) (with_ask_end ys i s (omega (arith, h)))
