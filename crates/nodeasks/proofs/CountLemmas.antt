-- How many rows a table has, and how many of them are of asks that are over.
use Rattle.std.proofs.Common.{◌≡◌, ℕ, zero, suc, ◌+◌, ◌<◌, ◌≤◌, inl, inr, Bool, true, false, not, ◌&&◌, ◌||◌, cond, List, [], ◌∷◌, ◌++◌, length, set, get_or, drop, filter, Some, slice_get, refl, sym, ap, ◌∙◌, arith}
use Rattle.std.proofs.lemmas.Option.{slice_get_within, get_or_from_slice_get}
use Rattle.protocol.proofs.Base.{none_some, some_is}
use Rattle.events.specs.declared.ask.KeptAsk.{KeptAsk}
use Rattle.events.specs.declared.ask.KeptAsk.TheVariants.{Open, Holding, Running, Finished, Over}
use Rattle.nodeasks.specs.declared.ask_row.AskRow.{AskRow}
use Rattle.nodeasks.specs.declared.asks.AskChange.{AskChange}
use Rattle.nodeasks.specs.declared.asks.AskChange.TheVariants as change
use Rattle.nodeasks.specs.Asks.{changed}
use Rattle.nodeasks.specs.Rows.{is_over, row, HaveRows, present_asks, row_endings}
use Rattle.nodeasks.proofs.RowLemmas.{emptied, opened, over_counts, more_counts}
use Rattle.nodeasks.proofs.TableLemmas.{get_set}

one_counted : (b : Bool) (l p e : ℕ) → l ≡ p + e → l + 1 ≡ cond b p (p + 1) + cond b (e + 1) e
one_counted true l p e h = omega (arith, h)
one_counted false l p e h = omega (arith, h)

-- each present ask has a row, and the other rows are of asks that are over
pub rows_counted : (all : List KeptAsk) (k : ℕ) (rows : List AskRow) → HaveRows all k rows → length rows ≡ present_asks all + row_endings rows
rows_counted [] k rows h =
    let none = ap (λ (l : List AskRow). length l) (emptied k rows h) in
    let no_endings = ap row_endings (emptied k rows h) in
    omega (arith, none, no_endings)
rows_counted (s ∷ ss) k rows h = elim (opened s ss k rows h) [
  | inl own ↦ (
      let long = ap (λ (l : List AskRow). length l) own.1 in
      let over : row_endings rows ≡ cond (is_over s) (row_endings own.0 + 1) (row_endings own.0) = ap row_endings own.1 in
      let one = one_counted (is_over s) (length own.0) (present_asks ss) (row_endings own.0) (rows_counted ss (k + 1) own.0 own.2) in
      omega (arith, long, over, one))
  | inr over ↦ (
      let same : present_asks (s ∷ ss) ≡ present_asks ss = ap (λ (b : Bool). cond b (present_asks ss) (present_asks ss + 1)) over.0 in
      let rest = rows_counted ss (k + 1) rows over.1 in
      omega (arith, same, rest))
]

-- a row of an ask that isn't over comes to the end
pub endings_push : (rows : List AskRow) (n : ℕ) (new : KeptAsk) → is_over new ≡ false → row_endings (rows ++ row n new ∷ []) ≡ row_endings rows
endings_push [] n new present = ap (λ (b : Bool). cond b 1 0) present
endings_push (x ∷ xs) n new present = ap (λ (m : ℕ). cond (is_over x.kept) (m + 1) m) (endings_push xs n new present)

one_ends : (new old : Bool) (n : ℕ) → (old ≡ true → new ≡ true) → cond new (n + 1) n ≡ cond old (n + 1) n + cond (new && not old) 1 0
one_ends true true n stays = omega arith
one_ends true false n stays = omega arith
one_ends false true n stays = absurd (cc (stays refl))
one_ends false false n stays = omega arith

later_ends : (b : Bool) (m n d : ℕ) → m ≡ n + d → cond b (m + 1) m ≡ cond b (n + 1) n + d
later_ends true m n d h = omega (arith, h)
later_ends false m n d h = h

-- the ask of a row changes: one that was over stays so
endings_set : (rows : List AskRow) (index place : ℕ) (r : AskRow) (new : KeptAsk) → slice_get rows index ≡ Some r → (is_over r.kept ≡ true → is_over new ≡ true)
    → row_endings (set rows index (row place new)) ≡ row_endings rows + cond (is_over new && not (is_over r.kept)) 1 0
endings_set [] index place r new get stays = none_some r get
endings_set (x ∷ xs) zero place r new get stays =
    one_ends (is_over new) (is_over r.kept) (row_endings xs) stays
    ∙ ap (λ (y : AskRow). row_endings (y ∷ xs) + cond (is_over new && not (is_over r.kept)) 1 0) (sym (some_is x r get))
endings_set (x ∷ xs) (suc i) place r new get stays =
    later_ends (is_over x.kept) (row_endings (set xs i (row place new))) (row_endings xs) (cond (is_over new && not (is_over r.kept)) 1 0) (endings_set xs i place r new get stays)

-- an ask that is over stays so, whatever happens to it
over_stays : (with : AskChange) (s : KeptAsk) → is_over s ≡ true → is_over (changed with s) ≡ true
over_stays with (Open wants tenure) e = absurd (cc e)
over_stays with (Holding wants g r) e = absurd (cc e)
over_stays with (Running wants g r) e = absurd (cc e)
over_stays with (Finished wants g news) e = absurd (cc e)
over_stays (change.Grant g) (Over how) e = refl
over_stays change.Begin (Over how) e = refl
over_stays (change.Finish news) (Over how) e = refl
over_stays change.Recall (Over how) e = refl
over_stays (change.End new) (Over how) e = refl

-- the endings after a change, by what was tested before it and after it
pub endings_change : (with : AskChange) (rows : List AskRow) (index more : ℕ) (old was now : AskRow) (new : KeptAsk) (was_over now_over : Bool) → slice_get rows index ≡ Some old → new ≡ changed with old.kept
    → was ≡ get_or rows index was → was_over ≡ is_over was.kept → now ≡ get_or (set rows index (row old.place new)) index now → now_over ≡ is_over now.kept → more ≡ cond (now_over && not was_over) 1 0
    → row_endings (set rows index (row old.place new)) ≡ row_endings rows + more
endings_change with rows index more old was now new was_over now_over get changing at tested after tested_after counting =
    let before : was ≡ old = at ∙ get_or_from_slice_get rows index old was get in
    let there : now ≡ row old.place new = after ∙ get_set rows index (row old.place new) now (slice_get_within rows index old get) in
    let was_is : was_over ≡ is_over old.kept = tested ∙ ap (λ (r : AskRow). is_over r.kept) before in
    let now_is : now_over ≡ is_over new = tested_after ∙ ap (λ (r : AskRow). is_over r.kept) there in
    endings_set rows index old.place old new get (λ e. ap is_over changing ∙ over_stays with old.kept e)
    ∙ ap (λ (n : ℕ). row_endings rows + n) (sym (counting ∙ (λ j. cond (now_is j && not (was_is j)) 1 0)))

stays_or_goes : (b : Bool) (x : AskRow) (kept rest : List AskRow) → row_endings kept ≤ row_endings rest → row_endings (cond b (x ∷ kept) kept) ≤ row_endings (x ∷ rest)
stays_or_goes true x kept rest h = over_counts (is_over x.kept) (row_endings kept) (row_endings rest) h
stays_or_goes false x kept rest h = more_counts (is_over x.kept) (row_endings kept) (row_endings rest) h

pub filter_endings : (p : AskRow → Bool) (rows : List AskRow) → row_endings (filter p rows) ≤ row_endings rows
filter_endings p [] = omega arith
filter_endings p (x ∷ xs) = stays_or_goes (p x) x (filter p xs) xs (filter_endings p xs)

goes_if_over : (b over : Bool) (x : AskRow) (kept : List AskRow) (m : ℕ) → is_over x.kept ≡ over → (over ≡ true → b ≡ false) → row_endings kept ≤ m → row_endings (cond b (x ∷ kept) kept) ≤ m
goes_if_over false over x kept m is goes h = h
goes_if_over true true x kept m is goes h = absurd (cc (goes refl))
goes_if_over true false x kept m is goes h = (let same : row_endings (x ∷ kept) ≡ row_endings kept = ap (λ (b : Bool). cond b (row_endings kept + 1) (row_endings kept)) is in omega (arith, same, h))

-- where of the rows before one those go that are of asks that are over, no more such rows stay than stand from that one on
pub few_stay : (p : AskRow → Bool) (rows : List AskRow) (first : ℕ) → ((i : ℕ) (r : AskRow) → i < first → slice_get rows i ≡ Some r → is_over r.kept ≡ true → p r ≡ false) → row_endings (filter p rows) ≤ row_endings (drop first rows)
few_stay p [] first early = omega arith
few_stay p (x ∷ xs) zero early = filter_endings p (x ∷ xs)
few_stay p (x ∷ xs) (suc n) early =
    goes_if_over (p x) (is_over x.kept) x (filter p xs) (row_endings (drop n xs)) refl (λ over. early zero x (omega arith) refl over)
    (few_stay p xs n (λ i r before get over. early (suc i) r (omega (arith, before)) get over))

-- a row that goes passes neither test
pub passes_neither : (b over : Bool) → b ≡ false → over ≡ true → (b || not over) ≡ false
passes_neither true over e o = absurd (cc e)
passes_neither false true e o = refl
passes_neither false false e o = absurd (cc o)
