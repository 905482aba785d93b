-- What a scan of the rows tells of all asks.
use Rattle.std.proofs.Common.{◌≡◌, ◌⊎◌, ℕ, zero, suc, ◌+◌, inl, inr, Bool, true, false, not, ◌&&◌, ◌||◌, cond, List, [], ◌∷◌, Option, Some, None, slice_get, is_some, refl, sym, ap, subst, ◌∙◌, arith}
use Rattle.std.specs.Prelude.{◌==◌, IfSome, IfNone}
use Rattle.std.specs.List.{list_any, position, position_from}
use Rattle.std.proofs.lemmas.Bool.{cases_Bool, eqb-true, eq-eqb, ne_eqb}
use Rattle.std.proofs.lemmas.Iterator.Adapters.{position_from-zero}
use Rattle.protocol.proofs.Base.{some_is}
use Rattle.protocol.specs.Lists.{nth}
use Rattle.protocol.specs.Names.{Digest, FolderName, Ticket, Want}
use Rattle.protocol.specs.Nodes.{is_base, is_home_of, is_tenure_of, needs, others_use, uses}
use Rattle.events.specs.declared.answer.How.{How}
use Rattle.events.specs.declared.ask.KeptAsk.{KeptAsk}
use Rattle.events.specs.declared.ask.KeptAsk.TheVariants.{Open, Holding, Running, Finished, Over}
use Rattle.nodeasks.specs.declared.ask_row.AskRow.{AskRow}
use Rattle.nodeasks.specs.declared.asks.Sought.{Sought}
use Rattle.nodeasks.specs.declared.asks.Sought.TheVariants as sought
use Rattle.nodeasks.specs.Asks.{is_sought}
use Rattle.nodeasks.specs.Rows.{is_over, row, HaveRows, has_row, IsFirstRow}
use Rattle.nodeasks.proofs.RowLemmas.{emptied, opened}

-- the test finds no ask that is over
pub record Passes (p : KeptAsk → Bool) : Type 0 where
  pub over : (how : How) → p (Over how) ≡ false

pub over_is : (s : KeptAsk) → is_over s ≡ true → (how : How) × (s ≡ Over how)
over_is (Open w b) e = absurd (cc)
over_is (Holding w g r) e = absurd (cc)
over_is (Running w g r) e = absurd (cc)
over_is (Finished w g news) e = absurd (cc)
over_is (Over how) e = (how, refl)

pub passes_by : (p : KeptAsk → Bool) (s : KeptAsk) → Passes p → is_over s ≡ true → p s ≡ false
passes_by p s h over = (let (how, is) = over_is s over in ap p is ∙ h.over how)

-- whether a test finds one
pub any_rows : (p : KeptAsk → Bool) → Passes p → (all : List KeptAsk) (k : ℕ) (rows : List AskRow) → HaveRows all k rows → list_any (λ (r : AskRow). p r.kept) rows ≡ list_any p all
any_rows p none [] k rows h = ap (list_any (λ (r : AskRow). p r.kept)) (emptied k rows h)
any_rows p none (s ∷ ss) k rows h = elim (opened s ss k rows h) [
  | inl own ↦ ap (list_any (λ (r : AskRow). p r.kept)) own.1 ∙ ap (λ (b : Bool). p s || b) (any_rows p none ss (k + 1) own.0 own.2)
  | inr over ↦ any_rows p none ss (k + 1) rows over.1 ∙ sym (ap (λ (b : Bool). b || list_any p ss) (passes_by p s none over.0))
]

pub bases_pass : (d : Digest) → Passes (is_base d)
bases_pass d = record { over = λ how. refl }

pub needs_pass : (d : Digest) → Passes (needs d)
needs_pass d = record { over = λ how. refl }

pub homes_pass : (f : FolderName) → Passes (is_home_of f)
homes_pass f = record { over = λ how. refl }

pub tenures_pass : (f : FolderName) → Passes (is_tenure_of f)
tenures_pass f = record { over = λ how. refl }

pub sought_pass : (what : Sought) (t : Ticket) → Passes (is_sought what t)
sought_pass sought.Held t = record { over = λ how. refl }
sought_pass sought.Running t = record { over = λ how. refl }
sought_pass sought.HeldOrRunning t = record { over = λ how. refl }
sought_pass sought.Finished t = record { over = λ how. refl }
sought_pass sought.Recallable t = record { over = λ how. refl }

-- an ask other than one uses folders
abbrev pub uses_any : List Want → KeptAsk → Bool
uses_any wants s = list_any (λ (w : Want). uses w.folder s) wants

none_used : (wants : List Want) (how : How) → uses_any wants (Over how) ≡ false
none_used [] how = refl
none_used (w ∷ ws) how = none_used ws how

next_eq : (k p : ℕ) → (k + 1 == p + 1) ≡ (k == p)
next_eq k p = elim (cases_Bool (k == p)) [
  | inl e ↦ (let is : k ≡ p = eqb-true k p e in eq-eqb (k + 1) (p + 1) (omega (arith, is)) ∙ sym e)
  | inr e ↦ (ne_eqb (k + 1) (p + 1) (λ is. (let same : k ≡ p = omega (arith, is) in let bad : true ≡ false = sym (eq-eqb k p same) ∙ e in absurd (cc bad))) ∙ sym e)
]

pub others_rows : (place : ℕ) (wants : List Want) (all : List KeptAsk) (k : ℕ) (rows : List AskRow) → HaveRows all k rows
    → list_any (λ (r : AskRow). not (r.place == place) && uses_any wants r.kept) rows ≡ others_use (place + 1) wants all k
others_rows place wants [] k rows h = ap (list_any (λ (r : AskRow). not (r.place == place) && uses_any wants r.kept)) (emptied k rows h)
others_rows place wants (s ∷ ss) k rows h = elim (opened s ss k rows h) [
  | inl own ↦
      ap (list_any (λ (r : AskRow). not (r.place == place) && uses_any wants r.kept)) own.1
      ∙ ap (λ (b : Bool). (not (k == place) && uses_any wants s) || b) (others_rows place wants ss (k + 1) own.0 own.2)
      ∙ ap (λ (b : Bool). (not b && uses_any wants s) || others_use (place + 1) wants ss (k + 1)) (sym (next_eq k place))
  | inr over ↦
      others_rows place wants ss (k + 1) rows over.1
      ∙ sym (ap (λ (b : Bool). (not (k + 1 == place + 1) && b) || others_use (place + 1) wants ss (k + 1)) (passes_by (uses_any wants) s (record { over = none_used wants }) over.0)
      ∙ none_left (not (k + 1 == place + 1)) (others_use (place + 1) wants ss (k + 1)))
]
  where
    none_left : (b c : Bool) → ((b && false) || c) ≡ c
    none_left true c = refl
    none_left false c = refl

-- the first row that a test finds

pub record Found (p : KeptAsk → Bool) (all : List KeptAsk) (k : ℕ) (rows : List AskRow) (index : ℕ) : Type 0 where
  pub at : AskRow
  pub get : slice_get rows index ≡ Some at
  pub first : position_from p k all ≡ Some at.place

abbrev on_row : (KeptAsk → Bool) → AskRow → Bool
on_row p r = p r.kept

abbrev Finds : (p : KeptAsk → Bool) (all : List KeptAsk) (k : ℕ) (rows : List AskRow) (i : ℕ) → Option ℕ → Type 0
Finds p all k rows i None = position_from p k all ≡ None
Finds p all k rows i (Some n) = (m : ℕ) × (n ≡ i + m) × Found p all k rows m

missed : (p : KeptAsk → Bool) (s : KeptAsk) (ss : List KeptAsk) (k : ℕ) → p s ≡ false → position_from p k (s ∷ ss) ≡ position_from p (k + 1) ss
missed p s ss k e = ap (λ (b : Bool). cond b (Some k) (position_from p (k + 1) ss)) e

past_ask : (p : KeptAsk → Bool) (s : KeptAsk) (ss : List KeptAsk) (k : ℕ) (rows : List AskRow) (i : ℕ) (o : Option ℕ) → p s ≡ false → Finds p ss (k + 1) rows i o → Finds p (s ∷ ss) k rows i o
past_ask p s ss k rows i None e f = missed p s ss k e ∙ f
past_ask p s ss k rows i (Some n) e f = (f.0, f.1, record { at = f.2.at; get = f.2.get; first = missed p s ss k e ∙ f.2.first })

past_row : (p : KeptAsk → Bool) (s : KeptAsk) (ss : List KeptAsk) (k : ℕ) (x : AskRow) (rest : List AskRow) (i : ℕ) (o : Option ℕ) → p s ≡ false → Finds p ss (k + 1) rest (i + 1) o → Finds p (s ∷ ss) k (x ∷ rest) i o
past_row p s ss k x rest i None e f = missed p s ss k e ∙ f
past_row p s ss k x rest i (Some n) e f = (suc f.0, omega (arith, f.1), record { at = f.2.at; get = f.2.get; first = missed p s ss k e ∙ f.2.first })

at_row : (p : KeptAsk → Bool) (s : KeptAsk) (ss : List KeptAsk) (k : ℕ) (rest : List AskRow) (i : ℕ) (b : Bool) → p s ≡ b → Finds p ss (k + 1) rest (i + 1) (position_from (on_row p) (i + 1) rest) → Finds p (s ∷ ss) k (row k s ∷ rest) i (cond b (Some i) (position_from (on_row p) (i + 1) rest))
at_row p s ss k rest i true e f = (zero, omega arith, record { at = row k s; get = refl; first = ap (λ (c : Bool). cond c (Some k) (position_from p (k + 1) ss)) e })
at_row p s ss k rest i false e f = past_row p s ss k (row k s) rest i (position_from (on_row p) (i + 1) rest) e f

finds : (p : KeptAsk → Bool) → Passes p → (all : List KeptAsk) (k : ℕ) (rows : List AskRow) (i : ℕ) → HaveRows all k rows → Finds p all k rows i (position_from (on_row p) i rows)
finds p none [] k rows i h = subst (λ (l : List AskRow). Finds p [] k l i (position_from (on_row p) i l)) (sym (emptied k rows h)) refl
finds p none (s ∷ ss) k rows i h = elim (opened s ss k rows h) [
  | inl own ↦ subst (λ (l : List AskRow). Finds p (s ∷ ss) k l i (position_from (on_row p) i l)) (sym own.1)
      (subst (λ (b : Bool). Finds p (s ∷ ss) k (row k s ∷ own.0) i (cond b (Some i) (position_from (on_row p) (i + 1) own.0))) refl (at_row p s ss k own.0 i (p s) refl (finds p none ss (k + 1) own.0 (i + 1) own.2)))
  | inr over ↦ past_ask p s ss k rows i (position_from (on_row p) i rows) (passes_by p s none over.0) (finds p none ss (k + 1) rows i over.1)
]

-- the first that a test finds stands first among all
first_row : (p : KeptAsk → Bool) → Passes p → (all : List KeptAsk) (rows : List AskRow) (index : ℕ) → HaveRows all 0 rows → position (on_row p) rows ≡ Some index → Found p all 0 rows index
first_row p none all rows index h is =
    let found : (m : ℕ) × (index ≡ 0 + m) × Found p all 0 rows m = subst (Finds p all 0 rows 0) (sym (position_from-zero (on_row p) rows) ∙ is) (finds p none all 0 rows 0 h) in
    let same : found.0 ≡ index = omega (arith, found.1) in
    subst (Found p all 0 rows) same found.2

no_first_row : (p : KeptAsk → Bool) → Passes p → (all : List KeptAsk) (rows : List AskRow) → HaveRows all 0 rows → position (on_row p) rows ≡ None → position p all ≡ None
no_first_row p none all rows h is =
    let missing : position_from p 0 all ≡ None = subst (Finds p all 0 rows 0) (sym (position_from-zero (on_row p) rows) ∙ is) (finds p none all 0 rows 0 h) in
    position_from-zero p all ∙ missing

pub some_row : (p : KeptAsk → Bool) → Passes p → (all : List KeptAsk) (rows : List AskRow) → HaveRows all 0 rows → (o : Option ℕ) → o ≡ position (on_row p) rows → IfSome o (IsFirstRow p all rows)
some_row p none all rows h None e = tt
some_row p none all rows h (Some i) e = (let f = first_row p none all rows i h (sym e) in record { at = f.at; get = f.get; first = position_from-zero p all ∙ f.first })

pub none_row : (p : KeptAsk → Bool) → Passes p → (all : List KeptAsk) (rows : List AskRow) → HaveRows all 0 rows → (o : Option ℕ) → o ≡ position (on_row p) rows → IfNone o (position p all ≡ None)
none_row p none all rows h None e = no_first_row p none all rows h (sym e)
none_row p none all rows h (Some i) e = tt

-- an ask that has no row is over

either_false : (b c : Bool) → (b || c) ≡ false → (b ≡ false) × (c ≡ false)
either_false true c e = absurd (cc)
either_false false c e = (refl, e)

pub over_without : (all : List KeptAsk) (k : ℕ) (rows : List AskRow) (at n : ℕ) (s : KeptAsk) → HaveRows all k rows → n ≡ k + at + 1 → has_row rows n ≡ false → slice_get all at ≡ Some s → is_over s ≡ true
over_without [] k rows at n s h is none get = absurd (cc get)
over_without (x ∷ xs) k rows zero n s h is none get = elim (opened x xs k rows h) [
  | inl own ↦ (
      let first : ((k + 1 == n) || has_row own.0 n) ≡ false = sym (ap (λ (l : List AskRow). has_row l n) own.1) ∙ none in
      let here : (k + 1 == n) ≡ true = eq-eqb (k + 1) n (omega (arith, is)) in
      let bad : true ≡ false = sym here ∙ (either_false (k + 1 == n) (has_row own.0 n) first).0 in
      absurd (cc bad))
  | inr over ↦ ap is_over (sym (some_is x s get)) ∙ over.0
]
over_without (x ∷ xs) k rows (suc a) n s h is none get = elim (opened x xs k rows h) [
  | inl own ↦ (
      let rest : ((k + 1 == n) || has_row own.0 n) ≡ false = sym (ap (λ (l : List AskRow). has_row l n) own.1) ∙ none in
      over_without xs (k + 1) own.0 a n s own.2 (omega (arith, is)) (either_false (k + 1 == n) (has_row own.0 n) rest).1 get)
  | inr over ↦ over_without xs (k + 1) rows a n s over.1 (omega (arith, is)) none get
]

-- an ask whose number no row has wasn't made, or is over
pub nth_without : (all : List KeptAsk) (rows : List AskRow) (a : ℕ) → HaveRows all 0 rows → has_row rows a ≡ false → (nth all a ≡ None) ⊎ ((how : How) × (nth all a ≡ Some (Over how)))
nth_without all rows zero h none = inl refl
nth_without all rows (suc i) h none = by (slice_get all i) refl
  where
    by : (o : Option KeptAsk) → slice_get all i ≡ o → (slice_get all i ≡ None) ⊎ ((how : How) × (slice_get all i ≡ Some (Over how)))
    by None e = inl e
    by (Some s) e =
        let (how, is) = over_is s (over_without all 0 rows i (suc i) s h (omega arith) none e) in
        inr (how, e ∙ ap (λ (x : KeptAsk). Some x) is)

-- a row is found exactly where an ask is picked
pub same_some : (p : KeptAsk → Bool) (all : List KeptAsk) (rows : List AskRow) (o : Option ℕ) → IfSome o (IsFirstRow p all rows) → IfNone o (position p all ≡ None) → is_some o ≡ is_some (position p all)
same_some p all rows None found none = ap is_some (sym none)
same_some p all rows (Some i) found none = ap is_some (sym found.first)
