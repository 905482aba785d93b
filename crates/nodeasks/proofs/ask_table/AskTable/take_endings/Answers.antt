use Rattle.std.proofs.Common.{◌≡◌, ◌<◌, ◌≤◌, ◌+◌, ◌||◌, ◌⊎◌, Bool, false, ℕ, not, nat_le, List, length, drop, filter, slice_get, Some, inl, inr, refl, ap, sym, subst, ◌∙◌, rules, arith}
use Rattle.std.proofs.lemmas.Bool.Decides.{nat_tests}
use Rattle.std.proofs.lemmas.Fn.{filter_same}
use Rattle.std.proofs.lemmas.Option.{slice_get_read}
use Rattle.events.specs.declared.ask.KeptAsk.{KeptAsk}
use Rattle.nodeasks.specs.declared.ask_row.AskRow.{AskRow}
use Rattle.nodeasks.specs.Rows.{is_over, HaveRows, is_lost, row_endings}
use Rattle.nodeasks.proofs.CountLemmas.{rows_counted, filter_endings, few_stay, passes_neither}
use Rattle.nodeasks.proofs.RowLemmas.{have_filter, rising}
use Rattle.nodeasks.proofs.LostLemmas.{lost_filter}
use Rattle.nodeasks.proofs.TableLemmas.{goes_over, goes_early}
use Rattle.nodeasks.proofs.ask_table.AskTable.take_endings.Goals as goal

there : (first n : ℕ) → (first ≡ 0) ⊎ (first < n) → 0 < first → first < n
there first n (inl none) some = absurd (omega (arith, none, some))
there first n (inr inside) some = inside

-- the rows that stay
abbrev stays : ℕ → AskRow → Bool
stays from r = nat_le from r.place || not (is_over r.kept)

have_kept : (all : List KeptAsk) (rows kept : List AskRow) (from : ℕ) → HaveRows all 0 rows → kept ≡ filter (stays from) rows → HaveRows all 0 kept
have_kept all rows kept from tied is = subst (HaveRows all 0) (sym is) (have_filter (stays from) (λ r e. goes_over (nat_le from r.place) (is_over r.kept) e) all 0 rows tied)

-- as many endings go as rows
endings_go : (all : List KeptAsk) (rows kept : List AskRow) (from : ℕ) → HaveRows all 0 rows → kept ≡ filter (stays from) rows → (row_endings kept ≤ row_endings rows) × (length rows + row_endings kept ≡ length kept + row_endings rows)
endings_go all rows kept from tied is =
    let before = rows_counted all 0 rows tied in
    let after = rows_counted all 0 kept (have_kept all rows kept from tied is) in
    (subst (λ (l : List AskRow). row_endings l ≤ row_endings rows) (sym is) (filter_endings (stays from) rows), omega (arith, before, after))

pub invariant_of-self : goal.invariant_of-self
invariant_of-self c =
    let all = c.args.self.now.all.asks in
    let rows = c.args.self.now.rows.items in
    let from = c.index.result.now.place in
    let kept : c.retain.new.self.items ≡ filter (stays from) rows = filter_same _ _ _ (λ x b f' k. search rules) _ _ c.retain.ensures.filtered in
    let (few, go) = endings_go all rows c.retain.new.self.items from c.args.self.now.tied kept in
    record {
      counted = c.args.self.now.counted;
      tied = have_kept all rows c.retain.new.self.items from c.args.self.now.tied kept;
      over_counted = omega (arith, c.args.self.now.over_counted, c.len-rows.ensures, c.len.ensures, few, go);
    }

pub overflow_sub-self-2 : goal.overflow_sub-self-2
overflow_sub-self-2 c =
    let rows = c.args.self.now.rows.items in
    let from = c.index.result.now.place in
    let kept : c.retain.new.self.items ≡ filter (stays from) rows = filter_same _ _ _ (λ x b f' k. search rules) _ _ c.retain.ensures.filtered in
    let (few, go) = endings_go c.args.self.now.all.asks rows c.retain.new.self.items from c.args.self.now.tied kept in
    omega (arith, c.args.self.now.over_counted, c.len-rows.ensures, c.len.ensures, few, go)

pub returns-clause-late : goal.returns-clause-late
returns-clause-late c = λ a lost.
    let all = c.args.self.now.all.asks in
    let rows = c.args.self.now.rows.items in
    let x = c.index.result.now in
    let from = x.place in
    let kept : c.retain.new.self.items ≡ filter (stays from) rows = filter_same _ _ _ (λ y b f' k. search rules) _ _ c.retain.ensures.filtered in
    let inside : c.args.first < length rows = omega (arith, there c.args.first _ c.requires (omega (arith, c.if-first-eq0.false))) in
    let get : slice_get rows c.args.first ≡ Some x = slice_get_read rows (length rows) c.args.first x refl inside c.index.ensures in
    let before = λ (r : AskRow) (e : stays from r ≡ false). early x.place r.place (goes_early (nat_le x.place r.place) (not (is_over r.kept)) e) in
    elim (lost_filter all rows (stays from) c.args.first x c.args.self.now.tied get before a (ap (λ (l : List AskRow). is_lost all l a) (sym kept) ∙ lost)) [
      | inl was ↦ inl was
      | inr many ↦ inr (omega (arith, c.if-first-eq0.false), many)
    ]
  where
    early : (m n : ℕ) → nat_le m n ≡ false → n < m
    early m n e = grind (arith, nat_tests)

pub returns-clause-few : goal.returns-clause-few
returns-clause-few c =
    let rows = c.args.self.now.rows.items in
    let x = c.index.result.now in
    let from = x.place in
    let kept : c.retain.new.self.items ≡ filter (stays from) rows = filter_same _ _ _ (λ y b f' k. search rules) _ _ c.retain.ensures.filtered in
    let inside : c.args.first < length rows = omega (arith, there c.args.first _ c.requires (omega (arith, c.if-first-eq0.false))) in
    let get : slice_get rows c.args.first ≡ Some x = slice_get_read rows (length rows) c.args.first x refl inside c.index.ensures in
    subst (λ (l : List AskRow). row_endings l ≤ row_endings (drop c.args.first rows)) (sym kept)
    (few_stay (stays from) rows c.args.first (λ i r less at over.
    passes_neither (nat_le x.place r.place) (is_over r.kept) (late r.place x.place (rising c.args.self.now.all.asks 0 rows i c.args.first r x c.args.self.now.tied less at get)) over))
  where
    late : (m n : ℕ) → m < n → nat_le n m ≡ false
    late m n h = grind (arith, nat_tests)
