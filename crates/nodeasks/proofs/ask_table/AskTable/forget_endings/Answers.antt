use Rattle.std.proofs.Common.{◌<◌, ◌≤◌, ℕ, List, length, drop, inl, inr, ap, arith}
use Rattle.std.proofs.lemmas.Bool.{cases_lt}
use Rattle.std.proofs.lemmas.List.{at_drop_all}
use Rattle.nodeasks.specs.declared.ask_row.AskRow.{AskRow}
use Rattle.nodeasks.specs.Rows.{row_endings}
use Rattle.nodeasks.proofs.ask_table.AskTable.forget_endings.Goals as goal

pub take_endings-requires : goal.take_endings-requires
take_endings-requires c = elim c.last_endings-first.ensures.enough [
  | inl none ↦ inl none
  | inr many ↦ inr (omega (arith, inside c.as_slice.result.now c.last_endings-first.result many, c.as_slice.ensures.len))
]
  where
    inside : (rows : List AskRow) (first : ℕ) → 1024 ≤ row_endings (drop first rows) → first < length rows
    inside rows first many = elim (cases_lt first (length rows)) [
      | inl less ↦ less
      | inr past ↦ (let none = at_drop_all row_endings rows first past in absurd (omega (arith, none, many)))
    ]

pub returns-clause-few : goal.returns-clause-few
returns-clause-few c =
    let same = ap (λ (l : List AskRow). row_endings (drop c.last_endings-first.result l)) c.as_slice.ensures.value in
    let kept = ap row_endings c.shrink_to.ensures.items in
    omega (arith, same, kept, c.take_endings.ensures.few, c.last_endings-first.ensures.no_more)
