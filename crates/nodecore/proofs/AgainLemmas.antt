-- What the rows of all asks send again.
use Rattle.std.proofs.Common.{◌≡◌, ℕ, ◌+◌, inl, inr, List, [], ◌∷◌, ◌++◌, ap, sym, ◌∙◌}
use Rattle.protocol.specs.Ledger.{Limits}
use Rattle.protocol.specs.Machine.{Message}
use Rattle.protocol.specs.World.{Node}
use Rattle.protocol.specs.Nodes.{Place, again, all_again}
use Rattle.events.specs.declared.ask.KeptAsk.{KeptAsk}
use Rattle.nodeasks.specs.declared.ask_row.AskRow.{AskRow}
use Rattle.nodeasks.specs.Rows.{HaveRows}
use Rattle.nodeasks.proofs.RowLemmas.{emptied, opened}
use Rattle.nodeasks.proofs.ScanLemmas.{over_is}

abbrev pub again_rows : Limits → Place → Node → List AskRow → List Message
again_rows k at x [] = []
again_rows k at x (r ∷ rs) = again k at x (record { 0 = r.place + 1 }) r.kept ++ again_rows k at x rs

pub all_again_rows : (k : Limits) (at : Place) (x : Node) (all : List KeptAsk) (i : ℕ) (rows : List AskRow) → HaveRows all i rows → again_rows k at x rows ≡ all_again k at x all i
all_again_rows k at x [] i rows h = ap (again_rows k at x) (emptied i rows h)
all_again_rows k at x (s ∷ ss) i rows h = elim (opened s ss i rows h) [
  | inl own ↦ ap (again_rows k at x) own.1 ∙ ap (λ (m : List Message). again k at x (record { 0 = i + 1 }) s ++ m) (all_again_rows k at x ss (i + 1) own.0 own.2)
  | inr over ↦ (
      let (how, is) = over_is s over.0 in
      all_again_rows k at x ss (i + 1) rows over.1
      ∙ sym (ap (λ (y : KeptAsk). again k at x (record { 0 = i + 1 }) y ++ all_again k at x ss (i + 1)) is))
]
