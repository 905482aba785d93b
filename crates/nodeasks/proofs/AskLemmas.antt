-- Asks by their numbers.
use Rattle.std.proofs.Common.{◌≡◌, ℕ, List, ap, ◌∙◌, Some, add-one}
use Rattle.protocol.specs.Lists.{nth}
use Rattle.events.specs.declared.ask.KeptAsk.{KeptAsk}
use Rattle.nodeasks.specs.declared.ask_row.AskRow.{AskRow}
use Rattle.nodeasks.specs.Rows.{HaveRows, IsRowOfAsk}
use Rattle.nodeasks.proofs.RowLemmas.{kept_at}

-- the ask of a number that a row has
pub ask_at : (all : List KeptAsk) (rows : List AskRow) (a index : ℕ) (k : IsRowOfAsk rows a index) → HaveRows all 0 rows → nth all a ≡ Some k.at.kept
ask_at all rows a index k h = ap (nth all) k.number ∙ rw add-one (kept_at all rows index k.at h k.get)
