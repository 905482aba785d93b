use Rattle.std.proofs.Common.{sym, ap, ◌∙◌}
use Rattle.world.specs.Printing.{lines_of}
use Rattle.world.proofs.OrderLemmas.{slots_same}
use Rattle.world.proofs.laws.lines_have_one_text.Goals as goal

pub returns : goal.returns
returns c = λ line a b x y. x.2 ∙ ap (lines_of line) (slots_same x.0 y.0 x.1.rise y.1.rise (λ s. x.1.exact s ∙ sym (y.1.exact s))) ∙ sym y.2
