use Rattle.std.proofs.Common.{ℕ, List, Ok, ap, sym, ◌∙◌, inr}
use Rattle.recordparts.proofs.TextLemmas.{text_passes, text_fails}
use Rattle.recordparts.proofs.part.text_of.Goals as goal

pub returns-in_ok-from_str-in-Ok : goal.returns-in_ok-from_str-in-Ok
returns-in_ok-from_str-in-Ok c =
    let same = c.new.ensures ∙ c.in_ok-from_str-in-Ok.ensures.ok ∙ c.in-Ok.ensures.cases.0 in
    text_passes c.args.bytes.now c.in-Ok.ensures.cases.1 ∙ ap (λ (t : List ℕ). Ok t) (sym same)

pub returns-in-Err : goal.returns-in-Err
returns-in-Err c = inr (text_fails c.args.bytes.now c.in-Err.ensures.cases.0)
