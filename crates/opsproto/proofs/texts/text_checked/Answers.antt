use Rattle.std.proofs.Common.{◌≡◌, List, ℕ, Ok, ap, sym, subst, ◌∙◌}
use Rattle.std.specs.Str.{IsUtf8}
use Rattle.opsproto.proofs.TextLemmas.{text_passes, text_fails}
use Rattle.opsproto.proofs.texts.text_checked.Goals as goal

pub returns-in-Ok : goal.returns-in-Ok
returns-in-Ok c =
    let same : c.new.result ≡ c.args.raw = c.new.ensures ∙ c.in-Ok.ensures.cases.0 ∙ c.as_slice.ensures in
    let utf8 : IsUtf8 c.args.raw = subst IsUtf8 c.as_slice.ensures c.in-Ok.ensures.cases.1 in
    ap (λ (t : List ℕ). Ok t) same ∙ sym (text_passes c.args.number c.args.raw utf8)

pub returns-in-Err : goal.returns-in-Err
returns-in-Err c = sym (text_fails c.args.number c.args.raw (λ h. c.in-Err.ensures.cases.0 (subst IsUtf8 (sym c.as_slice.ensures) h)))
