use Rattle.std.proofs.Common.{◌≡◌, option_copied, refl, sym, ap, ◌∙◌}
use Rattle.services.proofs.SentLemmas.{or_lost}
use Rattle.nodefilter.specs.Filters.{no_content}
use Rattle.nodefilter.specs.Filters.Follows.{Hands, Has_not}
use Rattle.nodelines.specs.Written.{content_line}
use Rattle.nodefilter.proofs.filter.hand.Goals as goal

pub returns-in_default : goal.returns-in_default
returns-in_default g c =
    Has_not c.args.digest c.args.file refl (sym c.content.ensures.value ∙ ap option_copied c.in_default.is) refl
    (or_lost (λ text. text ≡ no_content) c.print_line.result c.print_line.ensures)

pub returns-in-Ok : goal.returns-in-Ok
returns-in-Ok g c =
    Hands c.args.digest c.args.file c.in-Some.content.now refl (sym c.content.ensures.value ∙ ap option_copied c.in-Some.is)
    (rw c.as_str.ensures.value at (rw c.bytes.ensures.value at c.in-Ok.ensures)) refl
    (or_lost (λ text. text ≡ content_line c.args.digest) c.print_content.result c.print_content.ensures)
