use Rattle.std.proofs.Common.{◌≡◌, ℕ, List, map, sym, ap, subst, ◌∙◌}
use Rattle.names.specs.Digests.{IsBytes}
use Rattle.names.specs.Escapes.{id_text}
use Rattle.merging.specs.Texts.{swapped}
use Rattle.merging.proofs.TextLaws.{all_twice, swapped_bytes}
use Rattle.merging.proofs.escape.path_of.Goals as goal

pub returns-in-Err-BadFolder-clause-only : goal.returns-in-Err-BadFolder-clause-only
returns-in-Err-BadFolder-clause-only c = λ same path fits e.
    let h = c.in-Err-BadFolder in
    c.bytes_of.ensures.only (cc (h.is, h.field-0-is)) (map swapped path) (swapped_bytes path fits) e

pub returns-clause-spelled : goal.returns-clause-spelled
returns-clause-spelled c =
    let is : c.in_ok-swapped_all.field-0.items ≡ map swapped c.in-Ok.bytes.items = c.in_ok-swapped_all.ensures ∙ ap (map swapped) c.as_slice.ensures.value in
    let back : map swapped c.in_ok-swapped_all.field-0.items ≡ c.in-Ok.bytes.items = ap (map swapped) is ∙ all_twice c.in-Ok.bytes.items in
    c.in-Ok.ensures.spelled ∙ ap id_text (sym back)

pub returns-clause-bytes : goal.returns-clause-bytes
returns-clause-bytes c =
    let is : c.in_ok-swapped_all.field-0.items ≡ map swapped c.in-Ok.bytes.items = c.in_ok-swapped_all.ensures ∙ ap (map swapped) c.as_slice.ensures.value in
    let fits : IsBytes (map swapped c.in-Ok.bytes.items) = swapped_bytes c.in-Ok.bytes.items c.in-Ok.ensures.bytes in
    subst (λ (bs : List ℕ). IsBytes bs) (sym is) fits
