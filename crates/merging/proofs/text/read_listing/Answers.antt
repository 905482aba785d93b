use Rattle.std.proofs.Common.{sym, subst, ◌∙◌}
use Rattle.merging.specs.Listings.{Listing, IsListing}
use Rattle.merging.proofs.TextLaws.{text_same}
use Rattle.merging.proofs.text.read_listing.Goals as goal

pub returns-else-is_listing-clause-only : goal.returns-else-is_listing-clause-only
returns-else-is_listing-clause-only c = λ same lines are rise e.
    let is = text_same lines c.in_ok-lines.lines.items are c.in_ok-lines.ensures.lines (sym e ∙ c.in_ok-lines.ensures.spelled) in
    let yes = c.is_listing.ensures.1 (subst (λ (l : Listing). IsListing l) (is ∙ sym c.as_slice.ensures.value) rise) in
    let no = c.if-is_listing.false in
    cc (yes, no)
