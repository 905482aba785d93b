use Rattle.std.proofs.Common.{sym, ◌∙◌}
use Rattle.merging.proofs.Rising.{listing_from_rises, rises_from_listing}
use Rattle.merging.proofs.listing.is_listing.Goals as goal

pub returns : goal.returns
returns c = (λ h. listing_from_rises c.args.lines.now (sym c.rises.ensures ∙ h), λ up. c.rises.ensures ∙ rises_from_listing c.args.lines.now up)
