use Rattle.std.proofs.Common.{◌≡◌, take}
use Rattle.merging.specs.Texts.{listing_text}
use Rattle.merging.proofs.text.listing_text.Given as goal

abbrev pub invariant-loop-path : goal.invariant-loop-path
invariant-loop-path l = l.text.items ≡ listing_text (take l.path-index l.lines)
