use Rattle.std.proofs.Common.{◌≡◌, drop}
use Rattle.names.specs.Contents.{content_digest}
use Rattle.protocol.specs.Machine.{slots_of, written}
use Rattle.protocol.specs.Names.{slots_eq}
use Rattle.protocol.specs.Nodes.{news_of}
use Rattle.nodecontents.proofs.contents.fits.Given as goal

abbrev pub invariant-loop-slot : goal.invariant-loop-slot
invariant-loop-slot l = slots_eq (slots_of (news_of content_digest l.rest)) (written (drop l.slot-index l.slots)) ≡ slots_eq (slots_of (news_of content_digest l.lefts)) (written l.slots)
