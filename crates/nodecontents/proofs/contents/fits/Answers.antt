use Rattle.std.proofs.Common.{◌≡◌, [], List, drop, ap, sym, ◌∙◌, arith}
use Rattle.names.specs.Contents.{content_digest}
use Rattle.protocol.specs.Machine.{GrantedSlot, slots_of, written}
use Rattle.protocol.specs.Names.{slots_eq}
use Rattle.protocol.specs.Nodes.{news_of}
use Rattle.nodecontents.proofs.MapLemmas.{fits_end, drop_end}
use Rattle.nodecontents.proofs.contents.fits.Goals as goal

pub returns : goal.returns
returns c =
    let none : drop c.loop-slot.slot-index c.args.slots.now ≡ [] = drop_end c.args.slots.now c.loop-slot.slot-index (omega arith) in
    c.is_empty.ensures ∙ sym (fits_end c.loop-slot.rest.now)
    ∙ ap (λ (us : List GrantedSlot). slots_eq (slots_of (news_of content_digest c.loop-slot.rest.now)) (written us)) (sym none)
    ∙ c.loop-slot.invariant
