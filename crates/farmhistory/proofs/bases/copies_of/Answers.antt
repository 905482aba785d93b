use Rattle.std.proofs.Common.{◌≡◌, Option, None, true, false, is_some, ap, sym, ◌∙◌, refl}
use Rattle.std.specs.Option.{option_copied}
use Rattle.std.proofs.lemmas.Option.{slice_get_read}
use Rattle.protocol.specs.Machine.{GrantedSlot}
use Rattle.protocol.specs.Nodes.{is_stored}
use Rattle.nodecore.specs.Shown.{shown}
use Rattle.farmhistory.proofs.BaseLemmas.{all_at}
use Rattle.farmhistory.proofs.bases.copies_of.Goals as goal

pub unreachable-requires : goal.unreachable-requires
unreachable-requires c =
    let slot : GrantedSlot = c.slot-item.result in
    let at = slice_get_read c.args.slots.now _ c.loop-slot.slot-index slot refl c.loop-slot-test.true c.slot-item.is in
    let here : is_stored (shown c.args.core.now) slot.digest ≡ true = all_at (λ (u : GrantedSlot). is_stored (shown c.args.core.now) u.digest) c.args.slots.now c.loop-slot.slot-index slot c.requires at in
    let bad : false ≡ true = sym (ap is_some (sym c.content.ensures.value ∙ ap option_copied c.in-None.is)) ∙ here in
    cc
