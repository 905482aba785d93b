use Rattle.std.proofs.Common.{rules}
use Rattle.std.proofs.lemmas.Fn.{always_returns_same}
use Rattle.names.specs.Slots.{slot_cmp}
use Rattle.versions.proofs.Ordered.{searched}
use Rattle.versions.proofs.lines.place_of.Goals as goal

pub returns : goal.returns
returns c =
    let by_slot = c.binary_search_by.ensures.position (λ l. slot_cmp l.slot c.args.slot.now) (always_returns_same _ _ _ (λ a r g called. search rules)) in
    searched c.args.slot.now c.args.lines.now c.binary_search_by.result c.requires.rise c.binary_search_by.ensures.bound by_slot
