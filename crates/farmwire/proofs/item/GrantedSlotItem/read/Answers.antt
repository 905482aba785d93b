use Rattle.std.proofs.Common.{Err, ap}
use Rattle.farm_base.specs.declared.message.Confirmed.{Confirmed}
use Rattle.farmwire.proofs.Spelling.{slot-no_r}
use Rattle.words.proofs.WordLemmas.{passed_on}
use Rattle.farmwire.proofs.item.GrantedSlotItem.read.Goals as goal

pub returns-in_err-base-clause-only : goal.returns-in_err-base-clause-only
returns-in_err-base-clause-only c = λ same item h e.
    let base : Confirmed = record { slot = item.slot; number = item.base; digest = item.digest } in
    let parts = c.access_of-writable.ensures.only item.writable _ (slot-no_r item.slot _) e in
    let bad = passed_on _ _ _ c.from_residual.ensures.1 same in
    c.in_err-base.ensures.only (ap Err bad) base (record { slot = h.slot; number = h.base; digest = h.digest }) parts.1
