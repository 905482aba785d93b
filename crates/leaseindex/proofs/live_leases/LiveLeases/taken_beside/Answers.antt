use Rattle.std.proofs.Common.{Bool, ◌&&◌, not, sym, ◌∙◌, ap, refl, arith}
use Rattle.farm_base.specs.declared.lease.Lease.{Lease}
use Rattle.protocol.specs.Names.{Slot}
use Rattle.holdings.specs.Endings.{has_ended}
use Rattle.leaseindex.proofs.TakenLemmas.{any_with, some_failing, beside_next, beside_end}
use Rattle.leaseindex.proofs.live_leases.LiveLeases.taken_beside.Goals as goal

pub loop-ending-init : goal.loop-ending-init
loop-ending-init c i from to =
    let s : Slot = record { folder = c.args.folder.now; instance = i } in
    let ended : Lease → Bool = has_ended c.args.ended.now in
    rw (← c.self.view_is) (ap (λ (b : Bool). not (any_with ended c.self.inside.leases.items s) && b) (c.of-taken.ensures i ∙ c.self.invariant.taken_is c.args.folder.now i from to)
    ∙ sym (some_failing ended s c.self.inside.leases.items c.self.invariant.sound.apart))

pub loop-ending-preserved : goal.loop-ending-preserved
loop-ending-preserved c i from to =
    beside_next c.args.ended.now c.loop-ending.ending-index _ _ c.args.self.now.leases (record { folder = c.args.folder.now; instance = i }) _ _ _ (omega arith) refl (c.unmark_ended.ensures i to) (c.loop-ending.invariant i from to)

pub returns : goal.returns
returns c i from to =
    beside_end c.args.ended.now c.loop-ending.ending-index c.args.self.now.leases (record { folder = c.args.folder.now; instance = i }) _ _ (omega arith) (c.loop-ending.invariant i from to)
