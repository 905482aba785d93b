use Rattle.std.proofs.Common.{◌≡◌, ◌++◌, Bool, List, not, length, filter, ap, subst, sym, ◌∙◌, arith}
use Rattle.farm_base.specs.declared.lease.Lease.{Lease}
use Rattle.protocol.specs.Names.{Slot}
use Rattle.holdings.specs.declared.ending.Ending.{Ending}
use Rattle.holdings.specs.Endings.{has_ended}
use Rattle.leases.specs.Changes.{RoomyTable}
use Rattle.holdings.specs.Leases.{AreLeases}
use Rattle.leases.proofs.ChangeLemmas.{length-kept}
use Rattle.leases.proofs.room.TableWithRoom.apply.Goals as goal

pub add_all-requires-clause-room : goal.add_all-requires-clause-room
add_all-requires-clause-room c =
    let kept = length-kept (λ g. not (has_ended c.as_slice.result.now g)) c.self.inside.live.leases in
    let left : length c.end_each.new.self.leases ≡ length (filter (λ g. not (has_ended c.as_slice.result.now g)) c.self.inside.live.leases) = ap length c.end_each.ensures.rest in
    let more = ap length c.into_parts-ended.ensures.granted in
    let room = ap (λ (r : RoomyTable). r.lease_room) c.self.view_is in
    let has = ap (λ (r : RoomyTable). length r.table.live) c.self.view_is in
    omega (arith, c.requires.room.leases)

pub add_all-requires-clause-taken : goal.add_all-requires-clause-taken
add_all-requires-clause-taken c =
    let room = ap (λ (r : RoomyTable). r.instance_room) c.self.view_is in
    let new = ap (λ (r : RoomyTable). length r.instances) c.self.view_is in
    omega (arith, c.requires.room.taken, c.end_each.ensures.taken)

pub add_all-requires-clause-sound : goal.add_all-requires-clause-sound
add_all-requires-clause-sound c =
    let left : Lease → Bool = λ g. not (has_ended c.args.change.ended g) in
    let kept : c.end_each.new.self.leases ≡ filter left c.args.self.table.live =
    c.end_each.ensures.rest ∙ ap (λ (es : List Ending). filter (λ g. not (has_ended es g)) c.self.inside.live.leases) (c.as_slice.ensures.value ∙ c.into_parts-ended.ensures.ended)
    ∙ ap (λ (r : RoomyTable). filter left r.table.live) c.self.view_is in
    let live : c.end_each.new.self.leases ++ c.into_parts-ended.result.1.items ≡ filter left c.args.self.table.live ++ c.args.change.granted =
    ap (λ (gs : List Lease). gs ++ c.into_parts-ended.result.1.items) kept ∙ ap (λ (gs : List Lease). filter left c.args.self.table.live ++ gs) c.into_parts-ended.ensures.granted in
    subst AreLeases (sym live) c.requires.sound

pub returns : goal.returns
returns c =
    let left : Lease → Bool = λ g. not (has_ended c.args.change.ended g) in
    let kept : c.end_each.new.self.leases ≡ filter left c.args.self.table.live =
    c.end_each.ensures.rest ∙ ap (λ (es : List Ending). filter (λ g. not (has_ended es g)) c.self.inside.live.leases) (c.as_slice.ensures.value ∙ c.into_parts-ended.ensures.ended)
    ∙ ap (λ (r : RoomyTable). filter left r.table.live) c.self.view_is in
    let live : c.end_each.new.self.leases ++ c.into_parts-ended.result.1.items ≡ filter left c.args.self.table.live ++ c.args.change.granted =
    ap (λ (gs : List Lease). gs ++ c.into_parts-ended.result.1.items) kept ∙ ap (λ (gs : List Lease). filter left c.args.self.table.live ++ gs) c.into_parts-ended.ensures.granted in
    let retired : c.add_all-2.new.self.slots ≡ c.args.self.table.retired ++ c.args.change.retired =
    c.add_all-2.ensures ∙ ap (λ (ss : List Slot). c.self.inside.retired.slots ++ ss) c.into_parts-ended.ensures.retired ∙ ap (λ (r : RoomyTable). r.table.retired ++ c.args.change.retired) c.self.view_is in
    let live_is = c.of.ensures.live ∙ c.add_all.ensures ∙ live in
    let retired_is = c.of.ensures.retired ∙ retired in
    λ j. record { live = live_is j; retired = retired_is j }
