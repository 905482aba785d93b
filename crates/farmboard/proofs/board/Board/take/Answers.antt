use Rattle.std.proofs.Common.{◌≡◌, ◌<◌, List, ℕ, length, ap, subst, ◌∙◌, arith}
use Rattle.names.specs.declared.limits.TheConstants.{EVENTS}
use Rattle.protocol.specs.Ledger.{Lease}
use Rattle.farmhistory.specs.Shown.{shown}
use Rattle.farmhistory.specs.declared.uses.InUse.{InUse}
use Rattle.farmhistory.specs.Boards.{PassesTo}
use Rattle.farmhistory.specs.Counts.{counted}
use Rattle.farmhistory.specs.Out.{out_if}
use Rattle.farmhistory.proofs.HistoryLemmas.{board_pushed, took_pushed}
use Rattle.farmboard.proofs.board.Board.take.Goals as goal

pub invariant_of-self-2 : goal.invariant_of-self-2
invariant_of-self-2 c =
    let few : length c.self.inside.schedule.items < EVENTS = omega (arith, c.len.ensures) in
    let noted : c.note.new.out.items ≡ out_if c.in_ok-done.done.outcome c.in_ok-done.done.event c.self.inside.out.items = c.note.ensures ∙ ap (λ (x : List InUse). out_if c.in_ok-done.done.outcome c.in_ok-done.done.event x) c.make_room.ensures.out in
    let passes : PassesTo c.in_ok-done.done.event c.self.inside.passed c.self.inside.ahead.items c.pass-self-inside.result c.pass-self-inside.new.ahead.items =
    subst (λ (x : List ℕ). PassesTo c.in_ok-done.done.event c.self.inside.passed x c.pass-self-inside.result c.pass-self-inside.new.ahead.items) c.make_room.ensures.ahead c.pass-self-inside.ensures in
    let counts : c.count-self-inside.result ≡ counted c.in_ok-done.done.leases.items (shown c.carry_out_copied.new.world) c.in_ok-done.done.outcome c.self.inside.counts =
    c.count-self-inside.ensures ∙ ap (λ (x : List Lease). counted x (shown c.carry_out_copied.new.world) c.in_ok-done.done.outcome c.self.inside.counts) c.as_slice.ensures.value in
    board_pushed (shown c.self.inside.world) (shown c.carry_out_copied.new.world) (record { setup = c.self.inside.setup; events = c.self.inside.schedule.items; skipped = c.self.inside.skipped.items })
    c.self.inside.passed c.pass-self-inside.result c.self.inside.ahead.items c.pass-self-inside.new.ahead.items
    c.args.event c.in_ok-done.done.event c.in_ok-done.done.outcome c.in_ok-done.done.leases.items c.make_room.new.schedule.items c.push_reserved.new.self.items c.self.inside.out.items c.note.new.out.items c.self.inside.counts c.count-self-inside.result
    c.self.invariant few c.in_ok-done.ensures.farm c.in_ok-done.ensures.event c.make_room.ensures.schedule c.push_reserved.ensures.items noted passes c.in_ok-done.ensures.leases counts

pub returns : goal.returns
returns c =
    let few : length c.self.inside.schedule.items < EVENTS = omega (arith, c.len.ensures) in
    let noted : c.note.new.out.items ≡ out_if c.in_ok-done.done.outcome c.in_ok-done.done.event c.self.inside.out.items = c.note.ensures ∙ ap (λ (x : List InUse). out_if c.in_ok-done.done.outcome c.in_ok-done.done.event x) c.make_room.ensures.out in
    let passes : PassesTo c.in_ok-done.done.event c.self.inside.passed c.self.inside.ahead.items c.pass-self-inside.result c.pass-self-inside.new.ahead.items =
    subst (λ (x : List ℕ). PassesTo c.in_ok-done.done.event c.self.inside.passed x c.pass-self-inside.result c.pass-self-inside.new.ahead.items) c.make_room.ensures.ahead c.pass-self-inside.ensures in
    let counts : c.count-self-inside.result ≡ counted c.in_ok-done.done.leases.items (shown c.carry_out_copied.new.world) c.in_ok-done.done.outcome c.self.inside.counts =
    c.count-self-inside.ensures ∙ ap (λ (x : List Lease). counted x (shown c.carry_out_copied.new.world) c.in_ok-done.done.outcome c.self.inside.counts) c.as_slice.ensures.value in
    took_pushed (shown c.self.inside.world) (shown c.carry_out_copied.new.world) (record { setup = c.self.inside.setup; events = c.self.inside.schedule.items; skipped = c.self.inside.skipped.items })
    c.self.inside.passed c.pass-self-inside.result c.self.inside.ahead.items c.pass-self-inside.new.ahead.items
    c.args.event c.in_ok-done.done.event c.in_ok-done.done.outcome c.in_ok-done.done.leases.items c.make_room.new.schedule.items c.push_reserved.new.self.items c.self.inside.out.items c.note.new.out.items c.self.inside.counts c.count-self-inside.result
    c.self.invariant few c.in_ok-done.ensures.farm c.in_ok-done.ensures.event c.make_room.ensures.schedule c.push_reserved.ensures.items noted passes c.in_ok-done.ensures.leases counts
    c.args.self.now c.self.view_is c.answer.result c.answer.ensures
