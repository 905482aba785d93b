use Rattle.std.proofs.Common.{◌≡◌, ap, ◌∙◌}
use Rattle.holdings.specs.Leases.{among}
use Rattle.holdings.specs.Lives.{life_at, is_among}
use Rattle.leases.specs.Changes.{changed}
use Rattle.effects.specs.Queue.{asks_of}
use Rattle.effects.specs.Waiting.{waits_after}
use Rattle.effects.specs.declared.effects.Effects.{Effects}
use Rattle.effects.specs.Held.{Held, line_at}
use Rattle.effects.specs.Keeps.{held}
use Rattle.effects.specs.Shown.{work_of, lines_with, with_life, with_gone}
use Rattle.ledger.proofs.ledger.apply.Goals as goal

pub returns-clause-lines : goal.returns-clause-lines
returns-clause-lines c = c.add_to.ensures ∙ ap (λ (e : Effects). lines_with c.args.state.now.lines e.added) c.into_inner-change.ensures

pub returns-clause-ledger : goal.returns-clause-ledger
returns-clause-ledger c =
    let e : Effects = c.into_inner-change.result in
    let h : Held = record (held c.args.state.now) { live = c.args.table.table.live; retired = c.args.table.table.retired } in
    let table : c.put_changed.new.place ≡ changed c.args.table.table e.change.table = c.put_changed.ensures in
    let lives : life_at c.begin.new.lives.seen ≡ with_life e.change.life (life_at c.args.state.now.lives.seen) = c.begin.ensures in
    let gone : is_among c.retire.new.nodes.retired ≡ with_gone e.change.gone (is_among c.args.state.now.gone.retired) = c.retire.ensures in
    let parked : asks_of c.apply_in.new.place ≡ waits_after (asks_of c.args.state.now.parked) e.change.parked = c.apply_in.ensures in
    let line : line_at c.add_to.new.self ≡ lines_with c.args.state.now.lines e.added = c.add_to.ensures in
    let made : _ ≡ (work_of h e).ledger =
    λ j. record {
      live = (table j).live;
      retired = among (table j).retired;
      gone = gone j;
      line = line j;
      last = e.change.tickets.position;
      ceiling = e.change.tickets.ceiling;
      old_home = e.change.old_home;
      lives = lives j;
      parked = parked j;
    } in
    made ∙ ap (λ (x : Effects). (work_of h x).ledger) c.into_inner-change.ensures
