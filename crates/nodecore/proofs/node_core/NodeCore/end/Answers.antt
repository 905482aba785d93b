use Rattle.std.proofs.Common.{◌≡◌, ◌<◌, List, length, slice_get, Some, refl, sym, subst, arith}
use Rattle.std.proofs.lemmas.Option.{slice_get_read}
use Rattle.events.specs.declared.ask.KeptAsk.{KeptAsk}
use Rattle.events.specs.declared.ask.KeptAsk.TheVariants.{Over}
use Rattle.nodecore.specs.Shown.{shown}
use Rattle.nodeasks.specs.Tickets.{AreIndexed}
use Rattle.nodecore.proofs.NodeLemmas.{becomes_now}
use Rattle.nodeasks.proofs.RowLemmas.{kept_at}
use Rattle.nodeasks.proofs.TicketLemmas.{indexed_released}
use Rattle.nodecore.proofs.node_core.NodeCore.end.Goals as goal

pub returns-clause-shown : goal.returns-clause-shown
returns-clause-shown c = λ at get. sym (becomes_now (shown c.args.self.now) c.change.new.self.all.asks at.place (Over c.args.how) (Over c.args.how) (c.change.ensures.asks at get) refl)

pub invariant_of-self : goal.invariant_of-self
invariant_of-self c =
    let all = c.args.self.now.asks.all.asks in
    let rows = c.args.self.now.asks.rows.items in
    let at = c.index.result.now in
    let inside : c.args.row < length rows = omega (arith, c.requires) in
    let get : slice_get rows c.args.row ≡ Some at = slice_get_read rows (length rows) c.args.row at refl inside c.index.ensures in
    record {
      indexed = subst (λ (l : List KeptAsk). AreIndexed c.release.new.self l) (sym (c.change.ensures.asks at get))
          (indexed_released c.args.self.now.by_ticket c.release.new.self all at.place at.kept c.args.how c.args.ticket c.args.self.now.indexed (kept_at all rows c.args.row at c.args.self.now.asks.tied get) c.release.ensures);
    }
