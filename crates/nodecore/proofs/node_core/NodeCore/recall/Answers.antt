use Rattle.std.proofs.Common.{◌≡◌, ◌+◌, [], List, get_or, ap, sym, subst, ◌∙◌, arith}
use Rattle.std.proofs.lemmas.Option.{get_or_from_slice_get}
use Rattle.protocol.specs.World.{Node}
use Rattle.protocol.specs.Nodes.{recalled, recallable}
use Rattle.events.specs.declared.answer.NodeNote.TheVariants as note
use Rattle.events.specs.declared.ask.KeptAsk.{KeptAsk}
use Rattle.nodeasks.specs.Asks.{recalls}
use Rattle.nodecore.specs.Shown.{shown, work_of}
use Rattle.nodeasks.specs.Tickets.{AreIndexed}
use Rattle.nodecore.proofs.FirstLemmas.{FirstAt, some_first, none_first}
use Rattle.nodecore.proofs.KeptLemmas.{recalls_is}
use Rattle.nodecore.proofs.NodeLemmas.{becomes_now}
use Rattle.nodeasks.proofs.RowLemmas.{kept_at}
use Rattle.nodeasks.proofs.TicketLemmas.{indexed_changed, recalls_less}
use Rattle.nodecore.proofs.node_core.NodeCore.recall.Goals as goal

pub returns-in_default-clause-work : goal.returns-in_default-clause-work
returns-in_default-clause-work c =
    ap (recalled c.args.ticket (shown c.args.self.now)) (none_first (recallable c.args.ticket) c.args.self.now.asks.all.asks c.in_default.ensures.none)
    ∙ sym (ap (work_of (shown c.args.self.now)) c.silent.ensures)

pub returns-clause-work : goal.returns-clause-work
returns-clause-work c =
    let x = shown c.args.self.now in
    let all = c.args.self.now.asks.all.asks in
    let rows = c.args.self.now.asks.rows.items in
    let k = c.in-Some.ensures.found in
    let f : FirstAt (recallable c.args.ticket) all 0 k.at.place = some_first (recallable c.args.ticket) all k.at.place k.first in
    let there = kept_at all rows c.in-Some.row k.at c.args.self.now.asks.tied k.get in
    let old : k.at.kept ≡ get_or all k.at.place k.at.kept = sym (get_or_from_slice_get all k.at.place k.at.kept k.at.kept there) in
    let next : f.what ≡ recalls k.at.kept = sym (recalls_is c.args.ticket k.at.kept f.what (ap (λ (d : KeptAsk). recallable c.args.ticket d) old ∙ f.here k.at.kept)) in
    ap (recalled c.args.ticket x) (f.found (k.at.place + 1) (omega arith))
    ∙ ap (λ (y : Node). record { node = y; sends = []; note = note.Recalled c.args.ticket }) (becomes_now x c.change.new.self.all.asks k.at.place f.what _ (c.change.ensures.asks k.at k.get) next)
    ∙ sym (ap (work_of _) c.silent-2.ensures)

pub invariant_of-self-2 : goal.invariant_of-self-2
invariant_of-self-2 c =
    let all = c.args.self.now.asks.all.asks in
    let rows = c.args.self.now.asks.rows.items in
    let k = c.in-Some.ensures.found in
    record {
      indexed = subst (λ (l : List KeptAsk). AreIndexed c.args.self.now.by_ticket l) (sym (c.change.ensures.asks k.at k.get))
          (indexed_changed recalls c.args.self.now.by_ticket all k.at.place k.at.kept recalls_less c.args.self.now.indexed (kept_at all rows c.in-Some.row k.at c.args.self.now.asks.tied k.get));
    }
