use Rattle.std.proofs.Common.{◌+◌, [], ap, sym, ◌∙◌, arith}
use Rattle.protocol.specs.World.{Node}
use Rattle.protocol.specs.Nodes.{dropped, finished}
use Rattle.events.specs.declared.answer.NodeNote.TheVariants as note
use Rattle.nodecore.specs.Shown.{shown, work_of}
use Rattle.nodecore.proofs.FirstLemmas.{FirstAt, some_first, none_first}
use Rattle.nodecore.proofs.node_core.NodeCore.drop_news.Goals as goal

pub returns-in_default-clause-work : goal.returns-in_default-clause-work
returns-in_default-clause-work c =
    ap (dropped c.args.ticket (shown c.args.self.now)) (none_first (finished c.args.ticket) c.args.self.now.asks.all.asks c.in_default.ensures.none)
    ∙ sym (ap (work_of (shown c.args.self.now)) c.silent.ensures)

pub returns-clause-work : goal.returns-clause-work
returns-clause-work c =
    let all = c.args.self.now.asks.all.asks in
    let k = c.in-Some.ensures.found in
    let f : FirstAt (finished c.args.ticket) all 0 k.at.place = some_first (finished c.args.ticket) all k.at.place k.first in
    ap (dropped c.args.ticket (shown c.args.self.now)) (f.found (k.at.place + 1) (omega arith))
    ∙ ap (λ (y : Node). record { node = y; sends = []; note = note.Dropped c.args.ticket }) (sym (c.end.ensures.shown k.at k.get))
    ∙ sym (ap (work_of _) c.silent-2.ensures)
