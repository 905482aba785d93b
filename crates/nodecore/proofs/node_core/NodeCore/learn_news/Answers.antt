use Rattle.std.proofs.Common.{◌≡◌, ◌+◌, List, [], map, ap, sym, ◌∙◌, arith}
use Rattle.protocol.specs.Machine.{Confirmed}
use Rattle.protocol.specs.World.{Node, learn_versions}
use Rattle.events.specs.declared.ask.KeptAsk.TheVariants.{Over}
use Rattle.protocol.specs.Nodes.{becomes, learned, finished}
use Rattle.events.specs.declared.answer.How.TheVariants as how
use Rattle.events.specs.declared.answer.NodeNote.TheVariants as note
use Rattle.nodecontents.specs.Stored.{known_in, learn_all, version_of}
use Rattle.nodecore.specs.Shown.{shown, work_of}
use Rattle.nodecontents.proofs.MapLemmas.{versions_learned, same_known}
use Rattle.nodecore.proofs.FirstLemmas.{FirstAt, some_first, none_first}
use Rattle.nodecore.proofs.node_core.NodeCore.learn_news.Goals as goal

pub returns-in_default-clause-work : goal.returns-in_default-clause-work
returns-in_default-clause-work c =
    ap (learned c.args.ticket c.args.versions.now (shown c.args.self.now)) (none_first (finished c.args.ticket) c.args.self.now.asks.all.asks c.in_default.ensures.none)
    ∙ sym (ap (work_of (shown c.args.self.now)) c.silent.ensures)

pub returns-clause-work : goal.returns-clause-work
returns-clause-work c =
    let x = shown c.args.self.now in
    let all = c.args.self.now.asks.all.asks in
    let k = c.in-Some.ensures.found in
    let f : FirstAt (finished c.args.ticket) all 0 k.at.place = some_first (finished c.args.ticket) all k.at.place k.first in
    let known : learn_versions c.args.versions.now (known_in c.args.self.now.versions) ≡ known_in c.learn.new.known =
    versions_learned c.args.versions.now (known_in c.args.self.now.versions)
    ∙ ap (λ (vs : List Confirmed). learn_all (map version_of vs) (known_in c.args.self.now.versions)) (sym c.as_slice.ensures)
    ∙ sym (c.learn.ensures ∙ (λ j. learn_all (c.in_ok-named.ensures j) (same_known c.args.self.now.versions c.reserve.new.self c.reserve.ensures.entries j))) in
    let told : c.args.versions.now ≡ c.in_ok-versions.versions = sym c.in_ok-versions.ensures in
    ap (learned c.args.ticket c.args.versions.now x) (f.found (k.at.place + 1) (omega arith))
    ∙ (λ j. record { node = record (becomes (k.at.place + 1) (Over (how.Committed c.args.ticket (told j))) x) { known = known j }; sends = []; note = note.Learned c.args.ticket })
    ∙ ap (λ (y : Node). record { node = y; sends = []; note = note.Learned c.args.ticket }) (sym (c.end.ensures.shown k.at k.get))
    ∙ sym (ap (work_of _) c.silent-2.ensures)
