use Rattle.std.proofs.Common.{◌≡◌, ◌+◌, true, false, refl, ap, sym, ◌∙◌, arith}
use Rattle.protocol.specs.Nodes.{held_or_running, in_use}
use Rattle.nodeasks.specs.Asks.{is_in_use}
use Rattle.nodecore.specs.Shown.{shown, place}
use Rattle.nodecore.proofs.FirstLemmas.{FirstAt, some_first, none_first}
use Rattle.nodecore.proofs.KeptLemmas.{held_or_running_at, kept_is}
use Rattle.nodecore.proofs.NodeLemmas.{aborts_not, aborts_in_use, aborts}
use Rattle.nodecore.proofs.node_core.NodeCore.abort.Goals as goal

pub returns-in_default-clause-answer : goal.returns-in_default-clause-answer
returns-in_default-clause-answer c =
    (aborts_not (place c.args.self.now) c.args.ticket (shown c.args.self.now) c.if-self.false (none_first (held_or_running c.args.ticket) c.args.self.now.asks.all.asks c.in_default.ensures.none), refl)

pub returns-then-in_use-clause-answer : goal.returns-then-in_use-clause-answer
returns-then-in_use-clause-answer c =
    let x = shown c.args.self.now in
    let all = c.args.self.now.asks.all.asks in
    let rows = c.args.self.now.asks.rows.items in
    let k = c.in-Some.ensures.found in
    let f : FirstAt (held_or_running c.args.ticket) all 0 k.at.place = some_first (held_or_running c.args.ticket) all k.at.place k.first in
    let (s, there) = held_or_running_at c.args.ticket all k.at.place f in
    let kept = kept_is all rows c.in-Some.row k.at s c.args.self.now.asks.tied k.get there.get in
    let used : in_use all (k.at.place + 1) f.what.wants f.what.grant ≡ true =
    sym (c.in_use.ensures k.at k.get ∙ ap (is_in_use all (k.at.place + 1)) kept ∙ there.uses all (k.at.place + 1)) ∙ c.if-in_use.true in
    (aborts_in_use (place c.args.self.now) c.args.ticket x (k.at.place + 1) f.what c.if-self.false (f.found (k.at.place + 1) (omega arith)) used, refl)

pub returns-clause-answer : goal.returns-clause-answer
returns-clause-answer c =
    let x = shown c.args.self.now in
    let all = c.args.self.now.asks.all.asks in
    let rows = c.args.self.now.asks.rows.items in
    let k = c.in-Some.ensures.found in
    let f : FirstAt (held_or_running c.args.ticket) all 0 k.at.place = some_first (held_or_running c.args.ticket) all k.at.place k.first in
    let (s, there) = held_or_running_at c.args.ticket all k.at.place f in
    let kept = kept_is all rows c.in-Some.row k.at s c.args.self.now.asks.tied k.get there.get in
    let used : in_use all (k.at.place + 1) f.what.wants f.what.grant ≡ false =
    sym (c.in_use.ensures k.at k.get ∙ ap (is_in_use all (k.at.place + 1)) kept ∙ there.uses all (k.at.place + 1)) ∙ c.if-in_use.false in
    aborts (place c.args.self.now) c.args.ticket x _ (k.at.place + 1) f.what c.if-self.false (f.found (k.at.place + 1) (omega arith)) used there.ticket (c.in-Ok.ensures.work k.at k.get)
