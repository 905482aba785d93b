use Rattle.std.proofs.Common.{◌≡◌, ◌+◌, true, false, Option, None, Some, ap, sym, ◌∙◌, rules, arith}
use Rattle.std.specs.Option.{option_copied}
use Rattle.protocol.specs.Machine.{Grant}
use Rattle.protocol.specs.Nodes.{held, all_stored}
use Rattle.nodeasks.specs.Asks.{lease_in}
use Rattle.nodecore.specs.Shown.{shown}
use Rattle.nodecore.proofs.FirstLemmas.{FirstAt, some_first, none_first}
use Rattle.nodecore.proofs.KeptLemmas.{held_ask, held_at, read_row}
use Rattle.nodecore.proofs.NodeLemmas.{begins_not, begins_missing}
use Rattle.nodecore.proofs.node_core.NodeCore.lease_to_begin.Goals as goal

pub returns-in_default-clause-err : goal.returns-in_default-clause-err
returns-in_default-clause-err c = begins_not c.args.ticket (shown c.args.self.now) c.if-self.false (none_first (held c.args.ticket) c.args.self.now.asks.all.asks c.in_default.ensures.none)

pub unreachable-requires : goal.unreachable-requires
unreachable-requires c =
    let all = c.args.self.now.asks.all.asks in
    let k = c.in-Some.ensures.found in
    let f : FirstAt (held c.args.ticket) all 0 k.at.place = some_first (held c.args.ticket) all k.at.place k.first in
    let read = read_row all c.args.self.now.asks.rows.items c.in-Some.row k.at (held_ask f.what) c.index.result.now c.args.self.now.asks.tied k.get (held_at c.args.ticket all k.at.place f).get c.index.ensures in
    let none : ◌≡◌ {A = Option Grant} (Some f.what.grant) None = sym (ap lease_in read) ∙ sym c.lease.ensures ∙ ap option_copied c.in_default-lease.is in
    cc

pub returns-then-not-has_all-clause-err : goal.returns-then-not-has_all-clause-err
returns-then-not-has_all-clause-err c =
    let x = shown c.args.self.now in
    let all = c.args.self.now.asks.all.asks in
    let rows = c.args.self.now.asks.rows.items in
    let k = c.in-Some.ensures.found in
    let f : FirstAt (held c.args.ticket) all 0 k.at.place = some_first (held c.args.ticket) all k.at.place k.first in
    let read = read_row all rows c.in-Some.row k.at (held_ask f.what) c.index.result.now c.args.self.now.asks.tied k.get (held_at c.args.ticket all k.at.place f).get c.index.ensures in
    let some : ◌≡◌ {A = Option Grant} (Some f.what.grant) (Some c.in-Some-lease.grant.now) = sym (ap lease_in read) ∙ sym c.lease.ensures ∙ ap option_copied c.in-Some-lease.is in
    let same : f.what.grant ≡ c.in-Some-lease.grant.now = cc in
    let missing : all_stored x f.what.grant.slots ≡ false = ap (λ (g : Grant). all_stored x g.slots) same ∙ search rules in
    begins_missing c.args.ticket x (k.at.place + 1) f.what c.if-self.false (f.found (k.at.place + 1) (omega arith)) missing

pub returns-clause-ok : goal.returns-clause-ok
returns-clause-ok c =
    let x = shown c.args.self.now in
    let all = c.args.self.now.asks.all.asks in
    let rows = c.args.self.now.asks.rows.items in
    let k = c.in-Some.ensures.found in
    let f : FirstAt (held c.args.ticket) all 0 k.at.place = some_first (held c.args.ticket) all k.at.place k.first in
    let read = read_row all rows c.in-Some.row k.at (held_ask f.what) c.index.result.now c.args.self.now.asks.tied k.get (held_at c.args.ticket all k.at.place f).get c.index.ensures in
    let some : ◌≡◌ {A = Option Grant} (Some f.what.grant) (Some c.in-Some-lease.grant.now) = sym (ap lease_in read) ∙ sym c.lease.ensures ∙ ap option_copied c.in-Some-lease.is in
    let same : f.what.grant ≡ c.in-Some-lease.grant.now = cc in
    let here : all_stored x c.in-Some-lease.grant.now.slots ≡ true = search rules in
    record { up = c.if-self.false; holds = (k.at.place + 1, f.what, f.found (k.at.place + 1) (omega arith), same); stored = here }
