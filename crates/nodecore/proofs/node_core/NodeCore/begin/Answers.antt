use Rattle.std.proofs.Common.{◌≡◌, ◌+◌, [], List, true, false, refl, ap, sym, subst, ◌∙◌, rules, arith}
use Rattle.protocol.specs.Nodes.{HeldGrant, held, all_stored}
use Rattle.events.specs.declared.ask.KeptAsk.{KeptAsk}
use Rattle.events.specs.declared.ask.KeptAsk.TheVariants.{Running}
use Rattle.nodeasks.specs.Asks.{slots_in, runs}
use Rattle.nodecore.specs.Shown.{shown}
use Rattle.nodeasks.specs.Tickets.{AreIndexed}
use Rattle.nodecore.proofs.FirstLemmas.{FirstAt, first_is, some_first, none_first}
use Rattle.nodecore.proofs.KeptLemmas.{held_ask, held_at, kept_is, read_row}
use Rattle.nodecore.proofs.NodeLemmas.{begins_not, begins_missing, begins, becomes_now, has_bases}
use Rattle.nodeasks.proofs.RowLemmas.{kept_at}
use Rattle.nodeasks.proofs.TicketLemmas.{indexed_changed, runs_less}
use Rattle.nodecore.proofs.node_core.NodeCore.begin.Goals as goal

pub returns-in_default-clause-answer : goal.returns-in_default-clause-answer
returns-in_default-clause-answer c =
    (begins_not c.args.ticket (shown c.args.self.now) c.if-self.false (none_first (held c.args.ticket) c.args.self.now.asks.all.asks c.in_default.ensures.none), refl)

pub returns-then-not-has_all-clause-answer : goal.returns-then-not-has_all-clause-answer
returns-then-not-has_all-clause-answer c =
    let x = shown c.args.self.now in
    let all = c.args.self.now.asks.all.asks in
    let rows = c.args.self.now.asks.rows.items in
    let k = c.in-Some.ensures.found in
    let f : FirstAt (held c.args.ticket) all 0 k.at.place = some_first (held c.args.ticket) all k.at.place k.first in
    let read = read_row all rows c.in-Some.row k.at (held_ask f.what) c.index.result.now c.args.self.now.asks.tied k.get (held_at c.args.ticket all k.at.place f).get c.index.ensures in
    let slots : c.slots.result.now ≡ f.what.grant.slots = c.slots.ensures ∙ ap slots_in read in
    let missing : all_stored x f.what.grant.slots ≡ false = ap (all_stored x) (sym slots) ∙ sym c.has_all.ensures ∙ search rules in
    (begins_missing c.args.ticket x (k.at.place + 1) f.what c.if-self.false (f.found (k.at.place + 1) (omega arith)) missing, refl)

pub returns-clause-answer : goal.returns-clause-answer
returns-clause-answer c =
    let x = shown c.args.self.now in
    let all = c.args.self.now.asks.all.asks in
    let rows = c.args.self.now.asks.rows.items in
    let k = c.in-Some.ensures.found in
    let f : FirstAt (held c.args.ticket) all 0 k.at.place = some_first (held c.args.ticket) all k.at.place k.first in
    let there = (held_at c.args.ticket all k.at.place f).get in
    let read = read_row all rows c.in-Some.row k.at (held_ask f.what) c.index.result.now c.args.self.now.asks.tied k.get there c.index.ensures in
    let slots : c.slots.result.now ≡ f.what.grant.slots = c.slots.ensures ∙ ap slots_in read in
    let here : all_stored x f.what.grant.slots ≡ true = ap (all_stored x) (sym slots) ∙ sym c.has_all.ensures ∙ search rules in
    let next : Running f.what.wants f.what.grant f.what.recalled ≡ runs k.at.kept = sym (ap runs (kept_is all rows c.in-Some.row k.at (held_ask f.what) c.args.self.now.asks.tied k.get there)) in
    let quiet : [] ≡ c.new-2.result = sym (c.new-2.ensures ∙ c.new.ensures.items) in
    begins c.args.ticket x _ (k.at.place + 1) f.what _ c.if-self.false (f.found (k.at.place + 1) (omega arith)) here quiet
    (becomes_now x c.change.new.self.all.asks k.at.place _ _ (c.change.ensures.asks k.at k.get) next)

pub returns-clause-bases : goal.returns-clause-bases
returns-clause-bases c = λ number h found.
    let x = shown c.args.self.now in
    let all = c.args.self.now.asks.all.asks in
    let rows = c.args.self.now.asks.rows.items in
    let k = c.in-Some.ensures.found in
    let f : FirstAt (held c.args.ticket) all 0 k.at.place = some_first (held c.args.ticket) all k.at.place k.first in
    let read = read_row all rows c.in-Some.row k.at (held_ask f.what) c.index.result.now c.args.self.now.asks.tied k.get (held_at c.args.ticket all k.at.place f).get c.index.ensures in
    let slots : c.slots.result.now ≡ f.what.grant.slots = c.slots.ensures ∙ ap slots_in read in
    let here : all_stored x f.what.grant.slots ≡ true = ap (all_stored x) (sym slots) ∙ sym c.has_all.ensures ∙ search rules in
    let same : f.what ≡ h = first_is (held c.args.ticket) all (k.at.place + 1) number f.what h (f.found (k.at.place + 1) (omega arith)) found in
    has_bases x _ refl h.grant.slots (ap (λ (g : HeldGrant). all_stored x g.grant.slots) (sym same) ∙ here)

pub invariant_of-self-2 : goal.invariant_of-self-2
invariant_of-self-2 c =
    let all = c.args.self.now.asks.all.asks in
    let rows = c.args.self.now.asks.rows.items in
    let k = c.in-Some.ensures.found in
    record {
      indexed = subst (λ (l : List KeptAsk). AreIndexed c.args.self.now.by_ticket l) (sym (c.change.ensures.asks k.at k.get))
          (indexed_changed runs c.args.self.now.by_ticket all k.at.place k.at.kept runs_less c.args.self.now.indexed (kept_at all rows c.in-Some.row k.at c.args.self.now.asks.tied k.get));
    }
