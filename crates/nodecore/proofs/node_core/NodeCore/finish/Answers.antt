use Rattle.std.proofs.Common.{◌≡◌, ◌+◌, List, true, false, refl, ap, sym, ◌∙◌, rules, arith}
use Rattle.protocol.specs.Nodes.{running, in_use}
use Rattle.nodeasks.specs.Asks.{is_in_use, slots_in}
use Rattle.names.specs.Contents.{content_digest}
use Rattle.protocol.specs.Machine.{GrantedSlot, slots_of, written}
use Rattle.protocol.specs.Names.{slots_eq}
use Rattle.protocol.specs.Nodes.{Left, news_of}
use Rattle.nodecore.specs.Shown.{shown, place}
use Rattle.nodecore.proofs.FirstLemmas.{FirstAt, some_first, none_first}
use Rattle.nodecore.proofs.KeptLemmas.{running_ask, running_at, kept_is, read_row}
use Rattle.nodecore.proofs.NodeLemmas.{finishes_not, finishes_in_use, finishes_wrong, finishes, fitting}
use Rattle.nodecore.proofs.node_core.NodeCore.finish.Goals as goal

pub returns-in_default-clause-answer : goal.returns-in_default-clause-answer
returns-in_default-clause-answer c =
    (finishes_not (place c.args.self.now) c.args.ticket c.args.lefts.items (shown c.args.self.now) c.if-self.false (none_first (running c.args.ticket) c.args.self.now.asks.all.asks c.in_default.ensures.none), refl)

pub returns-then-in_use-clause-answer : goal.returns-then-in_use-clause-answer
returns-then-in_use-clause-answer c =
    let x = shown c.args.self.now in
    let all = c.args.self.now.asks.all.asks in
    let rows = c.args.self.now.asks.rows.items in
    let k = c.in-Some.ensures.found in
    let f : FirstAt (running c.args.ticket) all 0 k.at.place = some_first (running c.args.ticket) all k.at.place k.first in
    let there = running_at c.args.ticket all k.at.place f in
    let kept = kept_is all rows c.in-Some.row k.at (running_ask f.what) c.args.self.now.asks.tied k.get there.get in
    let used : in_use all (k.at.place + 1) f.what.wants f.what.grant ≡ true =
    sym (c.in_use.ensures k.at k.get ∙ ap (is_in_use all (k.at.place + 1)) kept ∙ there.uses all (k.at.place + 1)) ∙ c.if-in_use.true in
    (finishes_in_use (place c.args.self.now) c.args.ticket c.args.lefts.items x (k.at.place + 1) f.what c.if-self.false (f.found (k.at.place + 1) (omega arith)) used, refl)

pub returns-then-not-fits-clause-answer : goal.returns-then-not-fits-clause-answer
returns-then-not-fits-clause-answer c =
    let x = shown c.args.self.now in
    let all = c.args.self.now.asks.all.asks in
    let rows = c.args.self.now.asks.rows.items in
    let k = c.in-Some.ensures.found in
    let f : FirstAt (running c.args.ticket) all 0 k.at.place = some_first (running c.args.ticket) all k.at.place k.first in
    let there = running_at c.args.ticket all k.at.place f in
    let kept = kept_is all rows c.in-Some.row k.at (running_ask f.what) c.args.self.now.asks.tied k.get there.get in
    let used : in_use all (k.at.place + 1) f.what.wants f.what.grant ≡ false =
    sym (c.in_use.ensures k.at k.get ∙ ap (is_in_use all (k.at.place + 1)) kept ∙ there.uses all (k.at.place + 1)) ∙ c.if-in_use.false in
    let read = read_row all rows c.in-Some.row k.at (running_ask f.what) c.index.result.now c.args.self.now.asks.tied k.get there.get c.index.ensures in
    let fit : fitting c.args.lefts.items f.what ≡ false =
    ap (λ (us : List GrantedSlot). slots_eq (slots_of (news_of content_digest c.args.lefts.items)) (written us)) (sym (c.slots.ensures ∙ ap slots_in read))
    ∙ ap (λ (ls : List Left). slots_eq (slots_of (news_of content_digest ls)) (written c.slots.result.now)) (sym c.as_slice.ensures.value)
    ∙ sym c.fits.ensures ∙ search rules in
    (finishes_wrong (place c.args.self.now) c.args.ticket c.args.lefts.items x (k.at.place + 1) f.what c.if-self.false (f.found (k.at.place + 1) (omega arith)) used fit, refl)

pub returns-clause-answer : goal.returns-clause-answer
returns-clause-answer c =
    let x = shown c.args.self.now in
    let all = c.args.self.now.asks.all.asks in
    let rows = c.args.self.now.asks.rows.items in
    let k = c.in-Some.ensures.found in
    let f : FirstAt (running c.args.ticket) all 0 k.at.place = some_first (running c.args.ticket) all k.at.place k.first in
    let there = running_at c.args.ticket all k.at.place f in
    let kept = kept_is all rows c.in-Some.row k.at (running_ask f.what) c.args.self.now.asks.tied k.get there.get in
    let used : in_use all (k.at.place + 1) f.what.wants f.what.grant ≡ false =
    sym (c.in_use.ensures k.at k.get ∙ ap (is_in_use all (k.at.place + 1)) kept ∙ there.uses all (k.at.place + 1)) ∙ c.if-in_use.false in
    let read = read_row all rows c.in-Some.row k.at (running_ask f.what) c.index.result.now c.args.self.now.asks.tied k.get there.get c.index.ensures in
    let fit : fitting c.args.lefts.items f.what ≡ true =
    ap (λ (us : List GrantedSlot). slots_eq (slots_of (news_of content_digest c.args.lefts.items)) (written us)) (sym (c.slots.ensures ∙ ap slots_in read))
    ∙ ap (λ (ls : List Left). slots_eq (slots_of (news_of content_digest ls)) (written c.slots.result.now)) (sym c.as_slice.ensures.value)
    ∙ sym c.fits.ensures ∙ search rules in
    finishes (place c.args.self.now) c.args.ticket c.args.lefts.items x _ (k.at.place + 1) f.what c.if-self.false (f.found (k.at.place + 1) (omega arith)) used fit (c.in-Ok.ensures.work k.at f.what k.get kept there.ticket)

pub returns-in_default-leave-clause-answer : goal.returns-in_default-leave-clause-answer
returns-in_default-leave-clause-answer c =
    let x = shown c.args.self.now in
    let all = c.args.self.now.asks.all.asks in
    let rows = c.args.self.now.asks.rows.items in
    let k = c.in-Some.ensures.found in
    let f : FirstAt (running c.args.ticket) all 0 k.at.place = some_first (running c.args.ticket) all k.at.place k.first in
    let there = running_at c.args.ticket all k.at.place f in
    let kept = kept_is all rows c.in-Some.row k.at (running_ask f.what) c.args.self.now.asks.tied k.get there.get in
    c.in_default-leave.ensures.work k.at f.what k.get kept there.ticket
