use Rattle.std.proofs.Common.{◌≡◌, ℕ, false, true, List, [], refl, ap, sym, subst, ◌∙◌, rules}
use Rattle.std.proofs.lemmas.Option.{get_or_from_slice_get}
use Rattle.protocol.specs.Lists.{nth}
use Rattle.protocol.specs.World.{Node}
use Rattle.events.specs.declared.ask.KeptAsk.{KeptAsk}
use Rattle.events.specs.declared.ask.KeptAsk.TheVariants.{Over}
use Rattle.protocol.specs.Nodes.{denied, becomes}
use Rattle.events.specs.declared.answer.How.TheVariants as how
use Rattle.events.specs.declared.answer.NodeNote.TheVariants as note
use Rattle.nodeasks.specs.declared.ask_row.AskRow.{AskRow}
use Rattle.nodeasks.specs.Asks.{is_open}
use Rattle.nodecore.specs.Shown.{shown, work_of}
use Rattle.nodeasks.specs.Tickets.{AreIndexed}
use Rattle.nodeasks.proofs.AskLemmas.{ask_at}
use Rattle.nodecore.proofs.KeptLemmas.{none_denied, not_denied, is_denied}
use Rattle.nodecore.proofs.NodeLemmas.{becomes_now}
use Rattle.nodeasks.proofs.RowLemmas.{kept_at}
use Rattle.nodeasks.proofs.ScanLemmas.{nth_without}
use Rattle.nodeasks.proofs.TicketLemmas.{indexed_changed, ends_all}
use Rattle.nodecore.proofs.node_core.NodeCore.deny.Goals as goal

pub returns-in_default-clause-work : goal.returns-in_default-clause-work
returns-in_default-clause-work c =
    let x = shown c.args.self.now in
    none_denied c.args.ask c.args.why x (nth x.asks c.args.ask.0) (nth_without x.asks c.args.self.now.asks.rows.items c.args.ask.0 c.args.self.now.asks.tied c.in_default.ensures.none)
    ∙ sym (ap (work_of x) c.silent.ensures)

pub returns-then-not-is_open-clause-work : goal.returns-then-not-is_open-clause-work
returns-then-not-is_open-clause-work c =
    let x = shown c.args.self.now in
    let rows = c.args.self.now.asks.rows.items in
    let k = c.in-Some.ensures.found in
    let same : c.index.result.now ≡ k.at = c.index.ensures ∙ get_or_from_slice_get rows c.in-Some.row k.at c.index.result.now k.get in
    let closed : is_open k.at.kept ≡ false = ap (λ (r : AskRow). is_open r.kept) (sym same) ∙ sym c.is_open.ensures ∙ search rules in
    ap (denied c.args.ask c.args.why x) (ask_at x.asks rows c.args.ask.0 c.in-Some.row k c.args.self.now.asks.tied)
    ∙ not_denied c.args.ask c.args.why x k.at.kept closed
    ∙ sym (ap (work_of x) c.silent-then-not-is_open.ensures)

pub returns-clause-work : goal.returns-clause-work
returns-clause-work c =
    let x = shown c.args.self.now in
    let rows = c.args.self.now.asks.rows.items in
    let k = c.in-Some.ensures.found in
    let same : c.index.result.now ≡ k.at = c.index.ensures ∙ get_or_from_slice_get rows c.in-Some.row k.at c.index.result.now k.get in
    let opened : is_open k.at.kept ≡ true = ap (λ (r : AskRow). is_open r.kept) (sym same) ∙ sym c.is_open.ensures ∙ search rules in
    ap (denied c.args.ask c.args.why x) (ask_at x.asks rows c.args.ask.0 c.in-Some.row k c.args.self.now.asks.tied)
    ∙ is_denied c.args.ask c.args.why x k.at.kept opened
    ∙ ap (λ (y : Node). record { node = y; sends = []; note = note.Denied c.args.why })
    (ap (λ (a : ℕ). becomes a (Over (how.Denied c.args.why)) x) k.number
    ∙ becomes_now x c.change.new.self.all.asks k.at.place (Over (how.Denied c.args.why)) (Over (how.Denied c.args.why)) (c.change.ensures.asks k.at k.get) refl)
    ∙ sym (ap (work_of _) c.silent-2.ensures)

pub invariant_of-self : goal.invariant_of-self
invariant_of-self c =
    let all = c.args.self.now.asks.all.asks in
    let rows = c.args.self.now.asks.rows.items in
    let k = c.in-Some.ensures.found in
    record {
      indexed = subst (λ (l : List KeptAsk). AreIndexed c.args.self.now.by_ticket l) (sym (c.change.ensures.asks k.at k.get))
          (indexed_changed (λ (s : KeptAsk). Over (how.Denied c.args.why)) c.args.self.now.by_ticket all k.at.place k.at.kept (ends_all (how.Denied c.args.why)) c.args.self.now.indexed (kept_at all rows c.in-Some.row k.at c.args.self.now.asks.tied k.get));
    }
