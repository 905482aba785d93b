use Rattle.std.proofs.Common.{◌≡◌, false, true, Option, Some, ap, sym, ◌∙◌, subst, rules}
use Rattle.std.proofs.lemmas.Option.{get_or_from_slice_get}
use Rattle.protocol.specs.Farm.{farm_limits}
use Rattle.protocol.specs.Lists.{nth}
use Rattle.protocol.specs.World.{keeps}
use Rattle.events.specs.declared.ask.KeptAsk.{KeptAsk}
use Rattle.events.specs.declared.ask.KeptAsk.TheVariants.{Open}
use Rattle.protocol.specs.Nodes.{granted}
use Rattle.nodeasks.specs.declared.ask_row.AskRow.{AskRow}
use Rattle.nodeasks.specs.Asks.{is_open}
use Rattle.nodecore.specs.Shown.{shown, place, work_of, Does}
use Rattle.nodeasks.proofs.AskLemmas.{ask_at}
use Rattle.nodecore.proofs.KeptLemmas.{open_is, granted_kept, none_granted, does_ok}
use Rattle.nodeasks.proofs.ScanLemmas.{nth_without}
use Rattle.nodecore.proofs.node_core.NodeCore.grant.Goals as goal

pub returns-in_default-clause-work : goal.returns-in_default-clause-work
returns-in_default-clause-work c =
    let x = shown c.args.self.now in
    does_ok _ _ x c.give_back.result
    (none_granted farm_limits (place c.args.self.now) c.args.grant.now x (nth x.asks c.args.grant.now.ask.0) (nth_without x.asks c.args.self.now.asks.rows.items c.args.grant.now.ask.0 c.args.self.now.asks.tied c.in_default.ensures.none))
    c.give_back.ensures

pub returns-then-is_open-clause-work : goal.returns-then-is_open-clause-work
returns-then-is_open-clause-work c =
    let all = c.args.self.now.asks.all.asks in
    let rows = c.args.self.now.asks.rows.items in
    let grant = c.args.grant.now in
    let x = shown c.args.self.now in
    let k = c.in-Some.ensures.found in
    let there = ask_at all rows grant.ask.0 c.in-Some.row k c.args.self.now.asks.tied in
    let same : c.index.result.now ≡ k.at = c.index.ensures ∙ get_or_from_slice_get rows c.in-Some.row k.at c.index.result.now k.get in
    let opened : is_open k.at.kept ≡ true = ap (λ (r : AskRow). is_open r.kept) (sym same) ∙ sym c.is_open.ensures ∙ search rules in
    let (wants, tenure, is) = open_is k.at.kept opened in
    let open_there : nth all grant.ask.0 ≡ Some (Open wants tenure) = there ∙ ap (λ (s : KeptAsk). Some s) is in
    subst (λ (o : Option KeptAsk). Does (granted farm_limits (place c.args.self.now) grant x o) x (shown c.take.new.self) c.take.result) (sym open_there)
    (c.take.ensures.work k.at wants tenure k.get is k.number)

pub returns-then-keeps-clause-work : goal.returns-then-keeps-clause-work
returns-then-keeps-clause-work c =
    let all = c.args.self.now.asks.all.asks in
    let rows = c.args.self.now.asks.rows.items in
    let grant = c.args.grant.now in
    let x = shown c.args.self.now in
    let k = c.in-Some.ensures.found in
    let there = ask_at all rows grant.ask.0 c.in-Some.row k c.args.self.now.asks.tied in
    let same : c.index.result.now ≡ k.at = c.index.ensures ∙ get_or_from_slice_get rows c.in-Some.row k.at c.index.result.now k.get in
    let same_again : c.index-2.result.now ≡ k.at = c.index-2.ensures ∙ get_or_from_slice_get rows c.in-Some.row k.at c.index-2.result.now k.get in
    let closed : is_open k.at.kept ≡ false = ap (λ (r : AskRow). is_open r.kept) (sym same) ∙ sym c.is_open.ensures ∙ search rules in
    let kept_here : keeps k.at.kept grant.ticket ≡ true = ap (λ (r : AskRow). keeps r.kept grant.ticket) (sym same_again) ∙ sym c.keeps.ensures ∙ search rules in
    ap (granted farm_limits (place c.args.self.now) grant x) there
    ∙ granted_kept farm_limits (place c.args.self.now) grant x k.at.kept true closed kept_here
    ∙ sym (ap (work_of x) c.silent.ensures)

pub returns-clause-work : goal.returns-clause-work
returns-clause-work c =
    let all = c.args.self.now.asks.all.asks in
    let rows = c.args.self.now.asks.rows.items in
    let grant = c.args.grant.now in
    let x = shown c.args.self.now in
    let k = c.in-Some.ensures.found in
    let there = ask_at all rows grant.ask.0 c.in-Some.row k c.args.self.now.asks.tied in
    let same : c.index.result.now ≡ k.at = c.index.ensures ∙ get_or_from_slice_get rows c.in-Some.row k.at c.index.result.now k.get in
    let same_again : c.index-2.result.now ≡ k.at = c.index-2.ensures ∙ get_or_from_slice_get rows c.in-Some.row k.at c.index-2.result.now k.get in
    let closed : is_open k.at.kept ≡ false = ap (λ (r : AskRow). is_open r.kept) (sym same) ∙ sym c.is_open.ensures ∙ search rules in
    let lost : keeps k.at.kept grant.ticket ≡ false = ap (λ (r : AskRow). keeps r.kept grant.ticket) (sym same_again) ∙ sym c.keeps.ensures ∙ search rules in
    does_ok _ _ x c.give_back-2.result
    (ap (granted farm_limits (place c.args.self.now) grant x) there ∙ granted_kept farm_limits (place c.args.self.now) grant x k.at.kept false closed lost)
    c.give_back-2.ensures
