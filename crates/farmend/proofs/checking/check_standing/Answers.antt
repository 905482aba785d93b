use Rattle.std.proofs.Common.{◌≡◌, ◌≤◌, List, All, length, sym, ◌∙◌, subst}
use Rattle.std.specs.List.{IsDistinct}
use Rattle.std.specs.Prelude.{nat_eq}
use Rattle.executions.specs.Counts.{commits_of}
use Rattle.executions.specs.History.{farm_of}
use Rattle.executions.specs.Receipt.{Receipt}
use Rattle.protocol.specs.Replay.{Farm}
use Rattle.saverecord.specs.Texts.{whole_alone}
use Rattle.saverecord.specs.Logs.{Holds}
use Rattle.farmend.specs.Receipts.{StandsOn, tickets_of}
use Rattle.executions.proofs.ReplayLemmas.{farm_same, commits_same}
use Rattle.farmend.proofs.checking.check_standing.Goals as goal

pub returns-clause-stands : goal.returns-clause-stands
returns-clause-stands c =
    let events = c.into_parts-schedule.result.1.items in
    let nodes : c.args.board.setup.nodes ≡ c.args.setup.nodes = c.in_ok-agree.ensures in
    let farm = farm_same c.args.board c.args.setup events nodes c.into_parts-schedule.ensures.schedule in
    let seen = c.as_slice.ensures.value in
    record {
      record_is = subst (λ (s : Farm). Holds (whole_alone c.in_ok-saved.saved.items) s.saved) (c.world.ensures ∙ farm) c.in_ok-saved.ensures;
      commits_are = c.commits-commits.ensures ∙ commits_same c.args.board c.args.setup events nodes c.into_parts-schedule.ensures.schedule;
      stand = subst (λ (s : Farm). All (StandsOn s) c.args.receipts.items) farm (subst (λ (rs : List Receipt). All (StandsOn (farm_of c.args.board)) rs) seen c.in_ok-settle_some.ensures.stand);
      differ = subst (λ (rs : List Receipt). IsDistinct nat_eq (tickets_of rs)) seen c.in_ok-settle_some.ensures.differ;
      count = subst (λ n. length c.args.receipts.items ≤ n) (sym c.commits-commits.ensures) (subst (λ (rs : List Receipt). length rs ≤ commits_of c.args.board) seen c.in_ok-settle_some.ensures.count);
    }
