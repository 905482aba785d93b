use Rattle.std.proofs.Common.{◌≡◌, true, List, Ok, ap, sym, ◌∙◌}
use Rattle.holdings.specs.Leases.{among}
use Rattle.holdings.specs.Lives.{is_among, life_at}
use Rattle.versions.specs.Lines.{line_at}
use Rattle.versions.specs.declared.lines.SlotLine.{SlotLine}
use Rattle.saverecord.specs.Logs.{with_versions, with_leases, with_lives, with_gone, with_retired, may_follow, changed, folded_ledger}
use Rattle.saverecord.proofs.FoldLemmas.{entry_gives}
use Rattle.saverecord.proofs.folding.with_entry.Goals as goal

pub returns : goal.returns
returns c =
    let e = c.args.entry in
    let q = folded_ledger c.args.before in
    let follow : may_follow q.ceiling e ≡ true = sym c.may_follow.ensures ∙ c.if-not-may_follow.false in
    let lines : with_versions e.lines q.line ≡ Ok (line_at c.in_ok-lines.lines) = ap (λ (ls : List SlotLine). with_versions ls q.line) (sym c.into_vec.ensures) ∙ c.in_ok-lines.ensures in
    let leases : with_leases e.ended e.leases q.live ≡ Ok c.in_ok-leases.leases.items = (λ i. with_leases (sym c.as_slice.ensures i) (sym c.into_vec-2.ensures i) q.live) ∙ c.in_ok-leases.ensures in
    let retired : with_retired e.retired q.retired ≡ among c.in_ok-retired.retired.items = (λ i. with_retired (sym c.into_vec-3.ensures i) q.retired) ∙ sym c.in_ok-retired.ensures in
    let gone : with_gone e.retired_nodes q.gone ≡ is_among c.in_ok-retired_nodes.retired_nodes.retired = (λ i. with_gone (sym c.as_slice-3.ensures i) q.gone) ∙ sym c.in_ok-retired_nodes.ensures in
    let lives : with_lives e.lives q.lives ≡ life_at c.in_ok-lives.lives.seen = (λ i. with_lives (sym c.as_slice-2.ensures i) q.lives) ∙ sym c.in_ok-lives.ensures in
    entry_gives e q (line_at c.in_ok-lines.lines) c.in_ok-leases.leases.items _ follow lines leases
    (λ i. record (changed e (line_at c.in_ok-lines.lines) c.in_ok-leases.leases.items q) { retired = retired i; gone = gone i; lives = lives i })
