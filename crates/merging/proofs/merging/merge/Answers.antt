use Rattle.std.proofs.Common.{◌≡◌, map, sym, ap, subst, ◌∙◌}
use Rattle.std.proofs.lemmas.Result.{IfOk-weaker}
use Rattle.merging.specs.Listings.{Listing}
use Rattle.merging.specs.Merging.{IsMerge}
use Rattle.merging.specs.Rows.{rows_of, lines_in, conflicts_in}
use Rattle.merging.specs.Views.{seen, plain, lines_of, conflicts_of, merged_lines, merged_conflicts}
use Rattle.merging.proofs.LineLaws.{all_decided, is_merge}
use Rattle.merging.proofs.RowLaws.{all_rise, all_three}
use Rattle.merging.proofs.merging.merge.Goals as goal

pub returns-clause-lines : goal.returns-clause-lines
returns-clause-lines c =
    let b : Listing = c.args.base.now in
    let m : Listing = c.args.mine.now in
    let t : Listing = c.args.theirs.now in
    let are : lines_in c.args.rule (map seen c.in_ok-rows.rows.items) ≡ merged_lines c.args.rule b m t =
    ap (lines_in c.args.rule) c.in_ok-rows.ensures
    ∙ (all_decided c.args.rule b m t (rows_of b m t) (all_rise b m t c.requires.base_rises c.requires.mine_rises c.requires.theirs_rises)
    (all_three b m t c.requires.base_rises c.requires.mine_rises c.requires.theirs_rises)).0 in
    IfOk-weaker c.decide.result (λ merge. lines_of merge ≡ lines_in c.args.rule (map seen c.in_ok-rows.rows.items)) (λ merge. lines_of merge ≡ merged_lines c.args.rule b m t)
    (λ merge h. h ∙ are) c.decide.ensures.lines

pub returns-clause-conflicts : goal.returns-clause-conflicts
returns-clause-conflicts c =
    let b : Listing = c.args.base.now in
    let m : Listing = c.args.mine.now in
    let t : Listing = c.args.theirs.now in
    let are : conflicts_in c.args.rule (map seen c.in_ok-rows.rows.items) ≡ merged_conflicts c.args.rule b m t =
    ap (conflicts_in c.args.rule) c.in_ok-rows.ensures
    ∙ (all_decided c.args.rule b m t (rows_of b m t) (all_rise b m t c.requires.base_rises c.requires.mine_rises c.requires.theirs_rises)
    (all_three b m t c.requires.base_rises c.requires.mine_rises c.requires.theirs_rises)).1 in
    IfOk-weaker c.decide.result (λ merge. conflicts_of merge ≡ conflicts_in c.args.rule (map seen c.in_ok-rows.rows.items)) (λ merge. conflicts_of merge ≡ merged_conflicts c.args.rule b m t)
    (λ merge h. h ∙ are) c.decide.ensures.conflicts

pub returns-clause-listing : goal.returns-clause-listing
returns-clause-listing c =
    let b : Listing = c.args.base.now in
    let m : Listing = c.args.mine.now in
    let t : Listing = c.args.theirs.now in
    let rise = all_rise b m t c.requires.base_rises c.requires.mine_rises c.requires.theirs_rises in
    let know = all_three b m t c.requires.base_rises c.requires.mine_rises c.requires.theirs_rises in
    let are : lines_in c.args.rule (map seen c.in_ok-rows.rows.items) ≡ merged_lines c.args.rule b m t =
    ap (lines_in c.args.rule) c.in_ok-rows.ensures ∙ (all_decided c.args.rule b m t (rows_of b m t) rise know).0 in
    IfOk-weaker c.decide.result (λ merge. lines_of merge ≡ lines_in c.args.rule (map seen c.in_ok-rows.rows.items)) (λ merge. IsMerge c.args.rule b m t (plain (lines_of merge)))
    (λ merge h. subst (λ (l : Listing). IsMerge c.args.rule b m t l) (sym (ap plain (h ∙ are))) (is_merge c.args.rule b m t (rows_of b m t) rise know)) c.decide.ensures.lines
