use Rattle.std.proofs.Common.{ap, ◌∙◌}
use Rattle.folders.proofs.Plans.{files_lent, lent-insert_entry, one_more}
use Rattle.folders.proofs.applying.plan_of.Goals as goal

pub loop-path-preserved : goal.loop-path-preserved
loop-path-preserved c =
    ap files_lent c.in_ok-insert.ensures.entries ∙ lent-insert_entry c.loop-path.plan.entries c.as_str.result c.as_slice.result
    ∙ one_more c.args.files.now c.loop-path.path-index c.loop-path-item.result (files_lent c.loop-path.plan.entries) c.as_str.result.now c.as_slice.result.now c.requires c.loop-path-test.true
    c.loop-path-item.is c.loop-path.invariant c.as_str.ensures.value c.as_slice.ensures
