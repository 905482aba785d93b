use Rattle.std.proofs.Common.{sym, subst, arith}
use Rattle.std.proofs.lemmas.Grind.{common_steps}
use Rattle.folders.specs.Edits.{lent}
use Rattle.folders.proofs.Maps.{edited_rises}
use Rattle.folders.proofs.Places.{Rise}
use Rattle.folders.proofs.applying.edited_plan.Goals as goal

pub loop-edit-preserved : goal.loop-edit-preserved
loop-edit-preserved c = record {
  files = grind (arith, common_steps);
  rise = subst Rise (sym c.in_ok-edit_one.ensures) (edited_rises (lent c.loop-edit.plan) c.edit-item.result c.loop-edit.invariant.rise);
}
