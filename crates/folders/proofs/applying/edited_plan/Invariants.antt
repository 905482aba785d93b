use Rattle.std.proofs.Common.{◌≡◌, drop}
use Rattle.folders.specs.Edits.{edited_all, lent}
use Rattle.folders.proofs.Places.{Rise}
use Rattle.folders.proofs.applying.edited_plan.Given as goal

abbrev pub invariant-loop-edit : goal.invariant-loop-edit
invariant-loop-edit l = record {
  files : edited_all (lent l.plan) (drop l.edit-index l.edits) ≡ edited_all l.files l.edits;
  rise : Rise (lent l.plan);
}
