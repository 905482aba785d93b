use Rattle.std.proofs.Common.{List, length, sym, subst}
use Rattle.std.specs.List.{All}
use Rattle.names.specs.declared.folder.Base.{Base}
use Rattle.cachemounts.specs.Checked.{IsChecked}
use Rattle.cachemounts.proofs.wanting.wants.Goals as goal

pub wants_of_mounts-requires-clause-checked : goal.wants_of_mounts-requires-clause-checked
wants_of_mounts-requires-clause-checked c =
    subst (λ (os : List Base). All (IsChecked (length os)) c.mounts.result.now) (sym c.outputs.ensures)
    (subst (All (IsChecked (length c.in_ok-mounted.mounted.outputs.items))) (sym c.mounts.ensures) c.in_ok-mounted.ensures.checked)
