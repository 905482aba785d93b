use Rattle.folders.specs.Edits.{lent}
use Rattle.folders.proofs.FolderLaws.{folder_again}
use Rattle.folders.proofs.edited_folder.EditedFolder.to_bytes.Goals as goal

pub returns-clause-again : goal.returns-clause-again
returns-clause-again c =
    rw (c.in_ok-push_plan.ensures, c.in_ok-bytes.ensures.items, ← c.self.view_is) (folder_again (lent c.self.inside.plan) c.self.invariant.0)
