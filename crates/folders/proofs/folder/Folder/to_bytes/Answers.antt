use Rattle.folders.proofs.FolderLaws.{folder_again}
use Rattle.folders.proofs.folder.Folder.to_bytes.Goals as goal

pub returns-clause-again : goal.returns-clause-again
returns-clause-again c =
    rw (c.in_ok-push_files.ensures, c.in_ok-bytes.ensures.items, c.as_slice.ensures.value, ← c.self.view_is) (folder_again c.self.inside.files.items c.self.invariant.0)
