use Rattle.folders.proofs.Faults.{one_folder}
use Rattle.folders.proofs.FolderLaws.{folder_took, folder_again}
use Rattle.folders.proofs.laws.a_folder_has_one_spelling.Goals as goal

pub returns : goal.returns
returns c = record {
  read = λ text files fits e. (folder_took text files fits e).1;
  folder = λ text files fits e. (folder_took text files fits e).0;
  written = folder_again;
  one = one_folder;
}
