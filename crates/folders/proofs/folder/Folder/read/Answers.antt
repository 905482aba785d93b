use Rattle.std.proofs.Common.{length, Err, sym, ap, ◌∙◌, arith}
use Rattle.std.proofs.lemmas.Result.{err_from_is_err_and}
use Rattle.folders.specs.Files.{Files}
use Rattle.folders.specs.Reading.{folder_of}
use Rattle.folders.proofs.FolderLaws.{folder_took, folder_again, gives_again}
use Rattle.folders.proofs.folder.Folder.read.Goals as goal

pub returns-in_err-files-clause-only : goal.returns-in_err-files-clause-only
returns-in_err-files-clause-only c = λ files is spelled.
    let p = err_from_is_err_and c.from_residual.result c.from_residual.ensures.1 in
    rw (p.1, p.2) (gives_again {X = Files} (λ x. x) (Err c.in_err-files.field-0.0) c.args.bytes.now files is spelled c.in_err-files.ensures)

pub invariant_of-result : goal.invariant_of-result
invariant_of-result c =
    let took = folder_took c.args.bytes.now c.in_ok-files.files.items (λ i. omega (arith, c.type_inv.bytes i)) c.in_ok-files.ensures in
    (took.0, ap length took.1)

pub returns-clause-spelled : goal.returns-clause-spelled
returns-clause-spelled c = (folder_took c.args.bytes.now c.in_ok-files.files.items (λ i. omega (arith, c.type_inv.bytes i)) c.in_ok-files.ensures).1

pub returns-clause-folder : goal.returns-clause-folder
returns-clause-folder c = (folder_took c.args.bytes.now c.in_ok-files.files.items (λ i. omega (arith, c.type_inv.bytes i)) c.in_ok-files.ensures).0

pub returns-clause-only : goal.returns-clause-only
returns-clause-only c = λ files is spelled. sym (ap folder_of spelled ∙ folder_again files is) ∙ c.in_ok-files.ensures
