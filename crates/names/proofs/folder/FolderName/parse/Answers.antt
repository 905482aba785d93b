use Rattle.std.proofs.Common.{◌≡◌, ap, Err}
use Rattle.std.proofs.lemmas.Result.{err_from_is_err_and}
use Rattle.names.specs.declared.refusal.FolderRefusal.TheVariants.{BadFolder}
use Rattle.names.proofs.NameLemmas.{id_spelled}
use Rattle.names.proofs.folder.FolderName.parse.Goals as goal

pub returns-in_err-id-clause-only : goal.returns-in_err-id-clause-only
returns-in_err-id-clause-only c = λ same f h e.
    let p = err_from_is_err_and c.from_residual.result c.from_residual.ensures.1 in
    let bad : c.in_err-id.field-0.0 ≡ BadFolder = cc (p.1, p.2, same) in
    let i = id_spelled c.args.text.now c.in-Some.id.now c.in-Some.mode c.in-Some.base f h c.in-Some.ensures.found c.in-Some.ensures.no_at e in
    c.in_err-id.ensures.only (ap Err bad) f.id h.bytes h.text i
