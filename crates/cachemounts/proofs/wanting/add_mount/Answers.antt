use Rattle.std.proofs.lemmas.Option.{MatchOption-at_some}
use Rattle.std.proofs.lemmas.Result.{on_ok_weaker}
use Rattle.vertices.specs.OpChecks.{IsCache}
use Rattle.cachemounts.specs.CacheFolders.{HasFolder}
use Rattle.cachemounts.proofs.AddingLemmas.{adds_mount}
use Rattle.cachemounts.proofs.wanting.add_mount.Goals as goal

pub returns-in-Some-clause-adds : goal.returns-in-Some-clause-adds
returns-in-Some-clause-adds c =
    let outputs = c.args.outputs.now in
    let mount = c.args.mount.now in
    let has : HasFolder outputs mount c.in-Some.folder
    = MatchOption-at_some (IsCache mount → ⊥) (HasFolder outputs mount) c.in-Some.folder c.in-Some.is c.in_ok-folder.ensures in
    on_ok_weaker c.add_folder.result (adds_mount outputs mount c.in-Some.folder c.args.wants.now.items c.add_folder.new.wants.items has) c.add_folder.ensures.adds
