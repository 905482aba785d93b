use Rattle.std.proofs.Common.{◌∷◌, ap, ◌∙◌}
use Rattle.std.proofs.lemmas.List.Elements.{All-take}
use Rattle.std.specs.Result.{is_ok}
use Rattle.filekeeper.specs.Disks.{calls_of}
use Rattle.filekeeper.specs.Framing.{IsTold}
use Rattle.filekeeper.specs.RecordFiles.{lasting_in}
use Rattle.filekeeper.specs.declared.device_call.DeviceCall.TheVariants.{WriteDraft}
use Rattle.filekeeper.proofs.ReplacingLemmas.{drafted, renamed}
use Rattle.filekeeper.proofs.record_files.RecordFiles.put.Goals as goal

pub returns-in_err-write_draft-clause-any_moment : goal.returns-in_err-write_draft-clause-any_moment
returns-in_err-write_draft-clause-any_moment g c = λ differs.
    let x = c.args.self.now in
    drafted (lasting_in x) c.args.bytes.now (calls_of x.disk) (x.left c.requires.settled) (All-take IsTold x.lasting x.log.entries x.told) (is_ok c.write_draft.result) (calls_of c.write_draft.new.self) c.write_draft.ensures

pub returns-clause-any_moment : goal.returns-clause-any_moment
returns-clause-any_moment g c = λ differs.
    let x = c.args.self.now in
    renamed (lasting_in x) c.args.bytes.now (calls_of x.disk) (x.left c.requires.settled) (All-take IsTold x.lasting x.log.entries x.told) (is_ok c.rename_draft.result) (calls_of c.write_draft.new.self) (calls_of c.rename_draft.new.self) differs c.requires.no_clash
    (c.write_draft.ensures ∙ ap (λ b. (WriteDraft b, c.args.bytes.now) ∷ calls_of x.disk) (ap is_ok c.in_ok-write_draft.was)) c.rename_draft.ensures
