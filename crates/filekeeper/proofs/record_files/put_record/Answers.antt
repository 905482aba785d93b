use Rattle.std.proofs.Common.{List, ◌∷◌, [], true, ap, ◌∙◌}
use Rattle.std.specs.Result.{is_ok}
use Rattle.filekeeper.specs.Calls.{Called}
use Rattle.filekeeper.specs.Disks.{calls_of}
use Rattle.filekeeper.specs.declared.device_call.DeviceCall.TheVariants.{WriteDraft, RenameDraft}
use Rattle.filekeeper.proofs.ReplacingLemmas.{draft_over, put_over, emptied_over, settled_over}
use Rattle.filekeeper.proofs.record_files.put_record.Goals as goal

pub returns-in_err-write_draft-clause-any_moment : goal.returns-in_err-write_draft-clause-any_moment
returns-in_err-write_draft-clause-any_moment g c =
    draft_over c.args.bytes.now (calls_of c.args.disk.now) (is_ok c.write_draft.result) (calls_of c.write_draft.new.self) c.write_draft.ensures

pub returns-in_err-rename_draft-clause-any_moment : goal.returns-in_err-rename_draft-clause-any_moment
returns-in_err-rename_draft-clause-any_moment g c =
    let drafted = c.write_draft.ensures ∙ ap (λ b. (WriteDraft b, c.args.bytes.now) ∷ calls_of c.args.disk.now) (ap is_ok c.in_ok-write_draft.was) in
    put_over c.args.bytes.now (calls_of c.args.disk.now) (is_ok c.rename_draft.result) (calls_of c.write_draft.new.self) (calls_of c.rename_draft.new.self) drafted c.rename_draft.ensures

pub returns-clause-any_moment : goal.returns-clause-any_moment
returns-clause-any_moment g c =
    let old = calls_of c.args.disk.now in
    let drafted = c.write_draft.ensures ∙ ap (λ b. (WriteDraft b, c.args.bytes.now) ∷ old) (ap is_ok c.in_ok-write_draft.was) in
    let renamed = c.rename_draft.ensures ∙ ap (λ b. (RenameDraft b, []) ∷ calls_of c.write_draft.new.self) (ap is_ok c.in_ok-rename_draft.was) in
    emptied_over c.args.bytes.now old (calls_of c.rename_draft.new.self) (calls_of c.tidy.new.self) (renamed ∙ ap (λ (cs : List Called). (RenameDraft true, []) ∷ cs) drafted)
    (put_over c.args.bytes.now old (is_ok c.rename_draft.result) (calls_of c.write_draft.new.self) (calls_of c.rename_draft.new.self) drafted c.rename_draft.ensures) c.tidy.ensures.any_moment

pub returns-clause-settled : goal.returns-clause-settled
returns-clause-settled g c =
    let old = calls_of c.args.disk.now in
    let drafted = c.write_draft.ensures ∙ ap (λ b. (WriteDraft b, c.args.bytes.now) ∷ old) (ap is_ok c.in_ok-write_draft.was) in
    let renamed = c.rename_draft.ensures ∙ ap (λ b. (RenameDraft b, []) ∷ calls_of c.write_draft.new.self) (ap is_ok c.in_ok-rename_draft.was) in
    settled_over c.args.bytes.now old c.tidy.result (calls_of c.rename_draft.new.self) (calls_of c.tidy.new.self) (renamed ∙ ap (λ (cs : List Called). (RenameDraft true, []) ∷ cs) drafted) c.tidy.ensures.done
