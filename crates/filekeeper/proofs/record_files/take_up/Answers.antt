use Rattle.std.proofs.Common.{List, ◌∷◌, [], true, sym, subst, ap, ◌∙◌}
use Rattle.filekeeper.specs.Calls.{Called}
use Rattle.filekeeper.specs.Disks.{calls_of, IsTidied, Leaves}
use Rattle.filekeeper.specs.Framing.{AreTextsOf}
use Rattle.filekeeper.specs.Settled.{IsTakenUp}
use Rattle.filekeeper.specs.declared.device_call.DeviceCall.TheVariants.{ReadLog, SyncNames, Cut, SyncLog}
use Rattle.filekeeper.proofs.TakingLemmas.{begins, record_read, log_read, tidied, has_read}
use Rattle.filekeeper.proofs.record_files.take_up.Goals as goal

pub returns-in_err-whole-clause-any_moment : goal.returns-in_err-whole-clause-any_moment
returns-in_err-whole-clause-any_moment g c =
    let old = calls_of c.args.disk.now in
    let new = calls_of c.read_record.new.self in
    subst (Leaves (IsTakenUp old new) old) (sym c.in_err-whole.ensures.failed) (begins old [] [] new)

pub returns-in_err-tail-clause-any_moment : goal.returns-in_err-tail-clause-any_moment
returns-in_err-tail-clause-any_moment g c =
    let old = calls_of c.args.disk.now in
    let new = calls_of c.read_log.new.self in
    subst (Leaves (IsTakenUp old new) old) (sym (c.in_err-tail.ensures.failed ∙ c.in_ok-whole.ensures.done)) (record_read old c.in_ok-whole.whole.items [] new)

pub returns-in_err-log-clause-any_moment : goal.returns-in_err-log-clause-any_moment
returns-in_err-log-clause-any_moment g c =
    let old = calls_of c.args.disk.now in
    let new = calls_of c.read_log.new.self in
    let whole = c.in_ok-whole.whole.items in
    let tail = c.in_ok-tail.tail.items in
    subst (Leaves (IsTakenUp old new) old) (sym (c.in_ok-tail.ensures.done ∙ ap (λ (cs : List Called). (ReadLog, tail) ∷ cs) c.in_ok-whole.ensures.done)) (log_read old whole tail new)

pub returns-in_err-tidy-clause-any_moment : goal.returns-in_err-tidy-clause-any_moment
returns-in_err-tidy-clause-any_moment g c =
    let old = calls_of c.args.disk.now in
    let new = calls_of c.tidy.new.self in
    let whole = c.in_ok-whole.whole.items in
    let tail = c.in_ok-tail.tail.items in
    let reads = c.in_ok-tail.ensures.done ∙ ap (λ (cs : List Called). (ReadLog, tail) ∷ cs) c.in_ok-whole.ensures.done in
    tidied old whole tail new c.in_ok-log.log c.in_ok-log.len (subst (λ bytes. AreTextsOf whole bytes c.in_ok-log.log) c.as_slice.ensures.value c.in_ok-log.ensures.texts) c.in_ok-log.ensures.len
    (subst (λ cs. Leaves (IsTidied c.in_ok-log.len cs) cs new) reads c.tidy.ensures.any_moment)

pub returns-clause-any_moment : goal.returns-clause-any_moment
returns-clause-any_moment g c =
    let old = calls_of c.args.disk.now in
    let new = calls_of c.tidy.new.self in
    let whole = c.in_ok-whole.whole.items in
    let tail = c.in_ok-tail.tail.items in
    let reads = c.in_ok-tail.ensures.done ∙ ap (λ (cs : List Called). (ReadLog, tail) ∷ cs) c.in_ok-whole.ensures.done in
    tidied old whole tail new c.in_ok-log.log c.in_ok-log.len (subst (λ bytes. AreTextsOf whole bytes c.in_ok-log.log) c.as_slice.ensures.value c.in_ok-log.ensures.texts) c.in_ok-log.ensures.len
    (subst (λ cs. Leaves (IsTidied c.in_ok-log.len cs) cs new) reads c.tidy.ensures.any_moment)

pub returns-clause-read : goal.returns-clause-read
returns-clause-read g c =
    let old = calls_of c.args.disk.now in
    let new = calls_of c.tidy.new.self in
    let whole = c.in_ok-whole.whole.items in
    let tail = c.in_ok-tail.tail.items in
    let reads = c.in_ok-tail.ensures.done ∙ ap (λ (cs : List Called). (ReadLog, tail) ∷ cs) c.in_ok-whole.ensures.done in
    has_read old whole tail new c.in_ok-log.log c.in_ok-log.len (subst (λ bytes. AreTextsOf whole bytes c.in_ok-log.log) c.as_slice.ensures.value c.in_ok-log.ensures.texts) (c.in_ok-tidy.ensures.done ∙ ap (λ (cs : List Called). (SyncLog true, []) ∷ (Cut c.in_ok-log.len true, []) ∷ (SyncNames true, []) ∷ cs) reads)
