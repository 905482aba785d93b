use Rattle.std.proofs.Common.{◌≡◌, List, ◌∷◌, [], true, false, sym, subst, ap, ◌∙◌}
use Rattle.filekeeper.specs.Calls.{Called}
use Rattle.filekeeper.specs.Disks.{calls_of, IsTidied, Leaves}
use Rattle.filekeeper.specs.RecordFiles.{lasting_in}
use Rattle.filekeeper.specs.Settled.{IsCut}
use Rattle.filekeeper.specs.declared.device_call.DeviceCall.TheVariants.{ReadLog, SyncNames, Cut, SyncLog}
use Rattle.filekeeper.proofs.StandingLemmas.{cut_stand, settled_stand}
use Rattle.filekeeper.proofs.TakingLemmas.{again_begins, record_again, log_again, tidied_again, settles}
use Rattle.filekeeper.proofs.record_files.RecordFiles.reload.Goals as goal

pub returns-in_err-whole-clause-any_moment : goal.returns-in_err-whole-clause-any_moment
returns-in_err-whole-clause-any_moment g c =
    let x = c.args.self.now in
    let old = calls_of x.disk in
    subst (Leaves (IsCut (lasting_in x) old) old) (sym c.in_err-whole.ensures.failed) (again_begins old [] [] (lasting_in x))

pub returns-in_err-tail-clause-any_moment : goal.returns-in_err-tail-clause-any_moment
returns-in_err-tail-clause-any_moment g c =
    let x = c.args.self.now in
    let old = calls_of x.disk in
    subst (Leaves (IsCut (lasting_in x) old) old) (sym (c.in_err-tail.ensures.failed ∙ c.in_ok-whole.ensures.done)) (record_again old c.in_ok-whole.whole.items [] (lasting_in x))

pub returns-then-not-stands_in-clause-any_moment : goal.returns-then-not-stands_in-clause-any_moment
returns-then-not-stands_in-clause-any_moment g c =
    let x = c.args.self.now in
    let old = calls_of x.disk in
    let whole = c.in_ok-whole.whole.items in
    let tail = c.in_ok-tail.tail.items in
    subst (Leaves (IsCut (lasting_in x) old) old) (sym (c.in_ok-tail.ensures.done ∙ ap (λ (cs : List Called). (ReadLog, tail) ∷ cs) c.in_ok-whole.ensures.done)) (log_again old whole tail (lasting_in x))

pub returns-in_err-tidy-clause-any_moment : goal.returns-in_err-tidy-clause-any_moment
returns-in_err-tidy-clause-any_moment g c =
    let x = c.args.self.now in
    let old = calls_of x.disk in
    let new = calls_of c.tidy.new.self in
    let whole = c.in_ok-whole.whole.items in
    let tail = c.in_ok-tail.tail.items in
    let reads = c.in_ok-tail.ensures.done ∙ ap (λ (cs : List Called). (ReadLog, tail) ∷ cs) c.in_ok-whole.ensures.done in
    let there = rw (c.as_slice.ensures.value, c.as_slice-2.ensures.value) at (c.stands_in.ensures c.if-not-stands_in.false) in
    tidied_again old whole tail (lasting_in x) x.len x.lens there new (subst (λ cs. Leaves (IsTidied x.len cs) cs new) reads c.tidy.ensures.any_moment)

pub returns-clause-any_moment : goal.returns-clause-any_moment
returns-clause-any_moment g c =
    let x = c.args.self.now in
    let old = calls_of x.disk in
    let new = calls_of c.tidy.new.self in
    let whole = c.in_ok-whole.whole.items in
    let tail = c.in_ok-tail.tail.items in
    let reads = c.in_ok-tail.ensures.done ∙ ap (λ (cs : List Called). (ReadLog, tail) ∷ cs) c.in_ok-whole.ensures.done in
    let there = rw (c.as_slice.ensures.value, c.as_slice-2.ensures.value) at (c.stands_in.ensures c.if-not-stands_in.false) in
    tidied_again old whole tail (lasting_in x) x.len x.lens there new (subst (λ cs. Leaves (IsTidied x.len cs) cs new) reads c.tidy.ensures.any_moment)

pub returns-clause-read : goal.returns-clause-read
returns-clause-read g c =
    let x = c.args.self.now in
    let whole = c.in_ok-whole.whole.items in
    let tail = c.in_ok-tail.tail.items in
    let reads = c.in_ok-tail.ensures.done ∙ ap (λ (cs : List Called). (ReadLog, tail) ∷ cs) c.in_ok-whole.ensures.done in (
      whole,
      tail,
      [],
      (SyncLog true, []) ∷ (Cut x.len true, []) ∷ (SyncNames true, []) ∷ [],
      c.in_ok-tidy.ensures.done ∙ ap (λ (cs : List Called). (SyncLog true, []) ∷ (Cut x.len true, []) ∷ (SyncNames true, []) ∷ cs) reads,
      rw (c.as_slice.ensures.value, c.as_slice-2.ensures.value) at (c.stands_in.ensures c.if-not-stands_in.false),
    )

pub invariant_of-self-3 : goal.invariant_of-self-3
invariant_of-self-3 g c =
    let x = c.args.self.now in
    let old = calls_of x.disk in
    let whole = c.in_ok-whole.whole.items in
    let tail = c.in_ok-tail.tail.items in
    let reads = c.in_ok-tail.ensures.done ∙ ap (λ (cs : List Called). (ReadLog, tail) ∷ cs) c.in_ok-whole.ensures.done in
    let there = rw (c.as_slice.ensures.value, c.as_slice-2.ensures.value) at (c.stands_in.ensures c.if-not-stands_in.false) in
    let is_settled = settles old whole tail (lasting_in x) x.len x.lens there (calls_of c.tidy.new.self) (c.in_ok-tidy.ensures.done ∙ ap (λ (cs : List Called). (SyncLog true, []) ∷ (Cut x.len true, []) ∷ (SyncNames true, []) ∷ cs) reads) in
    record {
      told = x.told;
      within = x.within;
      lens = x.lens;
      left = λ e. is_settled;
      standing = settled_stand _ (calls_of c.tidy.new.self) is_settled;
    }

pub invariant_of-self-in-Break-branch-3 : goal.invariant_of-self-in-Break-branch-3
invariant_of-self-in-Break-branch-3 g c =
    let x = c.args.self.now in
    let old = calls_of x.disk in
    let whole = c.in_ok-whole.whole.items in
    let tail = c.in_ok-tail.tail.items in
    let reads = c.in_ok-tail.ensures.done ∙ ap (λ (cs : List Called). (ReadLog, tail) ∷ cs) c.in_ok-whole.ensures.done in
    let there = rw (c.as_slice.ensures.value, c.as_slice-2.ensures.value) at (c.stands_in.ensures c.if-not-stands_in.false) in
    let new = calls_of c.tidy.new.self in
    record {
      told = x.told;
      within = x.within;
      lens = x.lens;
      left = λ e. (let bad : false ≡ true = e in absurd (cc bad));
      standing = cut_stand (lasting_in x) old new x.standing (tidied_again old whole tail (lasting_in x) x.len x.lens there new (subst (λ cs. Leaves (IsTidied x.len cs) cs new) reads c.tidy.ensures.any_moment));
    }
