use Rattle.std.proofs.Common.{◌≡◌, ◌+◌, length, take, sym, ap, ◌∙◌, subst, arith, take_all, take-append-drop}
use Rattle.std.proofs.lemmas.List.{take_rest}
use Rattle.std.proofs.lemmas.List.Elements.{All-take, All-drop}
use Rattle.filekeeper.specs.Disks.{calls_of}
use Rattle.filekeeper.specs.Framing.{log_bytes, IsTold}
use Rattle.filekeeper.specs.RecordFiles.{lasting_in, gathered_in}
use Rattle.filekeeper.specs.Settled.{IsSettled}
use Rattle.filekeeper.proofs.StandingLemmas.{added_stand, settled_stand}
use Rattle.filekeeper.proofs.SyncLemmas.{log_split, nothing_written, some_left, cut_back, cut_back_added}
use Rattle.filekeeper.proofs.record_files.RecordFiles.sync.Goals as goal

pub returns-then-self-entries-clause-any_moment : goal.returns-then-self-entries-clause-any_moment
returns-then-self-entries-clause-any_moment g c = λ settled.
    let x = c.args.self.now in
    nothing_written (lasting_in x) (gathered_in x) (All-take IsTold x.lasting x.log.entries x.told) (All-drop IsTold x.lasting x.log.entries x.told) (calls_of x.disk) (x.left settled)

pub returns-in-Ok-clause-any_moment : goal.returns-in-Ok-clause-any_moment
returns-in-Ok-clause-any_moment g c = λ settled.
    let x = c.args.self.now in
    let added = rw (c.whole.ensures, c.entries-2.ensures, take_rest x.log.entries x.lasting) at c.add.ensures.any_moment in
    some_left (lasting_in x) (gathered_in x) (All-take IsTold x.lasting x.log.entries x.told) (All-drop IsTold x.lasting x.log.entries x.told) (calls_of x.disk) (calls_of c.add.new.disk) (added (take x.lasting x.log.entries) (x.left settled))

pub returns-in-Err-clause-any_moment : goal.returns-in-Err-clause-any_moment
returns-in-Err-clause-any_moment g c = λ settled.
    let x = c.args.self.now in
    let added = rw (c.whole.ensures, c.entries-2.ensures, take_rest x.log.entries x.lasting) at c.add.ensures.any_moment in
    cut_back (lasting_in x) (gathered_in x) (All-take IsTold x.lasting x.log.entries x.told) (All-drop IsTold x.lasting x.log.entries x.told) x.len (calls_of x.disk) (calls_of c.add.new.disk) (calls_of c.tidy.new.self) x.lens
    (added (take x.lasting x.log.entries) (x.left settled)) c.tidy.ensures.any_moment

pub invariant_of-self-in-Ok : goal.invariant_of-self-in-Ok
invariant_of-self-in-Ok g c =
    let x = c.args.self.now in
    let entries = x.log.entries in
    let all : take (length c.entries-in-Ok.result.now) entries ≡ entries = take_all _ entries (omega (arith, ap length c.entries-in-Ok.ensures)) in
    let more = rw (c.whole.ensures, c.entries-2.ensures, take_rest x.log.entries x.lasting) at c.in-Ok.ensures.len in
    let settled = rw (c.whole.ensures, c.entries-2.ensures, take_rest x.log.entries x.lasting) at c.in-Ok.ensures.settled in
    let is_settled = subst (λ es. IsSettled (calls_of c.add.new.disk) (record { whole = x.log.whole; entries = es })) (take-append-drop x.lasting entries ∙ sym all) (settled (take x.lasting entries) (x.left c.if-not-self.false)) in
    record {
      told = x.told;
      within = omega (arith, ap length c.entries-in-Ok.ensures);
      lens = more ∙ ap (λ n. n + length (log_bytes x.log.whole (gathered_in x))) x.lens ∙ log_split x.log.whole x.lasting entries ∙ ap (λ es. length (log_bytes x.log.whole es)) (sym all);
      left = λ e. is_settled;
      standing = settled_stand _ (calls_of c.add.new.disk) is_settled;
    }

pub invariant_of-self-in-Err-clause-standing : goal.invariant_of-self-in-Err-clause-standing
invariant_of-self-in-Err-clause-standing g c =
    let x = c.args.self.now in
    let added = rw (c.whole.ensures, c.entries-2.ensures, take_rest x.log.entries x.lasting) at c.add.ensures.any_moment in
    added_stand (lasting_in x) (gathered_in x) (calls_of x.disk) (calls_of c.tidy.new.self)
    (cut_back_added (lasting_in x) (gathered_in x) (All-take IsTold x.lasting x.log.entries x.told) (All-drop IsTold x.lasting x.log.entries x.told) x.len (calls_of x.disk) (calls_of c.add.new.disk) (calls_of c.tidy.new.self) x.lens
    (added (take x.lasting x.log.entries) (x.left c.if-not-self.false)) c.tidy.ensures.any_moment)
