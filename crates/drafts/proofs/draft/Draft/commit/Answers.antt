use Rattle.std.proofs.Common.{◌≡◌, true, Bool, List, Some, Option, refl, ap, sym, ◌∙◌, subst}
use Rattle.protocol.specs.Farm.{farm_limits}
use Rattle.events.specs.declared.answer.CoordNote.TheVariants as note
use Rattle.protocol.specs.Ledger.{Work, retried, notes, lease_under, may_commit, commits, confirms, committing}
use Rattle.versions.specs.Additions.{IsReady}
use Rattle.versions.specs.declared.lines.Added.{Added}
use Rattle.versions.specs.declared.lines.SlotLine.{SlotLine}
use Rattle.effects.specs.declared.state.State.{State}
use Rattle.drafts.specs.Idle.{AreIdle}
use Rattle.effects.specs.Keeps.{IsKeepable}
use Rattle.effects.specs.Held.{line_at}
use Rattle.effects.specs.Shown.{lines_with}
use Rattle.drafts.specs.Shown.{work}
use Rattle.effects.specs.Sound.{IsSound}
use Rattle.drafts.proofs.Drafting.{finishes, committed}
use Rattle.drafts.proofs.SoundWords.{sound-commits, ready-commit}
use Rattle.drafts.proofs.draft.Draft.commit.Goals as goal

pub returns-then-not-may_commit : goal.returns-then-not-may_commit
returns-then-not-may_commit c =
    finishes (λ w. committing farm_limits (may_commit c.args.node c.args.life c.args.news.now (lease_under w.ledger.live c.args.ticket)) c.args.node c.args.life c.args.ticket c.args.news.now w)
    c.requires.first c.in_ok-answer_again.ensures
    (ap (λ (b : Bool). committing farm_limits b c.args.node c.args.life c.args.ticket c.args.news.now (work c.args.self.now)) (sym (sym c.may_commit.ensures ∙ c.if-not-may_commit.true)))

pub retry-requires-clause-sound : goal.retry-requires-clause-sound
retry-requires-clause-sound c =
    let w : Work = work c.args.self.now in
    let a : Added = record { ticket = c.args.ticket; additions = c.in_ok-additions.additions } in
    let done = committed c.args.self.now c.end_committed.new.self c.add.new.self a c.args.news.now c.requires.first c.in_ok-end_committed.ensures c.add.ensures.work c.in_ok-additions.ensures.news in
    let may : may_commit c.args.node c.args.life c.args.news.now (lease_under w.ledger.live c.args.ticket) ≡ true = sym c.may_commit.ensures ∙ c.if-not-may_commit.false in
    let told : work c.confirm.new.self ≡ confirms c.args.node c.args.life c.args.ticket c.args.news.now (commits c.args.ticket c.args.news.now w) =
    c.in_ok-confirm.ensures.work ∙ ap (confirms c.args.node c.args.life c.args.ticket c.args.news.now) done in
    let P : Work → Type 0 = λ w. IsSound w.ledger in
    subst P (sym told) (sound-commits c.args.node c.args.life c.args.ticket c.args.news.now w c.requires.sound may)

pub retry-requires-clause-kept : goal.retry-requires-clause-kept
retry-requires-clause-kept c = subst IsKeepable (sym (c.in_ok-confirm.ensures.base ∙ c.add.ensures.base ∙ c.in_ok-end_committed.ensures.base)) c.requires.kept

pub retry-requires-clause-idle : goal.retry-requires-clause-idle
retry-requires-clause-idle c =
    let w : Work = work c.args.self.now in
    let a : Added = record { ticket = c.args.ticket; additions = c.in_ok-additions.additions } in
    let done = committed c.args.self.now c.end_committed.new.self c.add.new.self a c.args.news.now c.requires.first c.in_ok-end_committed.ensures c.add.ensures.work c.in_ok-additions.ensures.news in
    let told : work c.confirm.new.self ≡ confirms c.args.node c.args.life c.args.ticket c.args.news.now (commits c.args.ticket c.args.news.now w) =
    c.in_ok-confirm.ensures.work ∙ ap (confirms c.args.node c.args.life c.args.ticket c.args.news.now) done in
    let P : Work → Type 0 = λ w. AreIdle c.in_ok-freed.freed.items w.ledger w.ledger.parked in
    subst P (sym told) (c.in_ok-freed.ensures (commits c.args.ticket c.args.news.now w).ledger refl refl refl)

pub returns : goal.returns
returns c =
    let w : Work = work c.args.self.now in
    let lines : List SlotLine = c.args.self.now.base.now.lines in
    let line_is : line_at lines ≡ w.ledger.line = ap (λ (o : Option Added). lines_with lines o) (sym c.requires.first) in
    let a : Added = record { ticket = c.args.ticket; additions = c.in_ok-additions.additions } in
    let done = committed c.args.self.now c.end_committed.new.self c.add.new.self a c.args.news.now c.requires.first c.in_ok-end_committed.ensures c.add.ensures.work c.in_ok-additions.ensures.news in
    let may : may_commit c.args.node c.args.life c.args.news.now (lease_under w.ledger.live c.args.ticket) ≡ true = sym c.may_commit.ensures ∙ c.if-not-may_commit.false in
    let told : work c.confirm.new.self ≡ confirms c.args.node c.args.life c.args.ticket c.args.news.now (commits c.args.ticket c.args.news.now w) =
    c.in_ok-confirm.ensures.work ∙ ap (confirms c.args.node c.args.life c.args.ticket c.args.news.now) done in
    let base : c.note.new.self.base.now ≡ c.args.self.now.base.now =
    c.note.ensures.base ∙ c.in_ok-retry.ensures.base ∙ c.in_ok-confirm.ensures.base ∙ c.add.ensures.base ∙ c.in_ok-end_committed.ensures.base in
    let added : c.note.new.self.effects.value.added ≡ Some a = c.note.ensures.added ∙ c.in_ok-retry.ensures.added ∙ c.in_ok-confirm.ensures.added ∙ c.add.ensures.added in
    let ready : IsReady lines (Some a) =
    ready-commit lines w.ledger c.args.node c.args.life c.args.ticket c.args.news.now c.in_ok-additions.additions.items c.requires.sound (sym line_is) may c.in_ok-additions.ensures.news c.in_ok-additions.ensures.room in
    record {
      base = base;
      ready = subst (λ (s : State). IsReady s.lines c.note.new.self.effects.value.added) (sym base) (subst (IsReady lines) (sym added) ready);
      work = c.note.ensures.work ∙ ap (λ (x : Work). notes (note.Committed c.args.ticket) x) (c.in_ok-retry.ensures.work ∙ ap (retried farm_limits) told)
          ∙ sym (ap (λ (b : Bool). committing farm_limits b c.args.node c.args.life c.args.ticket c.args.news.now w) may);
    }
