use Rattle.std.specs.Prelude.{IfOk}
use Rattle.std.proofs.Common.{◌≤◌, sym, subst}
use Rattle.std.proofs.lemmas.Result.{IfOk-weaker}
use Rattle.protocol.specs.Ledger.{Ledger, saves}
use Rattle.versions.specs.Additions.{IsReady}
use Rattle.saverecord.specs.LogEntries.{IsLogEntry}
use Rattle.saverecord.specs.Logs.{Holds, IsSaved}
use Rattle.saverecord.specs.Texts.{Texts, with_text}
use Rattle.saverecord.proofs.LogLaws.{change_is_entry, entry_holds}
use Rattle.effects.specs.declared.effects.Effects.{Effects}
use Rattle.effects.specs.Held.{Held, ledger}
use Rattle.effects.specs.Keeps.{held}
use Rattle.effects.specs.Shown.{work_of}
use Rattle.effects.specs.Sound.{IsRightful}
use Rattle.ledger.proofs.Entries.{rightful_saves}
use Rattle.ledger.proofs.ledger.Ledger.entry_bytes.Goals as goal

pub entry_of-requires-clause-before : goal.entry_of-requires-clause-before
entry_of-requires-clause-before c = c.self.invariant.rightful.sound.leases

pub entry_of-requires-clause-block : goal.entry_of-requires-clause-block
entry_of-requires-clause-block c =
    subst (λ (e : Effects). (held c.self.inside.state).ceiling ≤ e.change.tickets.ceiling) (sym c.deref.ensures)
    (subst (λ (h : Held). h.ceiling ≤ c.args.prepared.now.effects.value.change.tickets.ceiling) (sym c.self.view_is) c.requires.block)

pub entry_of-requires-clause-ready : goal.entry_of-requires-clause-ready
entry_of-requires-clause-ready c =
    subst (λ (e : Effects). IsReady c.self.inside.state.lines e.added) (sym c.deref.ensures)
    (subst (λ (h : Held). IsReady h.lines c.args.prepared.now.effects.value.added) (sym c.self.view_is) c.requires.ready)

pub write-requires : goal.write-requires
write-requires c =
    let by : (Held → Ledger) = λ h. (work_of h c.deref.result.now).ledger in
    let rightful : IsRightful (by c.args.self.now) =
    subst (λ (e : Effects). IsRightful (work_of c.args.self.now e).ledger) (sym c.deref.ensures) c.requires.rightful in
    let h : Held = held c.self.inside.state in
    change_is_entry (saves (ledger h)) (saves (by h)) c.in_ok-entry.entry (rightful_saves (ledger h) c.self.invariant.rightful) (rightful_saves (by h) (subst (λ (x : Held). IsRightful (by x)) (sym c.self.view_is) rightful))
    c.in_ok-entry.ensures.order c.in_ok-entry.ensures.change

pub returns : goal.returns
returns c =
    let by : (Held → Ledger) = λ h. (work_of h c.deref.result.now).ledger in
    let rightful : IsRightful (by c.args.self.now) =
    subst (λ (e : Effects). IsRightful (work_of c.args.self.now e).ledger) (sym c.deref.ensures) c.requires.rightful in
    let h : Held = held c.self.inside.state in
    let sound : IsSaved (saves (by h)) = rightful_saves (by h) (subst (λ (x : Held). IsRightful (by x)) (sym c.self.view_is) rightful) in
    let is_entry : IsLogEntry c.in_ok-entry.entry =
    change_is_entry (saves (ledger h)) (saves (by h)) c.in_ok-entry.entry (rightful_saves (ledger h) c.self.invariant.rightful) sound c.in_ok-entry.ensures.order c.in_ok-entry.ensures.change in
    subst (λ (e : Effects). IfOk c.write.result (λ bytes. (t : Texts) → Holds t (saves (ledger c.args.self.now))
    → Holds (with_text bytes.items t) (saves (work_of c.args.self.now e).ledger))) c.deref.ensures
    (IfOk-weaker c.write.result _ (λ bytes. (t : Texts) → Holds t (saves (ledger c.args.self.now)) → Holds (with_text bytes.items t) (saves (by c.args.self.now)))
    (λ bytes again. subst (λ (x : Held). (t : Texts) → Holds t (saves (ledger x)) → Holds (with_text bytes.items t) (saves (by x))) c.self.view_is
    (entry_holds (saves (ledger h)) (saves (by h)) c.in_ok-entry.entry is_entry sound c.in_ok-entry.ensures.change bytes.items again)) c.write.ensures.again)
