use Rattle.std.proofs.Common.{◌≡◌, sym, ap, ◌∙◌, subst}
use Rattle.std.proofs.lemmas.Result.{IfOk-weaker}
use Rattle.protocol.specs.Ledger.{saves}
use Rattle.saverecord.specs.Ledgers.{ledger_of}
use Rattle.saverecord.specs.Logs.{Holds}
use Rattle.saverecord.specs.Texts.{whole_alone}
use Rattle.versions.specs.Additions.{IsReady}
use Rattle.effects.specs.Held.{Held}
use Rattle.effects.specs.declared.effects.Effects.{Effects}
use Rattle.effects.specs.Keeps.{held}
use Rattle.effects.specs.Shown.{work_of}
use Rattle.effects.specs.Sound.{IsRightful}
use Rattle.saverecord.proofs.LogLemmas.{whole_holds}
use Rattle.ledger.proofs.Records.{saves_again}
use Rattle.ledger.proofs.ledger.Ledger.record_bytes.Goals as goal

pub record_of-requires-clause-rightful : goal.record_of-requires-clause-rightful
record_of-requires-clause-rightful c =
    subst (λ (e : Effects). IsRightful (work_of (held c.self.inside.state) e).ledger) (sym c.deref.ensures)
    (subst (λ (h : Held). IsRightful (work_of h c.args.prepared.now.effects.value).ledger) (sym c.self.view_is) c.requires.rightful)

pub record_of-requires-clause-ready : goal.record_of-requires-clause-ready
record_of-requires-clause-ready c =
    subst (λ (e : Effects). IsReady c.self.inside.state.lines e.added) (sym c.deref.ensures)
    (subst (λ (h : Held). IsReady h.lines c.args.prepared.now.effects.value.added) (sym c.self.view_is) c.requires.ready)

pub returns : goal.returns
returns c =
    let effects : Effects = c.args.prepared.now.effects.value in
    let saved : saves (ledger_of c.in_ok-record.record) ≡ saves (work_of c.args.self.now effects).ledger =
    ap saves c.in_ok-record.ensures.ledger ∙ saves_again (work_of (held c.self.inside.state) c.deref.result.now).ledger
    ∙ ap (λ (h : Held). saves (work_of h c.deref.result.now).ledger) c.self.view_is ∙ ap (λ (e : Effects). saves (work_of c.args.self.now e).ledger) c.deref.ensures in
    IfOk-weaker c.write.result _ (λ bytes. Holds (whole_alone bytes.items) (saves (work_of c.args.self.now effects).ledger))
    (λ bytes again. whole_holds bytes.items c.in_ok-record.record (saves (work_of c.args.self.now effects).ledger) c.in_ok-record.ensures.kept again saved) c.write.ensures.again
