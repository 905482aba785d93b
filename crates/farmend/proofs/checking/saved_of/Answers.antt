use Rattle.std.proofs.Common.{◌≡◌, ap, ◌∙◌, subst}
use Rattle.protocol.specs.Ledger.{Saved}
use Rattle.saverecord.specs.Texts.{Texts, whole_alone}
use Rattle.saverecord.specs.Keepers.{Memory}
use Rattle.saverecord.specs.Logs.{Holds, ledger_in}
use Rattle.farmend.proofs.SavedLemmas.{holds_alike}
use Rattle.farmend.proofs.checking.saved_of.Goals as goal

pub returns-in-Ok : goal.returns-in-Ok
returns-in-Ok c =
    let texts : Texts = c.coordinator-coordinator.result.now.keeper.texts in
    let same : ledger_in (whole_alone c.in-Ok.saved.items) ≡ ledger_in texts = c.in-Ok.ensures.same ∙ ap ledger_in (c.log.ensures ∙ ap (λ (m : Memory). m.texts) c.keeper.ensures) in
    subst (λ (s : Saved). Holds (whole_alone c.in-Ok.saved.items) s) c.coordinator-coordinator.ensures.record
    (holds_alike texts (whole_alone c.in-Ok.saved.items) c.is_kept.ensures.saved c.is_kept.ensures.holds same)
