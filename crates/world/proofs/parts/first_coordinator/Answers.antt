use Rattle.std.proofs.Common.{ap, ◌∙◌}
use Rattle.protocol.specs.Ledger.{reads}
use Rattle.saverecord.specs.Keepers.{Memory}
use Rattle.saverecord.specs.Logs.{saved_in}
use Rattle.saverecord.specs.Texts.{whole_alone}
use Rattle.world.proofs.parts.first_coordinator.Goals as goal

pub returns-in-Ok-clause-ledger : goal.returns-in-Ok-clause-ledger
unfolding saved_in
returns-in-Ok-clause-ledger c = c.in-Ok.ensures.started.ledger ∙ ap (λ (m : Memory). reads (saved_in m.texts)) c.new-2.ensures ∙ ap (λ bytes. reads (saved_in (whole_alone bytes))) c.new.ensures.items
