use Rattle.std.proofs.Common.{Bool, not, ◌&&◌, ap, sym, ◌∙◌}
use Rattle.protocol.specs.Ledger.{elsewhere}
use Rattle.drafts.specs.Shown.{work}
use Rattle.drafts.proofs.draft.Draft.is_awaited.Goals as goal

pub returns-then-p : goal.returns-then-p
returns-then-p c = ap not c.is_elsewhere.ensures ∙ sym (ap (λ (b : Bool). b && not (elsewhere (work c.args.self.now).ledger c.args.p.now)) c.if-p.true)
