use Rattle.std.proofs.Common.{ap}
use Rattle.protocol.specs.Farm.{farm_limits}
use Rattle.events.specs.declared.answer.Decision.{Decision}
use Rattle.protocol.specs.Ledger.{decision, decided}
use Rattle.drafts.specs.Shown.{work}
use Rattle.drafts.proofs.Drafting.{makes-as, makes-then}
use Rattle.drafts.proofs.draft.Draft.decide.Goals as goal

pub returns-in_ok-deny-in-Deny : goal.returns-in_ok-deny-in-Deny
returns-in_ok-deny-in-Deny c =
    makes-as (λ w. decided farm_limits (decision farm_limits w.ledger c.args.p) c.args.p w) (makes-then c.in_ok-deny-in-Deny.ensures c.note-in-Deny.ensures)
    (ap (λ (d : Decision). decided farm_limits d c.args.p (work c.args.self.now)) c.in-Deny.ensures.decision)
