use Rattle.std.proofs.Common.{sym}
use Rattle.protocol.specs.Farm.{farm_limits}
use Rattle.protocol.specs.Ledger.{tried}
use Rattle.events.specs.declared.answer.Decision.TheVariants.{Give, Deny, Wait}
use Rattle.drafts.specs.Shown.{work}
use Rattle.drafts.proofs.Drafting.{makes-none, makes-as}
use Rattle.drafts.proofs.Trying.{tried-is, stays-is}
use Rattle.drafts.proofs.draft.Draft.try_ask.Goals as goal

pub returns-in_ok-give-in-Give-clause-work : goal.returns-in_ok-give-in-Give-clause-work
returns-in_ok-give-in-Give-clause-work c =
    makes-as (tried farm_limits c.args.p.now) c.in_ok-give-in-Give.ensures.work (sym (tried-is farm_limits c.args.p.now (work c.args.self.now) Give (sym c.in-Give.ensures.decision)))

pub returns-in_ok-give-in-Give-clause-waits : goal.returns-in_ok-give-in-Give-clause-waits
returns-in_ok-give-in-Give-clause-waits c = sym (stays-is farm_limits c.args.p.now (work c.args.self.now) Give (sym c.in-Give.ensures.decision))

pub returns-in_ok-deny-in-Deny-clause-work : goal.returns-in_ok-deny-in-Deny-clause-work
returns-in_ok-deny-in-Deny-clause-work c =
    makes-as (tried farm_limits c.args.p.now) c.in_ok-deny-in-Deny.ensures (sym (tried-is farm_limits c.args.p.now (work c.args.self.now) (Deny c.in-Deny.why) (sym c.in-Deny.ensures.decision)))

pub returns-in_ok-deny-in-Deny-clause-waits : goal.returns-in_ok-deny-in-Deny-clause-waits
returns-in_ok-deny-in-Deny-clause-waits c = sym (stays-is farm_limits c.args.p.now (work c.args.self.now) (Deny c.in-Deny.why) (sym c.in-Deny.ensures.decision))

pub returns-in-Wait-clause-work : goal.returns-in-Wait-clause-work
returns-in-Wait-clause-work c = makes-none (tried farm_limits c.args.p.now) c.args.self.now (sym (tried-is farm_limits c.args.p.now (work c.args.self.now) Wait (sym c.in-Wait.ensures.decision)))

pub returns-in-Wait-clause-waits : goal.returns-in-Wait-clause-waits
returns-in-Wait-clause-waits c = sym (stays-is farm_limits c.args.p.now (work c.args.self.now) Wait (sym c.in-Wait.ensures.decision))
