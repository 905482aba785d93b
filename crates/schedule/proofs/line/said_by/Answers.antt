use Rattle.schedule.proofs.line.said_by.Goals as goal

pub returns-in-Ask : goal.returns-in-Ask
returns-in-Ask c = rw c.in-Ask.is c.ask_of.ensures

pub returns-in-Tenure : goal.returns-in-Tenure
returns-in-Tenure c = rw c.in-Tenure.is c.tenure_of.ensures

pub returns-in-Deliver : goal.returns-in-Deliver
returns-in-Deliver c = rw c.in-Deliver.is c.deliver_of.ensures

pub returns-in-Begin : goal.returns-in-Begin
returns-in-Begin c = rw c.in-Begin.is c.begin_of.ensures

pub returns-in-Finish : goal.returns-in-Finish
returns-in-Finish c = rw c.in-Finish.is c.finish_of.ensures

pub returns-in-Abort : goal.returns-in-Abort
returns-in-Abort c = rw c.in-Abort.is c.abort_of.ensures

pub returns-in-Resend : goal.returns-in-Resend
returns-in-Resend c = rw c.in-Resend.is c.resend_of.ensures

pub returns-in-Restart : goal.returns-in-Restart
returns-in-Restart c = rw c.in-Restart.is c.restart_of.ensures

pub returns-in-Forge : goal.returns-in-Forge
returns-in-Forge c = rw c.in-Forge.is c.forge_of.ensures

pub returns-in-Forget : goal.returns-in-Forget
returns-in-Forget c = rw c.in-Forget.is c.forget_of.ensures

pub returns-in-Nudge : goal.returns-in-Nudge
returns-in-Nudge c = rw c.in-Nudge.is c.nudge_of.ensures

pub returns-in-Withdraw : goal.returns-in-Withdraw
returns-in-Withdraw c = rw c.in-Withdraw.is c.withdraw_of.ensures

pub returns-in-Prune : goal.returns-in-Prune
returns-in-Prune c = rw c.in-Prune.is c.prune_of.ensures

pub returns-in-Retire : goal.returns-in-Retire
returns-in-Retire c = rw c.in-Retire.is c.retire_of.ensures

pub returns-in-Fail : goal.returns-in-Fail
returns-in-Fail c = rw c.in-Fail.is c.fail_of.ensures
