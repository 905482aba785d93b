use Rattle.nodelines.proofs.reading.said_by.Goals as goal

pub returns-in-Ask : goal.returns-in-Ask
returns-in-Ask c = rw c.in-Ask.is c.wants_order.ensures

pub returns-in-Tenure : goal.returns-in-Tenure
returns-in-Tenure c = rw c.in-Tenure.is c.tenure_order.ensures

pub returns-in-Begin : goal.returns-in-Begin
returns-in-Begin c = rw c.in-Begin.is c.begin_order.ensures

pub returns-in-Finish : goal.returns-in-Finish
returns-in-Finish c = rw c.in-Finish.is c.finish_order.ensures

pub returns-in-Abort : goal.returns-in-Abort
returns-in-Abort c = rw c.in-Abort.is c.abort_order.ensures

pub returns-in-Resend : goal.returns-in-Resend
returns-in-Resend c = rw c.in-Resend.is c.resend_order.ensures

pub returns-in-Blob : goal.returns-in-Blob
returns-in-Blob c = rw c.in-Blob.is c.blob_order.ensures

pub returns-in-Content : goal.returns-in-Content
returns-in-Content c = rw c.in-Content.is c.content_order.ensures

pub returns-in-Forget : goal.returns-in-Forget
returns-in-Forget c = rw c.in-Forget.is c.forget_order.ensures

pub returns-in-State : goal.returns-in-State
returns-in-State c = rw c.in-State.is c.state_order.ensures
