use Rattle.std.proofs.Common.{◌≡◌, refl}
use Rattle.services.specs.Unreads.{unread_line}
use Rattle.services.proofs.SentLemmas.{or_lost}
use Rattle.nodelines.specs.declared.order.Order.TheVariants.{Call, Finish, Blob, Content, State}
use Rattle.nodefilter.specs.Filters.Filters.{Does, Drops}
use Rattle.nodefilter.specs.Filters.Follows.{Calls}
use Rattle.nodefilter.specs.Filters.IsCallOf.{Itself}
use Rattle.nodefilter.proofs.filter.NodeFilter.text_of.Goals as goal

pub returns-in-Ok-Call : goal.returns-in-Ok-Call
returns-in-Ok-Call g c =
    let call = c.in-Ok-Call.call in
    Does (Call call) c.if-self.false (rw c.in-Ok-Call.field-0-is at c.in-Ok-Call.ensures.asked) (Calls call (Itself call) c.make.ensures)

pub returns-in-Ok-Finish : goal.returns-in-Ok-Finish
returns-in-Ok-Finish g c =
    Does (Finish c.in-Ok-Finish.ticket c.in-Ok-Finish.files) c.if-self.false (rw c.in-Ok-Finish.field-0-is at c.in-Ok-Finish.ensures.asked) c.finish.ensures

pub returns-in-Ok-Blob : goal.returns-in-Ok-Blob
returns-in-Ok-Blob g c = Does (Blob c.in-Ok-Blob.file) c.if-self.false (rw c.in-Ok-Blob.field-0-is at c.in-Ok-Blob.ensures.asked) c.bring.ensures

pub returns-in-Ok-Content : goal.returns-in-Ok-Content
returns-in-Ok-Content g c =
    Does (Content c.in-Ok-Content.digest c.in-Ok-Content.file) c.if-self.false (rw c.in-Ok-Content.field-0-is at c.in-Ok-Content.ensures.asked) c.hand.ensures

pub returns-in-Ok-State : goal.returns-in-Ok-State
returns-in-Ok-State g c = Does (State c.in-Ok-State.ask) c.if-self.false (rw c.in-Ok-State.field-0-is at c.in-Ok-State.ensures.asked) c.tell.ensures

pub returns-in-Err : goal.returns-in-Err
returns-in-Err g c =
    Drops c.in-Err.why c.if-self.false c.in-Err.ensures.nothing refl (or_lost (λ text. text ≡ unread_line c.in-Err.why) c.print_unread.result c.print_unread.ensures)
