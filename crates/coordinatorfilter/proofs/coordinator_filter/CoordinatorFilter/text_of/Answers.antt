use Rattle.std.proofs.Common.{◌≡◌, refl}
use Rattle.services.specs.Unreads.{unread_line}
use Rattle.coordinatorfilter.specs.Shown.{IsShown}
use Rattle.coordinatorfilter.specs.Written.{IsWritten}
use Rattle.coordinatorfilter.specs.Written.Filters.{Calls, Stops, Shows, Drops}
use Rattle.services.proofs.SentLemmas.{or_lost, lost_text}
use Rattle.coordinatorfilter.proofs.coordinator_filter.CoordinatorFilter.text_of.Goals as goal
use Rattle.farmwire.specs.Sealed.{key_in}

pub returns-in-Err : goal.returns-in-Err
returns-in-Err g c = (
  Drops c.in-Err.why c.in-Err.ensures.nothing refl (or_lost (λ text. text ≡ unread_line c.in-Err.why) c.print_unread.result c.print_unread.ensures),
  refl,
)

pub returns-in_ok-reply-in-Ok-Call : goal.returns-in_ok-reply-in-Ok-Call
returns-in_ok-reply-in-Ok-Call g c = (
  Calls c.in-Ok-Call.call c.in_ok-reply-in-Ok-Call.reply (rw c.in-Ok-Call.field-0-is at c.in-Ok-Call.ensures.asked) c.in_ok-reply-in-Ok-Call.ensures.done
      (or_lost (IsWritten (key_in c.args.self.now.keys) c.in_ok-reply-in-Ok-Call.reply) c.print_reply.result c.print_reply.ensures),
  refl,
)

pub returns-in_err-reply-in-Ok-Call : goal.returns-in_err-reply-in-Ok-Call
returns-in_err-reply-in-Ok-Call g c = (
  Stops c.in-Ok-Call.call (rw c.in-Ok-Call.field-0-is at c.in-Ok-Call.ensures.asked) c.in_err-reply-in-Ok-Call.ensures.stopped
      (lost_text c.from_residual.result _ c.from_residual.ensures.1),
  refl,
)

pub returns-in-Ok-Show : goal.returns-in-Ok-Show
returns-in-Ok-Show g c = (
  Shows c.in-Ok-Show.question (rw c.in-Ok-Show.field-0-is at c.in-Ok-Show.ensures.asked) refl
      (or_lost (IsShown c.args.self.now.coordinator.held c.in-Ok-Show.question) c.print_shown.result c.print_shown.ensures),
  refl,
)
