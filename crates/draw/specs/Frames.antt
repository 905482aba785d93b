-- What the picture knows of one event.
use Rattle.std.specs.Prelude.{ℕ, Bool, true, false, not, ◌&&◌, nat_eq, ◌||◌, List, Option, Some, None}
use Rattle.std.specs.List.{list_any}
use Rattle.draw.specs.declared.frame.Held.{Held}
use Rattle.draw.specs.declared.frame.Sent.{Sent}
use Rattle.draw.specs.declared.frame.Done.{Done}
use Rattle.draw.specs.declared.frame.Done.TheVariants as done
pub use Rattle.draw.specs.declared.frame.Frame.{Frame}
use Rattle.draw.specs.declared.sought.Sought.{Sought}
use Rattle.draw.specs.declared.sought.Sought.TheVariants as sought

-- a lease of this ticket is among these
abbrev pub is_live : ℕ → List Held → Bool
is_live ticket live = list_any (λ h. nat_eq h.ticket ticket) live

-- the execution under this ticket is over: it finished, was aborted, or its node started again
abbrev pub ends_run : ℕ → Done → Bool
ends_run ticket (done.Over t) = nat_eq t ticket
ends_run ticket done.Started = true
ends_run ticket _ = false

-- a life begins
abbrev pub is_start : Done → Bool
is_start done.Started = true
is_start _ = false

-- the coordinator could not save, and is down
abbrev pub is_fault : Done → Bool
is_fault done.SaveFailed = true
is_fault _ = false

-- the message of this number is among these
abbrev pub is_among : ℕ → List Sent → Bool
is_among number sent = list_any (λ m. nat_eq m.number number) sent

abbrev pub takes : Option ℕ → ℕ → Bool
takes None number = false
takes (Some n) number = nat_eq n number

-- the frame is one that is looked for
abbrev pub meets : Sought → Frame → Bool
meets (sought.Ended ticket) f = not (is_live ticket f.live)
meets (sought.RunOver actor ticket) f = nat_eq f.actor actor && ends_run ticket f.done
meets (sought.Stopped actor) f = nat_eq f.actor actor && (is_start f.done || is_fault f.done)
meets (sought.Sends number) f = is_among number f.sent
meets (sought.Takes number) f = takes f.taken number
