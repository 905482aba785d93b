-- Which marks stand for the events.
use Rattle.std.specs.Prelude.{ℕ, ◌+◌, ◌%◌, ◌==◌, nat_eq, nat_lt, Bool, true, false, not, ◌&&◌, ◌||◌, if◌then◌else◌, List, [], ◌∷◌, ◌++◌, length, Option, Some, None, slice_get}
use Rattle.std.specs.List.{flat_map}
use Rattle.draw.specs.declared.frame.Held.{Held}
use Rattle.draw.specs.declared.frame.Sent.{Sent}
use Rattle.draw.specs.declared.frame.Done.{Done}
use Rattle.draw.specs.declared.frame.Done.TheVariants as done
use Rattle.draw.specs.declared.sought.Sought.TheVariants.{Ended, RunOver, Stopped, Sends, Takes}
use Rattle.draw.specs.declared.mark.Mark.{Mark}
use Rattle.draw.specs.declared.mark.Mark.TheVariants as mark
use Rattle.draw.specs.declared.mark.End.{End}
use Rattle.draw.specs.declared.mark.End.TheVariants as «end»
use Rattle.draw.specs.declared.mark.Sign.{Sign}
use Rattle.draw.specs.declared.mark.Sign.TheVariants as sign
use Rattle.draw.specs.declared.marking.Pass.{Pass}
use Rattle.draw.specs.declared.marking.Pass.TheVariants as pass
use Rattle.draw.specs.declared.scene.Scene.{Scene}
use Rattle.draw.specs.Frames.{Frame, is_live, is_start, is_fault}
use Rattle.draw.specs.Rows.{first_row, column_of, has_line}

-- a life of this lifeline begins: at row 0 that of each one that is not down, and then by a start
abbrev pub begins_life : ℕ → ℕ → Frame → Bool
begins_life row line f =
    if row == 0 then not (line == 0 && is_fault f.done) else (nat_eq f.actor line && is_start f.done)

-- the bar of a life, up to the start or the failed save that ends it
abbrev pub life_mark : List ℕ → ℕ → Frame → List Frame → ℕ → List Mark
life_mark lines row f rest line =
    if begins_life row line f then mark.Life (column_of lines line) row (first_row (Stopped line) (row + 1) rest) ∷ [] else []

-- how a lease of this ticket ends by an event after which it is live no more
abbrev pub end_of : ℕ → Done → End
end_of ticket (done.Committed t) = if nat_eq t ticket then «end».Committed else «end».Died
end_of ticket (done.Released t) = if nat_eq t ticket then «end».Released else «end».Died
end_of ticket (done.Withdrawn t) = if nat_eq t ticket then «end».Withdrawn else «end».Died
end_of ticket done.Started = «end».Restarted
end_of ticket _ = «end».Died

-- how it ends in the first of these frames after which it is live no more
abbrev pub end_in : ℕ → List Frame → End
end_in ticket [] = «end».Open
end_in ticket (f ∷ fs) = if is_live ticket f.live then end_in ticket fs else end_of ticket f.done

-- the bar of a lease that was not live before, up to its end
abbrev pub lease_mark : List ℕ → List Held → ℕ → List Frame → Held → List Mark
lease_mark lines before row rest h =
    if is_live h.ticket before || not (has_line lines h.node) then []
    else mark.Lease (column_of lines h.node) h.ticket row (first_row (Ended h.ticket) (row + 1) rest) (end_in h.ticket rest) ∷ []

-- the bar of an execution that begins
abbrev pub run_marks : List ℕ → ℕ → Frame → Done → List Frame → List Mark
run_marks lines row f (done.Begun ticket) rest =
    mark.Run (column_of lines f.actor) ticket row (first_row (RunOver f.actor ticket) (row + 1) rest) ∷ []
run_marks lines row f _ rest = []

-- the arrow of a message to the row where it is taken, from the frame that sent it, if that is drawn
abbrev pub arrow_mark : List ℕ → ℕ → Frame → ℕ → ℕ → Option Frame → Mark
arrow_mark lines row f number sent_row None = mark.Arrival (column_of lines f.actor) row number
arrow_mark lines row f number sent_row (Some sender) =
    mark.Arrow (column_of lines sender.actor) sent_row (column_of lines f.actor) row number

abbrev pub arrow_marks : Scene → ℕ → Frame → Option ℕ → List Mark
arrow_marks s row f None = []
arrow_marks s row f (Some number) =
    let sent_row : ℕ = first_row (Sends number) 0 s.frames in arrow_mark s.lines row f number sent_row (slice_get s.frames sent_row) ∷ []

-- the stub of a message that no frame takes
abbrev pub lost_mark : Scene → ℕ → Frame → Sent → List Mark
lost_mark s row f sent =
    if nat_lt (first_row (Takes sent.number) 0 s.frames) (length s.frames) then []
    else mark.Lost (column_of s.lines f.actor) (column_of s.lines sent.to) row sent.number ∷ []

-- the sign of an event
abbrev pub sign_of : Done → Sign
sign_of done.Refused = sign.Refused
sign_of done.SaveFailed = sign.Failed
sign_of done.Armed = sign.Armed
sign_of done.Started = sign.Started
sign_of _ = sign.Plain

abbrev pub sign_marks : List ℕ → ℕ → Frame → List Mark
sign_marks lines row f = if row == 0 then [] else mark.Event (column_of lines f.actor) row (sign_of f.done) ∷ []

abbrev pub label_marks : List ℕ → ℕ → List Mark
label_marks lines row = if row == 0 then [] else mark.Label (length lines) row ∷ []

-- the marks of one kind that begin at a row, given what was live before it, and the rows behind it
abbrev pub row_marks : Pass → Scene → List Held → ℕ → Frame → List Frame → List Mark
row_marks pass.Labels s before row f rest = label_marks s.lines row
row_marks pass.Lives s before row f rest = flat_map (life_mark s.lines row f rest) s.lines
row_marks pass.Leases s before row f rest = flat_map (lease_mark s.lines before row rest) f.live
row_marks pass.Runs s before row f rest = run_marks s.lines row f f.done rest
row_marks pass.Lost s before row f rest = flat_map (lost_mark s row f) f.sent
row_marks pass.Arrows s before row f rest = arrow_marks s row f f.taken
row_marks pass.Signs s before row f rest = sign_marks s.lines row f

abbrev pub pass_marks : Pass → Scene → List Held → ℕ → List Frame → List Mark
pass_marks pass s before row [] = []
pass_marks pass s before row (f ∷ fs) = row_marks pass s before row f fs ++ pass_marks pass s f.live (row + 1) fs

abbrev pub all_of : Pass → Scene → List Mark
all_of pass s = pass_marks pass s [] 0 s.frames

-- all marks, what covers others behind them
abbrev pub marks_of : Scene → List Mark
marks_of s =
    all_of pass.Labels s ++ all_of pass.Lives s ++ all_of pass.Leases s ++ all_of pass.Runs s ++ all_of pass.Lost s ++ all_of pass.Arrows s ++ all_of pass.Signs s
