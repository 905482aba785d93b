-- From a schedule to its picture.
use Rattle.std.specs.Prelude.{◌≡◌, ℕ, ◌+◌, ◌-◌, if◌then◌else◌, List, [], ◌∷◌, ◌++◌, length, map, take, codes, decimal, None, Result, slice_range}
use Rattle.std.specs.List.{range_with_len}
use Rattle.names.specs.Contents.{content_digest}
use Rattle.farm_base.specs.declared.message.Message.{Message}
use Rattle.protocol.specs.Farm.{farm_limits}
use Rattle.protocol.specs.Lists.{nth}
use Rattle.protocol.specs.Replay.{Farm, step, run, opening}
use Rattle.events.specs.declared.event.Event.{Event}
use Rattle.events.specs.declared.event.Event.TheVariants as event
use Rattle.events.specs.declared.answer.Outcome.{Outcome}
use Rattle.events.specs.declared.answer.EventRefusal.{EventRefusal}
use Rattle.schedule.specs.Printing.{outcome_text}
use Rattle.draw.specs.declared.frame.Sent.{Sent}
use Rattle.draw.specs.declared.frame.Done.TheVariants as done
use Rattle.draw.specs.declared.frame.Frame.{Frame}
use Rattle.draw.specs.declared.range.Range.{Range}
use Rattle.draw.specs.declared.scene.Scene.{Scene}
use Rattle.draw.specs.Events.{addressee, done_of, taken_of, held_of}
use Rattle.draw.specs.Lifelines.{lines_of}
use Rattle.draw.specs.Ranges.{skipped, drawn_to}

-- where an event happens: at the receiver of what is delivered, given the messages sent so far
abbrev pub actor_of : List Message → Event → ℕ
actor_of pool (event.Ask n wants) = n.0
actor_of pool (event.Tenure n folder) = n.0
actor_of pool (event.Deliver number) = addressee (nth pool number)
actor_of pool (event.Begin n t) = n.0
actor_of pool (event.Finish n t lefts) = n.0
actor_of pool (event.Abort n t) = n.0
actor_of pool (event.Resend n) = n.0
actor_of pool (event.RestartNode n) = n.0
actor_of pool (event.Forge n content) = n.0
actor_of pool (event.Forget n digest) = n.0
actor_of pool _ = 0

abbrev pub sent_of : List Message → ℕ → Sent
sent_of pool number = record { number = number; to = addressee (nth pool number) }

-- the messages behind the first `before`
abbrev pub sent_after : ℕ → List Message → List Sent
sent_after before pool = map (sent_of pool) (range_with_len (before + 1) (length pool - before))

-- the frame of an event, given its number, its lifeline, how many messages were sent before, what came of it, and the
-- farm after it
abbrev pub framed : ℕ → ℕ → ℕ → Event → Result Outcome EventRefusal → Farm → Frame
framed number actor before e outcome after = record {
  words = outcome_text number outcome;
  actor = actor;
  done = done_of outcome;
  taken = taken_of e outcome;
  sent = sent_after before after.pool;
  live = map held_of after.ledger.live;
}

-- the frame of an event of a farm
abbrev pub frame_of : ℕ → Farm → Event → Frame
frame_of number s e =
    framed number (actor_of s.pool e) (length s.pool) e (step content_digest farm_limits s e).outcome (step content_digest farm_limits s e).farm

-- the frames of events of a farm, the first with this number
abbrev pub frames_of : ℕ → List Event → Farm → List Frame
frames_of number [] s = []
frames_of number (e ∷ es) s = frame_of number s e ∷ frames_of (number + 1) es (step content_digest farm_limits s e).farm

-- the frame of what was before the event of this number
abbrev pub first_frame : ℕ → Farm → Frame
first_frame number s = record {
  words = codes "before " ++ decimal number ++ codes "\n";
  actor = 0;
  done = if s.down then done.SaveFailed else done.Other;
  taken = None;
  sent = [];
  live = map held_of s.ledger.live;
}

abbrev pub drawn : Range → List Event → List Event
drawn range events = slice_range events (skipped range (length events)) (drawn_to range (length events))

-- the frames of a farm, with what was before them
abbrev pub frames_from : ℕ → List Event → Farm → List Frame
frames_from number events s = first_frame number s ∷ frames_of number events s

abbrev pub scene_from : ℕ → List Frame → Scene
scene_from nodes frames = record { lines = lines_of nodes frames; frames = frames }
