use Rattle.std.proofs.Common.{◌≡◌, ◌+◌, ◌++◌, ◌<◌, ◌^◌, length}
use Rattle.std.specs.String.{string_bytes}
use Rattle.std.specs.Vec.Iter.{into_iter_items, into_iter_len}
use Rattle.names.specs.Contents.{content_digest}
use Rattle.protocol.specs.Farm.{farm_limits}
use Rattle.protocol.specs.Replay.{run}
use Rattle.world.specs.Shown.{shown}
use Rattle.answers.specs.Replays.{events_text, refused_events}
use Rattle.answers.proofs.replaying.event_lines.Given as goal

abbrev pub invariant-loop-event : goal.invariant-loop-event
invariant-loop-event l = record {
  can : (goal.iterator-loop-event).can_next l.event-iterator;
  finite : (goal.iterator-loop-event).is_finite l.event-iterator;
  text : string_bytes l.answer.text ++ events_text l.number (into_iter_items l.event-iterator) (shown l.world) ≡ events_text 1 l.fn.events.items (shown l.fn.world);
  refused : l.answer.refused.items ++ refused_events l.number (into_iter_items l.event-iterator) (shown l.world) ≡ refused_events 1 l.fn.events.items (shown l.fn.world);
  farm : run content_digest farm_limits (into_iter_items l.event-iterator) (shown l.world) ≡ run content_digest farm_limits l.fn.events.items (shown l.fn.world);
  count : into_iter_len l.event-iterator ≡ length (into_iter_items l.event-iterator);
  number : l.number + length (into_iter_items l.event-iterator) < 2 ^ 64;
}
