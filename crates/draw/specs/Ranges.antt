-- Which events are drawn.
use Rattle.std.specs.Prelude.{ℕ, ◌+◌, ◌-◌, min, max}
use Rattle.draw.specs.declared.range.Range.{Range}
use Rattle.draw.specs.declared.range.TheConstants.{MOST_EVENTS}

-- how many events are left out before the first that is drawn, and up to which they are drawn: at most MOST_EVENTS
abbrev pub skipped : Range → ℕ → ℕ
skipped range events = min (range.first - 1) events

abbrev pub drawn_to : Range → ℕ → ℕ
drawn_to range events =
    max (skipped range events) (min range.last (skipped range events + min MOST_EVENTS (events - skipped range events)))
