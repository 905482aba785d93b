-- Places that wait for an input (this project's own).
use Rattle.std.specs.Prelude.{ℕ}
use Rattle.ordering.specs.declared.ordering.Waiter.{Waiter}

-- a waiter that looks at the first input
abbrev pub first_look : ℕ → Waiter
first_look place = record { place = place; next = 0 }
