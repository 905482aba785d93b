-- The asks that a coordinator keeps in order of arrival, and their numbers.
use Rattle.std.specs.Prelude.{ℕ, ◌+◌, ◌≤◌, List, drop, length, vec_len}
use Rattle.std.specs.Vec.{vec_capacity}
use Rattle.parked.specs.Newest.{node_room}
use Rattle.protocol.specs.Machine.{Parked}
use Rattle.parked.specs.Numbers.{numbers_from}
use Rattle.parked.specs.Noted.{AreIndexed}
use Rattle.parked.specs.declared.numbers.Numbers.{Numbers}
use Rattle.parked.specs.declared.parked_asks.ParkedAsks.{ParkedAsks}

-- those that wait: those before the start are over
abbrev pub asks_of : ParkedAsks → List Parked
asks_of x = drop x.start x.asks.items

-- the numbers of those that wait
abbrev pub numbers_of : Numbers → List ℕ
numbers_of x = drop x.start x.items.items

-- there is room for these asks, and it is noted which folders they want
pub record HasRoomFor (x : ParkedAsks) (since : List Parked) : Type 0 where
  pub asks : vec_len x.asks + length since ≤ vec_capacity x.asks
  pub numbers : vec_len x.numbers.items + length since ≤ vec_capacity x.numbers.items
  pub newest : length since ≤ node_room x.newest
  pub indexed : AreIndexed x.noted since (numbers_from x.numbers.next since)
