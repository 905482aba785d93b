use Rattle.std.proofs.Common.{◌≡◌, ◌≤◌, ◌+◌, ◌++◌, drop, length, vec_len}
use Rattle.std.specs.Vec.{vec_capacity}
use Rattle.parked.specs.Numbers.{numbers_from, number_behind}
use Rattle.parked.proofs.numbers.put_all.Given as goal

abbrev pub invariant-loop : goal.invariant-loop
invariant-loop l = record {
  items : l.numbers.items ++ numbers_from l.number (drop l.index l.asks) ≡ l.initial.numbers.items ++ numbers_from l.next l.asks;
  next : number_behind l.number (drop l.index l.asks) ≡ number_behind l.next l.asks;
  room : vec_len l.numbers + length l.asks ≤ vec_capacity l.numbers + l.index;
}
