use Rattle.std.proofs.Common.{◌≡◌, ◌-◌, ◌<◌, ◌≤◌, ◌^◌, drop}
use Rattle.protowire.specs.Reading.{varint_in, varint_at}
use Rattle.protowire.proofs.VarintLoop.{with_low}
use Rattle.protowire.proofs.varint.varint.Given as goal

abbrev pub invariant-loop-place : goal.invariant-loop-place
invariant-loop-place l = record {
  short : l.place ≤ 9;
  weight : l.weight ≡ 128 ^ l.place;
  low : l.number < l.weight;
  so_far : with_low l.number l.weight (varint_in (9 - l.place) (drop l.place l.bytes)) ≡ varint_at l.bytes;
}
