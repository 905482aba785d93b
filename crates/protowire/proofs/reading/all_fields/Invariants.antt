use Rattle.std.proofs.Common.{◌≡◌, ◌-◌, length}
use Rattle.protowire.specs.Reading.{fields_of}
use Rattle.protowire.specs.Seen.{spelled_all, StandInRow}
use Rattle.protowire.proofs.FieldLoop.{with_front, IsLeft}
use Rattle.protowire.proofs.reading.all_fields.Given as goal

abbrev pub invariant-loop-rest : goal.invariant-loop-rest
invariant-loop-rest l = record {
  left : IsLeft l.bytes l.rest;
  so_far : with_front (spelled_all l.bytes l.fields.items) (fields_of l.rest) ≡ fields_of l.bytes;
  placed : StandInRow 0 l.fields.items (length l.bytes - length l.rest);
}

abbrev pub decreases-loop-rest : goal.decreases-loop-rest
decreases-loop-rest l = length l.rest
