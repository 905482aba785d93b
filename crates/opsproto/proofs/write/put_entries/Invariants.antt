use Rattle.std.proofs.Common.{◌≡◌, ◌++◌, take, drop}
use Rattle.std.specs.List.{AllByRecursion}
use Rattle.protowire.specs.Fields.{message}
use Rattle.opsproto.specs.Writing.{each_fields}
use Rattle.opsproto.specs.Written.{IsBody}
use Rattle.opsproto.proofs.write.put_entries.Given as goal

abbrev pub invariant-loop-place : goal.invariant-loop-place
invariant-loop-place l = record {
  written : l.out.items ++ message (each_fields 1 (drop l.place l.entries)) ≡ l.fn.out.items ++ message (each_fields 1 l.entries);
  valid : AllByRecursion IsBody (take l.place l.entries);
}
