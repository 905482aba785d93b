use Rattle.std.proofs.Common.{◌≡◌, ◌++◌, map, take, drop}
use Rattle.std.specs.List.{AllByRecursion}
use Rattle.protowire.specs.Fields.{message}
use Rattle.opsproto.specs.Writing.{each_fields, input_text}
use Rattle.opsproto.specs.Written.{IsInput}
use Rattle.opsproto.proofs.write.put_inputs.Given as goal

abbrev pub invariant-loop-input : goal.invariant-loop-input
invariant-loop-input l = record {
  written : l.out.items ++ message (each_fields 1 (map input_text (drop l.input-index l.inputs))) ≡ l.fn.out.items ++ message (each_fields 1 (map input_text l.inputs));
  valid : AllByRecursion IsInput (take l.input-index l.inputs);
}
