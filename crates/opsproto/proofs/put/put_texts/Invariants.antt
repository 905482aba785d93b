use Rattle.std.proofs.Common.{◌≡◌, ◌++◌, take, drop}
use Rattle.std.specs.List.{AllByRecursion}
use Rattle.protowire.specs.Fields.{message}
use Rattle.opsproto.specs.Writing.{each_fields}
use Rattle.opsproto.specs.Written.{IsText}
use Rattle.opsproto.proofs.put.put_texts.Given as goal

abbrev pub invariant-loop-text : goal.invariant-loop-text
invariant-loop-text l = record {
  written : l.out.items ++ message (each_fields l.number (drop l.text-index l.texts)) ≡ l.fn.out.items ++ message (each_fields l.number l.texts);
  valid : AllByRecursion IsText (take l.text-index l.texts);
}
