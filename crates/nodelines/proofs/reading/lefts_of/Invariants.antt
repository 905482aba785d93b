use Rattle.std.proofs.Common.{◌≡◌, map, take}
use Rattle.std.specs.List.{All}
use Rattle.words.specs.Words.{texts}
use Rattle.nodelines.specs.Orders.{left_text, IsLeft}
use Rattle.nodelines.proofs.reading.lefts_of.Given as goal

abbrev pub invariant-loop-word : goal.invariant-loop-word
invariant-loop-word l = record {
  spelled : texts (take l.word-index l.words) ≡ map left_text l.lefts.items;
  each : All IsLeft l.lefts.items;
}
