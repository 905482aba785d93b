use Rattle.std.proofs.Common.{◌≡◌, map, take}
use Rattle.std.specs.List.{All}
use Rattle.words.specs.Words.{want_text, IsWant}
use Rattle.words.specs.Words.{texts}
use Rattle.words.proofs.want.each_want.Given as goal

abbrev pub invariant-loop-word : goal.invariant-loop-word
invariant-loop-word l = record {
  spelled : texts (take l.word-index l.words) ≡ map want_text l.wants.items;
  each : All IsWant l.wants.items;
}
