use Rattle.std.proofs.Common.{◌≡◌, take}
use Rattle.std.specs.String.{string_bytes}
use Rattle.answers.specs.Answers.{keys_text}
use Rattle.answers.proofs.definition.lines.Given as goal

abbrev pub invariant-loop-number : goal.invariant-loop-number
invariant-loop-number l = string_bytes l.text ≡ keys_text (take l.number l.digests) (take l.number l.keys)
