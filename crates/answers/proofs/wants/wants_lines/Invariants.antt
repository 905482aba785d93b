use Rattle.std.proofs.Common.{◌≡◌, ℕ, List, take}
use Rattle.std.specs.List.{AllZip, enumerate_from, flat_map}
use Rattle.std.specs.String.{string_bytes}
use Rattle.answers.specs.Wants.{IsWantsLine}
use Rattle.answers.proofs.wants.wants_lines.Given as goal

-- the text is the lines of the vertices so far
abbrev pub invariant-loop-number : goal.invariant-loop-number
invariant-loop-number l =
    (lines : List (List ℕ)) × AllZip (IsWantsLine l.graph l.keys) (take l.number (enumerate_from 0 l.graph.vertices)) lines
    × (string_bytes l.text ≡ flat_map (λ (line : List ℕ). line) lines)
