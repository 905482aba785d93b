use Rattle.std.proofs.Common.{◌≡◌, take, map}
use Rattle.std.specs.Prelude.{All}
use Rattle.versions.specs.Additions.{HasRoom}
use Rattle.versions.specs.Lines.{news_of}
use Rattle.versions.proofs.lines.additions.Given as goal

abbrev pub invariant-loop-x : goal.invariant-loop-x
invariant-loop-x l = record { news : map news_of l.additions.items ≡ take l.x-index l.news; room : All (HasRoom l.lines) l.additions.items }
