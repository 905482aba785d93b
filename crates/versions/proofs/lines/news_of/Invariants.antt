use Rattle.std.proofs.Common.{◌≡◌, take, map}
use Rattle.versions.specs.Lines.{news_of}
use Rattle.versions.proofs.lines.news_of.Given as goal

abbrev pub invariant-loop-addition : goal.invariant-loop-addition
invariant-loop-addition l = l.news.items ≡ map news_of (take l.addition-index l.additions)
