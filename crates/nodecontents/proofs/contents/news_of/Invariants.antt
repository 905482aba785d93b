use Rattle.std.proofs.Common.{◌≡◌, ◌++◌, drop}
use Rattle.names.specs.Contents.{content_digest}
use Rattle.protocol.specs.Nodes.{news_of}
use Rattle.nodecontents.proofs.contents.news_of.Given as goal

abbrev pub invariant-loop-left : goal.invariant-loop-left
invariant-loop-left l = l.news.items ++ news_of content_digest (drop l.left-index l.lefts) ≡ news_of content_digest l.lefts
