use Rattle.std.proofs.Common.{◌≡◌, ◌++◌, drop}
use Rattle.protocol.specs.Ledger.{versions_of}
use Rattle.versions.specs.Lines.{lines_with}
use Rattle.versions.proofs.lines.confirmed.Given as goal

abbrev pub invariant-loop-x : goal.invariant-loop-x
invariant-loop-x l = l.versions.items ++ versions_of (lines_with l.lines l.added) l.ticket (drop l.x-index l.news) ≡ versions_of (lines_with l.lines l.added) l.ticket l.news
