use Rattle.std.proofs.Common.{◌≡◌, drop}
use Rattle.protocol.specs.Ledger.{on_all}
use Rattle.versions.specs.Lines.{line_at}
use Rattle.versions.proofs.lines.all_stand.Given as goal

abbrev pub invariant-loop-x : goal.invariant-loop-x
invariant-loop-x l = on_all (line_at l.lines) l.ticket l.news ≡ on_all (line_at l.lines) l.ticket (drop l.x-index l.news)
