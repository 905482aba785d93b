use Rattle.std.proofs.Common.{◌≡◌, drop, map}
use Rattle.protocol.specs.Machine.{digest_for}
use Rattle.versions.specs.Lines.{news_of}
use Rattle.versions.proofs.lines.added_digest.Given as goal

abbrev pub invariant-loop-addition : goal.invariant-loop-addition
invariant-loop-addition l = digest_for l.slot (map news_of l.additions) ≡ digest_for l.slot (map news_of (drop l.addition-index l.additions))
