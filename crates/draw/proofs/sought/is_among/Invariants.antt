use Rattle.std.proofs.Common.{◌≡◌, drop}
use Rattle.draw.specs.Frames.{is_among}
use Rattle.draw.proofs.sought.is_among.Given as goal

abbrev pub invariant-loop-message : goal.invariant-loop-message
invariant-loop-message l = is_among l.number (drop l.message-index l.sent) ≡ is_among l.number l.sent
