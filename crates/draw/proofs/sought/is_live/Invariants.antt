use Rattle.std.proofs.Common.{◌≡◌, drop}
use Rattle.draw.specs.Frames.{is_live}
use Rattle.draw.proofs.sought.is_live.Given as goal

abbrev pub invariant-loop-held : goal.invariant-loop-held
invariant-loop-held l = is_live l.ticket (drop l.held-index l.live) ≡ is_live l.ticket l.live
