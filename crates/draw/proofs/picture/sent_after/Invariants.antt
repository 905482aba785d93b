use Rattle.std.proofs.Common.{◌≡◌, ◌++◌, ◌+◌, ◌-◌, length, map}
use Rattle.std.specs.List.{range_with_len}
use Rattle.world.specs.Shown.{shown}
use Rattle.draw.specs.Pictures.{sent_of, sent_after}
use Rattle.draw.proofs.picture.sent_after.Given as goal

abbrev pub invariant-loop-place : goal.invariant-loop-place
invariant-loop-place l = l.sent.items ++ map (sent_of (shown l.world).pool) (range_with_len (l.place + 1) (length (shown l.world).pool - l.place))
    ≡ sent_after l.before (shown l.world).pool
