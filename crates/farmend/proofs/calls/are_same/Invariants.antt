use Rattle.std.proofs.Common.{◌≡◌, take}
use Rattle.farmend.proofs.calls.are_same.Given as goal

-- the calls so far are the same
abbrev pub invariant-loop-place : goal.invariant-loop-place
invariant-loop-place l = take l.place l.calls ≡ take l.place l.others
