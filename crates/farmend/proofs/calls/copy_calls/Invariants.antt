use Rattle.std.proofs.Common.{◌≡◌, take}
use Rattle.farmend.proofs.calls.copy_calls.Given as goal

-- the calls so far are copied
abbrev pub invariant-loop-call : goal.invariant-loop-call
invariant-loop-call l = l.copies.items ≡ take l.call-index l.calls
