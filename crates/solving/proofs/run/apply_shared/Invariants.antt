use Rattle.std.proofs.Common.{◌≡◌}
use Rattle.solving.specs.Batches.{batches_of, with_batches}
use Rattle.solving.proofs.run.apply_shared.Given as goal

-- the batches of the edits so far are made
abbrev pub invariant-loop-folder : goal.invariant-loop-folder
invariant-loop-folder l = l.live ≡ with_batches (batches_of l.ticket l.yielded) l.initial.live
