use Rattle.std.proofs.Common.{◌≡◌, drop, map}
use Rattle.std.specs.List.{find}
use Rattle.executions.specs.Live.{is_named}
use Rattle.executions.specs.Keeping.{opened}
use Rattle.executions.proofs.live_shared.place_of.Given as goal

-- what is found among all is found among what is left
abbrev pub invariant-loop-place : goal.invariant-loop-place
invariant-loop-place l = find (is_named l.name) (map opened l.folders) ≡ find (is_named l.name) (map opened (drop l.place l.folders))
