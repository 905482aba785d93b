use Rattle.std.proofs.Common.{◌≡◌, ◌++◌, drop}
use Rattle.std.specs.Prelude.{map}
use Rattle.std.specs.String.{string_bytes}
use Rattle.commands.specs.Runs.{job_lines}
use Rattle.commands.proofs.running.lines.Given as goal

abbrev pub invariant-loop-name : goal.invariant-loop-name
invariant-loop-name l = string_bytes l.text ++ job_lines (map string_bytes (drop l.name-index l.names)) l.rest ≡ job_lines (map string_bytes l.names) l.answers
