-- How an execution ends on a board.
use Rattle.std.specs.Prelude.{List, map}
use Rattle.protocol.specs.Nodes.{Left}
use Rattle.farmhistory.specs.Lines.{version_of}
use Rattle.farmboard.specs.declared.tokens.Running.{Running}
use Rattle.farmboard.specs.declared.tokens.Finished.{Finished}

-- the execution that is over, with the versions that it adds
abbrev pub finished_of : Running → List Left → Finished
finished_of execution lefts =
    record { node = execution.node; life = execution.life; ask = execution.grant.ask; ticket = execution.grant.ticket; versions = map version_of lefts }
