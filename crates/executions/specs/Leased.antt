-- The folders of a lease (this project's own).
use Rattle.std.specs.Prelude.{List, []}
use Rattle.std.specs.List.{zip}
use Rattle.std.specs.Result.{result_unwrap_or}
use Rattle.farmboard.specs.declared.tokens.Running.{Running}
use Rattle.slotfolders.specs.Seen.{LeasedContent, Named, read_all}

-- the slots of a lease, each with the content that it began from
abbrev pub held : Running → List LeasedContent
held r = zip r.grant.slots r.bases

-- the folders that these contents spell
abbrev pub leased : Running → List Named
leased r = result_unwrap_or (read_all (held r)) []
