use Rattle.protowire.specs.Seen.{entries}
use Rattle.protowire.proofs.LookupLoop.{single_body}
use Rattle.protowire.proofs.lookup.joined_body.Goals as goal

pub returns-in-Some : goal.returns-in-Some
returns-in-Some c = rw c.in-Some.is at (single_body c.args.number (entries c.args.fields.now) c.in_ok-body.field-0 c.in_ok-body.ensures)

pub returns-in-None : goal.returns-in-None
returns-in-None c = rw c.in-None.is at (single_body c.args.number (entries c.args.fields.now) c.in_ok-body.field-0 c.in_ok-body.ensures)
