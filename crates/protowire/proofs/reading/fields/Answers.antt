use Rattle.std.proofs.Common.{subst}
use Rattle.protowire.specs.Reading.{Gives}
use Rattle.protowire.specs.Seen.{spelled_all}
use Rattle.protowire.proofs.FieldLaws.{fields_again}
use Rattle.protowire.proofs.FieldLoop.{is_spelled}
use Rattle.protowire.proofs.reading.fields.Goals as goal

pub returns-clause-spelled : goal.returns-clause-spelled
returns-clause-spelled c = is_spelled c.args.bytes.now c.all_fields.result c.all_fields.ensures.exact

pub returns-clause-only : goal.returns-clause-only
returns-clause-only c = λ fs are. subst (λ f. Gives (λ v. spelled_all c.args.bytes.now v.items) c.all_fields.result f) (fields_again c.args.bytes.now fs are) c.all_fields.ensures.exact
