use Rattle.protowire.proofs.WritingLaws.{varint_is_field, bytes_is_field}
use Rattle.protowire.proofs.laws.written_fields_are_fields.Goals as goal

pub returns-clause-varints : goal.returns-clause-varints
returns-clause-varints c = varint_is_field

pub returns-clause-bodies : goal.returns-clause-bodies
returns-clause-bodies c = bytes_is_field
