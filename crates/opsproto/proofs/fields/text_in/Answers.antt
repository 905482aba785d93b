use Rattle.protowire.specs.Seen.{entries}
use Rattle.opsproto.proofs.ReadingLemmas.{text_after_none}
use Rattle.opsproto.proofs.fields.text_in.Goals as goal

pub loop-field-init : goal.loop-field-init
loop-field-init c = text_after_none c.args.number (entries c.args.fields.now)
