use Rattle.std.proofs.Common.{sym, ◌∙◌}
use Rattle.protowire.specs.declared.refusal.WireRefusal.{WireRefusal}
use Rattle.codec.proofs.Steps.{ok_is}
use Rattle.protowire.proofs.FieldLaws.{fields_again}
use Rattle.protowire.proofs.laws.fields_are_determined.Goals as goal

pub returns : goal.returns
returns c = λ text fs gs one other. ok_is {E = WireRefusal} fs gs (sym (fields_again text fs one) ∙ fields_again text gs other)
