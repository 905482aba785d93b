-- What refused edits mean for who made them (this project's own).
use Rattle.folders.specs.declared.refusal.EditRefusal.{EditRefusal}
use Rattle.folders.specs.declared.refusal.EditRefusal.TheVariants.{TooLarge, OutOfMemory}
use Rattle.executions.specs.declared.refusal.SharedRefusal.{SharedRefusal}
use Rattle.executions.specs.declared.refusal.SharedRefusal.TheVariants as shared

abbrev pub after_edits : EditRefusal → SharedRefusal
after_edits TooLarge = shared.TooLarge
after_edits OutOfMemory = shared.OutOfMemory
