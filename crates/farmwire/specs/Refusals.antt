-- Refusals of a line.
use Rattle.farmwire.specs.declared.refusal.LineFault.{LineFault}
use Rattle.farmwire.specs.declared.refusal.LineFault.TheVariants as line
use Rattle.words.specs.declared.refusal.ReadRefusal.{ReadRefusal}
use Rattle.words.specs.declared.refusal.ReadRefusal.TheVariants.{BadForm, OutOfMemory}

-- the fault of a line whose text isn't read
abbrev pub fault_of : ReadRefusal → LineFault
fault_of BadForm = line.BadForm
fault_of OutOfMemory = line.OutOfMemory
