-- What a job came to, once a run is over (this project's own).
use Rattle.std.specs.Prelude.{◌≡◌, ℕ, List, Result, Ok, Err}
use Rattle.names.specs.declared.digest.Key.{Key}
use Rattle.names.specs.declared.digest.Digest.{Digest}
use Rattle.keytable.specs.declared.entry.Entry.{Entry}
use Rattle.keytable.specs.Failing.{Fails, IsDone, HasOutput, LacksOutput}
use Rattle.jobs.specs.declared.answer.Answer.{Answer}
use Rattle.jobs.specs.declared.answer.Answer.TheVariants.{Output, Failed}
use Rattle.solving.specs.declared.fault.FarmFault.{FarmFault}
use Rattle.solving.specs.declared.fault.FarmFault.TheVariants.{ReceiptLost}

-- the answer of the job with this result: the named output, or that its key fails or is done without that output. One that
-- still waits is lost
pub data IsLastAnswer (keys : List Entry) (wanted : Key × ℕ) (given : Result Answer FarmFault) : Type 0 where
  output : (digest : Digest) → HasOutput keys wanted digest → given ≡ Ok (Output digest) → IsLastAnswer keys wanted given
  fails : Fails keys wanted.0 → given ≡ Ok Failed → IsLastAnswer keys wanted given
  lacks : LacksOutput keys wanted → given ≡ Ok Failed → IsLastAnswer keys wanted given
  waits : ((outputs : List Digest) → IsDone keys wanted.0 outputs → ⊥) → (Fails keys wanted.0 → ⊥) → given ≡ Err ReceiptLost → IsLastAnswer keys wanted given
