-- What receipts say of a farm's lines (this project's own).
use Rattle.std.specs.Prelude.{◌≡◌, ◌≢◌, ℕ, List, [], map, All, Some}
use Rattle.protocol.specs.Replay.{Farm}
use Rattle.executions.specs.Lines.{number_on}
use Rattle.executions.specs.Receipt.{Receipt}

-- the receipt has a version, and each stands on its slot's line, with its number, under the receipt's ticket
abbrev pub StandsOn : Farm → Receipt → Type 0
StandsOn s r = (r.versions ≢ []) × All (λ v. number_on s r.ticket v.slot ≡ Some v.number) r.versions

abbrev pub tickets_of : List Receipt → List ℕ
tickets_of receipts = map (λ r. r.ticket.0) receipts
