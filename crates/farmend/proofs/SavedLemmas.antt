-- What texts hold that hold the same ledger.
use Rattle.std.proofs.Common.{◌≡◌, sym, ap, ◌∙◌}
use Rattle.protocol.specs.Ledger.{Saved}
use Rattle.saverecord.specs.Texts.{Texts}
use Rattle.saverecord.specs.Logs.{Holds, ledger_in, saved_in, saved_by}

-- they hold what is saved of it
pub holds_alike : (kept other : Texts) (s : Saved) → Holds kept s → ledger_in other ≡ ledger_in kept → Holds other (saved_in kept)
unfolding saved_in
holds_alike kept other s holds same = record { kept = holds.kept; read = same ∙ holds.read; saved = sym (ap saved_by holds.read) }
