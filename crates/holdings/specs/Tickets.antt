-- Where tickets come from.
use Rattle.std.specs.Prelude.{ℕ, ◌+◌, ◌==◌, if◌then◌else◌, min}
use Rattle.names.specs.declared.limits.TheConstants.{GREATEST}

-- a ticket source, as contracts see it
pub record Tickets : Type 0 where
  -- the ticket that was given last, or the one after which it began
  pub position : ℕ
  -- the last ticket of the block that is saved
  pub ceiling : ℕ

-- the ceiling that the next ticket needs: at the ceiling a block of 64 tickets is added, up to the greatest
abbrev pub raised : Tickets → ℕ
raised t = if t.position == t.ceiling then min (t.ceiling + 64) GREATEST else t.ceiling

-- the source after it gave the next ticket
abbrev pub advanced : Tickets → Tickets
advanced t = record { position = t.position + 1; ceiling = raised t }
