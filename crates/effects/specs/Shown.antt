-- What an event changes, over what is held.
use Rattle.std.specs.Prelude.{◌≡◌, ℕ, Bool, true, Option, Some, None}
use Rattle.protocol.specs.Lists.{put}
use Rattle.protocol.specs.Names.{NodeId}
use Rattle.protocol.specs.Ledger.{Ledger, Work}
use Rattle.leases.specs.Changes.{changed}
use Rattle.leases.specs.Leases.{Table}
use Rattle.holdings.specs.Leases.{among}
use Rattle.parked.specs.Waiting.{waits_after}
pub use Rattle.versions.specs.Lines.{LineOf, lines_with}
use Rattle.effects.specs.declared.change.Change.{Change}
use Rattle.effects.specs.declared.new_life.NewLife.{NewLife}
use Rattle.effects.specs.declared.effects.Effects.{Effects}
use Rattle.effects.specs.Held.{Held, life_at, is_among}

-- the leases, and the slots that are not granted again
abbrev pub table_after : Held → Change → Table
table_after h c = changed (record { live = h.live; retired = h.retired }) c.table

-- the greatest lives, with the one that began, if one did
abbrev pub with_life : Option NewLife → (ℕ → ℕ) → ℕ → ℕ
with_life None lives = lives
with_life (Some x) lives = put x.node.0 x.life.0 lives

-- the retired nodes, with the one that was retired, if one was
abbrev pub with_gone : Option NodeId → (ℕ → Bool) → ℕ → Bool
with_gone None gone = gone
with_gone (Some n) gone = put n.0 true gone

-- the ledger with the changes, and with these lines
abbrev pub after : LineOf → Held → Change → Ledger
after line h c = record {
  live = (table_after h c).live;
  retired = among (table_after h c).retired;
  gone = with_gone c.gone (is_among h.gone);
  line = line;
  last = c.tickets.position;
  ceiling = c.tickets.ceiling;
  old_home = c.old_home;
  lives = with_life c.life (life_at h.lives);
  parked = waits_after h.parked c.parked;
}

-- what these effects come to, over what is held
abbrev pub work_of : Held → Effects → Work
work_of h e = record {
  ledger = after (lines_with h.lines e.added) h e.change;
  sends = e.sends.items;
  changed = e.changed;
  note = e.note;
}

-- nothing was added, no life began and no node was retired
pub record IsFresh (e : Effects) : Type 0 where
  pub added : e.added ≡ None
  pub life : e.change.life ≡ None
  pub gone : e.change.gone ≡ None
