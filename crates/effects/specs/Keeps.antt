-- What a coordinator keeps, by its fields.
use Rattle.effects.specs.declared.state.State.{State}
use Rattle.effects.specs.Held.{Held, ledger}
use Rattle.parked.specs.Queue.{asks_of}
use Rattle.effects.specs.Sound.{IsRightful}
use Rattle.effects.specs.Spent.{AreNoted}

abbrev pub held : State → Held
held s = record {
  live = s.table.live;
  retired = s.table.retired;
  gone = s.gone.retired;
  lines = s.lines;
  last = s.tickets.position;
  ceiling = s.tickets.ceiling;
  old_home = s.old_home;
  lives = s.lives.seen;
  parked = asks_of s.parked;
}

-- the folders that parked asks want and that have no free instance are noted
abbrev pub NotesSpent : State → Type 0
NotesSpent s = AreNoted s.spent.folders.items (ledger (held s))

-- a state that a coordinator may keep
pub record IsKeepable (s : State) : Type 0 where
  pub rightful : IsRightful (ledger (held s))
  pub noted : NotesSpent s
