-- What a table of jobs is made of (this project's own).
use Rattle.std.specs.Prelude.{◌≡◌, ◌≤◌, ℕ, [], List, length}
use Rattle.std.specs.Vec.{vec_capacity}
use Rattle.names.specs.declared.digest.Key.{Key}
use Rattle.keytable.specs.declared.entry.Entry.{Entry}
use Rattle.jobs.specs.declared.known_keys.KnownKeys.{KnownKeys}
use Rattle.jobs.specs.History.{History}
use Rattle.jobs.specs.ReadyLists.{AreCursors, AreHandedRight, IsList, ListsAll, HasRoom}
use Rattle.keytable.specs.Kept.{AreKept}
use Rattle.keytable.specs.Users.{AreUsers, IsClosed}

-- the history of these jobs and keys
abbrev pub history : List (Key × ℕ) → List Entry → History
history jobs keys = record { jobs = jobs; keys = keys }

-- the users of each key are listed too, and exactly the ready keys, with room for all keys
pub record AreListed (known : KnownKeys) : Type 0 where
  pub kept : AreKept known.table known.marks.items
  pub closed : IsClosed known.table.entries.items
  pub used : AreUsers known.table.entries.items known.users
  pub count : length known.users.lasts.items ≡ length known.table.entries.items
  pub idle : known.todo.items ≡ []
  pub todo_room : length known.table.entries.items ≤ vec_capacity known.todo
  pub right : AreHandedRight known.table.entries.items
  pub list : IsList known.table.entries.items known.ready
  pub all : ListsAll known.table.entries.items known.ready
  pub room : HasRoom (length known.table.entries.items) known.ready
  pub cursors : AreCursors known.table.entries.items known.ready.cursors.items
