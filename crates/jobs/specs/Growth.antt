-- What comes of adding keys to those that were known (this project's own).
use Rattle.std.specs.Prelude.{◌≡◌, ◌≤◌, ◌-◌, ◌++◌, ℕ, List, false, length, take, replicate}
use Rattle.std.specs.Vec.{vec_capacity}
use Rattle.names.specs.declared.digest.Key.{Key}
use Rattle.keytable.specs.Adding.{AreAdded, IsFront}
use Rattle.keytable.specs.Tables.{IsTable}
use Rattle.keytable.specs.Users.{AreUsers, IsClosed, IsSameUsers}
use Rattle.vertices.specs.declared.graph.Graph.{Graph}
use Rattle.jobs.specs.declared.known_keys.KnownKeys.{KnownKeys}
use Rattle.jobs.specs.ReadyLists.{HasRoom, IsSameList}

-- the keys are there with their users, which are among them
pub record AreTabled (known : KnownKeys) : Type 0 where
  pub table : IsTable known.table
  pub closed : IsClosed known.table.entries.items
  pub users : AreUsers known.table.entries.items known.users
  pub count : length known.users.lasts.items ≡ length known.table.entries.items

-- the keys were added, with their users; each has a mark and a cursor, the new ones none, and there is room for all in the lists
pub record HasGrown (graph : Graph) (keys : List Key) (old new : KnownKeys) : Type 0 where
  pub tabled : AreTabled new
  pub added : AreAdded graph keys old.table.entries.items new.table.entries.items
  pub marks : let count = length new.table.entries.items in
      new.marks.items ≡ take count old.marks.items ++ replicate (count - length old.marks.items) false
  pub cursors : let count = length new.table.entries.items in
      new.ready.cursors.items ≡ take count old.ready.cursors.items ++ replicate (count - length old.ready.cursors.items) 0
  pub room : HasRoom (length new.table.entries.items) new.ready
  pub todo_room : length new.table.entries.items ≤ vec_capacity new.todo

-- whatever comes of it, no key goes, and nothing is listed that wasn't
pub record HasKept (old new : KnownKeys) : Type 0 where
  pub front : IsFront old.table new.table
  pub list : IsSameList old.ready new.ready
  pub todo : new.todo.items ≡ old.todo.items
  pub todo_capacity : vec_capacity old.todo ≤ vec_capacity new.todo

-- memory ran out: there may be more keys, and nothing else is new
pub record HasMoreKeys (old new : KnownKeys) : Type 0 where
  pub marks : new.marks.items ≡ old.marks.items
  pub users : IsSameUsers old.users new.users
  pub cursors : new.ready.cursors.items ≡ old.ready.cursors.items
