-- What is kept of the submitted keys (this project's own).
use Rattle.std.specs.Prelude.{Bool, List}
use Rattle.keytable.specs.declared.table.Table.{Table}
use Rattle.keytable.specs.Marks.{AreMarks}
use Rattle.keytable.specs.Tables.{IsTable}

-- each key has its number, and exactly the keys that fail are marked
pub record AreKept (table : Table) (marks : List Bool) : Type 0 where
  pub numbered : IsTable table
  pub marked : AreMarks table.entries.items marks
