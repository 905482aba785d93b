-- The numbers of submitted keys (this project's own).
use Rattle.std.specs.Prelude.{◌≡◌, map}
use Rattle.names.specs.declared.digest.Key.{Key}
use Rattle.indexmap.specs.IndexSet.{IsUnique}
use Rattle.keytable.specs.declared.entry.Entry.{Entry}
use Rattle.keytable.specs.declared.table.Table.{Table}
pub use Rattle.solverkeys.specs.Keyed.{key_eq}

-- the key of an entry
abbrev pub key_of : Entry → Key
key_of entry = entry.key

-- the numbers of the keys are those of their entries, and no key has two
pub record IsTable (t : Table) : Type 0 where
  pub listed : t.numbers.keys ≡ map key_of t.entries.items
  pub unique : IsUnique key_eq t.numbers
