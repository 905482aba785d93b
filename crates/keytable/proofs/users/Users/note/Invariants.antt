use Rattle.std.proofs.Common.{◌≡◌, ◌<◌, ℕ, Some, slice_get}
use Rattle.std.specs.List.{Contains}
use Rattle.names.specs.declared.digest.Key.{Key}
use Rattle.keytable.specs.declared.entry.Entry.{Entry}
use Rattle.keytable.specs.Adding.{BeginsWith}
use Rattle.keytable.specs.Users.{AreInputs}
use Rattle.keytable.proofs.users.Users.note.Given as goal

abbrev pub invariant-loop-key : goal.invariant-loop-key
invariant-loop-key l = record {
  front : BeginsWith l.fn.self.links.items l.self.links.items;
  inputs : AreInputs l.table.entries.items l.fn.self.links.items → AreInputs l.table.entries.items l.self.links.items;
  noted : (k : ℕ) (input : Key × ℕ) → k < l.key-index → slice_get l.key-items k ≡ Some input → (source : ℕ) (other : Entry) → slice_get l.table.entries.items source ≡ Some other → other.key ≡ input.0
      → Contains l.self.links.items (record { source = source; index = input.1; user = l.number });
  befores : l.self.befores ≡ l.fn.self.befores;
  lasts : l.self.lasts ≡ l.fn.self.lasts;
}
