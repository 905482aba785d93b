use Rattle.std.proofs.Common.{◌≡◌, ◌<◌, ◌≤◌, ℕ}
use Rattle.keytable.specs.Adding.{BeginsWith}
use Rattle.keytable.specs.Users.{AreInputs, IsNoted}
use Rattle.keytable.proofs.users.Users.note_all.Given as goal

abbrev pub invariant-loop-number : goal.invariant-loop-number
invariant-loop-number l = record {
  front : BeginsWith l.fn.self.links.items l.self.links.items;
  inputs : AreInputs l.table.entries.items l.fn.self.links.items → AreInputs l.table.entries.items l.self.links.items;
  noted : (m : ℕ) → l.from ≤ m → m < l.number → IsNoted l.table.entries.items l.self.links.items m;
  befores : l.self.befores ≡ l.fn.self.befores;
  lasts : l.self.lasts ≡ l.fn.self.lasts;
}
