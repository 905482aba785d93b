use Rattle.std.proofs.Common.{◌≡◌, ◌≤◌, ◌-◌, length}
use Rattle.std.specs.Vec.{vec_capacity}
use Rattle.keytable.specs.Users.{AreLinked}
use Rattle.keytable.proofs.users.Users.link_all.Given as goal

abbrev pub invariant-loop-self : goal.invariant-loop-self
invariant-loop-self l = record {
  linked : AreLinked l.self;
  links : l.self.links ≡ l.fn.self.links;
  lasts : length l.self.lasts.items ≡ length l.fn.self.lasts.items;
  room : length l.fn.self.links.items ≤ vec_capacity l.self.befores;
}

abbrev pub decreases-loop-self : goal.decreases-loop-self
decreases-loop-self l = length l.self.links.items - length l.self.befores.items
