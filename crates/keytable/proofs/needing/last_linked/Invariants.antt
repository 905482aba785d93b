use Rattle.std.proofs.Common.{◌≤◌, IfSome, IsSomeAnd}
use Rattle.keytable.specs.declared.users.Link.{Link}
use Rattle.keytable.specs.Needs.{LinksOutput}
use Rattle.keytable.proofs.UserLemmas.{IsWalking, steps_left}
use Rattle.keytable.proofs.needing.last_linked.Given as goal

-- the last index among the links so far
abbrev pub invariant-loop-next : goal.invariant-loop-next
invariant-loop-next l = record {
  linked : IfSome l.last (LinksOutput l.users.links.items l.number);
  walk : IsWalking l.users.links.items l.number (λ (link : Link). IsSomeAnd l.last (λ last. link.index ≤ last)) l.next;
}

abbrev pub decreases-loop-next : goal.decreases-loop-next
decreases-loop-next l = steps_left l.next
