use Rattle.std.proofs.Common.{◌≡◌, ◌++◌, ◌∷◌, []}
use Rattle.versions.proofs.LineLemmas.{IsLine-push}
use Rattle.versions.proofs.line.Line.push_into.Goals as goal

pub invariant_of-self : goal.invariant_of-self
invariant_of-self c =
    let pushed : c.push.new.self.items ≡ c.make_room.new.versions.items ++ record { ticket = c.args.ticket; digest = c.args.digest } ∷ [] = rw c.unwrap.ensures at c.push.ensures.items in
    rw (pushed, c.make_room.ensures.items) (IsLine-push _ _ c.self.invariant (rw (← c.self.view_is) at c.requires.above))

pub returns-clause-rises : goal.returns-clause-rises
returns-clause-rises c =
    let pushed : c.push.new.self.items ≡ c.make_room.new.versions.items ++ record { ticket = c.args.ticket; digest = c.args.digest } ∷ [] = rw c.unwrap.ensures at c.push.ensures.items in
    rw (pushed, c.make_room.ensures.items) (IsLine-push _ _ c.self.invariant (rw (← c.self.view_is) at c.requires.above))
