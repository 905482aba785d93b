use Rattle.std.proofs.Common.{◌≡◌, true, arith}
use Rattle.std.proofs.lemmas.List.Elements.{All-from_get_or}
use Rattle.ordering.specs.Flags.{flag_at}
use Rattle.ordering.proofs.ordering.are_all_placed.Goals as goal

pub returns : goal.returns
returns c = All-from_get_or (λ place. flag_at c.args.placed.now place ≡ true) c.args.vertices.now 0
    (λ k h. c.loop-place.invariant k (omega arith))
