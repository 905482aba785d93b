use Rattle.std.proofs.Common.{◌≡◌, ℕ, length, subst, arith}
use Rattle.std.specs.HashMap.{get}
use Rattle.solverkeys.specs.Keyed.{key_eq, AreFirsts}
use Rattle.solverkeys.proofs.keyed.firsts_of.Goals as goal

pub returns : goal.returns
returns c =
    let all : c.loop-place.place ≡ length c.args.keys.now = omega arith in
    subst (λ (n : ℕ). AreFirsts c.args.keys.now n (get key_eq c.loop-place.firsts)) all c.loop-place.invariant
