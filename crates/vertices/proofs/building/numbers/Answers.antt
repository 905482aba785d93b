use Rattle.std.proofs.Common.{◌≡◌, ℕ, ◌+◌, List, subst, sym, arith}
use Rattle.vertices.specs.Numbered.{AreNumbers}
use Rattle.vertices.proofs.GraphLemmas.{numbers_more}
use Rattle.vertices.proofs.building.numbers.Goals as goal

pub loop-number-preserved : goal.loop-number-preserved
loop-number-preserved c =
    subst (λ (xs : List ℕ). AreNumbers xs (c.loop-number.number + 1)) (sym c.in_ok-push.ensures.items)
    (numbers_more c.loop-number.numbers.items c.loop-number.number c.loop-number.invariant)

pub returns : goal.returns
returns c =
    let end : c.loop-number.number ≡ c.args.count = omega arith in
    subst (AreNumbers c.loop-number.numbers.items) end c.loop-number.invariant
