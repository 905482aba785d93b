use Rattle.std.proofs.Common.{rules, of_calls, ◌≡◌, ◌<◌, ◌≤◌, ℕ, true, false, ltb, arith}
use Rattle.std.proofs.lemmas.Bool.Decides.{nat_tests}
use Rattle.std.proofs.lemmas.List.Sorted.{IsPartitionedBy-ltb, IsPartitionPoint-from_clause}
use Rattle.parked.proofs.parked_asks.count_below.Goals as goal

below : (a b : ℕ) → ltb a b ≡ true → a < b
below a b h = grind (arith, nat_tests)

behind : (a b : ℕ) → ltb a b ≡ false → b ≤ a
behind a b h = grind (arith, nat_tests)

pub returns-clause-below : goal.returns-clause-below
returns-clause-below c =
    let point = IsPartitionPoint-from_clause (λ (y : ℕ). ltb y c.args.number) c.args.numbers.now c.partition_point.result c.partition_point.ensures.partitioned
    (IsPartitionedBy-ltb (λ (y : ℕ). y) c.args.numbers.now c.args.number c.requires) (λ a r f k. search (rules, of_calls)) in
    λ k less. below _ _ (point.0 k 0 (omega arith) less)

pub returns-clause-behind : goal.returns-clause-behind
returns-clause-behind c =
    let point = IsPartitionPoint-from_clause (λ (y : ℕ). ltb y c.args.number) c.args.numbers.now c.partition_point.result c.partition_point.ensures.partitioned
    (IsPartitionedBy-ltb (λ (y : ℕ). y) c.args.numbers.now c.args.number c.requires) (λ a r f k. search (rules, of_calls)) in
    λ k past inside. behind _ _ (point.1 k 0 past inside)
