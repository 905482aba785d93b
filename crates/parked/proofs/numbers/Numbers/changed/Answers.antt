use Rattle.std.proofs.Common.{◌≡◌, ◌≤◌, ◌++◌, ℕ, List, drop, length, vec_len, sym, ◌∙◌, ap, subst, arith}
use Rattle.std.specs.Prelude.{All}
use Rattle.std.specs.List.Sorted.{IsNonDecreasing}
use Rattle.parked.specs.Numbers.{numbers_from, number_behind}
use Rattle.parked.specs.Over.{still_at}
use Rattle.parked.proofs.PassedWords.{behind_joined}
use Rattle.parked.proofs.NotedWords.{changed-rise, changed-below}
use Rattle.parked.proofs.numbers.Numbers.changed.Goals as goal

pub invariant_of-result-clause-rising : goal.invariant_of-result-clause-rising
invariant_of-result-clause-rising c =
    let over : List ℕ = c.args.over.now.places.items in
    let was : List ℕ = drop c.args.self.start c.args.self.items.items in
    let len : vec_len c.take_out-start.new.items ≡ length c.take_out-start.new.items.items = c.take_out-start.new.items.ok.0 in
    let inside = c.take_out-start.ensures.inside in
    let all : drop c.trimmed-items.result.1 c.trimmed-items.result.0.items ≡ still_at 0 over was ++ numbers_from c.args.self.next c.args.since.now =
    c.trimmed-items.ensures.left
    ∙ behind_joined c.take_out-start.new.items.items (numbers_from c.args.self.next c.args.since.now) c.put_all-next.new.numbers.items c.take_out-start.result (omega arith) c.put_all-next.ensures.items
    ∙ ap (λ (ns : List ℕ). ns ++ numbers_from c.args.self.next c.args.since.now) c.take_out-start.ensures.left in
    subst IsNonDecreasing (sym all) (changed-rise over was c.args.self.next c.args.since.now c.args.self.rising c.args.self.below)

pub invariant_of-result-clause-below : goal.invariant_of-result-clause-below
invariant_of-result-clause-below c =
    let over : List ℕ = c.args.over.now.places.items in
    let was : List ℕ = drop c.args.self.start c.args.self.items.items in
    let len : vec_len c.take_out-start.new.items ≡ length c.take_out-start.new.items.items = c.take_out-start.new.items.ok.0 in
    let inside = c.take_out-start.ensures.inside in
    let all : drop c.trimmed-items.result.1 c.trimmed-items.result.0.items ≡ still_at 0 over was ++ numbers_from c.args.self.next c.args.since.now =
    c.trimmed-items.ensures.left
    ∙ behind_joined c.take_out-start.new.items.items (numbers_from c.args.self.next c.args.since.now) c.put_all-next.new.numbers.items c.take_out-start.result (omega arith) c.put_all-next.ensures.items
    ∙ ap (λ (ns : List ℕ). ns ++ numbers_from c.args.self.next c.args.since.now) c.take_out-start.ensures.left in
    subst (λ (n : ℕ). All (λ m. m ≤ n) (drop c.trimmed-items.result.1 c.trimmed-items.result.0.items)) (sym c.put_all-next.ensures.next)
    (subst (All (λ m. m ≤ number_behind c.args.self.next c.args.since.now)) (sym all) (changed-below over was c.args.self.next c.args.since.now c.args.self.below))
