use Rattle.std.proofs.Common.{◌≡◌, ◌<◌, ℕ, List, Some, None, drop, length, sym, subst, arith}
use Rattle.std.specs.List.Sorted.{IsNonDecreasing}
use Rattle.protocol.specs.Machine.{Parked}
use Rattle.parked.specs.Noted.{AreIndexed, Reaches}
use Rattle.parked.proofs.NotedWords.{passed-none, passed-none-of}
use Rattle.parked.proofs.parked_asks.ParkedAsks.next.Goals as goal

pub returns-in-Some-clause-slots : goal.returns-in-Some-clause-slots
returns-in-Some-clause-slots c k d low high =
    let asks : List Parked = drop c.args.self.now.start c.args.self.now.asks.items in
    let ns : List ℕ = c.as_slice-numbers.result.now in
    let indexed : AreIndexed c.args.self.now.noted asks ns = subst (AreIndexed c.args.self.now.noted asks) (sym c.as_slice-numbers.ensures) c.args.self.now.indexed in
    let up : IsNonDecreasing ns = subst IsNonDecreasing (sym c.as_slice-numbers.ensures) c.args.self.now.numbers.rising in
    let len : length ns ≡ length asks = indexed.0 in
    let within = c.count_below.ensures.inside in
    let most = c.max.ensures in
    let below : k < c.count_below.result = omega arith in
    passed-none c.args.self.now.noted asks ns c.args.slots.now c.args.place k d (Some c.in-Some.first) indexed up low (omega arith)
    (λ n le some. subst (λ o. Reaches o n) c.in-Some.is (c.first_of_all.ensures.slots n le some))
    (λ reached. (let less = c.count_below.ensures.below k below in omega arith))

pub returns-in-Some-clause-folders : goal.returns-in-Some-clause-folders
returns-in-Some-clause-folders c k d low high =
    let asks : List Parked = drop c.args.self.now.start c.args.self.now.asks.items in
    let ns : List ℕ = c.as_slice-numbers.result.now in
    let indexed : AreIndexed c.args.self.now.noted asks ns = subst (AreIndexed c.args.self.now.noted asks) (sym c.as_slice-numbers.ensures) c.args.self.now.indexed in
    let up : IsNonDecreasing ns = subst IsNonDecreasing (sym c.as_slice-numbers.ensures) c.args.self.now.numbers.rising in
    let len : length ns ≡ length asks = indexed.0 in
    let within = c.count_below.ensures.inside in
    let most = c.max.ensures in
    let below : k < c.count_below.result = omega arith in
    passed-none-of c.args.self.now.noted asks ns c.args.folders.now c.args.place k d (Some c.in-Some.first) indexed up low (omega arith)
    (λ n le some. subst (λ o. Reaches o n) c.in-Some.is (c.first_of_all.ensures.folders n le some))
    (λ reached. (let less = c.count_below.ensures.below k below in omega arith))

pub returns-in-None-clause-slots : goal.returns-in-None-clause-slots
returns-in-None-clause-slots c k d low high =
    let asks : List Parked = drop c.args.self.now.start c.args.self.now.asks.items in
    let ns : List ℕ = c.as_slice-numbers.result.now in
    let indexed : AreIndexed c.args.self.now.noted asks ns = subst (AreIndexed c.args.self.now.noted asks) (sym c.as_slice-numbers.ensures) c.args.self.now.indexed in
    let up : IsNonDecreasing ns = subst IsNonDecreasing (sym c.as_slice-numbers.ensures) c.args.self.now.numbers.rising in
    let len : length ns ≡ length asks = indexed.0 in
    passed-none c.args.self.now.noted asks ns c.args.slots.now c.args.place k d None indexed up low (omega arith)
    (λ n le some. subst (λ o. Reaches o n) c.in-None.is (c.first_of_all.ensures.slots n le some)) (λ reached. reached)

pub returns-in-None-clause-folders : goal.returns-in-None-clause-folders
returns-in-None-clause-folders c k d low high =
    let asks : List Parked = drop c.args.self.now.start c.args.self.now.asks.items in
    let ns : List ℕ = c.as_slice-numbers.result.now in
    let indexed : AreIndexed c.args.self.now.noted asks ns = subst (AreIndexed c.args.self.now.noted asks) (sym c.as_slice-numbers.ensures) c.args.self.now.indexed in
    let up : IsNonDecreasing ns = subst IsNonDecreasing (sym c.as_slice-numbers.ensures) c.args.self.now.numbers.rising in
    let len : length ns ≡ length asks = indexed.0 in
    passed-none-of c.args.self.now.noted asks ns c.args.folders.now c.args.place k d None indexed up low (omega arith)
    (λ n le some. subst (λ o. Reaches o n) c.in-None.is (c.first_of_all.ensures.folders n le some)) (λ reached. reached)
