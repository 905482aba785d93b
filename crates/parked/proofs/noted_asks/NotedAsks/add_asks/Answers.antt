use Rattle.std.proofs.Common.{◌≡◌, ◌+◌, ◌∷◌, [], ℕ, List, drop, drop_of_length-le, ap, sym, ◌∙◌, subst, arith}
use Rattle.protocol.specs.Machine.{Parked}
use Rattle.holdings.proofs.PlaceLemmas.{drop-item}
use Rattle.parked.specs.Numbers.{numbers_from, number_after}
use Rattle.parked.specs.Noted.{IsIndexed, AreIndexed}
use Rattle.parked.specs.declared.noted_asks.NotedAsks.{NotedAsks}
use Rattle.parked.proofs.NotedWords.{indexed-cons, indexed-nil, indexed-later, keeps-same, keeps-then}
use Rattle.parked.proofs.noted_asks.NotedAsks.add_asks.Goals as goal

pub loop-p-init : goal.loop-p-init
loop-p-init c = record { added = λ y keeps all. all; kept = keeps-same c.args.self.now }

pub loop-p-preserved : goal.loop-p-preserved
loop-p-preserved c =
    let asks : List Parked = c.args.asks.now in
    let i = c.loop-p.p-index in
    let p : Parked = c.p-item.result in
    let rest : List Parked = drop (i + 1) asks in
    let first : drop i asks ≡ p ∷ rest = drop-item asks i p (omega arith) ∙ ap (λ (x : Parked). x ∷ rest) (sym c.p-item.is) in
    let x : NotedAsks = c.add_ask.new.self in
    record {
      added = λ y keeps later.
          (let here : IsIndexed y c.loop-p.number p = indexed-later x y c.loop-p.number p keeps c.in_ok-add_ask.ensures.added in
          let next : AreIndexed y rest (numbers_from (number_after c.loop-p.number) rest) = subst (λ (n : ℕ). AreIndexed y rest (numbers_from n rest)) c.after-number.ensures later in
          c.loop-p.invariant.added y (keeps-then c.loop-p.self x y c.in_ok-add_ask.ensures.kept keeps)
          (subst (λ (ps : List Parked). AreIndexed y ps (numbers_from c.loop-p.number ps)) (sym first) (indexed-cons y p rest c.loop-p.number (numbers_from (number_after c.loop-p.number) rest) here next)));
      kept = keeps-then c.args.self.now c.loop-p.self x c.loop-p.invariant.kept c.in_ok-add_ask.ensures.kept;
    }

pub returns-clause-added : goal.returns-clause-added
returns-clause-added c =
    let none : drop c.loop-p.p-index c.args.asks.now ≡ [] = drop_of_length-le c.args.asks.now (omega arith) in
    c.loop-p.invariant.added c.loop-p.self (keeps-same c.loop-p.self)
    (subst (λ (ps : List Parked). AreIndexed c.loop-p.self ps (numbers_from c.loop-p.number ps)) (sym none) (indexed-nil c.loop-p.self))
