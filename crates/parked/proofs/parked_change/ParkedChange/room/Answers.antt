use Rattle.std.proofs.Common.{◌≡◌, ◌∙◌, ℕ, true, List, get_or, length, drop, sym, ap, subst, arith}
use Rattle.std.specs.Prelude.{All}
use Rattle.protocol.specs.Machine.{Parked}
use Rattle.parked.specs.Newest.{knows}
use Rattle.parked.specs.Queue.{asks_of, numbers_of}
use Rattle.parked.specs.Noted.{AreIndexed}
use Rattle.parked.specs.Numbers.{numbers_from}
use Rattle.parked.specs.declared.noted_asks.NotedAsks.{NotedAsks}
use Rattle.parked.proofs.NotedWords.{indexed-more}
use Rattle.parked.proofs.parked_change.ParkedChange.room.Goals as goal

pub invariant_of-parked : goal.invariant_of-parked
invariant_of-parked c =
    let x = c.args.parked.now in
    let y : NotedAsks = c.add_asks.new.self in
    record {
      inside = x.inside;
      known = x.known;
      indexed = indexed-more x.noted y (asks_of x) (numbers_of x.numbers) c.add_asks.ensures.kept x.indexed;
    }

pub invariant_of-parked-in-Break-branch-2 : goal.invariant_of-parked-in-Break-branch-2
invariant_of-parked-in-Break-branch-2 c =
    let x = c.args.parked.now in
    let y : NotedAsks = c.add_asks.new.self in
    record {
      inside = x.inside;
      known = x.known;
      indexed = subst (AreIndexed y (asks_of x)) (sym c.reserve.ensures.same) (indexed-more x.noted y (asks_of x) (numbers_of x.numbers) c.add_asks.ensures.kept x.indexed);
    }

pub invariant_of-parked-in-Break-branch-3 : goal.invariant_of-parked-in-Break-branch-3
invariant_of-parked-in-Break-branch-3 c =
    let x = c.args.parked.now in
    let y : NotedAsks = c.add_asks.new.self in
    record {
      inside = x.inside;
      known = λ k d inside. c.reserve-2.ensures.known (get_or (asks_of x) k d).node (get_or (asks_of x) k d).life (get_or (asks_of x) k d).ask ∙ x.known k d inside;
      indexed = subst (AreIndexed y (asks_of x)) (sym c.reserve.ensures.same) (indexed-more x.noted y (asks_of x) (numbers_of x.numbers) c.add_asks.ensures.kept x.indexed);
    }

pub invariant_of-parked-2 : goal.invariant_of-parked-2
invariant_of-parked-2 c =
    let x = c.args.parked.now in
    let y : NotedAsks = c.add_asks.new.self in
    record {
      inside = (let was = x.inside in omega (arith, c.reserve-3.ensures.len));
      known = subst (λ (ps : List Parked). All (λ p. knows c.reserve-2.new.self p.node p.life p.ask ≡ true) (drop x.start ps)) (sym c.reserve-3.ensures.items) (λ k d inside. c.reserve-2.ensures.known (get_or (asks_of x) k d).node (get_or (asks_of x) k d).life (get_or (asks_of x) k d).ask ∙ x.known k d inside);
      indexed = subst (λ (ps : List Parked). AreIndexed y (drop x.start ps) (numbers_of c.reserve.new.self)) (sym c.reserve-3.ensures.items) (subst (AreIndexed y (asks_of x)) (sym c.reserve.ensures.same) (indexed-more x.noted y (asks_of x) (numbers_of x.numbers) c.add_asks.ensures.kept x.indexed));
    }

pub returns-clause-room : goal.returns-clause-room
returns-clause-room c =
    let x = c.args.parked.now in
    let y : NotedAsks = c.add_asks.new.self in
    let since : List Parked = c.args.self.now.since.items in
    let len : length c.as_slice-since.result.now ≡ length since = ap (λ (ps : List Parked). length ps) c.as_slice-since.ensures.value in
    record {
      asks = omega (arith, len, c.in_ok-reserve-3.ensures.ok, c.reserve-3.ensures.len);
      numbers = omega (arith, len, c.in_ok-reserve.ensures.room);
      newest = omega (arith, len, c.in_ok-reserve-2.ensures.room);
      indexed = subst (λ (n : ℕ). AreIndexed y since (numbers_from n since)) (sym c.reserve.ensures.next)
          (subst (λ (ps : List Parked). AreIndexed y ps (numbers_from x.numbers.next ps)) c.as_slice-since.ensures.value c.in_ok-add_asks.ensures.added);
    }
