use Rattle.std.proofs.Common.{◌≡◌, ◌++◌, ℕ, true, List, drop, length, get_or, vec_len, sym, ◌∙◌, ap, subst, arith}
use Rattle.std.specs.Prelude.{All}
use Rattle.std.proofs.lemmas.List.Elements.{All-append}
use Rattle.protocol.specs.Machine.{Parked}
use Rattle.parked.specs.Newest.{knows}
use Rattle.parked.specs.Numbers.{numbers_from}
use Rattle.parked.specs.Over.{still_waiting}
use Rattle.parked.specs.Queue.{asks_of, numbers_of}
use Rattle.parked.specs.Noted.{AreIndexed, KeepsOf}
use Rattle.parked.proofs.NewestWords.{all-still}
use Rattle.parked.proofs.PassedWords.{behind_joined}
use Rattle.parked.proofs.NotedWords.{indexed-kept, indexed-still, indexed-append}
use Rattle.parked.proofs.parked_change.ParkedChange.apply.Goals as goal

pub returns : goal.returns
returns c =
    let over : List ℕ = c.args.self.over.places.items in
    let len : vec_len c.take_out-start.new.items ≡ length c.take_out-start.new.items.items = c.take_out-start.new.items.ok.0 in
    let inside = c.take_out-start.ensures.inside in
    c.trimmed-asks.ensures.left
    ∙ behind_joined c.take_out-start.new.items.items c.args.self.since.items c.joined-asks.result.items c.take_out-start.result (omega arith) c.joined-asks.ensures
    ∙ ap (λ (ps : List Parked). ps ++ c.args.self.since.items) c.take_out-start.ensures.left

pub invariant_of-result : goal.invariant_of-result
invariant_of-result c =
    let P : Parked → Type 0 = λ p. knows c.note_all.new.newest p.node p.life p.ask ≡ true in
    let over : List ℕ = c.args.self.over.places.items in
    let asks : List Parked = asks_of c.args.parked in
    let since : List Parked = c.args.self.since.items in
    let taken : vec_len c.take_out-start.new.items ≡ length c.take_out-start.new.items.items = c.take_out-start.new.items.ok.0 in
    let inside = c.take_out-start.ensures.inside in
    let joined : drop c.take_out-start.result c.joined-asks.result.items ≡ still_waiting over asks ++ since =
    behind_joined c.take_out-start.new.items.items since c.joined-asks.result.items c.take_out-start.result (omega arith) c.joined-asks.ensures
    ∙ ap (λ (ps : List Parked). ps ++ since) c.take_out-start.ensures.left in
    let all : drop c.trimmed-asks.result.1 c.trimmed-asks.result.0.items ≡ still_waiting over asks ++ since = c.trimmed-asks.ensures.left ∙ joined in
    let before : All P asks = λ k d inside. c.note_all.ensures.others (get_or asks k d) (c.args.parked.known k d inside) in
    let later : All P since = subst (All P) c.as_slice.ensures.value c.note_all.ensures.known in
    let numbers : List ℕ = numbers_of c.args.parked.numbers in
    let from : List ℕ = numbers_from c.args.parked.numbers.next since in
    let numbers_are : numbers_of c.changed-numbers.result ≡ still_waiting over numbers ++ from =
    c.changed-numbers.ensures ∙ ap (λ (ps : List Parked). still_waiting over numbers ++ numbers_from c.args.parked.numbers.next ps) c.as_slice-2.ensures.value in
    let noted : AreIndexed c.args.parked.noted (still_waiting over asks ++ since) (still_waiting over numbers ++ from) =
    indexed-append c.args.parked.noted (still_waiting over asks) since (still_waiting over numbers) from (indexed-still c.args.parked.noted 0 over asks numbers c.args.parked.indexed) c.requires.indexed in
    let kept : AreIndexed c.drop_over.new.self (still_waiting over asks ++ since) (still_waiting over numbers ++ from) =
    indexed-kept c.args.parked.noted c.drop_over.new.self (still_waiting over asks ++ since) (still_waiting over numbers ++ from)
    (subst (λ (ns : List ℕ). KeepsOf ns c.args.parked.noted c.drop_over.new.self) (c.as_slice-5.ensures ∙ numbers_are) c.drop_over.ensures) noted in
    record {
      indexed = subst (λ (ps : List Parked). AreIndexed c.drop_over.new.self ps (numbers_of c.changed-numbers.result)) (sym all)
          (subst (AreIndexed c.drop_over.new.self (still_waiting over asks ++ since)) (sym numbers_are) kept);
      inside = c.trimmed-asks.ensures.inside;
      known = subst (All P) (sym all) (All-append P (still_waiting over asks) since (all-still P 0 over asks before) later);
    }
