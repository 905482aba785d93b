use Rattle.std.proofs.Common.{◌≡◌, ◌<◌, ◌+◌, ◌-◌, ℕ, List, length, drop, get_or, vec_len, refl, sym, ◌∙◌, ap, subst, arith}
use Rattle.parked.specs.Over.{Begins, still_at}
use Rattle.parked.proofs.WaitingWords.{begins-before}
use Rattle.parked.proofs.PassedWords.{some_item, before_both, over_before, moved_before, other_default, begins_at, none_looked, below_other}
use Rattle.parked.proofs.passing.pass_over.Goals as goal
use Rattle.parked.proofs.passing.pass_over.Goals.{else-left-gt0-via-then-left-gt0+else-index-place, else-left-gt0-via-else-left-gt0}

pub loop-place-init : goal.loop-place-init
loop-place-init g c =
    let was = c.args.items.now.items in
    let over : List ℕ = c.args.over.now.places.items in
    let place : ℕ = c.behind_last-place.result in
    let left : ℕ = c.count_inside-left.result in
    let len : vec_len c.args.items.now ≡ length was = c.args.items.now.ok.0 in
    let count : c.len.result ≡ vec_len c.args.items.now = c.len.ensures in
    let places : vec_len c.args.over.now.places ≡ length over = c.args.over.now.places.ok.0 in
    let start = c.requires.inside in
    let within = c.behind_last-place.ensures.inside in
    record {
      places = c.count_inside-left.ensures.inside;
      ahead = begins_at place left over (λ lt. (let behind = c.count_inside-left.ensures.behind (omega arith) in omega arith));
      before = c.behind_last-place.ensures.before;
      inside = omega arith;
      first = omega arith;
      len = refl;
      capacity = refl;
      left = none_looked over left place (c.args.start + place) was (λ lt. (let all = c.behind_last-place.ensures.all (omega arith) in omega arith));
      same = λ k d below. refl;
    }

pub loop-place-preserved-then-index-place : goal.loop-place-preserved-then-index-place
loop-place-preserved-then-index-place g c =
    let was = c.args.items.now.items in
    let over : List ℕ = c.args.over.now.places.items in
    let place : ℕ = c.loop-place.place - 1 in
    let left : ℕ = c.loop-place.left - 1 in
    let from : ℕ = c.args.start + place in
    let i = c.loop-place.invariant in
    let some = c.loop-place-test.true in
    let more = c.if-left-gt0.true in
    let len : vec_len c.loop-place.items ≡ length c.loop-place.items.items = c.loop-place.items.ok.0 in
    let were : vec_len c.args.items.now ≡ length was = c.args.items.now.ok.0 in
    let places : vec_len c.args.over.now.places ≡ length over = c.args.over.now.places.ok.0 in
    let within = i.places in
    let inside = i.inside in
    let bound = i.first in
    let same_len = i.len in
    let here : get_or over left 0 ≡ place = other_default over left 0 c.index.result.now (omega arith) ∙ sym c.index.ensures ∙ c.if-index-place.true in
    let nth : left + 1 ≡ c.loop-place.left = omega arith in
    let mth : place + 1 ≡ c.loop-place.place = omega arith in
    let fth : from + 1 ≡ c.args.start + c.loop-place.place = omega arith in
    record {
      places = omega arith;
      ahead = begins_at place left over (λ lt. omega (arith, here));
      before = λ k below. (let less = c.args.over.now.rising k left below (omega arith) in omega (arith, here));
      inside = omega arith;
      first = i.first;
      len = i.len;
      capacity = i.capacity;
      left = i.left ∙ (λ j. still_at (sym mth j) (drop (sym nth j) over) (drop (sym fth j) was))
          ∙ sym (over_before over was left place from (some_item was (omega arith)) (omega arith) (omega arith) here);
      same = λ k d below. i.same k d (omega arith);
    }

pub loop-place-preserved : goal.loop-place-preserved
loop-place-preserved g c =
    let was = c.args.items.now.items in
    let xs = c.loop-place.items.items in
    let over : List ℕ = c.args.over.now.places.items in
    let place : ℕ = c.loop-place.place - 1 in
    let from : ℕ = c.args.start + place in
    let first : ℕ = c.loop-place.first - 1 in
    let i = c.loop-place.invariant in
    let some = c.loop-place-test.true in
    let len : vec_len c.loop-place.items ≡ length xs = c.loop-place.items.ok.0 in
    let were : vec_len c.args.items.now ≡ length was = c.args.items.now.ok.0 in
    let places : vec_len c.args.over.now.places ≡ length over = c.args.over.now.places.ok.0 in
    let within = i.places in
    let inside = i.inside in
    let bound = i.first in
    let same_len = i.len in
    let d = some_item was (omega arith) in
    let nth : first + 1 ≡ c.loop-place.first = omega arith in
    let mth : place + 1 ≡ c.loop-place.place = omega arith in
    let fth : from + 1 ≡ c.args.start + c.loop-place.place = omega arith in
    let before : (k : ℕ) → k < c.loop-place.left → get_or over k 0 < place = elim c.else-left-gt0.branch [
      | else-left-gt0-via-then-left-gt0+else-index-place w ↦ λ k below.
          (let more = w.if-left-gt0.true in
          below_other over c.loop-place.left place k c.args.over.now.rising (omega arith) below
          (λ same. w.if-index-place.false (w.index.ensures ∙ other_default over (c.loop-place.left - 1) w.index.result.now 0 (omega arith) ∙ same))
          (λ j low. (let less = i.before j low in omega arith)))
      | else-left-gt0-via-else-left-gt0 w ↦ λ k below. (let none = w.if-left-gt0.false in absurd (omega arith))
    ] in
    let left : drop (first + 1) xs ≡ still_at (place + 1) (drop c.loop-place.left over) (drop (from + 1) was) =
    ap (λ (n : ℕ). drop n xs) nth ∙ i.left ∙ (λ j. still_at (sym mth j) (drop c.loop-place.left over) (drop (sym fth j) was)) in
    record {
      places = i.places;
      ahead = begins-before place c.loop-place.place (drop c.loop-place.left over) (omega arith) i.ahead;
      before = before;
      inside = omega arith;
      first = omega (arith, c.swap.ensures.len);
      len = c.swap.ensures.len ∙ i.len;
      capacity = c.swap.ensures.capacity ∙ i.capacity;
      left = ap (drop first) c.swap.ensures.items
          ∙ moved_before (drop c.loop-place.left over) was xs place from first d (subst (λ (n : ℕ). Begins n (drop c.loop-place.left over)) (sym mth) i.ahead) (omega arith) (omega arith) (omega arith) (i.same from d (omega arith)) left;
      same = λ k e below. ap (λ ps. get_or ps k e) c.swap.ensures.items ∙ before_both xs from first k d e (omega arith) (omega arith) below ∙ i.same k e (omega arith);
    }
