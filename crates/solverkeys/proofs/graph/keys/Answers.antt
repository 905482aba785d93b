use Rattle.std.proofs.Common.{◌≡◌, ℕ, ◌+◌, List, take, get_or, set, subst, sym, ap, ◌∙◌, arith, Some}
use Rattle.std.specs.List.{Contains, slice_get}
use Rattle.std.proofs.lemmas.List.{length-set, take_all}
use Rattle.std.proofs.lemmas.Option.{slice_get-get_or}
use Rattle.names.specs.declared.digest.Key.{Key}
use Rattle.solverkeys.specs.GraphKeys.{HasKey, FollowsKeys}
use Rattle.solverkeys.proofs.KeyLemmas.{keys_more, order_number}
use Rattle.solverkeys.proofs.graph.keys.Goals as goal

pub key_at-requires-clause-number : goal.key_at-requires-clause-number
key_at-requires-clause-number c =
    let k = c.loop-number.number-index in
    let at : slice_get c.args.graph.now.order k ≡ Some (get_or c.order-number-items.result.now k 0)
    = ap (λ (ns : List ℕ). slice_get ns k) (sym c.order-number-items.ensures.value) ∙ slice_get-get_or c.order-number-items.result.now k 0 c.loop-number-test.true in
    order_number c.args.graph.now k (get_or c.order-number-items.result.now k 0) c.len.ensures.graph at

pub index_mut-requires : goal.index_mut-requires
index_mut-requires c =
    let k = c.loop-number.number-index in
    let at : slice_get c.args.graph.now.order k ≡ Some (get_or c.order-number-items.result.now k 0)
    = ap (λ (ns : List ℕ). slice_get ns k) (sym c.order-number-items.ensures.value) ∙ slice_get-get_or c.order-number-items.result.now k 0 c.loop-number-test.true in
    let less = order_number c.args.graph.now k (get_or c.order-number-items.result.now k 0) c.len.ensures.graph at in
    omega (arith, c.loop-number.invariant.count, c.loop-number.keys.ok.0)

pub loop-number-preserved : goal.loop-number-preserved
loop-number-preserved c =
    let k = c.loop-number.number-index in
    let g = c.args.graph.now in
    let keys = c.loop-number.keys.items in
    let number = get_or c.order-number-items.result.now k 0 in
    let order : c.order-number-items.result.now ≡ g.order = c.order-number-items.ensures.value in
    let at : slice_get g.order k ≡ Some number
    = ap (λ (ns : List ℕ). slice_get ns k) (sym order) ∙ slice_get-get_or c.order-number-items.result.now k 0 c.loop-number-test.true in
    let follows : FollowsKeys g keys number c.in_ok-keys-2.field-0
    = subst (λ (ks : List Key). FollowsKeys g ks number c.in_ok-keys-2.field-0) c.as_slice.ensures.value c.in_ok-keys-2.ensures in
    record {
      count = length-set keys number c.in_ok-keys-2.field-0 ∙ c.loop-number.invariant.count;
      known = subst (λ (ns : List ℕ). (n : ℕ) → Contains (take (k + 1) ns) n → HasKey g (set keys number c.in_ok-keys-2.field-0) n) (sym order)
          (keys_more g keys k number c.in_ok-keys-2.field-0 c.len.ensures.graph at c.loop-number.invariant.count follows
          (subst (λ (ns : List ℕ). (n : ℕ) → Contains (take k ns) n → HasKey g keys n) order c.loop-number.invariant.known));
    }

pub returns : goal.returns
returns c =
    let g = c.args.graph.now in
    let all : take c.loop-number.number-index c.order-number-items.result.now ≡ g.order
    = take_all c.loop-number.number-index c.order-number-items.result.now (omega arith) ∙ c.order-number-items.ensures.value in
    record {
      count = c.loop-number.invariant.count;
      each = λ n less. c.loop-number.invariant.known n (subst (λ (ns : List ℕ). Contains ns n) (sym all) (c.len.ensures.graph.order.whole n less));
    }
