use Rattle.std.proofs.Common.{◌≡◌, ◌<◌, Bool, true, false, List, length, subst, sym, ap, ◌∙◌, arith}
use Rattle.std.specs.List.{All}
use Rattle.std.proofs.lemmas.List.Elements.{All-map, All-weaker, All-contains}
use Rattle.ordering.specs.declared.ordering.Waiter.{Waiter}
use Rattle.ordering.specs.Flags.{flag_at}
use Rattle.ordering.specs.Waiters.{first_look}
use Rattle.ordering.proofs.RowLemmas.{AreRows-within, vertices_within}
use Rattle.ordering.proofs.SortingLemmas.{start, start_shape, on_true, on_false, all_placed, one_open}
use Rattle.ordering.proofs.ordering.order_of.Goals as goal

pub look_all-requires-clause-inputs : goal.look_all-requires-clause-inputs
look_all-requires-clause-inputs c = AreRows-within c.args.vertices.now c.args.rows.now c.requires

pub look_all-requires-clause-shape : goal.look_all-requires-clause-shape
look_all-requires-clause-shape c =
    start_shape c.args.rows.now c.in_ok-sorting.sorting c.in_ok-sorting.ensures.placed c.in_ok-sorting.ensures.ready c.in_ok-sorting.ensures.count
    c.in_ok-sorting.ensures.waiting

pub look_all-requires-clause-waiters : goal.look_all-requires-clause-waiters
look_all-requires-clause-waiters c =
    subst (All (λ (w : Waiter). w.place < length c.args.rows.now)) (sym (c.as_slice.ensures.value ∙ c.in_ok-waiters.ensures))
    (All-map (λ (w : Waiter). w.place < length c.args.rows.now) first_look c.args.vertices.now
    (vertices_within c.args.vertices.now c.args.rows.now c.requires))

pub loop-waiters-init : goal.loop-waiters-init
loop-waiters-init c = record {
  shape = c.in_ok-look_all.ensures.shape;
  sorting = c.in_ok-look_all.ensures.sorting c.args.vertices.now
      (start c.args.vertices.now c.args.rows.now c.in_ok-sorting.sorting c.as_slice.result.now (length c.args.rows.now)
      c.in_ok-sorting.ensures.order c.in_ok-sorting.ensures.placed c.in_ok-sorting.ensures.ready c.in_ok-sorting.ensures.waiting
      (c.as_slice.ensures.value ∙ c.in_ok-waiters.ensures));
}

pub step-requires-clause-inputs : goal.step-requires-clause-inputs
step-requires-clause-inputs c = AreRows-within c.args.vertices.now c.args.rows.now c.requires

pub loop-waiters-smaller : goal.loop-waiters-smaller
loop-waiters-smaller c = on_true _ c.in_ok-step.ensures.fewer c.if-branch.true c.args.vertices.now c.loop-waiters.invariant.sorting

pub loop-waiters-preserved : goal.loop-waiters-preserved
loop-waiters-preserved c = record {
  shape = c.in_ok-step.ensures.shape;
  sorting = c.in_ok-step.ensures.sorting c.args.vertices.now c.loop-waiters.invariant.sorting;
}

pub are_all_placed-requires : goal.are_all_placed-requires
are_all_placed-requires c =
    All-weaker (λ place. place < length c.args.rows.now) (λ place. place < length c.as_slice-2.result.now)
    (λ place h. omega (arith, ap length c.as_slice-2.ensures.value, c.in_ok-step.ensures.shape.placed))
    c.args.vertices.now (vertices_within c.args.vertices.now c.args.rows.now c.requires)

pub returns-then-are_all_placed-clause-order : goal.returns-then-are_all_placed-clause-order
returns-then-are_all_placed-clause-order c =
    let h = c.in_ok-step.ensures.sorting c.args.vertices.now c.loop-waiters.invariant.sorting in
    let flags = c.if-are_all_placed.ensures in
    (all_placed c.args.vertices.now c.args.rows.now c.step.new.self c.requires h
    (λ p there. subst (λ (xs : List Bool). flag_at xs p ≡ true) c.as_slice-2.ensures.value
    (All-contains (λ p. flag_at c.as_slice-2.result.now p ≡ true) c.args.vertices.now p flags there))).0

pub returns-then-are_all_placed-clause-acyclic : goal.returns-then-are_all_placed-clause-acyclic
returns-then-are_all_placed-clause-acyclic c =
    let h = c.in_ok-step.ensures.sorting c.args.vertices.now c.loop-waiters.invariant.sorting in
    let flags = c.if-are_all_placed.ensures in
    (all_placed c.args.vertices.now c.args.rows.now c.step.new.self c.requires h
    (λ p there. subst (λ (xs : List Bool). flag_at xs p ≡ true) c.as_slice-2.ensures.value
    (All-contains (λ p. flag_at c.as_slice-2.result.now p ≡ true) c.args.vertices.now p flags there))).1

pub returns-else-are_all_placed-clause-cyclic : goal.returns-else-are_all_placed-clause-cyclic
returns-else-are_all_placed-clause-cyclic c =
    let h = c.in_ok-step.ensures.sorting c.args.vertices.now c.loop-waiters.invariant.sorting in
    let found = c.if-are_all_placed.ensures in
    one_open c.args.vertices.now c.args.rows.now c.step.new.self c.requires h
    (on_false _ c.in_ok-step.ensures.last c.if-branch.false) found.place found.is_one
    (subst (λ (xs : List Bool). flag_at xs found.place ≡ false) c.as_slice-2.ensures.value found.is_open)
