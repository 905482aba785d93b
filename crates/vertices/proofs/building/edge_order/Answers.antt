use Rattle.std.proofs.Common.{ℕ, ◌<◌, List, length, refl, subst, sym}
use Rattle.std.specs.List.{Contains}
use Rattle.ordering.specs.Rows.{IsRowOrder, HasInput, HasRowCycle}
use Rattle.ordering.specs.Orders.{IsOrder, IsCyclic}
use Rattle.ordering.proofs.EntryLemmas.{if_ok_some, if_ok_none, order_same, cycle_same}
use Rattle.vertices.specs.Edges.{GoesTo}
use Rattle.vertices.specs.Numbered.{HasTargets, AreNumbers}
use Rattle.ordering.proofs.OrderLaws.{acyclic}
use Rattle.vertices.proofs.GraphLemmas.{numbers_below, numbers_whole, numbers_order, target_rows, row_goes, goes_row}
use Rattle.vertices.proofs.building.edge_order.Goals as goal

pub order_of-requires : goal.order_of-requires
order_of-requires c =
    target_rows c.args.edges.now c.as_slice-2.result.now c.as_slice.result.now
    (subst (HasTargets c.args.edges.now) (sym c.as_slice-2.ensures.value) c.in_ok-rows.ensures)
    (subst (λ (ns : List ℕ). AreNumbers ns (length c.args.edges.now)) (sym c.as_slice.ensures.value) c.in_ok-numbers.ensures)
    c.requires

pub returns-then-all_go_below-clause-order : goal.returns-then-all_go_below-clause-order
returns-then-all_go_below-clause-order c = numbers_order c.args.edges.now c.in_ok-numbers.numbers.items c.in_ok-numbers.ensures (c.if-all_go_below.ensures refl)

pub returns-then-all_go_below-clause-acyclic : goal.returns-then-all_go_below-clause-acyclic
returns-then-all_go_below-clause-acyclic c =
    acyclic (λ number. number < length c.args.edges.now) (GoesTo c.args.edges.now) c.requires c.in_ok-numbers.numbers.items
    (numbers_order c.args.edges.now c.in_ok-numbers.numbers.items c.in_ok-numbers.ensures (c.if-all_go_below.ensures refl))

pub returns-clause-order : goal.returns-clause-order
returns-clause-order c =
    let rows = subst (HasTargets c.args.edges.now) (sym c.as_slice-2.ensures.value) c.in_ok-rows.ensures in
    let numbers = subst (λ (ns : List ℕ). AreNumbers ns (length c.args.edges.now)) (sym c.as_slice.ensures.value) c.in_ok-numbers.ensures in
    if_ok_some c.order_of.result (λ order. IsRowOrder c.as_slice.result.now c.as_slice-2.result.now order.items)
    (λ order. IsOrder (λ number. number < length c.args.edges.now) (GoesTo c.args.edges.now) order.items)
    (λ order is. order_same (Contains c.as_slice.result.now) (λ number. number < length c.args.edges.now)
    (HasInput c.as_slice-2.result.now) (GoesTo c.args.edges.now)
    (numbers_below c.as_slice.result.now (length c.args.edges.now) numbers) (numbers_whole c.as_slice.result.now (length c.args.edges.now) numbers)
    (row_goes c.args.edges.now c.as_slice-2.result.now rows) (goes_row c.args.edges.now c.as_slice-2.result.now rows) order.items is)
    c.order_of.ensures.order

pub returns-clause-acyclic : goal.returns-clause-acyclic
returns-clause-acyclic c =
    let rows = subst (HasTargets c.args.edges.now) (sym c.as_slice-2.ensures.value) c.in_ok-rows.ensures in
    if_ok_some c.order_of.result (λ _. HasRowCycle c.as_slice-2.result.now → ⊥) (λ _. IsCyclic (GoesTo c.args.edges.now) → ⊥)
    (λ order none cycle. none (cycle_same (GoesTo c.args.edges.now) (HasInput c.as_slice-2.result.now) (goes_row c.args.edges.now c.as_slice-2.result.now rows) cycle))
    c.order_of.ensures.acyclic

pub returns-clause-cyclic : goal.returns-clause-cyclic
returns-clause-cyclic c =
    let rows = subst (HasTargets c.args.edges.now) (sym c.as_slice-2.ensures.value) c.in_ok-rows.ensures in
    if_ok_none c.order_of.result (HasRowCycle c.as_slice-2.result.now) (IsCyclic (GoesTo c.args.edges.now))
    (cycle_same (HasInput c.as_slice-2.result.now) (GoesTo c.args.edges.now) (row_goes c.args.edges.now c.as_slice-2.result.now rows))
    c.order_of.ensures.cyclic
