use Rattle.std.proofs.Common.{◌≡◌, ℕ, List, subst, sym, ap, Err}
use Rattle.std.specs.List.{Contains}
use Rattle.std.specs.declared.vec.Vec.{Vec}
use Rattle.std.specs.declared.alloc.Global.{Global}
use Rattle.std.proofs.lemmas.Result.{err_from_is_err_and}
use Rattle.ordering.specs.declared.refusal.OrderRefusal.{OrderRefusal}
use Rattle.ordering.specs.declared.refusal.OrderRefusal.TheVariants.{MissingInput}
use Rattle.ordering.specs.Rows.{AreRows, IsRowOrder, HasInput, HasRowCycle}
use Rattle.ordering.specs.Entries.{IsVertex, NamesInput}
use Rattle.ordering.proofs.EntryLemmas.{rows_are, none_lacking, row_named, named_row, order_same, cycle_same, table_has_vertex, vertex_in_table, at_some, at_none}
use Rattle.ordering.proofs.order_entries.order.Goals as goal

pub returns-in_err-rows-clause-missing : goal.returns-in_err-rows-clause-missing
returns-in_err-rows-clause-missing c = λ place e.
    let made = err_from_is_err_and c.from_residual-in_err-rows.result c.from_residual-in_err-rows.ensures.1 in
    let same : c.in_err-rows.field-0.0 ≡ MissingInput place = let is = made.1 in let was = made.2 in cc in
    c.in_err-rows.ensures.missing place (ap (λ (x : OrderRefusal). Err x) same)

pub order_of-requires : goal.order_of-requires
order_of-requires c =
    subst (λ (ps : List ℕ). AreRows ps c.as_slice.result.now) (sym c.places.ensures)
    (subst (λ (rows : List (Vec ℕ Global)). AreRows c.in_ok-table.table.places.items rows) (sym c.as_slice.ensures.value)
    (rows_are c.args.entries.now c.in_ok-table.table c.in_ok-rows.rows.items c.in_ok-table.ensures c.in_ok-rows.ensures.rows))

pub returns-in_default-clause-cycle : goal.returns-in_default-clause-cycle
returns-in_default-clause-cycle c = λ e.
    let cycle = at_none c.in_ok-places.field-0 _ c.in_ok-places.ensures.cyclic c.in_default.is in
    let entries = c.args.entries.now in
    let rows = c.in_ok-rows.rows.items in (
      cycle_same (HasInput rows) (NamesInput entries) (row_named entries rows c.in_ok-rows.ensures.rows) (subst HasRowCycle c.as_slice.ensures.value cycle),
      none_lacking entries rows c.in_ok-rows.ensures.rows,
    )

pub returns-clause-order : goal.returns-clause-order
returns-clause-order c =
    let order = at_some c.in_ok-places.field-0 _ c.in-Some.places c.in_ok-places.ensures.order c.in-Some.is in
    let entries = c.args.entries.now in
    let table = c.in_ok-table.table in
    let rows = c.in_ok-rows.rows.items in
    let is = c.in_ok-table.ensures in
    let fits = c.in_ok-rows.ensures.rows in
    order_same (Contains table.places.items) (IsVertex entries) (HasInput rows) (NamesInput entries)
    (table_has_vertex entries table is) (vertex_in_table entries table is) (row_named entries rows fits) (named_row entries rows fits)
    c.in-Some.places.items
    (subst (λ (ps : List ℕ). IsRowOrder ps rows c.in-Some.places.items) c.places.ensures
    (subst (λ (xs : List (Vec ℕ Global)). IsRowOrder c.places.result.now xs c.in-Some.places.items) c.as_slice.ensures.value order))

pub returns-clause-acyclic : goal.returns-clause-acyclic
returns-clause-acyclic c = λ cycle.
    let acyclic = at_some c.in_ok-places.field-0 _ c.in-Some.places c.in_ok-places.ensures.acyclic c.in-Some.is in
    let entries = c.args.entries.now in
    let rows = c.in_ok-rows.rows.items in
    acyclic (subst HasRowCycle (sym c.as_slice.ensures.value)
    (cycle_same (NamesInput entries) (HasInput rows) (named_row entries rows c.in_ok-rows.ensures.rows) cycle))

pub returns-clause-known : goal.returns-clause-known
returns-clause-known c = none_lacking c.args.entries.now c.in_ok-rows.rows.items c.in_ok-rows.ensures.rows
