use Rattle.std.proofs.Common.{◌≡◌, ℕ, subst, sym, ap, ◌∙◌, arith, Some, length}
use Rattle.std.proofs.lemmas.Option.{slice_get-get_or}
use Rattle.std.specs.List.{slice_get}
use Rattle.ordering.specs.Entries.{Entry, LacksInput, AreRowsOf}
use Rattle.ordering.proofs.EntryLemmas.{rows_more, at_some, at_none}
use Rattle.ordering.proofs.order_entries.rows_of.Goals as goal

pub loop-place-preserved : goal.loop-place-preserved
loop-place-preserved c =
    let at : slice_get c.args.entries.now c.loop-place.place ≡ Some c.index-entries-place.result
    = slice_get-get_or c.args.entries.now c.loop-place.place c.index-entries-place.result c.loop-place-test.true
    ∙ ap (λ (x : Entry). Some x) (sym c.index-entries-place.is) in
    rows_more c.args.entries.now c.loop-place.place c.loop-place.rows.items c.push.new.self.items c.in-Some.row c.in_ok-push.ensures.items
    (at_some c.in_ok-row.field-0 _ c.in-Some.row c.in_ok-row.ensures.found c.in-Some.is c.args.entries.now c.requires at)
    (at_some c.in_ok-row.field-0 _ c.in-Some.row c.in_ok-row.ensures.known c.in-Some.is c.args.entries.now c.requires at)
    c.loop-place.invariant

pub returns-in_default-clause-missing : goal.returns-in_default-clause-missing
returns-in_default-clause-missing c = λ place e.
    let at : slice_get c.args.entries.now c.loop-place.place ≡ Some c.index-entries-place.result
    = slice_get-get_or c.args.entries.now c.loop-place.place c.index-entries-place.result c.loop-place-test.true
    ∙ ap (λ (x : Entry). Some x) (sym c.index-entries-place.is) in
    let here : c.loop-place.place ≡ place = cc e in
    let lacks = at_none c.in_ok-row.field-0 _ c.in_ok-row.ensures.missing c.in_default.is c.args.entries.now c.requires at in
    (subst (LacksInput c.args.entries.now) here lacks, λ earlier less. c.loop-place.invariant.none_lacks earlier (omega arith))

pub returns-clause-rows : goal.returns-clause-rows
returns-clause-rows c =
    let end : c.loop-place.place ≡ length c.args.entries.now = omega arith in
    subst (λ (n : ℕ). AreRowsOf c.args.entries.now n c.loop-place.rows.items) end c.loop-place.invariant
