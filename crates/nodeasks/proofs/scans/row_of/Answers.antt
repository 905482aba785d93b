use Rattle.std.proofs.Common.{◌≡◌, ◌+◌, false, Some, None, sym, ap, ◌∙◌, rules, arith}
use Rattle.std.specs.List.{position}
use Rattle.std.proofs.lemmas.Option.{get_or_from_slice_get}
use Rattle.protocol.proofs.Base.{some_is}
use Rattle.nodeasks.specs.declared.ask_row.AskRow.{AskRow}
use Rattle.nodeasks.specs.declared.ticket_index.Holders.TheVariants.{One}
use Rattle.nodeasks.specs.Asks.{is_sought}
use Rattle.nodeasks.specs.Rows.{IsRowOf, row}
use Rattle.nodeasks.specs.Tickets.{holders_of}
use Rattle.nodeasks.proofs.RowLemmas.{kept_at}
use Rattle.nodeasks.proofs.ScanLemmas.{sought_pass, passes_by, over_without, some_row, none_row}
use Rattle.nodeasks.proofs.TicketLemmas.{none_indexed, one_found, one_missed}
use Rattle.nodeasks.proofs.scans.row_of.Goals as goal

pub returns-in-None-clause-none : goal.returns-in-None-clause-none
returns-in-None-clause-none c =
    let none : holders_of c.args.by_ticket.now c.args.ticket ≡ None = search rules in
    none_indexed c.args.by_ticket.now c.args.asks.now.all.asks c.args.sought c.args.ticket c.requires none

pub returns-in_default-clause-none : goal.returns-in_default-clause-none
returns-in_default-clause-none c =
    let all = c.args.asks.now.all.asks in
    let place = c.in-Some-One.place in
    let one : holders_of c.args.by_ticket.now c.args.ticket ≡ Some (One place) = search rules in
    one_missed c.args.by_ticket.now all c.args.sought c.args.ticket place c.requires one (λ y at.
    passes_by (is_sought c.args.sought c.args.ticket) y (sought_pass c.args.sought c.args.ticket)
    (over_without all 0 c.args.asks.now.rows.items place (place + 1) y c.args.asks.now.tied (omega arith) c.in_default.ensures.none at))

pub returns-then-is_sought-clause-found : goal.returns-then-is_sought-clause-found
returns-then-is_sought-clause-found c =
    let all = c.args.asks.now.all.asks in
    let rows = c.args.asks.now.rows.items in
    let place = c.in-Some-One.place in
    let one : holders_of c.args.by_ticket.now c.args.ticket ≡ Some (One place) = search rules in
    let found : IsRowOf rows place c.in-Some.row = c.in-Some.ensures.found in
    let read : c.index.result.now ≡ row place found.kept = c.index.ensures ∙ get_or_from_slice_get rows c.in-Some.row (row place found.kept) c.index.result.now found.get in
    record {
      at = row place found.kept;
      get = found.get;
      first = one_found c.args.by_ticket.now all c.args.sought c.args.ticket place found.kept c.requires one (kept_at all rows c.in-Some.row (row place found.kept) c.args.asks.now.tied found.get)
          (ap (λ (r : AskRow). is_sought c.args.sought c.args.ticket r.kept) (sym read) ∙ sym c.is_sought.ensures ∙ c.if-is_sought.true);
    }

pub returns-else-is_sought-clause-none : goal.returns-else-is_sought-clause-none
returns-else-is_sought-clause-none c =
    let all = c.args.asks.now.all.asks in
    let rows = c.args.asks.now.rows.items in
    let place = c.in-Some-One.place in
    let one : holders_of c.args.by_ticket.now c.args.ticket ≡ Some (One place) = search rules in
    let found : IsRowOf rows place c.in-Some.row = c.in-Some.ensures.found in
    let read : c.index.result.now ≡ row place found.kept = c.index.ensures ∙ get_or_from_slice_get rows c.in-Some.row (row place found.kept) c.index.result.now found.get in
    let there = kept_at all rows c.in-Some.row (row place found.kept) c.args.asks.now.tied found.get in
    let missed : is_sought c.args.sought c.args.ticket found.kept ≡ false = ap (λ (r : AskRow). is_sought c.args.sought c.args.ticket r.kept) (sym read) ∙ sym c.is_sought.ensures ∙ c.if-is_sought.false in
    one_missed c.args.by_ticket.now all c.args.sought c.args.ticket place c.requires one
    (λ y at. ap (is_sought c.args.sought c.args.ticket) (some_is y found.kept (sym at ∙ there)) ∙ missed)

pub returns-in-Some-Several-clause-found : goal.returns-in-Some-Several-clause-found
returns-in-Some-Several-clause-found c =
    let p = is_sought c.args.sought c.args.ticket in
    let scanned = c.row_in.ensures ∙ ap (position (λ (r : AskRow). p r.kept)) c.as_slice.ensures.value in
    some_row p (sought_pass c.args.sought c.args.ticket) c.args.asks.now.all.asks c.args.asks.now.rows.items c.args.asks.now.tied c.row_in.result scanned

pub returns-in-Some-Several-clause-none : goal.returns-in-Some-Several-clause-none
returns-in-Some-Several-clause-none c =
    let p = is_sought c.args.sought c.args.ticket in
    let scanned = c.row_in.ensures ∙ ap (position (λ (r : AskRow). p r.kept)) c.as_slice.ensures.value in
    none_row p (sought_pass c.args.sought c.args.ticket) c.args.asks.now.all.asks c.args.asks.now.rows.items c.args.asks.now.tied c.row_in.result scanned
