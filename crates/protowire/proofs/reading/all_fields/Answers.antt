use Rattle.std.proofs.Common.{sym, arith}
use Rattle.std.proofs.lemmas.Result.{err_from_is_err_and}
use Rattle.std.proofs.lemmas.List.{map_push}
use Rattle.protowire.specs.Fields.{Entry}
use Rattle.protowire.specs.Reading.{fields_of}
use Rattle.protowire.specs.Seen.{payload, spelled, spelled_all}
use Rattle.protowire.proofs.FieldLoop.{goes_on, ends, is_done, field_leaves, left_after, row_more}
use Rattle.protowire.proofs.reading.all_fields.Goals as goal

pub returns-in_err-number-clause-exact : goal.returns-in_err-number-clause-exact
returns-in_err-number-clause-exact c =
    let p = err_from_is_err_and c.from_residual-in_err-number.result c.from_residual-in_err-number.ensures.1 in
    rw (p.1, p.2) (ends c.in_err-number.field-0.0 (spelled_all c.args.bytes.now c.loop-rest.fields.items) c.loop-rest.rest.now (fields_of c.args.bytes.now) (grind arith) (sym c.in_err-number.ensures) c.loop-rest.invariant.so_far)

pub overflow_sub-end : goal.overflow_sub-end
overflow_sub-end c =
    let e : Entry = record { number = c.in_ok-number.number; payload = payload c.in_ok-number.value } in
    let l = field_leaves c.loop-rest.rest.now e c.in_ok-number.after.now (sym c.in_ok-number.ensures) in
    omega (arith, l.1, c.loop-rest.invariant.left.within)

pub loop-rest-smaller : goal.loop-rest-smaller
loop-rest-smaller c =
    let e : Entry = record { number = c.in_ok-number.number; payload = payload c.in_ok-number.value } in
    (field_leaves c.loop-rest.rest.now e c.in_ok-number.after.now (sym c.in_ok-number.ensures)).1

pub loop-rest-preserved : goal.loop-rest-preserved
loop-rest-preserved c =
    let e : Entry = record { number = c.in_ok-number.number; payload = payload c.in_ok-number.value } in
    let text = c.args.bytes.now in
    let rest = c.loop-rest.rest.now in
    let after = c.in_ok-number.after.now in
    let read = sym c.in_ok-number.ensures in
    let l = field_leaves rest e after read in
    record {
      left = left_after text rest e after c.loop-rest.invariant.left read;
      so_far = rw (c.in_ok-push.ensures.items, map_push (spelled text) c.loop-rest.fields.items _) (goes_on text rest e after (spelled_all text c.loop-rest.fields.items) (fields_of text) c.loop-rest.invariant.left read c.loop-rest.invariant.so_far);
      placed = rw c.in_ok-push.ensures.items (row_more 0 c.loop-rest.fields.items _ c.loop-rest.invariant.placed (omega (arith, l.1, c.loop-rest.invariant.left.within)));
    }

pub returns-clause-exact : goal.returns-clause-exact
returns-clause-exact c = is_done (spelled_all c.args.bytes.now c.loop-rest.fields.items) c.loop-rest.rest.now (fields_of c.args.bytes.now) (grind arith) c.loop-rest.invariant.so_far
