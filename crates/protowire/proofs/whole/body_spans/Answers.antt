use Rattle.std.proofs.Common.{◌≡◌, ◌+◌, ◌-◌, [], ℕ, length, take, sym, ap, ◌∙◌, arith, inr, refl, ltb, true, false}
use Rattle.std.specs.List.{slice_range}
use Rattle.std.proofs.lemmas.Bool.{lt-ltb, le-ltb}
use Rattle.std.proofs.lemmas.List.{length_push, length-take, take_all, length-map}
use Rattle.std.proofs.lemmas.List.Elements.{All-nil, All-same}
use Rattle.std.proofs.lemmas.Result.{err_from_is_err_and}
use Rattle.protowire.specs.Fields.{Entry}
use Rattle.protowire.specs.Seen.{payload}
use Rattle.protowire.specs.BodyLists.{pieces}
use Rattle.protowire.specs.Lookups.{body_in, bodies_of}
use Rattle.protowire.proofs.FieldLoop.{field_leaves}
use Rattle.protowire.proofs.BodyLoop.{push_found, goes_on, ends, is_done, pushed_some, pushed_none, take_pushed, all_taken, nothing_taken}
use Rattle.protowire.proofs.SpanLemmas.{IsWithin, stands, body_fits, seen_after, pieces_taken, within_taken}
use Rattle.protowire.proofs.whole.body_spans.Goals as goal

pub loop-rest-init : goal.loop-rest-init
loop-rest-init c = record {
  within = omega arith;
  seen = ([], refl);
  spans = All-same (IsWithin (length c.args.message.now)) _ [] c.new-spans.ensures.items (All-nil (IsWithin (length c.args.message.now)));
  so_far = ([], refl, ap (pieces c.args.message.now) c.new-spans.ensures.items ∙ sym (take_all c.args.most [] (omega arith)), nothing_taken c.args.number c.args.message.now);
}

pub returns-in_err-found-clause-value : goal.returns-in_err-found-clause-value
returns-in_err-found-clause-value c =
    let p = err_from_is_err_and c.from_residual.result c.from_residual.ensures.1 in
    let f = c.loop-rest.invariant.so_far in
    let e = ends c.args.number c.in_err-found.field-0.0 f.0 c.loop-rest.rest.now (bodies_of c.args.number c.args.message.now) (grind arith) (sym c.in_err-found.ensures) f.3 in
    rw (p.1, p.2, e) (inr refl)

pub overflow_sub-end : goal.overflow_sub-end
overflow_sub-end c =
    let e : Entry = record { number = c.in_ok-found.found; payload = payload c.in_ok-found.value } in
    let fits = body_fits c.args.message.now c.loop-rest.rest.now e c.in_ok-found.after.now c.args.number c.in-Some.body.now c.loop-rest.invariant.seen (sym c.in_ok-found.ensures) c.in-Some.ensures in
    omega (arith, fits)

pub overflow_sub-start : goal.overflow_sub-start
overflow_sub-start c =
    let e : Entry = record { number = c.in_ok-found.found; payload = payload c.in_ok-found.value } in
    let fits = body_fits c.args.message.now c.loop-rest.rest.now e c.in_ok-found.after.now c.args.number c.in-Some.body.now c.loop-rest.invariant.seen (sym c.in_ok-found.ensures) c.in-Some.ensures in
    omega (arith, fits)

pub push_span-requires : goal.push_span-requires
push_span-requires c =
    let f = c.loop-rest.invariant.so_far in
    let len = length-map c.loop-rest.spans.items (λ s. slice_range c.args.message.now s.start s.end) in
    omega (arith, ap length f.2, length-take c.args.most f.0, len)

pub loop-rest-smaller-in_ok-push_span : goal.loop-rest-smaller-in_ok-push_span
loop-rest-smaller-in_ok-push_span c =
    let e : Entry = record { number = c.in_ok-found.found; payload = payload c.in_ok-found.value } in
    (field_leaves c.loop-rest.rest.now e c.in_ok-found.after.now (sym c.in_ok-found.ensures)).1

pub loop-rest-preserved-in_ok-push_span : goal.loop-rest-preserved-in_ok-push_span
loop-rest-preserved-in_ok-push_span c =
    let e : Entry = record { number = c.in_ok-found.found; payload = payload c.in_ok-found.value } in
    let message = c.args.message.now in
    let after = c.in_ok-found.after.now in
    let read = sym c.in_ok-found.ensures in
    let f = c.loop-rest.invariant.so_far in
    let body = c.in-Some.body.now in
    let end = length message - length after in
    let s = stands message c.loop-rest.rest.now e after c.args.number body (end - length body) end c.loop-rest.invariant.seen read c.in-Some.ensures refl refl in
    let pushed = pushed_some c.args.number e f.0 body c.in-Some.ensures in
    record {
      within = omega (arith, c.loop-rest.invariant.within, (field_leaves c.loop-rest.rest.now e after read).1);
      seen = seen_after message c.loop-rest.rest.now e after c.loop-rest.invariant.seen read;
      spans = within_taken (length message) c.args.most c.loop-rest.spans.items c.push_span.new.spans.items _ c.loop-rest.invariant.spans s.rises s.within c.in_ok-push_span.ensures;
      so_far = (
        push_found f.0 (body_in c.args.number e),
        ap length pushed ∙ length_push f.0 body ∙ ap (λ (n : ℕ). n + 1) f.1,
        pieces_taken message c.args.most c.loop-rest.spans.items c.push_span.new.spans.items _ f.0 body f.2 s.piece c.in_ok-push_span.ensures
            ∙ take_pushed c.args.most f.0 body ∙ ap (take c.args.most) (sym pushed),
        goes_on c.args.number c.loop-rest.rest.now e after f.0 (bodies_of c.args.number message) (grind arith) read f.3,
      );
    }

pub loop-rest-smaller : goal.loop-rest-smaller
loop-rest-smaller c =
    let e : Entry = record { number = c.in_ok-found.found; payload = payload c.in_ok-found.value } in
    (field_leaves c.loop-rest.rest.now e c.in_ok-found.after.now (sym c.in_ok-found.ensures)).1

pub loop-rest-preserved : goal.loop-rest-preserved
loop-rest-preserved c =
    let e : Entry = record { number = c.in_ok-found.found; payload = payload c.in_ok-found.value } in
    let message = c.args.message.now in
    let after = c.in_ok-found.after.now in
    let read = sym c.in_ok-found.ensures in
    let f = c.loop-rest.invariant.so_far in
    let same = pushed_none c.args.number e f.0 c.in_default.ensures in
    record {
      within = omega (arith, c.loop-rest.invariant.within, (field_leaves c.loop-rest.rest.now e after read).1);
      seen = seen_after message c.loop-rest.rest.now e after c.loop-rest.invariant.seen read;
      spans = c.loop-rest.invariant.spans;
      so_far = (
        push_found f.0 (body_in c.args.number e),
        ap length same ∙ f.1,
        f.2 ∙ ap (take c.args.most) (sym same),
        goes_on c.args.number c.loop-rest.rest.now e after f.0 (bodies_of c.args.number message) (grind arith) read f.3,
      );
    }

pub returns-then-count-most-clause-value : goal.returns-then-count-most-clause-value
returns-then-count-most-clause-value c =
    let f = c.loop-rest.invariant.so_far in
    let many : ltb c.args.most (length f.0) ≡ true = lt-ltb _ _ (omega (arith, f.1)) in
    rw (is_done c.args.number f.0 c.loop-rest.rest.now (bodies_of c.args.number c.args.message.now) (grind arith) f.3, many) refl

pub returns-else-count-most-clause-value : goal.returns-else-count-most-clause-value
returns-else-count-most-clause-value c =
    let f = c.loop-rest.invariant.so_far in
    let few : ltb c.args.most (length f.0) ≡ false = le-ltb _ _ (omega (arith, f.1)) in
    let whole = ap (pieces c.args.message.now) c.shrink_to_fit.ensures.items ∙ f.2 ∙ all_taken c.args.most f.0 few in
    rw (is_done c.args.number f.0 c.loop-rest.rest.now (bodies_of c.args.number c.args.message.now) (grind arith) f.3, few, whole) refl
