use Rattle.std.proofs.Common.{◌≡◌, ◌<◌, ◌++◌, ℕ, length, refl, ap, ◌∙◌, subst, arith, Ok}
use Rattle.filekeeper.specs.Framing.{HasNone, framed}
use Rattle.saverecord.specs.Texts.{with_text}
use Rattle.filekeeper.proofs.FramingLemmas.{at_first, one_more, all_taken, shorter, at_last}
use Rattle.filekeeper.proofs.framing.take_entries.Goals as goal

pub loop-number-init : goal.loop-number-init
loop-number-init c = record { none = λ e. refl; taken = at_first c.args.log.now c.args.bytes.now; shorter = omega arith }

pub returns-in_default-clause-taken : goal.returns-in_default-clause-taken
returns-in_default-clause-taken c =
    let inv = c.loop-number.invariant in
    all_taken c.args.log.now c.loop-number.log c.args.bytes.now c.loop-number.rest.now _ _ inv.taken
    (subst (λ w. HasNone w c.loop-number.rest.now) c.whole.ensures (c.in_ok-entry.ensures.none (ap (λ o. Ok o) c.in_default.is))) refl

pub loop-number-preserved : goal.loop-number-preserved
loop-number-preserved c =
    let inv = c.loop-number.invariant in
    let entry = rw c.in-Some.is at c.in_ok-entry.ensures.entry in
    let told = rw c.in-Some.is at c.in_ok-entry.ensures.told in
    record {
      none = λ e. absurd (no_more c.loop-number.number (length c.args.bytes.now) (ap length e) (omega (arith, c.loop-number-test.true, c.loop-number.auto.number-end)));
      taken = one_more c.args.log.now c.loop-number.log c.push.new.self c.args.bytes.now c.loop-number.rest.now c.in-Some.after.now c.in-Some.entry.now _ inv.taken
          (subst (λ w. c.loop-number.rest.now ≡ framed w c.in-Some.entry.now ++ c.in-Some.after.now) c.whole.ensures entry) told
          (c.in_ok-push.ensures.ok ∙ ap (λ zs. with_text zs c.loop-number.log) c.in_ok-entry-2.ensures.items);
      shorter = shorter c.whole.result.now c.in-Some.entry.now c.loop-number.rest.now c.in-Some.after.now c.loop-number.number (length c.args.bytes.now) entry inv.shorter;
    }
  where
    no_more : (n m : ℕ) → m ≡ 0 → n < m → ⊥
    no_more n m e l = omega arith

pub returns-clause-taken : goal.returns-clause-taken
returns-clause-taken c =
    let inv = c.loop-number.invariant in
    all_taken c.args.log.now c.loop-number.log c.args.bytes.now c.loop-number.rest.now _ _ inv.taken
    (at_last c.loop-number.log.whole c.loop-number.rest.now c.loop-number.number (length c.args.bytes.now) inv.shorter (omega (arith, c.loop-number-test.false, c.loop-number.auto.number-end))) refl
