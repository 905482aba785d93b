use Rattle.std.proofs.Common.{◌<◌, ◌≤◌, get_or, add-one, arith}
use Rattle.std.proofs.Math.Nat.{pow-suc}
use Rattle.protowire.specs.Reading.{varint_at}
use Rattle.protowire.proofs.VarintLoop.{ends_tenth, too_long, ends, goes_on, cut}
use Rattle.protowire.proofs.varint.varint.Goals as goal

pub returns-then-byte-lt2 : goal.returns-then-byte-lt2
returns-then-byte-lt2 c =
    let small : get_or c.args.bytes.now c.loop-place.place 0 < 2 = omega arith in
    rw c.from-byte.ensures (ends_tenth c.args.bytes.now c.loop-place.place c.loop-place.number c.loop-place.weight (varint_at c.args.bytes.now) c.loop-place-test.true c.if-place-eq9.true small c.loop-place.invariant.so_far)

pub returns-else-byte-lt2 : goal.returns-else-byte-lt2
returns-else-byte-lt2 c =
    let great : 2 ≤ get_or c.args.bytes.now c.loop-place.place 0 = omega arith in
    too_long c.args.bytes.now c.loop-place.place c.loop-place.number c.loop-place.weight (varint_at c.args.bytes.now) c.loop-place-test.true c.if-place-eq9.true great c.loop-place.invariant.so_far

pub returns-then-byte-lt128 : goal.returns-then-byte-lt128
returns-then-byte-lt128 c =
    let small : get_or c.args.bytes.now c.loop-place.place 0 < 128 = omega arith in
    let early : c.loop-place.place < 9 = omega (arith, c.loop-place.invariant.short) in
    rw c.from-byte.ensures (ends c.args.bytes.now c.loop-place.place c.loop-place.number c.loop-place.weight (varint_at c.args.bytes.now) c.loop-place-test.true early small c.loop-place.invariant.so_far)

pub loop-place-preserved : goal.loop-place-preserved
loop-place-preserved c =
    let great : 128 ≤ get_or c.args.bytes.now c.loop-place.place 0 = omega arith in
    let early : c.loop-place.place < 9 = omega (arith, c.loop-place.invariant.short) in
    record {
      short = omega arith;
      weight = rw (add-one, pow-suc) (omega (arith, c.loop-place.invariant.weight));
      low = grind arith;
      so_far = rw c.from-byte.ensures (goes_on c.args.bytes.now c.loop-place.place c.loop-place.number c.loop-place.weight (varint_at c.args.bytes.now) c.loop-place-test.true early great c.loop-place.invariant.so_far);
    }

pub returns : goal.returns
returns c = cut c.args.bytes.now c.loop-place.place c.loop-place.number c.loop-place.weight (varint_at c.args.bytes.now) c.loop-place-test.false c.loop-place.invariant.so_far
