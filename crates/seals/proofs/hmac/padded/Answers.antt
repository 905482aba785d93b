use Rattle.std.proofs.Common.{◌≡◌, ℕ, length, arith, length-set}
use Rattle.std.proofs.lemmas.List.{take_all}
use Rattle.seals.proofs.MacLemmas.{xor_more}
use Rattle.seals.proofs.hmac.padded.Goals as goal

pub loop-index-preserved : goal.loop-index-preserved
loop-index-preserved c =
    let inv = c.loop-index.invariant in
    let long : length c.args.block.now ≡ 64 = c.told-block in
    record {
      len = omega (arith, length-set {A = ℕ});
      so_far = xor_more c.loop-index.padded c.args.block.now c.loop-index.index c.args.pad (omega arith) (omega arith) inv.so_far;
    }

pub returns : goal.returns
returns c =
    let inv = c.loop-index.invariant in
    let long : length c.args.block.now ≡ 64 = c.told-block in
    let end : c.loop-index.index ≡ 64 = omega arith in
    let new = take_all 64 c.loop-index.padded (omega arith) in
    let old = take_all 64 c.args.block.now (omega arith) in
    rw (new, old) at (rw end at inv.so_far)
