use Rattle.std.proofs.Common.{◌≡◌, take, length}
use Rattle.seals.specs.Macs.{block_xor}
use Rattle.seals.proofs.hmac.padded.Given as goal

abbrev pub invariant-loop-index : goal.invariant-loop-index
invariant-loop-index l = record {
  len : length l.padded ≡ 64;
  so_far : take l.index l.padded ≡ block_xor (take l.index l.block) l.pad;
}
