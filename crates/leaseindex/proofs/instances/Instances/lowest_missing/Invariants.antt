use Rattle.std.proofs.Common.{◌≡◌, ℕ, ◌<◌, ◌*◌, get_or}
use Rattle.leaseindex.proofs.instances.Instances.lowest_missing.Given as goal

abbrev pub invariant-loop-word : goal.invariant-loop-word
invariant-loop-word l = record {
  counted : l.full ≡ 64 * l.word-index;
  full : (k : ℕ) → k < l.word-index → get_or l.word-items k 0 ≡ 18446744073709551615;
}
