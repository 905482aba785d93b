use Rattle.std.proofs.Common.{◌≡◌, ◌<◌, ◌+◌, ◌/◌, ℕ, get_or, inl, inr, ap, ◌∙◌, arith}
use Rattle.std.proofs.lemmas.Bool.{cases_lt}
use Rattle.std.proofs.lemmas.Nat.Bits.{bit_at-trailing_ones}
use Rattle.std.specs.Int.{trailing_ones, w64}
use Rattle.leaseindex.proofs.InstanceLemmas.{bit_in-full, bit_in-missing, bit_in-below}
use Rattle.leaseindex.proofs.instances.Instances.lowest_missing.Goals as goal

pub overflow_add-full : goal.overflow_add-full
overflow_add-full c = omega arith

pub overflow_add-result : goal.overflow_add-result
overflow_add-result c =
    let lacks : get_or c.args.self.now.words c.loop-word.word-index 0 + 1 < 18446744073709551616 = omega arith in
    let last : trailing_ones w64 (get_or c.args.self.now.words c.loop-word.word-index 0) < 64 = (bit_at-trailing_ones w64 (get_or c.args.self.now.words c.loop-word.word-index 0) lacks).0 in
    omega (arith, c.trailing_ones.ensures)

pub returns-then-word-clause-missing : goal.returns-then-word-clause-missing
returns-then-word-clause-missing c to =
    let lacks : get_or c.args.self.now.words c.loop-word.word-index 0 + 1 < 18446744073709551616 = omega arith in
    bit_in-missing c.args.self.now.words c.loop-word.word-index _ lacks (omega arith)

pub returns-then-word-clause-below : goal.returns-then-word-clause-below
returns-then-word-clause-below c i below to =
    let lacks : get_or c.args.self.now.words c.loop-word.word-index 0 + 1 < 18446744073709551616 = omega arith in
    bit_in-below c.args.self.now.words c.loop-word.word-index i lacks c.loop-word.invariant.full (omega arith)

pub loop-word-preserved : goal.loop-word-preserved
loop-word-preserved c = record {
  counted = omega arith;
  full = λ k before. elim (cases_lt k c.loop-word.word-index) [
    | inl earlier ↦ c.loop-word.invariant.full k earlier
    | inr last ↦ (let is : k ≡ c.loop-word.word-index = omega arith in ap (λ (n : ℕ). get_or c.args.self.now.words n 0) is ∙ c.if-word.false)
  ];
}

pub returns-clause-below : goal.returns-clause-below
returns-clause-below c i below to = bit_in-full c.args.self.now.words i (c.loop-word.invariant.full (i / 64) (omega arith))
