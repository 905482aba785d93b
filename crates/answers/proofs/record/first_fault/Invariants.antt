use Rattle.std.proofs.Common.{◌≡◌, ℕ, ◌+◌, ◌<◌, None}
use Rattle.answers.specs.Records.{first_entries, refusal_in}
use Rattle.answers.proofs.record.first_fault.Given as goal

-- the texts with the entries so far are copied, and hold something, as do those with fewer
abbrev pub invariant-loop-before : goal.invariant-loop-before
invariant-loop-before l = record {
  copied : l.part ≡ first_entries l.before l.log;
  hold : (n : ℕ) → n < l.before + 1 → refusal_in (first_entries n l.log) ≡ None;
}
