use Rattle.std.proofs.Common.{sym, ◌∙◌}
use Rattle.farmwire.proofs.Spelling.{version_without, version_parts}
use Rattle.farmwire.proofs.item.version_of.Goals as goal

pub returns-in_err-value-clause-only : goal.returns-in_err-value-clause-only
returns-in_err-value-clause-only c = rw c.from_residual.ensures (λ n d lt h e. version_without c.args.word.now n d c.in_err-value.ensures.only e)

pub returns-in_err-number-clause-only : goal.returns-in_err-number-clause-only
returns-in_err-number-clause-only c = rw c.from_residual-in_err-number.ensures (λ n d lt h e.
    let split = c.in_ok-value.ensures.found in
    c.in_err-number.ensures.only n lt (version_parts n d _ _ lt split.1 (sym split.0 ∙ e)).0)

pub returns-in_err-digest_of-clause-only : goal.returns-in_err-digest_of-clause-only
returns-in_err-digest_of-clause-only c = rw c.from_residual-in_err-digest_of.ensures (λ n d lt h e.
    let split = c.in_ok-value.ensures.found in
    c.in_err-digest_of.ensures.only d h (version_parts n d _ _ lt split.1 (sym split.0 ∙ e)).1)
