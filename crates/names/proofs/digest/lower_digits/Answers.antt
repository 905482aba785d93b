use Rattle.std.proofs.Common.{sym, ◌∙◌}
use Rattle.names.proofs.DigestLemmas.{undecoded, rewritten, on_ok-some}
use Rattle.names.proofs.digest.lower_digits.Goals as goal

pub returns-in_err-ok-clause-only : goal.returns-in_err-ok-clause-only
returns-in_err-ok-clause-only c = rw c.from_residual.ensures (λ d h e.
    undecoded 32 c.args.text.now _ _ d.0 h.0 h.1 e c.decode_to_slice.ensures.value (sym c.ok.ensures.value ∙ c.in_err-ok.was))

pub returns-else-eq-clause-only : goal.returns-else-eq-clause-only
returns-else-eq-clause-only c = λ d h e.
    rewritten 32 c.args.text.now _ c.as_slice.result.now _ d.0 h.0 h.1 e c.decode_to_slice.ensures.value (c.as_slice.ensures ∙ on_ok-some _ _ c.encode_to_slice.ensures.written (sym c.ok-2.ensures.value ∙ c.in_ok-ok-2.was)) (sym c.eq.ensures ∙ c.if-eq.false)
