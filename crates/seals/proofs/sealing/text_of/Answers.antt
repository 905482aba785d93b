use Rattle.std.proofs.Common.{◌≡◌, ℕ, List, ap, get_or, length, sym, ◌∙◌, arith}
use Rattle.hex.specs.Hex.{encode_lower}
use Rattle.seals.specs.Macs.{hmac_sha256}
use Rattle.seals.proofs.MacLemmas.{length-with_mac, cut, tail_of}
use Rattle.seals.proofs.sealing.text_of.Goals as goal
use Rattle.seals.proofs.sealing.text_of.Goals.{else-end-eq32-via-then-end-eq32+else-are_equal, else-end-eq32-via-else-end-eq32}

pub returns-then-line-lt-MAC_LEN-clause-only : goal.returns-then-line-lt-MAC_LEN-clause-only
returns-then-line-lt-MAC_LEN-clause-only c = λ text e. omega (arith, length-with_mac c.args.key.now text, ap length e)

pub returns-else-end-eq32-clause-only : goal.returns-else-end-eq32-clause-only
returns-else-end-eq32-clause-only c = λ text e.
    let parts = cut c.args.key.now c.args.line.now text e in
    let front : c.split_at.result.0.now ≡ text = c.split_at.ensures.front ∙ parts.0 in
    let back = c.split_at.ensures.back ∙ parts.1 in
    let space : get_or c.split_at.result.1.now 0 0 ≡ 32 = ap (λ (bytes : List ℕ). get_or bytes 0 0) back in
    let wanted = c.mac_digits-wanted.ensures ∙ ap (λ (t : List ℕ). encode_lower (hmac_sha256 c.args.key.now t)) front in
    elim c.else-end-eq32.branch [
      | else-end-eq32-via-then-end-eq32+else-are_equal w ↦
          let yes = w.are_equal.ensures.1 (tail_of _ _ back ∙ sym (w.as_slice.ensures ∙ wanted)) in
          cc (yes, w.if-are_equal.false)
      | else-end-eq32-via-else-end-eq32 w ↦ w.if-end-eq32.false space
    ]
