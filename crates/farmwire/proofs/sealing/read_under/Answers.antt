use Rattle.std.proofs.Common.{sym, ap, ◌∙◌}
use Rattle.protocol.specs.Hostile.{key_of}
use Rattle.farmwire.proofs.UniqueLemmas.{text_same}
use Rattle.farmwire.proofs.sealing.read_under.Goals as goal

pub returns-else-is_same-clause-only : goal.returns-else-is_same-clause-only
returns-else-is_same-clause-only c = λ same m h key.
    let read = c.in_ok-message.ensures.spelled in
    let is = text_same c.in_ok-message.message m read.lawful h.lawful (sym read.text ∙ h.text) in
    let yes = c.is_same.ensures.1 (c.key_of.ensures ∙ ap key_of is ∙ key) in
    cc (yes, c.if-is_same.false)
