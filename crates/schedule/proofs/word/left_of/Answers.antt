use Rattle.std.proofs.Common.{Err, refl, ap}
use Rattle.names.proofs.TextLemmas.{encode-lacks}
use Rattle.words.proofs.Spelling.{slot_without, slot_parts}
use Rattle.words.proofs.WordLemmas.{passed_on}
use Rattle.schedule.proofs.word.left_of.Goals as goal

pub returns-in_default-clause-only : goal.returns-in_default-clause-only
returns-in_default-clause-only c = λ same left h e. slot_without c.args.word.now left.slot _ c.in_default.ensures.only e

pub returns-in_err-slot-clause-only : goal.returns-in_err-slot-clause-only
returns-in_err-slot-clause-only c = λ same left h e.
    let split = c.in-Some.ensures.found in
    let parts = slot_parts c.args.word.now _ _ left.slot _ (encode-lacks 61 refl left.content h.content) split.0 split.1 e in
    let bad = passed_on _ _ _ c.from_residual.ensures.1 same in
    c.in_err-slot.ensures.only (ap Err bad) left.slot h.slot parts.0

pub returns-in_err-bytes-clause-only : goal.returns-in_err-bytes-clause-only
returns-in_err-bytes-clause-only c = λ same left h e.
    let split = c.in-Some.ensures.found in
    let parts = slot_parts c.args.word.now _ _ left.slot _ (encode-lacks 61 refl left.content h.content) split.0 split.1 e in
    let bad = passed_on _ _ _ c.from_residual-in_err-bytes.ensures.1 same in
    c.in_err-bytes.ensures.only (ap Err bad) left.content h.content parts.1
