use Rattle.std.proofs.Common.{◌≡◌, Err, None, ap, ◌∙◌}
use Rattle.std.specs.Result.{result_ok}
use Rattle.words.proofs.Spelling.{slot_without, slot_parts}
use Rattle.farmwire.proofs.Spelling.{version-lacks}
use Rattle.words.proofs.WordLemmas.{passed_on}
use Rattle.farmwire.proofs.item.ConfirmedItem.read.Goals as goal

pub returns-in_default-clause-only : goal.returns-in_default-clause-only
returns-in_default-clause-only c = λ same item h e. slot_without c.args.word.now item.slot _ c.in_default.ensures.only e

pub returns-in_err-slot-clause-only : goal.returns-in_err-slot-clause-only
returns-in_err-slot-clause-only c = λ same item h e.
    let split = c.in-Some.ensures.found in
    let parts = slot_parts c.args.word.now _ _ item.slot _ (version-lacks item.number item.digest h.number h.digest) split.0 split.1 e in
    let bad = passed_on _ _ _ c.from_residual.ensures.1 same in
    c.in_err-slot.ensures.only (ap Err bad) item.slot h.slot parts.0

pub returns-in_err-number-clause-only : goal.returns-in_err-number-clause-only
returns-in_err-number-clause-only c = λ same item h e.
    let split = c.in-Some.ensures.found in
    let parts = slot_parts c.args.word.now _ _ item.slot _ (version-lacks item.number item.digest h.number h.digest) split.0 split.1 e in
    let none : c.version_of.result ≡ None = c.ok_or.ensures.ok_part ∙ ap result_ok c.in_err-number.was in
    let only = rw none at c.version_of.ensures.only in
    only item.number item.digest h.number h.digest parts.1
