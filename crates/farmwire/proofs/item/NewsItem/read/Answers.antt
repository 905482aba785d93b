use Rattle.std.proofs.Common.{◌≡◌, Err, None, ap, ◌∙◌}
use Rattle.std.specs.Result.{result_ok}
use Rattle.words.proofs.Spelling.{slot_without, slot_parts}
use Rattle.farmwire.proofs.Spelling.{digits-lack}
use Rattle.words.proofs.WordLemmas.{passed_on}
use Rattle.farmwire.proofs.item.NewsItem.read.Goals as goal

pub returns-in_default-clause-only : goal.returns-in_default-clause-only
returns-in_default-clause-only c = λ same item h e. slot_without c.args.word.now item.slot _ c.in_default.ensures.only e

pub returns-in_err-slot-clause-only : goal.returns-in_err-slot-clause-only
returns-in_err-slot-clause-only c = λ same item h e.
    let split = c.in-Some.ensures.found in
    let parts = slot_parts c.args.word.now _ _ item.slot _ (digits-lack item.digest h.digest) split.0 split.1 e in
    let bad = passed_on _ _ _ c.from_residual.ensures.1 same in
    c.in_err-slot.ensures.only (ap Err bad) item.slot h.slot parts.0

pub returns-in_err-digest-clause-only : goal.returns-in_err-digest-clause-only
returns-in_err-digest-clause-only c = λ same item h e.
    let split = c.in-Some.ensures.found in
    let parts = slot_parts c.args.word.now _ _ item.slot _ (digits-lack item.digest h.digest) split.0 split.1 e in
    let none : c.digest_of.result ≡ None = c.ok_or.ensures.ok_part ∙ ap result_ok c.in_err-digest.was in
    let only = rw none at c.digest_of.ensures.only in
    only item.digest h.digest parts.1
