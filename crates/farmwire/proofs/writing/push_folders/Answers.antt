use Rattle.std.proofs.Common.{◌∙◌}
use Rattle.farmwire.specs.Lines.{tenure_text}
use Rattle.farmwire.proofs.WriteLemmas.{spaced-more}
use Rattle.farmwire.proofs.writing.push_folders.Goals as goal

pub loop-want-preserved : goal.loop-want-preserved
loop-want-preserved c =
    let more = spaced-more tenure_text _ _ c.args.wants.now c.loop-want.want-index c.want-item.result c.loop-want-test.true c.loop-want.invariant in
    let word = c.as_str.ensures.value ∙ c.in_ok-folder.ensures in
    let item = c.want-item.is in
    let pushed = c.in_ok-push_word.ensures in
    cc (more, word, item, pushed)
