use Rattle.std.proofs.Common.{rules, ◌≡◌, ◌+◌, ◌<◌, ap, ◌∙◌, sym, below_more, length, arith}
use Rattle.answers.specs.Records.{first_entries, refusal_in}
use Rattle.saverecord.specs.Texts.{Texts}
use Rattle.answers.proofs.Entries.{copied-more}
use Rattle.answers.proofs.record.first_fault.Goals as goal

pub loop-before-preserved : goal.loop-before-preserved
loop-before-preserved c =
    let texts : Texts = c.args.log.now in
    let before = c.loop-before.before in
    let below : before < length texts.entries = search arith in
    let copied : c.push_copy.new.log ≡ first_entries (before + 1) texts
    = copied-more texts c.loop-before.part c.push_copy.new.log before c.as_slice.result.now c.entry-item.result below c.loop-before.invariant.copied (search rules) c.in_ok-push_copy.ensures in
    record { copied = copied; hold = below_more _ _ c.loop-before.invariant.hold (ap refusal_in (sym copied) ∙ sym c.in_ok-refusal-2.ensures ∙ c.in_default-2.is) }
