use Rattle.std.proofs.Common.{◌≡◌, length, drop}
use Rattle.opsproto.specs.Texts.{text_checked, each_checked, with_front}
use Rattle.opsproto.proofs.texts.check_texts.Given as goal

abbrev pub invariant-loop-text : goal.invariant-loop-text
invariant-loop-text l =
    (goal.iterator-loop-text).can_next l.text-iterator ×
    (goal.iterator-loop-text).is_finite l.text-iterator ×
    (with_front l.checked.items (each_checked (text_checked l.number) (drop (length l.yielded) l.fn.texts.items)) ≡ with_front l.fn.checked.items (each_checked (text_checked l.number) l.fn.texts.items))
