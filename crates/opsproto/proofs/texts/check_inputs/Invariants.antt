use Rattle.std.proofs.Common.{◌≡◌, length, drop}
use Rattle.opsproto.specs.Texts.{input_checked, each_checked, with_front}
use Rattle.opsproto.proofs.texts.check_inputs.Given as goal

abbrev pub invariant-loop-input : goal.invariant-loop-input
invariant-loop-input l =
    (goal.iterator-loop-input).can_next l.input-iterator ×
    (goal.iterator-loop-input).is_finite l.input-iterator ×
    (with_front l.checked.items (each_checked input_checked (drop (length l.yielded) l.fn.inputs.items)) ≡ with_front l.fn.checked.items (each_checked input_checked l.fn.inputs.items))
