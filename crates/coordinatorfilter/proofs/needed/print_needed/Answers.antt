use Rattle.std.proofs.lemmas.Result.{IfOk-weaker}
use Rattle.coordinatorfilter.proofs.needed.print_needed.Goals as goal

pub returns : goal.returns
returns g c = IfOk-weaker c.needed_text.result _ _ (λ text written. record {
  slots = c.in_ok-slots.slots.items;
  have_versions = record { rising = c.in_ok-slots.ensures.rising; these = c.in_ok-slots.ensures.exact };
  written = rw c.as_slice.ensures.value at written;
}) c.needed_text.ensures
