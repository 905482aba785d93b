use Rattle.std.proofs.Common.{ap}
use Rattle.std.proofs.lemmas.Result.{IfOk-weaker}
use Rattle.coordinatorfilter.proofs.status.print_status.Goals as goal

pub returns : goal.returns
returns g c = IfOk-weaker c.status_text.result _ _ (λ text written. record {
  retired = c.in_ok-retired.retired.items;
  slots = c.in_ok-slots.slots.items;
  are_retired = record { rising = c.in_ok-retired.ensures.rising; these = λ slot. ap (λ is. is slot) c.in_ok-retired.ensures.exact };
  have_versions = record { rising = c.in_ok-slots.ensures.rising; these = c.in_ok-slots.ensures.exact };
  written = rw (c.as_slice.ensures.value, c.as_slice-2.ensures.value) at written;
}) c.status_text.ensures
