use Rattle.std.proofs.Common.{subst}
use Rattle.std.specs.Prelude.{nat_eq}
use Rattle.std.specs.List.{IsDistinct}
use Rattle.std.specs.List.Sorted.{IsStrictlyIncreasing}
use Rattle.farmend.proofs.ReceiptLemmas.{apart_if_sorted_rise}
use Rattle.farmend.proofs.receipts.all_differ.Goals as goal

pub returns : goal.returns
returns c = λ rises.
    subst (IsDistinct nat_eq) c.in_ok-tickets.ensures (apart_if_sorted_rise c.in_ok-tickets.tickets.items c.sort.new.self.items c.in_ok-sort.ensures.permutation (subst IsStrictlyIncreasing c.as_slice.ensures.value (c.rise.ensures rises)))
